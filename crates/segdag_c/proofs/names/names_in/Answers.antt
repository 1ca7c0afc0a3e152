use Rattle.std.proofs.Common.{◌≡◌, ◌+◌, ◌*◌, ◌∙◌, ◌++◌, ◌∷◌, [], ap, length, arith, length-append}
use Rattle.segdag_c.proofs.Joining.{next-name, next-twenty}
use Rattle.segdag_c.proofs.names.names_in.Goals as goal

pub names-preserved : goal.names-preserved
names-preserved c =
    let was = c.names.invariant in
    let names = c.names.names.items in
    let now = c.push.new.self.items in
    let name = c.first_name-name.result.0 in
    let behind = c.first_name-name.result.1.now in
    let items : now ≡ names ++ name ∷ [] = c.in_ok-push.ensures.items in
    let parts = c.first_name-name.ensures.value in
    let twenty = c.first_name-name.ensures.twenty in
    let counted : length now ≡ length names + 1 = ap length items ∙ length-append names (name ∷ []) in
    let split : length c.names.rest.now ≡ length name + length behind = ap length parts ∙ length-append name behind in
    let count = was.count in
    record {
      bytes = next-name names now name c.names.rest.now behind c.args.bytes.now was.bytes parts items;
      twenty = next-twenty names now name was.twenty twenty items;
      count = omega (arith, counted, split, twenty, count);
    }
