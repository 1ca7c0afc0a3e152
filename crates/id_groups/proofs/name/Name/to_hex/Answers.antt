use Rattle.std.proofs.Common.{rules, ◌≡◌}
use Rattle.hex.specs.Hex.{encode_lower}
use Rattle.hex.proofs.HexLemmas.{decode_of-encode_lower}
use Rattle.id_groups.proofs.name.Name.to_hex.Goals as goal

pub returns-clause-reads_back : goal.returns-clause-reads_back
returns-clause-reads_back c =
    let text : c.encode_to_slice.new.output ≡ encode_lower c.args.self.now = search rules in
    rw text (decode_of-encode_lower c.args.self.now (rw c.self.view_is at c.self.invariant))
