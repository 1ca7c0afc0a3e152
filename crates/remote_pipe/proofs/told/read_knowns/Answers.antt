use Rattle.std.proofs.Common.{◌+◌, ◌-◌, ◌∷◌, [], length, refl, sym, ap, ◌∙◌, arith, length-append}
use Rattle.remote_pipe.specs.Reading.{items_at, known_at}
use Rattle.remote_rules.specs.CloneData.{CloneData}
use Rattle.remote_pipe.proofs.ItemsInTurn.{put_front, one-more, none-more, all-read, counted-none, counted-some}
use Rattle.remote_pipe.proofs.told.read_knowns.Goals as goal

pub returns-in_default-clause-none : goal.returns-in_default-clause-none
returns-in_default-clause-none c = λ _. counted-none known_at c.args.bytes.now c.in_default.ensures.exact

pub names-init : goal.names-init
names-init c = record {
  len = ap length c.requires;
  only = refl;
  read = counted-some known_at c.args.bytes.now c.in-Some.rest.now c.in-Some.count c.args.told.now.names c.in-Some.ensures.exact c.requires;
}

pub returns-in-Err-clause-none : goal.returns-in-Err-clause-none
returns-in-Err-clause-none c = λ e.
    let inv = c.names.invariant in
    none-more known_at _ c.names.told.names c.in-Some.count c.names._name c.names.rest.now c.names-test.true inv.read (c.in-Err.ensures.none e)

pub names-preserved : goal.names-preserved
names-preserved c =
    let inv = c.names.invariant in
    let f = c.in-Ok.ensures.found in
    record {
      len = let l = inv.len in ap length f.2 ∙ omega (arith, l, length-append c.names.told.names (f.0 ∷ []));
      only = c.read_known.ensures.only ∙ ap (λ (t : CloneData). (let z : CloneData = record { segments = t.segments; names = c.read_known.new.told.names; heads = t.heads } in z)) inv.only;
      read = one-more known_at _ c.names.told.names c.in-Some.count c.names._name c.names.rest.now c.in-Ok.behind.now f.0 c.names-test.true inv.read f.1
          ∙ ap (λ l. put_front l (items_at known_at (c.in-Some.count - (c.names._name + 1)) c.in-Ok.behind.now)) (sym f.2);
    }

pub returns-clause-found : goal.returns-clause-found
returns-clause-found c =
    let inv = c.names.invariant in
    let end = c.names-test.false in
    let most = c.names.auto._name-end in
    all-read known_at _ c.names.told.names c.in-Some.count c.names._name c.names.rest.now (omega (arith, end, most)) inv.read
