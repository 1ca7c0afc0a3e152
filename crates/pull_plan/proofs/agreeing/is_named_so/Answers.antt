use Rattle.std.specs.Prelude.{IsTrue, ◌↔◌}
use Rattle.std.proofs.Common.{◌≡◌, None, sym, subst}
use Rattle.id_groups.specs.Lists.{IsIn}
use Rattle.id_groups.specs.Name.{Name}
use Rattle.batch_codec.specs.Payload.{Known}
use Rattle.name_map.specs.Added.{known_of}
use Rattle.name_map.specs.Map.{PlainMap, IsMapOf, IsNameOf}
use Rattle.pull_plan.proofs.StoredBeside.{named-as, named-none}
use Rattle.pull_plan.proofs.agreeing.is_named_so.Goals as goal

pub returns-in-Some : goal.returns-in-Some
returns-in-Some c = λ added t stand.
    named-as c.args.tables.now added t c.args.id c.args.name.now c.in-Some.stored.bytes.now c.is.result
    (subst (λ n. IsIn {X = Known} (record { id = n; name = c.in-Some.stored.bytes.now }) (known_of added)) c.from_number.ensures
    (c.in-Some.ensures.name added (subst (λ (m : PlainMap). IsMapOf m added) (sym c.names.ensures) t.names) stand))
    (subst (λ (z : Name). IsTrue c.is.result ↔ (z ≡ c.args.name.now)) c.to_name.ensures c.is.ensures)

pub returns-in-None : goal.returns-in-None
returns-in-None c = λ added t stand.
    named-none c.args.tables.now added t c.args.id c.args.name.now
    (subst (λ n. IsNameOf (known_of added) n None) c.from_number.ensures
    (c.in-None.ensures.name added (subst (λ (m : PlainMap). IsMapOf m added) (sym c.names.ensures) t.names) stand))
