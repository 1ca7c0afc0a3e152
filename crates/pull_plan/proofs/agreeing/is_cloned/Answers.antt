use Rattle.std.proofs.Common.{◌∙◌, sym, subst}
use Rattle.name_map.specs.Added.{known_of}
use Rattle.name_map.specs.Map.{PlainMap, IsIdOf, IsMapOf}
use Rattle.pull_plan.proofs.StoredBeside.{is-cloned}
use Rattle.pull_plan.proofs.agreeing.is_cloned.Goals as goal

pub returns : goal.returns
returns c = λ added t stand.
    c.is_some.ensures
    ∙ is-cloned c.args.cloned c.args.name.now added c.id.result
    (subst (λ n. IsIdOf (known_of added) n c.args.cloned c.id.result) c.lend.ensures (c.id.ensures.id added (subst (λ (m : PlainMap). IsMapOf m added) (sym c.names.ensures) t.names) stand))
