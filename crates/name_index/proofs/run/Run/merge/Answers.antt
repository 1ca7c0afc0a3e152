use Rattle.std.proofs.Common.{◌∙◌, ◌++◌, sym, subst}
use Rattle.name_index.specs.Runs.{IsRun, Holds}
use Rattle.name_index.proofs.run.Run.merge.Goals as goal

pub returns : goal.returns
returns c = λ c' d run run' stand stand'.
    let own = subst (λ es. IsRun es c') (sym (c.deref.ensures.value ∙ c.a.view_is)) run in
    let own' = subst (λ es. IsRun es d) (sym (c.deref-2.ensures.value ∙ c.b.view_is)) run' in
    subst (λ es. Holds es (c' ++ d)) (sym c.of.ensures) (c.in_ok-entries.ensures c' d own own' stand stand')
