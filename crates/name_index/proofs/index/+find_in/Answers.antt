use Rattle.std.proofs.Common.{subst, arith}
use Rattle.name_index.specs.Runs.{AreRuns}
use Rattle.name_index.proofs.Indexes.{first-has, others-have}
use Rattle.name_index.proofs.index.+find_in.Goals as goal

pub find_in-requires : goal.find_in-requires
find_in-requires t c = (omega (arith, c.in_ok-run.ensures.cases.1, c.decreases), c.requires)

pub returns-in-Some : goal.returns-in-Some
returns-in-Some t c = λ held runs stand.
    let own = subst (λ rs. AreRuns rs held) c.in_ok-run.ensures.cases.0 runs in
    first-has c.args.stretch.now.at c.args.stretch.now.bytes.now _ _ c.args.name.now held c.in-Some.place own stand c.in-Some.ensures

pub returns-in-None : goal.returns-in-None
returns-in-None t c = λ held runs stand.
    let own = subst (λ rs. AreRuns rs held) c.in_ok-run.ensures.cases.0 runs in
    others-have c.args.stretch.now.at c.args.stretch.now.bytes.now _ _ c.args.name.now held c.find_in.result own stand c.in-None.ensures c.find_in.ensures
