use Rattle.std.proofs.Common.{subst}
use Rattle.name_index.specs.Runs.{AreRuns}
use Rattle.name_index.proofs.Inserting.{merged-all}
use Rattle.name_index.proofs.index.+merge_all.Goals as goal

pub returns-in_ok-merged-in-Some : goal.returns-in_ok-merged-in-Some
returns-in_ok-merged-in-Some t c = λ held runs stand.
    let own = subst (λ rs. AreRuns rs held) c.in-Some.ensures.cases.0 runs in
    merged-all c.args.stretch.now.at c.args.stretch.now.bytes.now c.in-Some.first.now c.in-Some.others.now _ _ c.in_ok-later-in-Some.ensures c.in_ok-merged-in-Some.ensures held own stand
