use Rattle.std.proofs.Common.{sym, subst}
use Rattle.name_index.specs.Runs.{AreRuns}
use Rattle.name_index.proofs.index.merge_last.Goals as goal

pub returns : goal.returns
returns c = λ held named runs stand holds stands.
    c.in_ok-merged.ensures held named (subst (λ rs. AreRuns rs held) (sym c.split_at.ensures.back) runs) stand holds stands
