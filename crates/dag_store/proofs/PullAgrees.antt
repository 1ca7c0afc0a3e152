-- What an honest mirror tells, whose master begins with the cloned commits, agrees with the log.
use Rattle.std.proofs.Common.{◌≡◌, ◌++◌, take, drop, None, sym, ap, subst, ◌∙◌}
use Rattle.commit_graph.specs.World.{names_of}
use Rattle.name_map.specs.Added.{Placed, payloads_of}
use Rattle.change_rules.specs.Holding.{HoldPayloads}
use Rattle.change_rules.specs.Tables.{cloned_count}
use Rattle.pull_plan.specs.Pulling.{told_rows}
use Rattle.pull_plan.proofs.HonestTold.{honest-told}
use Rattle.std.proofs.Common.{List}
use Rattle.step_rules.specs.State.{Stored}
use Rattle.store_plans.specs.PullPlans.{mismatch_of}
use Rattle.dag_store.proofs.PullSteps.{Agrees}

pub agrees : (added : List Placed) (st : Stored) → payloads_of added ≡ st.payloads → HoldPayloads st.payloads st.stored → Agrees st
agrees added st e hold = λ rows fresh more master begins clone names.
    let h = honest-told added st.stored rows more fresh (subst (λ l. HoldPayloads l st.stored) (sym e) hold) master (begins ∙ ap (λ l. take (cloned_count l) st.stored.master ++ more) (sym e)) clone
    (names ∙ ap (λ l. names_of (drop (cloned_count l) rows)) (sym e)) in
    (subst (λ l. told_rows st.stored (cloned_count l) fresh ≡ rows) e h.0, subst (λ l. mismatch_of l fresh ≡ None) e h.1)
