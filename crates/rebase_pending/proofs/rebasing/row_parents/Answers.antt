use Rattle.std.proofs.Common.{◌≡◌, ◌∙◌, ◌⊎◌, subst}
use Rattle.std.specs.Prelude.{MatchResult}
use Rattle.std.specs.List.{AllZip}
use Rattle.change_parts.specs.declared.fault.PlanFault.TheVariants.{Memory}
use Rattle.rebase_pending.specs.Rebasing.{IsMoved, LosesFirst}
use Rattle.rebase_pending.proofs.rebasing.row_parents.Goals as goal

pub returns : goal.returns
returns c = λ added before rows row n b e h at.
    let same = c.deref.ensures.value ∙ c.in_ok-parents.ensures ∙ c.in-Some.ensures rows row h at in
    let got = c.moved_parents.ensures added before n b (c.first.ensures ∙ e) in
    subst (λ f. MatchResult c.moved_parents.result (λ moved. AllZip (IsMoved before added f c.args.ids.now) row.parents moved.items) (λ fault. (fault ≡ Memory) ⊎ LosesFirst before added f c.args.ids.now row.parents fault)) c.first.ensures
    (subst (λ l. MatchResult c.moved_parents.result (λ moved. AllZip (IsMoved before added c.first.result c.args.ids.now) l moved.items) (λ fault. (fault ≡ Memory) ⊎ LosesFirst before added c.first.result c.args.ids.now l fault)) same got)
