use Rattle.std.proofs.Common.{◌∙◌, true, false, inr, ap, sym, subst}
use Rattle.high_segments.specs.Views.{flats_in}
use Rattle.segment_codec.specs.Table.{parents_at}
use Rattle.change_parts.specs.declared.fault.PlanFault.TheVariants.{Conflict}
use Rattle.rebase_pending.specs.Rebasing.{AreStoredAs, AreStoredWhere}
use Rattle.rebase_pending.proofs.Stepping.{under}
use Rattle.rebase_pending.proofs.rebasing.check_row.Goals as goal

pub returns-then-branch : goal.returns-then-branch
returns-then-branch c = λ added before rows row n b e h at.
    subst (λ o. AreStoredWhere before added c.args.reads.now.pending.now.first c.args.reads.now.found.now (flats_in c.args.view.now) o row.parents true) (sym c.in-Some.is)
    (subst (λ s. AreStoredAs before added c.args.reads.now.pending.now.first c.args.reads.now.found.now (parents_at (flats_in c.args.view.now) c.in-Some.id) row.parents s) c.if-branch.true
    (c.in_ok-is_stored_so.ensures added before rows row n b e h at))

pub name-requires : goal.name-requires
name-requires c = let r = c.requires.row in (r.0, r.2, under r.0 c.args.i r.1 r.3)

pub returns : goal.returns
returns c = λ added before rows row n b e h at.
    inr (
      ap Conflict (c.to_name.ensures ∙ c.name.ensures rows row h at),
      subst (λ o. AreStoredWhere before added c.args.reads.now.pending.now.first c.args.reads.now.found.now (flats_in c.args.view.now) o row.parents false) (sym c.in-Some.is)
          (subst (λ s. AreStoredAs before added c.args.reads.now.pending.now.first c.args.reads.now.found.now (parents_at (flats_in c.args.view.now) c.in-Some.id) row.parents s) c.if-branch.false
          (c.in_ok-is_stored_so.ensures added before rows row n b e h at)),
    )
