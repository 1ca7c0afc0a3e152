use Rattle.std.proofs.Common.{◌+◌, ◌↔◌, subst, arith}
use Rattle.std.proofs.lemmas.List.{take_all}
use Rattle.id_groups.specs.Lists.{IsIn}
use Rattle.segment_codec.specs.Table.{IsHeld}
use Rattle.span_set.specs.Members.{IsMember}
use Rattle.sample_tables.proofs.Listed.{held-next}
use Rattle.sample_tables.proofs.held.held_ids.Goals as goal

pub ids-init : goal.ids-init
ids-init g c x = (λ m. absurd (subst (λ s. IsMember s x) c.empty-set.ensures m), λ h. absurd h.0)

pub ids-preserved : goal.ids-preserved
ids-preserved g c x =
    held-next c.args.ids.now c.ids.id-index (c.ids.id-index + 1) c.id-item.result x (IsHeld (g.T.SegmentTable.flats c.args.table.now)) c.ids-test.true (omega arith) c.id-item.is (c.ids.invariant x) (c.in_ok-add_held.ensures x)

pub returns-clause-held : goal.returns-clause-held
returns-clause-held g c x m = ((c.ids.invariant x).0 m).1

pub returns-clause-members : goal.returns-clause-members
returns-clause-members g c x =
    subst (λ l. IsMember c.ids.set x ↔ (IsIn x l × IsHeld (g.T.SegmentTable.flats c.args.table.now) x)) (take_all c.ids.id-index c.args.ids.now c.ids-test.false) (c.ids.invariant x)
