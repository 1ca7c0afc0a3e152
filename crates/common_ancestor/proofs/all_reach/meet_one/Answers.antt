use Rattle.std.proofs.Common.{sym, subst}
use Rattle.segment_codec.specs.Table.{IsHeld}
use Rattle.span_set.specs.Members.{IsMember}
use Rattle.common_ancestor.proofs.Folds.{anc-one}
use Rattle.common_ancestor.proofs.all_reach.meet_one.Goals as goal

pub meet-requires-clause-right : goal.meet-requires-clause-right
meet-requires-clause-right g c = λ x m. subst (IsHeld (g.T.SegmentTable.flats c.args.table.now)) (sym ((c.in_ok-lowest.ensures.members x).0 m)) c.requires.id_held

pub returns-clause-reached : goal.returns-clause-reached
returns-clause-reached g c = λ x.
    let flats = g.T.SegmentTable.flats c.args.table.now in
    let both = c.in_ok-last.ensures.reached x in
    let one = anc-one flats (g.met.T.SegmentTable.lawful c.args.table.now) (IsMember c.in_ok-lowest.lowest) c.args.id c.in_ok-lowest.ensures.members x in (
      λ a. let b = both.0 a in (b.0, one.0 b.1),
      λ h. both.1 (h.0, one.1 h.1),
    )
