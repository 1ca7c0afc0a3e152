use Rattle.std.proofs.Common.{sym, subst, arith}
use Rattle.segment_codec.specs.Lent.{segment_of, parents_left}
use Rattle.span_set.specs.Members.{IsMember, IsCanonical}
use Rattle.common_ancestor.proofs.MeetVisits.{meet-done, meet-last}
use Rattle.common_ancestor.proofs.MeetTurns.{Visiting, visiting-none, visiting-kept, turn-held, turn-falls, turn-visits}
use Rattle.common_ancestor.proofs.meeting.add_last.Goals as goal

pub visit-init : goal.visit-init
visit-init g c = record {
  visits = visiting-none (g.T.SegmentTable.flats c.args.table.now) (g.met.T.SegmentTable.lawful c.args.table.now) (IsMember c.args.left.now) (IsMember c.args.right.now)
      c.requires.left c.requires.right c.args.waiting.now c.args.last.now c.requires.waiting.0 c.requires.waiting.1 c.requires.waiting.2 c.requires.last;
  canonical = subst IsCanonical (sym c.requires.last) tt;
  counted = omega arith;
  bound = omega arith;
}

pub jump_above-segment-requires : goal.jump_above-segment-requires
jump_above-segment-requires g c =
    turn-held (g.T.SegmentTable.flats c.args.table.now) (g.met.T.SegmentTable.lawful c.args.table.now) (IsMember c.args.left.now) (IsMember c.args.right.now)
    c.visit.frontier c.visit.waiting c.next.new.self c.visit.last c.visit.invariant.visits c.in-Some.ensures.drops
    c.in-Some.next c.in-Some.ensures.next c.greatest-id.result c.greatest-id.ensures c.requires.left c.requires.right

pub visit-smaller : goal.visit-smaller
visit-smaller g c =
    let flats = g.T.SegmentTable.flats c.args.table.now in
    let lt = turn-falls flats (g.met.T.SegmentTable.lawful c.args.table.now) (IsMember c.args.left.now) (IsMember c.args.right.now)
    c.visit.frontier c.visit.waiting c.next.new.self c.visit.last c.visit.invariant.visits c.in-Some.ensures.drops
    c.in-Some.next c.in-Some.ensures.next c.greatest-id.result c.greatest-id.ensures
    (segment_of c.jump_above-segment.result) c.floor.result c.jump_above-segment.ensures.jump c.low-low.result c.low-low.ensures in
    omega (arith, lt, c.number-frontier.ensures.number)

pub visit-preserved : goal.visit-preserved
visit-preserved g c =
    let flats = g.T.SegmentTable.flats c.args.table.now in
    let small = c.number-frontier.ensures.small in
    record {
      visits = subst (λ f. Visiting flats (IsMember c.args.left.now) (IsMember c.args.right.now) f c.push_parents.new.self c.add_shared.new.last) (sym c.number-frontier.ensures.number)
          (turn-visits flats (g.met.T.SegmentTable.lawful c.args.table.now) (IsMember c.args.left.now) (IsMember c.args.right.now)
          c.visit.frontier c.visit.waiting c.next.new.self c.visit.last c.visit.invariant.visits c.in-Some.ensures.drops
          c.in-Some.next c.in-Some.ensures.next c.greatest-id.result c.greatest-id.ensures
          (segment_of c.jump_above-segment.result) c.floor.result c.jump_above-segment.ensures.jump c.low-low.result c.low-low.ensures
          (parents_left c.parents.result) c.push_parents.new.self c.add_shared.new.last c.floor.ensures c.parents.ensures c.in_ok-push_parents.ensures c.in_ok-add_shared.ensures.members);
      canonical = c.add_shared.ensures.canonical c.visit.invariant.canonical;
      counted = let more = c.jump_above-segment.ensures.counted in let before = c.visit.invariant.counted in omega arith;
      bound = omega arith;
    }

pub returns-clause-reached : goal.returns-clause-reached
returns-clause-reached g c =
    let flats = g.T.SegmentTable.flats c.args.table.now in
    let lawful = g.met.T.SegmentTable.lawful c.args.table.now in
    let w = c.next.new.self in
    meet-done flats lawful (IsMember c.args.left.now) (IsMember c.args.right.now) c.visit.frontier w.left w.right w.both c.visit.last
    (visiting-kept flats lawful (IsMember c.args.left.now) (IsMember c.args.right.now) c.visit.frontier c.visit.waiting w c.visit.last c.visit.invariant.visits c.in_default.ensures.drops)
    c.in_default.ensures.next

pub returns-clause-last : goal.returns-clause-last
returns-clause-last g c =
    let w = c.visit.waiting in
    meet-last (g.T.SegmentTable.flats c.args.table.now) (g.met.T.SegmentTable.lawful c.args.table.now) (IsMember c.args.left.now) (IsMember c.args.right.now)
    c.visit.frontier w.left w.right w.both c.visit.last c.visit.invariant.visits
