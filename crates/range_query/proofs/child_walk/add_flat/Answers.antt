use Rattle.std.proofs.Common.{◌⊎◌, ◌↔◌, ◌<◌, ◌^◌, take, drop, arith, ap, sym, subst}
use Rattle.segment_codec.specs.Record.{Segment}
use Rattle.segment_codec.specs.Lent.{segment_of}
use Rattle.span_set.specs.Members.{IsMember}
use Rattle.range_query.specs.Parts.{IsMoved, StandFrom}
use Rattle.range_query.proofs.Pieces.{moved-behind, both-added}
use Rattle.range_query.proofs.ChildLemmas.{cut-group, cut-child, among-cut}
use Rattle.range_query.proofs.child_walk.add_flat.Goals as goal

pub ending_at-part-requires-clause-group : goal.ending_at-part-requires-clause-group
ending_at-part-requires-clause-group g c =
    (cut-group (g.T.SegmentTable.flats c.args.table.now) (g.met.T.SegmentTable.lawful c.args.table.now) c.args.rest.set.now (segment_of c.args.segment) c.args.id c.requires.found).2

pub ending_at-part-requires-clause-above : goal.ending_at-part-requires-clause-above
ending_at-part-requires-clause-above g c =
    (cut-group (g.T.SegmentTable.flats c.args.table.now) (g.met.T.SegmentTable.lawful c.args.table.now) c.args.rest.set.now (segment_of c.args.segment) c.args.id c.requires.found).0

pub add_moved-requires-clause-group : goal.add_moved-requires-clause-group
add_moved-requires-clause-group g c =
    subst (λ (q : Segment). q.low < 2 ^ 56 → q.high < 2 ^ 56) (sym c.ending_at-part.ensures.same)
    (cut-group (g.T.SegmentTable.flats c.args.table.now) (g.met.T.SegmentTable.lawful c.args.table.now) c.args.rest.set.now (segment_of c.args.segment) c.args.id c.requires.found).1

pub returns-clause-low : goal.returns-clause-low
returns-clause-low g c =
    let low = (cut-group (g.T.SegmentTable.flats c.args.table.now) (g.met.T.SegmentTable.lawful c.args.table.now) c.args.rest.set.now (segment_of c.args.segment) c.args.id c.requires.found).0 in
    let same = ap (λ (q : Segment). q.low) c.ending_at-part.ensures.same in
    omega arith

pub returns-clause-members : goal.returns-clause-members
returns-clause-members g c = λ x.
    let flats = g.T.SegmentTable.flats c.args.table.now in
    let lawful = g.met.T.SegmentTable.lawful c.args.table.now in
    let s = segment_of c.args.segment in
    let part = segment_of c.ending_at-part.result in
    let high = ap (λ (q : Segment). q.high) c.ending_at-part.ensures.same in
    let low = ap (λ (q : Segment). q.low) c.ending_at-part.ensures.same in
    let moved = subst (λ l. IsMember c.add_moved.new.answer x ↔ (IsMember c.args.answer.now x ⊎ IsMoved (drop c.args.rest.at l) part x)) c.spans.ensures.same (c.in_ok-add_moved.ensures.members x) in
    let behind = moved-behind part c.args.rest.set.now c.args.rest.at x (subst (λ n. StandFrom n (take c.args.rest.at c.args.rest.set.now)) (sym high) c.requires.passed) in
    among-cut s.low c.number.result (omega arith) (both-added (c.in_ok-add_lowest.ensures.members x) moved behind)
    (cut-child flats lawful c.args.rest.set.now s part c.args.id x c.requires.found c.ending_at-part.ensures.same)
