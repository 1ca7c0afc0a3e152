use Rattle.std.proofs.Common.{ℕ, ◌≤◌, subst}
use Rattle.span_set.specs.Members.{IsMember}
use Rattle.ancestor_query.proofs.Graphs.{reached-held}
use Rattle.range_query.proofs.RangeLemmas.{reached-closed, range-exact}
use Rattle.range_query.proofs.between.range.Goals as goal

pub walk_up-requires-clause-inside : goal.walk_up-requires-clause-inside
walk_up-requires-clause-inside g c = λ x b.
    let flats = g.T.SegmentTable.flats c.args.table.now in
    let lawful = g.met.T.SegmentTable.lawful c.args.table.now in
    let h = ((c.in_ok-below.ensures.members x).0 b).0 in
    reached-held flats lawful h.0 h.2.0 x (c.requires.to h.0 h.1) h.2.1

pub walk_up-requires-clause-closed : goal.walk_up-requires-clause-closed
walk_up-requires-clause-closed g c =
    let flats = g.T.SegmentTable.flats c.args.table.now in
    reached-closed flats c.args.to.now c.in_ok-below.below.ids c.in-Some.lowest c.in_ok-below.ensures.members

pub returns-clause-members : goal.returns-clause-members
returns-clause-members g c =
    let flats = g.T.SegmentTable.flats c.args.table.now in
    let lawful = g.met.T.SegmentTable.lawful c.args.table.now in
    range-exact flats lawful c.args.from.now c.args.to.now c.in-Some.lowest c.in_ok-below.below.ids c.in_ok-missed.missed c.in_ok-found.found
    (subst (λ l. (x : ℕ) → IsMember l x → c.in-Some.lowest ≤ x) c.spans.ensures.same c.in-Some.ensures.1)
    c.in_ok-below.ensures.members c.in_ok-missed.ensures.sound c.in_ok-missed.ensures.whole
    c.in_ok-found.ensures.members
