use Rattle.std.proofs.Common.{arith, inl, inr, ⊎_elim}
use Rattle.range_query.proofs.Bounds.{cover-held, cover-room}
use Rattle.range_query.proofs.EdgeLemmas.{from-whole}
use Rattle.range_query.proofs.child_walk.add_from.Goals as goal

pub overflow_add-above : goal.overflow_add-above
overflow_add-above g c =
    let room = cover-room (g.T.SegmentTable.flats c.args.table.now) (g.met.T.SegmentTable.lawful c.args.table.now) c.bounds-bounds.result.master c.bounds-bounds.result.others c.bounds-bounds.ensures in
    omega arith

pub add_between-requires-clause-held : goal.add_between-requires-clause-held
add_between-requires-clause-held g c = λ x a b.
    let other = c.max-others.ensures in
    (cover-held (g.T.SegmentTable.flats c.args.table.now) c.bounds-bounds.result.master c.bounds-bounds.result.others c.bounds-bounds.ensures x).1 (inr (omega arith, omega arith))

pub add_between-requires-clause-bound : goal.add_between-requires-clause-bound
add_between-requires-clause-bound g c =
    cover-room (g.T.SegmentTable.flats c.args.table.now) (g.met.T.SegmentTable.lawful c.args.table.now) c.bounds-bounds.result.master c.bounds-bounds.result.others c.bounds-bounds.ensures

pub add_between-requires-2-clause-held : goal.add_between-requires-2-clause-held
add_between-requires-2-clause-held g c = λ x a b.
    (cover-held (g.T.SegmentTable.flats c.args.table.now) c.bounds-bounds.result.master c.bounds-bounds.result.others c.bounds-bounds.ensures x).1 (inl (omega arith, omega arith))

pub returns-clause-sound : goal.returns-clause-sound
returns-clause-sound g c = λ x m. ⊎_elim (λ n. c.in_ok-add_between.ensures.sound x n) (λ k. inr k) (c.in_ok-add_between-2.ensures.sound x m)

pub returns-clause-whole : goal.returns-clause-whole
returns-clause-whole g c =
    from-whole (g.T.SegmentTable.flats c.args.table.now) (g.met.T.SegmentTable.lawful c.args.table.now) c.args.set.now c.add_between.new.answer c.add_between-2.new.answer
    c.args.low c.bounds-bounds.result.master c.bounds-bounds.result.others c.max-others.result c.bounds-bounds.ensures (omega (arith, c.max-others.ensures))
    c.in_ok-add_between.ensures.whole c.in_ok-add_between-2.ensures.whole c.in_ok-add_between-2.ensures.kept
