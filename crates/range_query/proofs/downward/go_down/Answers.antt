use Rattle.std.proofs.Common.{arith, ◌≡◌, ◌∙◌, ◌-◌, ◌<◌, ◌≤◌, ◌^◌, ◌⊎◌, ◌↔◌, ℕ, max, subst, sym, ⊎_elim}
use Rattle.id_groups.specs.Lists.{IsIn}
use Rattle.segment_codec.specs.Lent.{segment_of}
use Rattle.span_set.specs.Members.{IsMember}
use Rattle.ancestor_query.specs.Visits.{Keeps}
use Rattle.range_query.specs.Tails.{HasFallen}
use Rattle.range_query.specs.declared.cut.Cut.{Cut}
use Rattle.range_query.proofs.ChildLemmas.{group-at}
use Rattle.range_query.proofs.FallTurns.{Falls, falls-none, falls-place, falls-past, falls-in, falls-turn, falls-done, falls-cuts}
use Rattle.range_query.proofs.downward.go_down.Goals as goal

pub down-init : goal.down-init
down-init g c = record {
  falls = subst (λ near. Falls (g.T.SegmentTable.flats c.args.table.now) (IsMember c.args.to.now) c.args.lowest c.end_of-place.result c.end_below.result near c.end_below.new.far (2 ^ 57) c.end_below.result
      (HasFallen c.args.found.now.ids c.empty-tail.result.low c.empty-tail.result.end) c.args.found.now.cuts.items) (sym c.empty-near.ensures)
      (falls-none (g.T.SegmentTable.flats c.args.table.now) (IsMember c.args.to.now) c.args.lowest (g.met.T.SegmentTable.lawful c.args.table.now) c.requires.held
      c.end_of-place.result c.end_below.new.far (2 ^ 57) c.end_below.result (HasFallen c.args.found.now.ids c.empty-tail.result.low c.empty-tail.result.end) c.args.found.now.cuts.items
      (subst (λ l. Keeps l c.end_below.new.far (2 ^ 57)) c.requires.far c.end_below.ensures.keeps) c.end_below.ensures.end
      (λ x h. ⊎_elim (λ m. absurd (subst (λ l. IsMember l x) c.requires.ids m)) (λ i. let lt = i.1 in absurd (omega (arith, c.empty-tail.ensures.end))) h)
      c.requires.cuts c.end_of-place.ensures.within c.end_of-place.ensures.above);
  counted = c.end_of-place.ensures.counted;
}

pub overflow_sub-place : goal.overflow_sub-place
overflow_sub-place g c =
    falls-place (g.T.SegmentTable.flats c.args.table.now) (IsMember c.args.to.now) c.args.lowest (g.met.T.SegmentTable.lawful c.args.table.now) c.requires.held
    c.down.place c.down.reached c.down.near c.down.far c.down.ways.least c.down.ways.end (HasFallen c.down.found.ids c.down.tail.low c.down.tail.end) c.down.found.cuts.items c.down.invariant.falls
    (omega (arith, c.down-test.true, c.number.ensures.number))

pub flat_at-segment-requires : goal.flat_at-segment-requires
flat_at-segment-requires g c =
    let some : 0 < c.down.place = falls-place (g.T.SegmentTable.flats c.args.table.now) (IsMember c.args.to.now) c.args.lowest (g.met.T.SegmentTable.lawful c.args.table.now) c.requires.held
    c.down.place c.down.reached c.down.near c.down.far c.down.ways.least c.down.ways.end (HasFallen c.down.found.ids c.down.tail.low c.down.tail.end) c.down.found.cuts.items c.down.invariant.falls
    (omega (arith, c.down-test.true, c.number.ensures.number)) in
    let le = c.down.invariant.falls.within in omega arith

pub down-smaller-then-reached-low : goal.down-smaller-then-reached-low
down-smaller-then-reached-low g c =
    let some : 0 < c.down.place = falls-place (g.T.SegmentTable.flats c.args.table.now) (IsMember c.args.to.now) c.args.lowest (g.met.T.SegmentTable.lawful c.args.table.now) c.requires.held
    c.down.place c.down.reached c.down.near c.down.far c.down.ways.least c.down.ways.end (HasFallen c.down.found.ids c.down.tail.low c.down.tail.end) c.down.found.cuts.items c.down.invariant.falls
    (omega (arith, c.down-test.true, c.number.ensures.number)) in omega arith

pub down-preserved-then-reached-low : goal.down-preserved-then-reached-low
down-preserved-then-reached-low g c =
    let some : 0 < c.down.place = falls-place (g.T.SegmentTable.flats c.args.table.now) (IsMember c.args.to.now) c.args.lowest (g.met.T.SegmentTable.lawful c.args.table.now) c.requires.held
    c.down.place c.down.reached c.down.near c.down.far c.down.ways.least c.down.ways.end (HasFallen c.down.found.ids c.down.tail.low c.down.tail.end) c.down.found.cuts.items c.down.invariant.falls
    (omega (arith, c.down-test.true, c.number.ensures.number)) in
    record {
      falls = falls-past (g.T.SegmentTable.flats c.args.table.now) (IsMember c.args.to.now) c.args.lowest (g.met.T.SegmentTable.lawful c.args.table.now) c.requires.held
          c.down.place c.down.reached c.down.near c.down.far c.down.ways.least c.down.ways.end (HasFallen c.down.found.ids c.down.tail.low c.down.tail.end) c.down.found.cuts.items c.down.invariant.falls
          (omega (arith, c.down-test.true, c.number.ensures.number))
          (c.down.place - 1) (segment_of c.flat_at-segment.result) (omega arith) c.flat_at-segment.ensures.found
          (omega (arith, c.if-reached-low.true, c.number-low.ensures.number, c.low.ensures));
      counted = let k = c.flat_at-segment.ensures.tick in let b = c.down.invariant.counted in omega arith;
    }

pub add-requires-clause-group : goal.add-requires-clause-group
add-requires-clause-group g c = λ lt.
    let flats = g.T.SegmentTable.flats c.args.table.now in
    let s = segment_of c.flat_at-segment.result in
    let some : 0 < c.down.place = falls-place flats (IsMember c.args.to.now) c.args.lowest (g.met.T.SegmentTable.lawful c.args.table.now) c.requires.held
    c.down.place c.down.reached c.down.near c.down.far c.down.ways.least c.down.ways.end (HasFallen c.down.found.ids c.down.tail.low c.down.tail.end) c.down.found.cuts.items c.down.invariant.falls
    (omega (arith, c.down-test.true, c.number.ensures.number)) in
    let inside = falls-in flats (IsMember c.args.to.now) c.args.lowest (g.met.T.SegmentTable.lawful c.args.table.now) c.requires.held
    c.down.place c.down.reached c.down.near c.down.far c.down.ways.least c.down.ways.end (HasFallen c.down.found.ids c.down.tail.low c.down.tail.end) c.down.found.cuts.items c.down.invariant.falls
    (omega (arith, c.down-test.true, c.number.ensures.number))
    (c.down.place - 1) s (omega arith) c.flat_at-segment.ensures.found (omega (arith, c.if-reached-low.false, c.number-low.ensures.number, c.low.ensures)) in
    let top = inside.1 in
    let high = group-at flats (g.met.T.SegmentTable.lawful c.args.table.now) c.args.to.now (c.down.place - 1) s c.flat_at-segment.ensures.found (omega (arith, c.max.ensures, c.number-low.ensures.number, c.low.ensures, lt)) in
    omega arith

pub down-smaller : goal.down-smaller
down-smaller g c =
    let some : 0 < c.down.place = falls-place (g.T.SegmentTable.flats c.args.table.now) (IsMember c.args.to.now) c.args.lowest (g.met.T.SegmentTable.lawful c.args.table.now) c.requires.held
    c.down.place c.down.reached c.down.near c.down.far c.down.ways.least c.down.ways.end (HasFallen c.down.found.ids c.down.tail.low c.down.tail.end) c.down.found.cuts.items c.down.invariant.falls
    (omega (arith, c.down-test.true, c.number.ensures.number)) in omega arith

pub down-preserved : goal.down-preserved
down-preserved g c =
    let flats = g.T.SegmentTable.flats c.args.table.now in
    let lawful = g.met.T.SegmentTable.lawful c.args.table.now in
    let s = segment_of c.flat_at-segment.result in
    let low : c.number-low.result ≡ s.low = c.number-low.ensures.number ∙ c.low.ensures in
    let some : 0 < c.down.place = falls-place flats (IsMember c.args.to.now) c.args.lowest lawful c.requires.held
    c.down.place c.down.reached c.down.near c.down.far c.down.ways.least c.down.ways.end (HasFallen c.down.found.ids c.down.tail.low c.down.tail.end) c.down.found.cuts.items c.down.invariant.falls
    (omega (arith, c.down-test.true, c.number.ensures.number)) in
    let from : c.max.result ≡ max s.low c.args.lowest = omega (arith, c.max.ensures, low, c.number-in-down.ensures.number) in
    record {
      falls = falls-turn flats (IsMember c.args.to.now) c.args.lowest lawful c.requires.held
          c.down.place c.down.reached c.down.near c.down.far c.down.ways.least c.down.ways.end (HasFallen c.down.found.ids c.down.tail.low c.down.tail.end) c.down.found.cuts.items c.down.invariant.falls
          (omega (arith, c.down-test.true, c.number.ensures.number))
          (c.down.place - 1) s (omega arith) c.flat_at-segment.ensures.found (omega (arith, c.if-reached-low.false, low))
          c.visit.new.near c.visit.new.far c.in_ok-ways.ways.end c.in_ok-ways.ways.least c.max-reached.result c.after.result c.greatest.result
          c.in_ok-ways.ensures.keeps c.in_ok-ways.ensures.near c.in_ok-ways.ensures.end c.in_ok-ways.ensures.least
          c.greatest.ensures c.after.ensures c.max-reached.ensures
          (HasFallen c.add.new.ids c.add.new.self.low c.add.new.self.end)
          (subst (λ n. (z : ℕ) → HasFallen c.add.new.ids c.add.new.self.low c.add.new.self.end z ↔ (HasFallen c.down.found.ids c.down.tail.low c.down.tail.end z ⊎ ((n ≤ z) × (z < c.down.reached)))) from c.in_ok-add.ensures)
          c.keep_cut.new.cuts.items
          (subst (λ n. (d : Cut) → IsIn d c.keep_cut.new.cuts.items → IsIn d c.down.found.cuts.items ⊎ (d ≡ record { at = n; least = c.in_ok-ways.ways.least })) low c.in_ok-keep_cut.ensures);
      counted = let k = c.flat_at-segment.ensures.tick in let b = c.down.invariant.counted in omega arith;
    }

pub returns-clause-members : goal.returns-clause-members
returns-clause-members g c =
    falls-done (g.T.SegmentTable.flats c.args.table.now) (IsMember c.args.to.now) c.args.lowest (g.met.T.SegmentTable.lawful c.args.table.now) c.requires.held
    c.down.place c.down.reached c.down.near c.down.far c.down.ways.least c.down.ways.end (HasFallen c.down.found.ids c.down.tail.low c.down.tail.end) c.down.found.cuts.items c.down.invariant.falls
    (omega (arith, c.down-test.false, c.number.ensures.number))

pub returns-clause-cuts : goal.returns-clause-cuts
returns-clause-cuts g c =
    falls-cuts (g.T.SegmentTable.flats c.args.table.now) (IsMember c.args.to.now) c.args.lowest (g.met.T.SegmentTable.lawful c.args.table.now) c.requires.held
    c.down.place c.down.reached c.down.near c.down.far c.down.ways.least c.down.ways.end (HasFallen c.down.found.ids c.down.tail.low c.down.tail.end) c.down.found.cuts.items c.down.invariant.falls
