use Rattle.std.proofs.Common.{arith, subst, ◌-◌, ◌+◌}
use Rattle.segment_codec.specs.Lent.{segment_of}
use Rattle.range_query.specs.Parts.{AreSpelledWith}
use Rattle.range_query.proofs.PassLemmas.{lack-none, lack-more, over-more}
use Rattle.range_query.proofs.flat_pass.pass_flats.Goals as goal

pub down-init : goal.down-init
down-init g c = let top = c.number-top.ensures.number in record {
  counted = c.count_to-end.ensures.counted;
  within = c.count_to-end.ensures.end.within;
  over = λ s i. let lt = c.count_to-end.ensures.end.above s i in omega arith;
  lack = lack-none (g.T.SegmentTable.flats c.args.table.now) c.args.set.now (c.number-top.result + 1) c.args.id (omega arith);
}

pub flat_at-segment-requires : goal.flat_at-segment-requires
flat_at-segment-requires g c = let within = c.down.invariant.within in let test = c.down-test.true in omega arith

pub is_apart_from-requires : goal.is_apart_from-requires
is_apart_from-requires g c = subst (λ l. AreSpelledWith l c.only_byte-byte.result) c.spans.ensures.same c.only_byte-byte.ensures

pub down-preserved : goal.down-preserved
down-preserved g c =
    let flats = g.T.SegmentTable.flats c.args.table.now in
    let lawful = g.met.T.SegmentTable.lawful c.args.table.now in
    let s = segment_of c.flat_at-segment.result in
    let test = c.down-test.true in let within = c.down.invariant.within in
    let first = c.low.ensures in let same = c.number-lowest.ensures.number in
    record {
      counted = let k = c.flat_at-segment.ensures.tick in let b = c.down.invariant.counted in omega arith;
      within = omega arith;
      over = over-more flats lawful c.args.set.now (c.down.end - 1) s c.flat_at-segment.ensures.found c.number-lowest.result (omega arith);
      lack = lack-more flats lawful c.args.set.now (c.down.end - 1) s c.flat_at-segment.ensures.found c.down.end c.down.low c.number-lowest.result c.args.from c.args.id (omega arith)
          c.down.invariant.over c.down.invariant.lack c.requires.clear (c.is_apart_from.ensures.from c.if-not-is_apart_from.false) (c.is_apart_from.ensures.none c.if-not-is_apart_from.false) (omega arith);
    }
