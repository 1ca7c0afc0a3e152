use Rattle.std.proofs.Common.{◌∙◌, ◌++◌, suc, flat_map, length, get_or, ap, arith}
use Rattle.std.proofs.lemmas.List.{get_or_default}
use Rattle.segment_codec.specs.Record.{segment_bytes}
use Rattle.segment_rules.specs.Levels.{level_segments}
use Rattle.high_segments.specs.declared.kept.Mark.{Mark}
use Rattle.high_segments.proofs.StoringLemmas.{in-marks, seven, new-at, few, now-written, now-counted, all-new}
use Rattle.high_segments.proofs.storing.write_new.Goals as goal

abbrev none : Mark
none = record { groups = 0; bytes = 0; end = 0; grouped = 0; count = 0 }

pub bounds-marks-i : goal.bounds-marks-i
bounds-marks-i c = let r = c.requires in in-marks c.args.marks.now c.args.levels.now r.0 r.1 r.2 c.levels.i c.levels-test.true

pub write_level-requires-clause-new : goal.write_level-requires-clause-new
write_level-requires-clause-new c =
    let r = c.requires in let lt = in-marks c.args.marks.now c.args.levels.now r.0 r.1 r.2 c.levels.i c.levels-test.true in (
      level_segments r.1 (suc c.levels.i),
      length (level_segments r.0 (suc c.levels.i)),
      new-at c.args.marks.now c.args.levels.now r.0 r.1 r.2 c.levels.i c.levels-test.true (get_or c.args.marks.now c.levels.i none)
          (get_or_default c.args.marks.now c.levels.i none (get_or c.args.marks.now c.levels.i none) lt),
    )

pub overflow_add-count : goal.overflow_add-count
overflow_add-count c =
    let r = c.requires in let lt = in-marks c.args.marks.now c.args.levels.now r.0 r.1 r.2 c.levels.i c.levels-test.true in
    let get = get_or_default c.args.marks.now c.levels.i none (get_or c.args.marks.now c.levels.i none) lt in
    let size = c.in_ok-count.ensures.count (level_segments r.1 (suc c.levels.i)) (length (level_segments r.0 (suc c.levels.i)))
    (new-at c.args.marks.now c.args.levels.now r.0 r.1 r.2 c.levels.i c.levels-test.true (get_or c.args.marks.now c.levels.i none) get) in
    let most = few c.args.marks.now c.args.levels.now r.0 r.1 r.2 c.levels.i c.levels-test.true (get_or c.args.marks.now c.levels.i none) get in
    let before = c.levels.invariant.few in let here = c.levels-test.true in let all = seven c.args.marks.now c.args.levels.now r.0 r.1 r.2 in
    omega (arith, size, most, before, here, all)

pub levels-preserved : goal.levels-preserved
levels-preserved c =
    let r = c.requires in let lt = in-marks c.args.marks.now c.args.levels.now r.0 r.1 r.2 c.levels.i c.levels-test.true in
    let m = get_or c.args.marks.now c.levels.i none in
    let get = get_or_default c.args.marks.now c.levels.i none m lt in
    let size = c.in_ok-count.ensures.count (level_segments r.1 (suc c.levels.i)) (length (level_segments r.0 (suc c.levels.i)))
    (new-at c.args.marks.now c.args.levels.now r.0 r.1 r.2 c.levels.i c.levels-test.true m get) in
    let most = few c.args.marks.now c.args.levels.now r.0 r.1 r.2 c.levels.i c.levels-test.true m get in
    let before = c.levels.invariant.few in
    record {
      written = λ old new s. now-written c.args.marks.now c.args.levels.now old new s c.levels.i c.levels-test.true m get c.levels.out.items c.write_level.new.out.items c.args.out.now.items
          (c.levels.invariant.written old new s)
          (c.in_ok-count.ensures.written (level_segments new (suc c.levels.i)) (length (level_segments old (suc c.levels.i))) (new-at c.args.marks.now c.args.levels.now old new s c.levels.i c.levels-test.true m get));
      counted = λ old new s. now-counted c.args.marks.now c.args.levels.now old new s c.levels.i c.levels-test.true m get c.levels.count c.in_ok-count.field-0
          (c.levels.invariant.counted old new s)
          (c.in_ok-count.ensures.count (level_segments new (suc c.levels.i)) (length (level_segments old (suc c.levels.i))) (new-at c.args.marks.now c.args.levels.now old new s c.levels.i c.levels-test.true m get));
      few = omega (arith, size, most, before);
    }

pub returns-clause-written : goal.returns-clause-written
returns-clause-written c = λ old new s.
    let le = c.levels-test.false in let ge = c.levels.auto.i-end in
    c.levels.invariant.written old new s ∙ ap (λ z. c.args.out.now.items ++ flat_map segment_bytes z) (all-new c.args.marks.now c.args.levels.now old new s c.levels.i (omega (arith, le, ge)))

pub returns-clause-count : goal.returns-clause-count
returns-clause-count c = λ old new s.
    let le = c.levels-test.false in let ge = c.levels.auto.i-end in
    c.levels.invariant.counted old new s ∙ ap length (all-new c.args.marks.now c.args.levels.now old new s c.levels.i (omega (arith, le, ge)))
