use Rattle.std.proofs.Common.{◌≡◌, ◌++◌, ◌∙◌, ℕ, List, Option, suc, flat_map, length, get_or, sym, subst, ap, arith, Bor}
use Rattle.std.specs.Prelude.{MatchOption}
use Rattle.std.proofs.lemmas.List.{get_or_default}
use Rattle.segment_codec.specs.Record.{segment_bytes}
use Rattle.segment_rules.specs.Levels.{level_segments}
use Rattle.segment_rules.specs.NewLevels.{new_levels}
use Rattle.high_segments.specs.declared.kept.Mark.{Mark}
use Rattle.high_segments.proofs.StoringLemmas.{in-marks, new-at, all-new}
use Rattle.high_segments.proofs.Listing.{now-stripped, never-stripped}
use Rattle.high_segments.proofs.listed.strip_new.Goals as goal

abbrev none : Mark
none = record { groups = 0; bytes = 0; end = 0; grouped = 0; count = 0 }

pub bounds-marks-i : goal.bounds-marks-i
bounds-marks-i c = let r = c.requires in in-marks c.args.marks.now c.args.levels.now r.0 r.1 r.2 c.levels.i c.levels-test.true

pub strip_level-requires-clause-new : goal.strip_level-requires-clause-new
strip_level-requires-clause-new c =
    let r = c.requires in let lt = in-marks c.args.marks.now c.args.levels.now r.0 r.1 r.2 c.levels.i c.levels-test.true in (
      level_segments r.1 (suc c.levels.i),
      length (level_segments r.0 (suc c.levels.i)),
      new-at c.args.marks.now c.args.levels.now r.0 r.1 r.2 c.levels.i c.levels-test.true (get_or c.args.marks.now c.levels.i none)
          (get_or_default c.args.marks.now c.levels.i none (get_or c.args.marks.now c.levels.i none) lt),
    )

pub returns-in_err-rest : goal.returns-in_err-rest
returns-in_err-rest c = λ old new s.
    let lt = in-marks c.args.marks.now c.args.levels.now old new s c.levels.i c.levels-test.true in
    let m = get_or c.args.marks.now c.levels.i none in
    let get = get_or_default c.args.marks.now c.levels.i none m lt in
    subst
    (λ (z : Option (Bor (List ℕ))).
    MatchOption z ((rest : List ℕ) → c.args.bytes.now ≡ flat_map segment_bytes (new_levels old new) ++ rest → ⊥) (λ rest. c.args.bytes.now ≡ flat_map segment_bytes (new_levels old new) ++ rest.now))
    (sym c.from_residual.ensures)
    (never-stripped old new c.args.marks.now c.args.levels.now s c.levels.i c.levels-test.true c.args.bytes.now c.levels.rest.now (c.levels.invariant old new s)
    (c.in_err-rest.ensures (level_segments new (suc c.levels.i)) (length (level_segments old (suc c.levels.i))) (new-at c.args.marks.now c.args.levels.now old new s c.levels.i c.levels-test.true m get)))

pub levels-preserved : goal.levels-preserved
levels-preserved c = λ old new s.
    let lt = in-marks c.args.marks.now c.args.levels.now old new s c.levels.i c.levels-test.true in
    let m = get_or c.args.marks.now c.levels.i none in
    let get = get_or_default c.args.marks.now c.levels.i none m lt in
    now-stripped old new c.levels.i c.args.bytes.now c.levels.rest.now c.in_ok-rest.rest.now (c.levels.invariant old new s)
    (c.in_ok-rest.ensures (level_segments new (suc c.levels.i)) (length (level_segments old (suc c.levels.i))) (new-at c.args.marks.now c.args.levels.now old new s c.levels.i c.levels-test.true m get))

pub returns : goal.returns
returns c = λ old new s.
    let le = c.levels-test.false in let ge = c.levels.auto.i-end in
    c.levels.invariant old new s ∙ ap (λ z. flat_map segment_bytes z ++ c.levels.rest.now) (all-new c.args.marks.now c.args.levels.now old new s c.levels.i (omega (arith, le, ge)))
