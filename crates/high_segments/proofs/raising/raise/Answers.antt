use Rattle.std.proofs.Common.{◌≡◌, ◌-◌, ◌+◌, ◌∙◌, sym, ap, subst, arith, length, drop}
use Rattle.flat_segments.specs.Runs.{low_of}
use Rattle.segment_levels.specs.Kept.{PlainLevel, PlainGroups, segments_in}
use Rattle.segment_levels.specs.Sound.{HasFront}
use Rattle.high_segments.specs.Growing.{AddsGroups, KeepsRun, reached}
use Rattle.high_segments.specs.Lone.{AreLone, raised}
use Rattle.high_segments.proofs.Alone.{raised-is, raised-adds, raised-keeps, raised-lone, reached-front}
use Rattle.high_segments.proofs.raising.raise.Goals as goal

-- how many segments go up
size-is : (c : goal.After-drop-run-2) → c.saturating_sub-size.result ≡ length c.args.below.entries - 15
size-is c = let s = c.saturating_sub-size.ensures in let len = c.len.ensures in omega (arith, s, len)

-- the row
row-is : (c : goal.After-drop-run-2) → c.raised.result ≡ raised c.args.below c.args.run.now.level c.args.run.now.grouped
row-is c =
    let count = c.grouped.ensures in
    c.raised.ensures
    ∙ raised-is c.args.below c.args.run.now c.saturating_sub-size.result c.level.result (c.grouped.result + c.saturating_sub-size.result) (size-is c) c.level.ensures (omega (arith, count))

-- what is kept
kept-is : (c : goal.After-drop-run-2) → c.reach.new.self ≡ reached c.args.kept.now (raised c.args.below c.args.run.now.level c.args.run.now.grouped).end (length c.args.below.entries - 15)
kept-is c =
    let ends = c.low_at.ensures ∙ ap (λ n. low_of c.args.below.end (drop n c.args.below.entries)) (size-is c) in
    c.reach.ensures ∙ ap (λ e. reached c.args.kept.now e c.saturating_sub-size.result) ends
    ∙ ap (reached c.args.kept.now (raised c.args.below c.args.run.now.level c.args.run.now.grouped).end) (size-is c)

pub returns-clause-groups : goal.returns-clause-groups
returns-clause-groups c =
    subst (λ (p : PlainLevel). AddsGroups c.args.below 0 c.args.run.now p) (sym (row-is c)) (raised-adds c.args.below c.requires.sound c.requires.lone c.args.run.now c.requires.none)

pub returns-clause-kept : goal.returns-clause-kept
returns-clause-kept c = λ front belows k are.
    let keeps = raised-keeps c.args.below c.requires.sound c.requires.lone c.args.run.now c.requires.none front belows c.args.kept.now c.requires.high c.requires.begin k are in
    subst (λ (p : PlainLevel). KeepsRun front belows p c.reach.new.self) (sym (row-is c))
    (subst (λ (l : PlainGroups). KeepsRun front belows (raised c.args.below c.args.run.now.level c.args.run.now.grouped) l) (sym (kept-is c)) keeps)

pub returns-clause-front : goal.returns-clause-front
returns-clause-front c = subst (HasFront c.args.kept.now) (sym c.reach.ensures) (reached-front c.args.kept.now c.low_at.result c.saturating_sub-size.result)

pub returns-clause-lone : goal.returns-clause-lone
returns-clause-lone c = subst (λ (p : PlainLevel). AreLone (segments_in p)) (sym (row-is c)) (raised-lone c.args.below c.requires.sound c.requires.lone c.args.run.now c.requires.none)
