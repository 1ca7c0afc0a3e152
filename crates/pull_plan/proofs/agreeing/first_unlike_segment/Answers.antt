use Rattle.std.specs.Prelude.{MatchOption}
use Rattle.std.proofs.Common.{◌≡◌, ◌<◌, ◌∙◌, Some, length, slice_get, refl, sym, ap, subst, arith, true≢false}
use Rattle.segment_codec.specs.Record.{Segment}
use Rattle.segment_codec.proofs.Tables.{lawful-rising}
use Rattle.high_segments.specs.Views.{flats_in}
use Rattle.high_segments.proofs.Viewing.{lawful_flats}
use Rattle.remote_rules.specs.CloneData.{CloneData}
use Rattle.pull_plan.specs.Pulling.{unlike_segment}
use Rattle.pull_plan.proofs.Beside.{some-one, none-at, told-rising, unlike-next, unlike-here, unlike-end}
use Rattle.pull_plan.proofs.agreeing.first_unlike_segment.Goals as goal

pub returns-then-segment-below : goal.returns-then-segment-below
returns-then-segment-below c =
    let told = c.args.told.now.segments in
    let stored = flats_in c.args.view.now in
    let s = c.at-segment.result.now in
    let at : slice_get told c.segments.k ≡ Some s = subst (λ l. slice_get l c.segments.k ≡ Some s) (ap (λ (t : CloneData). t.segments) c.told.view_is) c.at-segment.ensures in
    let low = ap (λ (z : Segment). z.low) c.segment.view_is in
    let le = c.if-segment-below.true in
    unlike-end told stored c.args.below c.items_of-items.result c.segments.k c.segments.invariant (told-rising c.args.told.now c.requires)
    (λ t e lt. let same : s ≡ t = some-one s t (sym at ∙ e) in let m = ap (λ (z : Segment). z.low) same in omega (arith, low, le, lt, m))
    (lawful-rising stored (lawful_flats c.args.view.now)) c.missing.result c.missing.ensures
    ∙ ap (unlike_segment told stored c.args.below) c.items_of-items.ensures

pub returns-then-not-is_at : goal.returns-then-not-is_at
returns-then-not-is_at c =
    let told = c.args.told.now.segments in
    let stored = flats_in c.args.view.now in
    let s = c.at-segment.result.now in
    let at : slice_get told c.segments.k ≡ Some s = subst (λ l. slice_get l c.segments.k ≡ Some s) (ap (λ (t : CloneData). t.segments) c.told.view_is) c.at-segment.ensures in
    let low = ap (λ (z : Segment). z.low) c.segment.view_is in
    let lt = c.if-segment-below.false in
    ap Some c.from.ensures
    ∙ sym (unlike-here told stored c.args.below c.items_of-items.result c.segments.k c.segments.invariant s at (omega (arith, low, lt)) (lawful-rising stored (lawful_flats c.args.view.now))
    (λ t e less same. true≢false (sym (c.if-not-is_at.ensures.1 (t, e, less, same)))))
    ∙ ap (unlike_segment told stored c.args.below) c.items_of-items.ensures

pub segments-preserved : goal.segments-preserved
segments-preserved c =
    let told = c.args.told.now.segments in
    let stored = flats_in c.args.view.now in
    let s = c.at-segment.result.now in
    let at : slice_get told c.segments.k ≡ Some s = subst (λ l. slice_get l c.segments.k ≡ Some s) (ap (λ (t : CloneData). t.segments) c.told.view_is) c.at-segment.ensures in
    let low = ap (λ (z : Segment). z.low) c.segment.view_is in
    let lt = c.if-segment-below.false in
    let is = c.if-not-is_at.ensures.0 refl in
    unlike-next told stored c.args.below c.items_of-items.result c.segments.k c.segments.invariant s is.0 at is.1 (omega (arith, low, lt)) is.2 is.3

pub returns : goal.returns
returns c =
    let told = c.args.told.now.segments in
    let stored = flats_in c.args.view.now in
    let is = ap (λ (t : CloneData). t.segments) c.told.view_is in
    let long = c.len-count.ensures ∙ ap (length {A = Segment}) is in
    let ge = c.segments-test.false in
    unlike-end told stored c.args.below c.items_of-items.result c.segments.k c.segments.invariant (told-rising c.args.told.now c.requires)
    (λ t e lt. none-at told c.segments.k (omega (arith, long, ge)) t e)
    (lawful-rising stored (lawful_flats c.args.view.now)) c.missing-2.result
    (subst (λ n. MatchOption c.missing-2.result ((t : Segment) → slice_get stored n ≡ Some t → t.low < c.args.below → ⊥) (λ m. (m ≡ c.items_of-items.result) × (t : Segment) × (slice_get stored n ≡ Some t) × (t.low < c.args.below)))
    (let auto = c.segments.auto.k-end in let z : c.len-count.result ≡ c.segments.k = omega (arith, ge, auto) in z) c.missing-2.ensures)
    ∙ ap (unlike_segment told stored c.args.below) c.items_of-items.ensures
