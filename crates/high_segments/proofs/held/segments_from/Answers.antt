use Rattle.std.proofs.Common.{◌≡◌, ◌≤◌, ◌<◌, ◌-◌, ◌^◌, ◌∙◌, ℕ, Option, None, Some, refl, sym, subst, ap, arith, lit≤}
use Rattle.std.specs.Prelude.{MatchOption}
use Rattle.std.specs.Option.{IsSome}
use Rattle.std.specs.List.{AllByRecursion}
use Rattle.segment_codec.specs.Record.{Segment}
use Rattle.segment_codec.specs.Lent.{segment_of}
use Rattle.segment_codec.specs.Number.{HasNumber}
use Rattle.segment_codec.proofs.Lists.{all-below}
use Rattle.segment_levels.specs.Kept.{PlainLevel}
use Rattle.segment_levels.specs.Endings.{held_from}
use Rattle.high_segments.proofs.Gathering.{row-more, row-all, not-none, next-low}
use Rattle.high_segments.proofs.held.segments_from.Goals as goal

some-found : {X : Type 0} (o : Option X) (A : Type 0) (B : X → Type 0) → MatchOption o A B → (A → ⊥) → IsSome o
some-found None A B h never = absurd (never h)
some-found (Some x) A B h never = refl

what-found : {X : Type 0} (o : Option X) (x : X) (A : Type 0) (B : X → Type 0) → o ≡ Some x → MatchOption o A B → B x
what-found o x A B e h = subst (λ z. MatchOption z A B) e h

falls : (end new run : ℕ) → run < end → run < new → end - new < end - run
falls end new run a b = omega (arith, a, b)

pub unwrap-segment-requires : goal.unwrap-segment-requires
unwrap-segment-requires c =
    let r = c.requires in let a = c.ids-test.true in let b = c.end.ensures in let d = c.end-in-ids.ensures in
    some-found c.held.result (held_from None c.args.levels.now c.end-in-ids-2.result ≡ None) (λ r. held_from None c.args.levels.now c.end-in-ids-2.result ≡ Some (segment_of r)) c.held.ensures
    (λ e. not-none c.args.levels.now c.args.top.now r.0 r.1 c.args.start r.2 c.ids.run (c.ids.invariant.goes r.0 r.1 r.2) (omega (arith, a, b, d)) (ap (held_from None c.args.levels.now) (sym c.end-in-ids-2.ensures) ∙ e))

pub ids-smaller : goal.ids-smaller
ids-smaller c =
    let r = c.requires in let a = c.ids-test.true in let b = c.end.ensures in let d = c.end-in-ids.ensures in
    let lt : c.ids.run.end < c.args.top.now.end = omega (arith, a, b, d) in
    let e = what-found c.held.result c.unwrap-segment.result (held_from None c.args.levels.now c.end-in-ids-2.result ≡ None) (λ r. held_from None c.args.levels.now c.end-in-ids-2.result ≡ Some (segment_of r)) c.unwrap-segment.ensures c.held.ensures in
    let t-is = c.at_level.ensures ∙ ap (λ (n : ℕ). (let q : Segment = record (segment_of c.unwrap-segment.result) { level = n } in q)) c.level-in-ids.ensures in
    let low = next-low c.args.levels.now c.args.top.now r.0 r.1 c.args.start r.2 c.ids.run (c.ids.invariant.goes r.0 r.1 r.2) lt (segment_of c.unwrap-segment.result) (segment_of c.at_level.result)
    (ap (held_from None c.args.levels.now) (sym c.end-in-ids-2.ensures) ∙ e) t-is in
    let order = c.at_level.result.order in
    let end = ap (λ (p : PlainLevel). p.end) c.in_ok-push.ensures in
    falls c.args.top.now.end c.push.new.self.end c.ids.run.end lt (omega (arith, low, order, end))

pub ids-preserved : goal.ids-preserved
ids-preserved c =
    let a = c.ids-test.true in let b = c.end.ensures in let d = c.end-in-ids.ensures in
    let e = what-found c.held.result c.unwrap-segment.result (held_from None c.args.levels.now c.end-in-ids-2.result ≡ None) (λ r. held_from None c.args.levels.now c.end-in-ids-2.result ≡ Some (segment_of r)) c.unwrap-segment.ensures c.held.ensures in
    let t-is = c.at_level.ensures ∙ ap (λ (n : ℕ). (let q : Segment = record (segment_of c.unwrap-segment.result) { level = n } in q)) c.level-in-ids.ensures in
    let order = c.at_level.result.order in let valid = c.at_level.result.valid in let wide : 2 ^ 57 ≤ 2 ^ 64 = lit≤ tt in
    let have : AllByRecursion HasNumber (segment_of c.at_level.result).parents = all-below c.at_level.result.low (2 ^ 64) (segment_of c.at_level.result).parents (omega (arith, order, valid, wide)) c.at_level.result.below in
    row-more c.args.levels.now c.args.top.now c.args.start c.ids.run c.push.new.self (segment_of c.unwrap-segment.result) (segment_of c.at_level.result) c.ids.invariant (omega (arith, a, b, d))
    (ap (held_from None c.args.levels.now) (sym c.end-in-ids-2.ensures) ∙ e) t-is have c.in_ok-push.ensures

pub returns : goal.returns
returns c = λ segments from h.
    let le = c.ids-test.false in let b = c.end.ensures in let d = c.end-in-ids.ensures in
    row-all c.args.levels.now c.args.top.now segments from c.args.start h c.ids.run c.ids.invariant (omega (arith, le, b, d))
