use Rattle.std.proofs.Common.{◌-◌, ◌∙◌, ℕ, Some, sym, ap, arith}
use Rattle.segment_levels.specs.Kept.{segments_in}
use Rattle.high_segments.proofs.Places.{segments-length}
use Rattle.high_segments.proofs.Noting.{none-low, none-lower, one-place, some-at, sought-more}
use Rattle.high_segments.proofs.children.place_of.Goals as goal

pub returns-then-high_at-id-clause-found : goal.returns-then-high_at-id-clause-found
returns-then-high_at-id-clause-found c = λ place s get le lt same.
    let len = segments-length c.args.below.now in let within = c.requires.within in
    let t = some-at (segments_in c.args.below.now) c.args.from (omega (arith, len, within, le, lt)) in
    absurd (none-low c.args.below.now c.requires.sound c.args.from c.args.id c.high_at.result t.0 t.1 (c.high_at.ensures.high t.0 t.1) c.if-high_at-id.true place s get le same)

pub returns-then-high-id-clause-found : goal.returns-then-high-id-clause-found
returns-then-high-id-clause-found c = λ place s get le lt same.
    let len = segments-length c.args.below.now in let within = c.requires.within in let to = c.places.invariant.within in let some = c.places-test.true in
    let t = some-at (segments_in c.args.below.now) (c.places.place - 1) (omega (arith, len, within, to, some)) in
    ap (λ (n : ℕ). Some n)
    (sym (one-place c.args.below.now c.requires.sound place (c.places.place - 1) s t.0 get t.1 (same ∙ sym c.if-high-id.true ∙ c.high_at-high.ensures.high t.0 t.1)))

pub returns-then-high-id-2-clause-found : goal.returns-then-high-id-2-clause-found
returns-then-high-id-2-clause-found c = λ place s get le lt same.
    let len = segments-length c.args.below.now in let within = c.requires.within in let to = c.places.invariant.within in let some = c.places-test.true in
    let t = some-at (segments_in c.args.below.now) (c.places.place - 1) (omega (arith, len, within, to, some)) in
    absurd (none-lower c.args.below.now c.requires.sound c.args.to c.args.id c.places.place c.high_at-high.result t.0 t.1 (c.high_at-high.ensures.high t.0 t.1) c.if-high-id-2.true c.places.invariant place s get lt same)

pub places-preserved : goal.places-preserved
places-preserved c = sought-more (segments_in c.args.below.now) c.args.to c.args.id c.places.place c.args.from c.places.invariant c.places-test.true (λ s get same. c.if-high-id.false (c.high_at-high.ensures.high s get ∙ same))
