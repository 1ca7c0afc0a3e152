use Rattle.std.proofs.Common.{◌+◌, ◌-◌, ◌≡◌, ℕ, true, ap, arith, subst}
use Rattle.std.specs.Prelude.{nat_le}
use Rattle.std.specs.List.{AllWithin}
use Rattle.segment_levels.specs.Kept.{PlainGroup}
use Rattle.high_segments.proofs.Finding.{front-to}
use Rattle.high_segments.proofs.kept.count_before.Goals as goal

pub returns-then-low-id-clause-front : goal.returns-then-low-id-clause-front
returns-then-low-id-clause-front c =
    let r = c.requires.rise in let some = c.places-test.true in let within = c.places.invariant.0 in
    let one : c.places.place - 1 + 1 ≡ c.places.place = omega (arith, some) in
    let low = c.if-low-id.true in let is = c.low.ensures in
    let same = ap (λ (g : PlainGroup). g.low) c.index-groups-place.is in
    subst (λ (n : ℕ). AllWithin (λ (g : PlainGroup). nat_le g.low c.args.id ≡ true) c.args.groups.now 0 n) one
    (front-to r.0 r.1 r.3 r.2 c.args.id c.args.groups.now (c.places.place - 1) c.index-groups-place.result r.4 (omega (arith, some, within)) (omega (arith, low, is, same)))
