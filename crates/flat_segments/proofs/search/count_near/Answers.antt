use Rattle.std.proofs.Common.{◌+◌, ◌-◌, ◌≡◌, ℕ, true, ap, arith, subst}
use Rattle.std.specs.Prelude.{nat_le}
use Rattle.std.specs.List.{AllWithin}
use Rattle.flat_segments.specs.Entries.{PlainEntry}
use Rattle.flat_segments.proofs.Searching.{front-to, not-above}
use Rattle.flat_segments.proofs.search.count_near.Goals as goal

pub returns-then-not-begins_above-clause-front : goal.returns-then-not-begins_above-clause-front
returns-then-not-begins_above-clause-front c =
    let some = c.places-test.true in let within = c.places.invariant.0 in
    let one : c.places.place - 1 + 1 ≡ c.places.place = omega (arith, some) in
    let low = not-above c.begins_above.ensures c.if-not-begins_above.true in
    let same = ap (λ (e : PlainEntry). e.low) c.index-entries-place.is in
    subst (λ (n : ℕ). AllWithin (λ (e : PlainEntry). nat_le e.low c.args.id ≡ true) c.args.entries.now 0 n) one
    (front-to c.requires.rise.0 c.args.id c.args.entries.now (c.places.place - 1) c.index-entries-place.result c.requires.rise.1 (omega (arith, some, within)) (omega (arith, low, same)))
