use Rattle.std.proofs.Common.{◌+◌, ◌-◌, ◌≡◌, ℕ, true, ap, arith, subst}
use Rattle.std.specs.Prelude.{nat_le}
use Rattle.std.specs.List.{AllWithin}
use Rattle.flat_segments.specs.Entries.{PlainEntry}
use Rattle.flat_segments.proofs.Searching.{front-to, back-from, above, not-above}
use Rattle.flat_segments.proofs.search.count_up_to.Goals as goal

pub returns-then-not-begins_above-clause-front : goal.returns-then-not-begins_above-clause-front
returns-then-not-begins_above-clause-front c =
    let some = c.if-near-gt0.true in
    let before = c.if-near-entries.true in
    let one : c.args.near - 1 + 1 ≡ c.args.near = omega (arith, some) in
    let low = not-above c.begins_above-then-begins_above.ensures c.if-not-begins_above.true in
    let same = ap (λ (e : PlainEntry). e.low) c.index-entries-near-then-begins_above.is in
    subst (λ (n : ℕ). AllWithin (λ (e : PlainEntry). nat_le e.low c.args.id ≡ true) c.args.entries.now 0 n) one
    (front-to c.requires.rise.0 c.args.id c.args.entries.now (c.args.near - 1) c.index-entries-near-then-begins_above.result c.requires.rise.1 (omega (arith, before)) (omega (arith, low, same)))

pub returns-then-not-begins_above-clause-back : goal.returns-then-not-begins_above-clause-back
returns-then-not-begins_above-clause-back c =
    let more = above c.begins_above.ensures c.if-begins_above.true in
    let same = ap (λ (e : PlainEntry). e.low) c.index-entries-near.is in
    back-from c.requires.rise.0 c.args.id c.args.entries.now c.args.near c.index-entries-near.result c.requires.rise.1 c.if-near-entries.true (omega (arith, more, same))
