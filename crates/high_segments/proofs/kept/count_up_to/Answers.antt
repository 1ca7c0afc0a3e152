use Rattle.std.proofs.Common.{◌≡◌, ◌+◌, ◌-◌, ℕ, true, length, ap, arith, subst}
use Rattle.std.specs.Prelude.{nat_le}
use Rattle.std.specs.List.{AllWithin}
use Rattle.segment_levels.specs.Kept.{PlainGroup}
use Rattle.high_segments.proofs.Finding.{back-from, front-to}
use Rattle.high_segments.proofs.kept.count_up_to.Goals as goal

pub count_before-requires-clause-back : goal.count_before-requires-clause-back
count_before-requires-clause-back c =
    let more = c.if-low-id.true in let is = c.low.ensures in
    let same = ap (λ (g : PlainGroup). g.low) c.index-groups-near.is in
    back-from c.requires.0 c.requires.1 c.requires.3 c.requires.2 c.args.id c.args.groups.now c.args.near c.index-groups-near.result c.requires.4 c.if-near-len.true (omega (arith, more, is, same))

pub returns-then-low-id-2-clause-front : goal.returns-then-low-id-2-clause-front
returns-then-low-id-2-clause-front c =
    let r = c.requires in let some = c.if-len-gt0.true in
    let one : length c.args.groups.now - 1 + 1 ≡ length c.args.groups.now = omega (arith, some) in
    let low = c.if-low-id-2.true in let is = c.low-then-len-gt0.ensures in
    let same = ap (λ (g : PlainGroup). g.low) c.index-groups-len.is in
    subst (λ (n : ℕ). AllWithin (λ (g : PlainGroup). nat_le g.low c.args.id ≡ true) c.args.groups.now 0 n) one
    (front-to r.0 r.1 r.3 r.2 c.args.id c.args.groups.now (length c.args.groups.now - 1) c.index-groups-len.result r.4 (omega (arith, some)) (omega (arith, low, is, same)))
