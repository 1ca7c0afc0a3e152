use Rattle.std.proofs.Common.{ℕ, List, ◌≡◌, ◌-◌, ◌<◌, suc, true, false, length, get_or, rules, subst, sym, ◌∙◌, ap, arith}
use Rattle.std.specs.Prelude.{nat_le}
use Rattle.std.specs.List.{AllWithin}
use Rattle.std.specs.List.Sorted.{IsPartitionedBy}
use Rattle.std.proofs.lemmas.List.Sorted.{IsPartitionPoint-from_clause}
use Rattle.name_map.specs.Part.{PlainPart}
use Rattle.name_map.specs.Map.{parts_of}
use Rattle.name_map.specs.Found.{IsPartFor}
use Rattle.name_map.proofs.Parts.{parts-parted, none-begins, found-part}
use Rattle.name_map.proofs.search.part_for.Goals as goal

pub returns-then-count-eq0 : goal.returns-then-count-eq0
returns-then-count-eq0 c = λ added follow is.
    let n = c.args.number in
    let parted = subst (λ (z : List PlainPart). IsPartitionedBy (λ (p : PlainPart). nat_le p.first n) z) (sym is) (parts-parted n 0 0 added follow) in
    let point = IsPartitionPoint-from_clause (λ (p : PlainPart). nat_le p.first n) _ _ c.partition_point-count.ensures.partitioned parted (λ a r q k. search rules) in
    let high = subst (λ (k : ℕ). AllWithin (λ (p : PlainPart). nat_le p.first n ≡ false) c.args.parts.now k (length c.args.parts.now)) c.if-count-eq0.true point.1 in
    none-begins n 0 added (subst (λ (z : List PlainPart). AllWithin (λ (p : PlainPart). nat_le p.first n ≡ false) z 0 (length z)) is high)

pub returns : goal.returns
returns c = λ added follow is.
    let n = c.args.number in
    let count = c.partition_point-count.result in
    let d = c.index-parts-count.result in
    let parted = subst (λ (z : List PlainPart). IsPartitionedBy (λ (p : PlainPart). nat_le p.first n) z) (sym is) (parts-parted n 0 0 added follow) in
    let point = IsPartitionPoint-from_clause (λ (p : PlainPart). nat_le p.first n) _ _ c.partition_point-count.ensures.partitioned parted (λ a r q k. search rules) in
    let some : count ≡ suc (count - 1) = let not = c.if-count-eq0.false in omega (arith, not) in
    let low = subst (λ (k : ℕ). AllWithin (λ (p : PlainPart). nat_le p.first n ≡ true) c.args.parts.now 0 k) some point.0 in
    let high = subst (λ (k : ℕ). AllWithin (λ (p : PlainPart). nat_le p.first n ≡ false) c.args.parts.now k (length c.args.parts.now)) some point.1 in
    let within : count - 1 < length (parts_of 0 added) = let bound = c.partition_point-count.ensures.bound in omega (arith, some, bound, ap length is) in
    let found = found-part n (count - 1) added d within
    (subst (λ (z : List PlainPart). AllWithin (λ (p : PlainPart). nat_le p.first n ≡ true) z 0 (suc (count - 1))) is low)
    (subst (λ (z : List PlainPart). AllWithin (λ (p : PlainPart). nat_le p.first n ≡ false) z (suc (count - 1)) (length z)) is high) in
    subst (λ (p : PlainPart). IsPartFor added n p) (ap (λ (z : List PlainPart). get_or z (count - 1) d) (sym is) ∙ sym c.index-parts-count.is) found
