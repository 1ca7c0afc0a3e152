use Rattle.std.proofs.Common.{◌≡◌, ℕ, zero, suc, [], ◌∷◌, Option, Some, None, refl, inl, inr, ap, arith}
use Rattle.std.specs.Prelude.{length}
use Rattle.segment_codec.specs.Record.{Segment}
use Rattle.segment_codec.specs.Flat.{flat_ending}
use Rattle.segment_codec.specs.Examples.{small_table}
use Rattle.span_set.specs.Members.{IsMember}
use Rattle.ancestor_query.specs.Counts.{EndsWhole}
use Rattle.ancestor_query.proofs.laws.counts_spelled_out.Goals as goal

pub returns-clause-down : goal.returns-clause-down
returns-clause-down c = refl

pub returns-clause-three : goal.returns-clause-three
returns-clause-three c = refl

pub returns-clause-one : goal.returns-clause-one
returns-clause-one c = refl

pub returns-clause-none : goal.returns-clause-none
returns-clause-none c = refl

at-4 : (y : ℕ) → IsMember (record { low = 4; high = 4 } ∷ []) y → y ≡ 4
at-4 y (inl (low, high)) = omega arith
at-4 y (inr none) = absurd none

pub returns-clause-only : goal.returns-clause-only
returns-clause-only c = λ y. (at-4 y, λ e. inl (omega (arith, e), omega (arith, e)))

pub returns-clause-not_only : goal.returns-clause-not_only
returns-clause-not_only c = λ h. let e : 5 ≡ 4 = (h 5).0 (inl (omega arith, omega arith)) in omega (arith, e)

pub returns-clause-whole : goal.returns-clause-whole
returns-clause-whole c = (0, record { low = 0; high = 2; level = 0; parents = [] }, omega arith, refl, refl)

-- how many parents a segment has, and one more; 0 of none
abbrev parents-and-one : Option Segment → ℕ
parents-and-one None = 0
parents-and-one (Some s) = suc (length s.parents)

no-parents : (s : Segment) → s.parents ≡ [] → parents-and-one (Some s) ≡ 1
no-parents s e = ap (λ ps. suc (length ps)) e

not-at-4 : EndsWhole (flat_ending small_table) 4 → ⊥
not-at-4 (zero, s, few, e, none) =
    let one = no-parents s none in
    let two : 2 ≡ parents-and-one (Some s) = ap parents-and-one e in omega (arith, one, two)
not-at-4 (suc level, s, few, e, none) =
    let one = no-parents s none in
    let two : 0 ≡ parents-and-one (Some s) = ap parents-and-one e in omega (arith, one, two)

pub returns-clause-with_parents : goal.returns-clause-with_parents
returns-clause-with_parents c = not-at-4

not-at-1 : EndsWhole (flat_ending small_table) 1 → ⊥
not-at-1 (zero, s, few, e, none) =
    let one = no-parents s none in
    let two : 0 ≡ parents-and-one (Some s) = ap parents-and-one e in omega (arith, one, two)
not-at-1 (suc level, s, few, e, none) =
    let one = no-parents s none in
    let two : 0 ≡ parents-and-one (Some s) = ap parents-and-one e in omega (arith, one, two)

pub returns-clause-not_the_end : goal.returns-clause-not_the_end
returns-clause-not_the_end c = not-at-1
