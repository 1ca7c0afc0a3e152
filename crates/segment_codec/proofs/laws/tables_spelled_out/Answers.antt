use Rattle.std.proofs.Common.{◌≡◌, ◌^◌, ◌+◌, ◌<◌, ◌≤◌, ℕ, List, [], ◌∷◌, ◌++◌, refl, inl, inr, ap, arith}
use Rattle.id_groups.specs.Lists.{IsIn}
use Rattle.segment_codec.specs.Record.{Segment}
use Rattle.segment_codec.specs.Table.{IsInSegment, parents_at, Follow}
use Rattle.segment_codec.specs.Examples.{small_table, gapped_table}
use Rattle.segment_codec.proofs.Examples.{one-of}
use Rattle.segment_codec.proofs.laws.tables_spelled_out.Goals as goal

pub returns-clause-covered : goal.returns-clause-covered
returns-clause-covered c = record {
  front = record { low = 0; high = 2; level = 0; parents = [] } ∷ record { low = 3; high = 4; level = 0; parents = 1 ∷ [] }
      ∷ record { low = 5; high = 5; level = 0; parents = 4 ∷ 2 ∷ [] } ∷ [];
  back = record { low = 2 ^ 56; high = 2 ^ 56 + 1; level = 0; parents = 5 ∷ [] } ∷ [];
  parts = refl;
  master_ids = (refl, omega arith, (refl, omega arith, (refl, omega arith, refl)));
  other_ids = (refl, omega arith, refl);
  room = omega arith;
}

abbrev lows : List Segment → List ℕ
lows [] = []
lows (s ∷ rest) = s.low ∷ lows rest

abbrev first-high : List Segment → ℕ
first-high [] = 0
first-high (s ∷ rest) = s.high

abbrev first : List ℕ → ℕ
first [] = 9
first (x ∷ xs) = x

abbrev second : List ℕ → ℕ
second [] = 9
second (x ∷ xs) = first xs

no-cover : (master others : ℕ) (front back : List Segment) → gapped_table ≡ front ++ back → Follow 0 master front → Follow (2 ^ 56) (2 ^ 56 + others) back → ⊥
no-cover master others [] [] e f b = let wrong : 0 ≡ 9 = ap (λ t. first (lows t)) e in omega (arith, wrong)
no-cover master others [] (s ∷ back) e f b =
    let here : 0 ≡ s.low = ap (λ t. first (lows t)) e in
    let low : s.low ≡ 2 ^ 56 = b.0 in omega (arith, here, low)
no-cover master others (s ∷ []) [] e f b = let wrong : 4 ≡ 9 = ap (λ t. second (lows t)) e in omega (arith, wrong)
no-cover master others (s ∷ []) (t ∷ back) e f b =
    let here : 4 ≡ t.low = ap (λ t. second (lows t)) e in
    let low : t.low ≡ 2 ^ 56 = b.0 in omega (arith, here, low)
no-cover master others (s ∷ t ∷ front) back e f b =
    let here : 4 ≡ t.low = ap (λ t. second (lows t)) e in
    let high : 2 ≡ s.high = ap first-high e in
    let low : t.low ≡ s.high + 1 = f.2.0 in omega (arith, here, high, low)

pub returns-clause-gap : goal.returns-clause-gap
returns-clause-gap c = λ master others h. no-cover master others h.front h.back h.parts h.master_ids h.other_ids

-- 3 is a parent of 4, and 4 of 5
heads-behind : (y : ℕ) → 3 ≤ y → y < 5 → (child : ℕ) × IsInSegment child (record { low = 3; high = 5; level = 1; parents = 1 ∷ 2 ∷ [] }) × IsIn y (parents_at small_table child)
heads-behind y a b =
    one-of (λ y. (child : ℕ) × IsInSegment child (record { low = 3; high = 5; level = 1; parents = 1 ∷ 2 ∷ [] }) × IsIn y (parents_at small_table child)) 3 2 y a b
    ((4, (omega arith, omega arith), inl refl), ((5, (omega arith, omega arith), inl refl), tt))

out-of-3 : (p : ℕ) → IsIn {X = ℕ} p (1 ∷ []) → p < 3 → IsIn {X = ℕ} p (1 ∷ 2 ∷ [])
out-of-3 p (inl e) lt = inl e
out-of-3 p (inr none) lt = absurd none

out-of-4 : (p : ℕ) → IsIn {X = ℕ} p (3 ∷ []) → p < 3 → IsIn {X = ℕ} p (1 ∷ 2 ∷ [])
out-of-4 p (inl e) lt = absurd (omega (arith, e, lt))
out-of-4 p (inr none) lt = absurd none

out-of-5 : (p : ℕ) → IsIn {X = ℕ} p (4 ∷ 2 ∷ []) → p < 3 → IsIn {X = ℕ} p (1 ∷ 2 ∷ [])
out-of-5 p (inl e) lt = absurd (omega (arith, e, lt))
out-of-5 p (inr (inl e)) lt = inr (inl e)
out-of-5 p (inr (inr none)) lt = absurd none

stored-of : (p : ℕ) → IsIn {X = ℕ} p (1 ∷ 2 ∷ []) → (child : ℕ) × IsInSegment child (record { low = 3; high = 5; level = 1; parents = 1 ∷ 2 ∷ [] }) × IsIn p (parents_at small_table child)
stored-of p (inl e) = (3, (omega arith, omega arith), inl e)
stored-of p (inr (inl e)) = (5, (omega arith, omega arith), inr (inl e))
stored-of p (inr (inr none)) = absurd none

pub returns-clause-headed : goal.returns-clause-headed
returns-clause-headed c = record {
  low_held = (record { low = 3; high = 4; level = 0; parents = 1 ∷ [] }, refl);
  high_held = (record { low = 5; high = 5; level = 0; parents = 4 ∷ 2 ∷ [] }, refl);
  one_head = λ y i below. heads-behind y i.0 below;
  outside = λ child p i at below.
      one-of (λ q. IsIn p (parents_at small_table q) → p < 3 → IsIn {X = ℕ} p (1 ∷ 2 ∷ [])) 3 3 child i.0 (omega (arith, i))
      (out-of-3 p, (out-of-4 p, (out-of-5 p, tt))) at below;
  stored = stored-of;
}

not-alone : (a : ℕ) → (2 ≡ a → ⊥) → IsIn {X = ℕ} 2 (a ∷ []) → ⊥
not-alone a other (inl e) = other e
not-alone a other (inr none) = none

pub returns-clause-two_heads : goal.returns-clause-two_heads
returns-clause-two_heads c = λ h.
    let r = h.one_head 2 (omega arith, omega arith) (omega arith) in
    one-of (λ child. IsIn {X = ℕ} 2 (parents_at small_table child) → ⊥) 0 4 r.0 (omega arith) (omega (arith, r.1))
    (λ i. i, (not-alone 0 (λ e. omega (arith, e)), (not-alone 1 (λ e. omega (arith, e)), (not-alone 1 (λ e. omega (arith, e)), tt)))) r.2
