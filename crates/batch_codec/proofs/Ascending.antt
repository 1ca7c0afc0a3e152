-- Ids that ascend, and the search among them.
use Rattle.std.proofs.Common.{◌≡◌, ℕ, zero, suc, ◌+◌, ◌-◌, ◌<◌, ◌≤◌, Bool, true, false, ltb, leb, eqb, ◌&&◌, ◌||◌, List, [], ◌∷◌, length, take, drop, get_or, refl, sym, subst, inl, inr, ◌⊎◌, arith}
use Rattle.std.specs.Prelude.{nat_eq}
use Rattle.std.specs.Int.{w64, from_be_bytes}
use Rattle.std.specs.List.{AllByRecursion}
use Rattle.std.specs.List.Sorted.{IsStrictlyIncreasing}
use Rattle.std.proofs.lemmas.Bool.{and_parts, and_left, and_right, ltb-true, lt-ltb, le-ltb, leb-true, le-leb, lt-leb, eq-eqb, ne_eqb, cases_eq, cases_lt}
use Rattle.id_groups.specs.Lists.{is_in}
use Rattle.batch_codec.specs.Reading.{ids_in, ids_ascend}

-- what one id says
pub ascend-parts : (least end id : ℕ) (ids : List ℕ) → ids_ascend least end (id ∷ ids) ≡ true → (least ≤ id) × (id < end) × (ids_ascend (id + 1) end ids ≡ true)
ascend-parts least end id ids h =
    let p = and_parts (leb least id && ltb id end) (ids_ascend (id + 1) end ids) h in
    let q = and_parts (leb least id) (ltb id end) p.0 in
    (leb-true least id q.0, ltb-true id end q.1, p.1)

pub ascend-made : (least end id : ℕ) (ids : List ℕ) → least ≤ id → id < end → ids_ascend (id + 1) end ids ≡ true → ids_ascend least end (id ∷ ids) ≡ true
ascend-made least end id ids le lt h = rw (le-leb least id le, lt-ltb id end lt) h

pub ascend-wider : (least end least' end' : ℕ) (ids : List ℕ) → least' ≤ least → end ≤ end' → ids_ascend least end ids ≡ true → ids_ascend least' end' ids ≡ true
ascend-wider least end least' end' [] le ge h = refl
ascend-wider least end least' end' (id ∷ ids) le ge h =
    let p = ascend-parts least end id ids h in
    let low = p.0 in let high = p.1 in
    ascend-made least' end' id ids (omega (arith, low, le)) (omega (arith, high, ge)) (ascend-wider (id + 1) end (id + 1) end' ids (omega arith) ge p.2)

pub ascend-each : (least end : ℕ) (ids : List ℕ) → ids_ascend least end ids ≡ true → AllByRecursion (λ id. (least ≤ id) × (id < end)) ids
ascend-each least end [] h = tt
ascend-each least end (id ∷ ids) h =
    let p = ascend-parts least end id ids h in
    ((p.0, p.1), ascend-each least end ids (let low = p.0 in ascend-wider (id + 1) end least end ids (omega (arith, low)) (omega arith) p.2))

above : (least end : ℕ) (ids : List ℕ) (k : ℕ) → ids_ascend least end ids ≡ true → k < length ids → least ≤ get_or ids k 0
above least end [] k h lt = absurd (omega (arith, lt))
above least end (id ∷ ids) zero h lt = (ascend-parts least end id ids h).0
above least end (id ∷ ids) (suc k) h lt =
    let p = ascend-parts least end id ids h in
    let low = p.0 in
    omega (arith, low, above (id + 1) end ids k p.2 (omega (arith, lt)))

pub below : (least end : ℕ) (ids : List ℕ) (k : ℕ) → ids_ascend least end ids ≡ true → k < length ids → get_or ids k 0 < end
below least end [] k h lt = absurd (omega (arith, lt))
below least end (id ∷ ids) zero h lt = (ascend-parts least end id ids h).1
below least end (id ∷ ids) (suc k) h lt = below (id + 1) end ids k (ascend-parts least end id ids h).2 (omega (arith, lt))

pub in-turn : (least end : ℕ) (ids : List ℕ) (i j : ℕ) → ids_ascend least end ids ≡ true → i < j → j < length ids → get_or ids i 0 < get_or ids j 0
in-turn least end [] i j h lt le = absurd (omega (arith, le))
in-turn least end (id ∷ ids) i zero h lt le = absurd (omega (arith, lt))
in-turn least end (id ∷ ids) zero (suc j) h lt le = let up = above (id + 1) end ids j (ascend-parts least end id ids h).2 (omega (arith, le)) in omega (arith, up)
in-turn least end (id ∷ ids) (suc i) (suc j) h lt le = in-turn (id + 1) end ids i j (ascend-parts least end id ids h).2 (omega (arith, lt)) (omega (arith, le))

pub ascend-increasing : (least end : ℕ) (ids : List ℕ) → ids_ascend least end ids ≡ true → IsStrictlyIncreasing ids
ascend-increasing least end ids h k lt = in-turn least end ids k (k + 1) h (omega arith) lt

pub increasing-ascend : (least end : ℕ) (ids : List ℕ) → (0 < length ids → least ≤ get_or ids 0 0) → AllByRecursion (λ id. id < end) ids → IsStrictlyIncreasing ids → ids_ascend least end ids ≡ true
increasing-ascend least end [] first each h = refl
increasing-ascend least end (id ∷ ids) first each h =
    ascend-made least end id ids (first (omega arith)) each.0
    (increasing-ascend (id + 1) end ids
    (λ some. let up = h 0 (omega (arith, some)) in omega (arith, up)) each.1
    (λ k lt. let e : suc k + 1 ≡ suc (k + 1) = omega arith in let up = h (suc k) (omega (arith, lt)) in rw e at up))

-- ---- the loop over entries

stop-one : (least after id : ℕ) (ids : List ℕ) → (id < least) ⊎ (after ≤ id) → ids_ascend least after (id ∷ ids) ≡ false
stop-one least after id ids (inl lt) = and_left (leb least id && ltb id after) (ids_ascend (id + 1) after ids) (and_left (leb least id) (ltb id after) (lt-leb least id lt))
stop-one least after id ids (inr le) = and_left (leb least id && ltb id after) (ids_ascend (id + 1) after ids) (and_right (leb least id) (ltb id after) (le-ltb id after le))

pub entry-stop : (least after n i : ℕ) (rest : List ℕ) (id : ℕ) → i < n → id ≡ from_be_bytes w64 (take 8 rest) → (id < least) ⊎ (after ≤ id)
    → ids_ascend least after (ids_in (n - i) rest) ≡ false
entry-stop least after n i rest id lt e h =
    let k : n - i ≡ suc (n - (i + 1)) = omega arith in
    rw k (subst (λ (x : ℕ). ids_ascend least after (x ∷ ids_in (n - (i + 1)) (drop 28 rest)) ≡ false) e (stop-one least after id (ids_in (n - (i + 1)) (drop 28 rest)) h))

next-one : (least after id : ℕ) (ids : List ℕ) → least ≤ id → id < after → ids_ascend least after (id ∷ ids) ≡ ids_ascend (id + 1) after ids
next-one least after id ids le lt = rw (le-leb least id le, lt-ltb id after lt) refl

pub entry-next : (least after n i : ℕ) (rest : List ℕ) (id : ℕ) → i < n → id ≡ from_be_bytes w64 (take 8 rest) → least ≤ id → id < after
    → ids_ascend (id + 1) after (ids_in (n - (i + 1)) (drop 28 rest)) ≡ ids_ascend least after (ids_in (n - i) rest)
entry-next least after n i rest id lt e le small =
    let k : n - i ≡ suc (n - (i + 1)) = omega arith in
    rw k (sym (subst (λ (x : ℕ). ids_ascend least after (x ∷ ids_in (n - (i + 1)) (drop 28 rest)) ≡ ids_ascend (id + 1) after (ids_in (n - (i + 1)) (drop 28 rest))) e
    (next-one least after id (ids_in (n - (i + 1)) (drop 28 rest)) le small)))

-- ---- the search

pub found-at : (n : ℕ) (ids : List ℕ) (k : ℕ) → k < length ids → get_or ids k 0 ≡ n → is_in nat_eq n ids ≡ true
found-at n [] k lt e = absurd (omega (arith, lt))
found-at n (id ∷ ids) zero lt e = let t : eqb n id ≡ true = eq-eqb n id (sym e) in rw t refl
found-at n (id ∷ ids) (suc k) lt e = or-right (eqb n id) (is_in nat_eq n ids) (found-at n ids k (omega (arith, lt)) e)
  where
    or-right : (b c : Bool) → c ≡ true → (b || c) ≡ true
    or-right true c h = refl
    or-right false c h = h

pub none-at : (n : ℕ) (ids : List ℕ) → ((k : ℕ) → k < length ids → get_or ids k 0 ≡ n → ⊥) → is_in nat_eq n ids ≡ false
none-at n [] h = refl
none-at n (id ∷ ids) h =
    let t : eqb n id ≡ false = ne_eqb n id (λ e. h 0 (omega arith) (sym e)) in
    rw t (none-at n ids (λ k lt. h (suc k) (omega (arith, lt))))

pub record Searching (ids : List ℕ) (count number low high : ℕ) : Type 0 where
  pub order : low ≤ high
  pub bound : high ≤ count
  pub less : (k : ℕ) → k < low → get_or ids k 0 < number
  pub greater : (k : ℕ) → high ≤ k → k < count → number < get_or ids k 0

pub search-starts : (ids : List ℕ) (count number : ℕ) → Searching ids count number 0 count
search-starts ids count number = record {
  order = omega arith;
  bound = omega arith;
  less = λ k lt. absurd (omega (arith, lt));
  greater = λ k over short. absurd (omega (arith, over, short));
}

at-most : (end : ℕ) (ids : List ℕ) (k j : ℕ) → ids_ascend 0 end ids ≡ true → k ≤ j → j < length ids → get_or ids k 0 ≤ get_or ids j 0
at-most end ids k j h le lt = elim (cases_eq k j) [
  | inl e ↦ subst (λ (x : ℕ). get_or ids k 0 ≤ get_or ids x 0) e (omega arith)
  | inr ne ↦ let up = in-turn 0 end ids k j h (omega (arith, le, ne)) lt in omega (arith, up)
]

pub search-narrow : (end : ℕ) (ids : List ℕ) (count number low middle high found : ℕ) (r : ℕ × ℕ) → length ids ≡ count → ids_ascend 0 end ids ≡ true
    → Searching ids count number low high → low ≤ middle → middle < high → found ≡ get_or ids middle 0 → (found ≡ number → ⊥)
    → (ltb found number ≡ true → r ≡ (middle + 1, high)) → (ltb found number ≡ false → r ≡ (low, middle)) → Searching ids count number r.0 r.1
search-narrow end ids count number low middle high found r many up h le lt e other above-is below-is =
    let bound = h.bound in
    elim (cases_lt found number) [
      | inl small ↦ subst (λ (z : ℕ × ℕ). Searching ids count number z.0 z.1) (sym (above-is (lt-ltb found number small))) (record {
        order = omega (arith, lt);
        bound = bound;
        less = λ k below. let most = at-most end ids k middle up (omega (arith, below)) (omega (arith, lt, bound, many)) in omega (arith, most, small, e);
        greater = h.greater;
      })
      | inr large ↦ subst (λ (z : ℕ × ℕ). Searching ids count number z.0 z.1) (sym (below-is (le-ltb found number large))) (record {
        order = le;
        bound = omega (arith, lt, bound);
        less = h.less;
        greater = λ k over short. let more = at-most end ids middle k up over (omega (arith, short, many)) in omega (arith, more, large, other, e);
      })
    ]

pub search-ends : (ids : List ℕ) (count number low high : ℕ) → length ids ≡ count → Searching ids count number low high → high ≤ low → is_in nat_eq number ids ≡ false
search-ends ids count number low high many h le = none-at number ids (λ k short e. elim (cases_lt k low) [
  | inl lt ↦ let less = h.less k lt in absurd (omega (arith, less, e))
  | inr ge ↦ let more = h.greater k (omega (arith, le, ge)) (omega (arith, short, many)) in absurd (omega (arith, more, e))
])
