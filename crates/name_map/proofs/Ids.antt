-- Ids that ascend: where one stands among them, and how many are below a bound.
use Rattle.std.proofs.Common.{Vec, Global, ◌^◌, ◌≡◌, ℕ, zero, suc, ◌+◌, ◌-◌, ◌<◌, ◌≤◌, min, Bool, true, false, List, [], ◌∷◌, length, take, drop, get_or, refl, sym, ap, ◌∙◌, subst, inl, inr, ◌⊎◌, arith, zero-le, suc-le-suc, le_of_suc-le-suc}
use Rattle.std.specs.Prelude.{nat_lt, Some}
use Rattle.std.specs.List.{AllByRecursion, AllWithin}
use Rattle.std.specs.List.Sorted.{IsPartitionedBy}
use Rattle.std.proofs.lemmas.List.{get_or_default}
use Rattle.std.proofs.lemmas.Bool.{ltb-true, ltb-false, lt-ltb, le-ltb, cases_lt}
use Rattle.id_groups.specs.Lists.{IsIn}
use Rattle.batch_codec.specs.Reading.{ids_ascend}
use Rattle.batch_codec.proofs.Ascending.{in-turn, ascend-wider}
use Rattle.name_map.specs.declared.part.KnownIds.{KnownIds}
use Rattle.name_map.specs.declared.part.KnownIds.TheVariants.{Listed}
use Rattle.name_map.specs.Part.{upward, ids_of, count_below, IsIndexIn}

-- ---- the index of what is in a list

-- what is in the list has an index
pub record IndexOf (x : ℕ) (xs : List ℕ) : Type 0 where
  pub index : ℕ
  pub within : index < length xs
  pub is : get_or xs index 0 ≡ x

pub index-of : (x : ℕ) (xs : List ℕ) → IsIn x xs → IndexOf x xs
index-of x [] h = absurd h
index-of x (y ∷ ys) (inl e) = record { index = 0; within = omega arith; is = sym e }
index-of x (y ∷ ys) (inr h) = let r = index-of x ys h in let w = r.within in record { index = suc r.index; within = omega (arith, w); is = r.is }

pub at-index : (xs : List ℕ) (k : ℕ) → k < length xs → IsIn (get_or xs k 0) xs
at-index [] k lt = absurd (omega (arith, lt))
at-index (x ∷ xs) zero lt = inl refl
at-index (x ∷ xs) (suc k) lt = inr (at-index xs k (le_of_suc-le-suc lt))

-- ---- ids without a gap

pub upward-length : (first n : ℕ) → length (upward first n) ≡ n
upward-length first zero = refl
upward-length first (suc n) = ap suc (upward-length (first + 1) n)

pub upward-at : (first n k : ℕ) → k < n → get_or (upward first n) k 0 ≡ first + k
upward-at first zero k lt = absurd (omega (arith, lt))
upward-at first (suc n) zero lt = omega arith
upward-at first (suc n) (suc k) lt = let r = upward-at (first + 1) n k (le_of_suc-le-suc lt) in omega (arith, r)

pub in-upward : (x first n : ℕ) → IsIn x (upward first n) → (first ≤ x) × (x < first + n)
in-upward x first zero h = absurd h
in-upward x first (suc n) (inl e) = (omega (arith, e), omega (arith, e))
in-upward x first (suc n) (inr h) = let r = in-upward x (first + 1) n h in let a = r.0 in let b = r.1 in (omega (arith, a), omega (arith, b))

pub row-none : (first n x : ℕ) → (x < first) ⊎ (n ≤ x - first) → IsIn x (upward first n) → ⊥
row-none first n x (inl lt) h = let r = in-upward x first n h in let a = r.0 in absurd (omega (arith, a, lt))
row-none first n x (inr le) h = let r = in-upward x first n h in let a = r.0 in let b = r.1 in absurd (omega (arith, a, b, le))

pub row-some : (first n x : ℕ) → first ≤ x → x - first < n → IsIndexIn (upward first n) x (Some (x - first))
row-some first n x le lt = (omega (arith, lt, upward-length first n), let r = upward-at first n (x - first) lt in omega (arith, r, le))

pub row-count : (n first c : ℕ) → count_below n (upward first c) ≡ min (n - first) c
row-count n first zero = omega arith
row-count n first (suc c) = by-case (nat_lt first n) refl (row-count n (first + 1) c)
  where
    by-case : (b : Bool) → nat_lt first n ≡ b → count_below n (upward (first + 1) c) ≡ min (n - (first + 1)) c → count_below n (upward first (suc c)) ≡ min (n - first) (suc c)
    by-case true e h = let lt = ltb-true first n e in rw e (omega (arith, lt, h))
    by-case false e h = let le = ltb-false first n e in rw e (omega (arith, le, h))

-- ---- ids that are kept

pub ids-parted : (n least end : ℕ) (ids : List ℕ) → ids_ascend least end ids ≡ true → IsPartitionedBy (λ (id : ℕ). nat_lt id n) ids
ids-parted n least end ids h i j d le lt t =
    let less : get_or ids j 0 < n = let a = ltb-true _ _ t in let e = get_or_default ids j d 0 lt in omega (arith, a, e) in
    let inside : i < length ids = omega (arith, le, lt) in
    let same = get_or_default ids i d 0 inside in
    elim (cases_lt i j) [
      | inl before ↦ let turn = in-turn least end ids i j h before lt in lt-ltb _ _ (omega (arith, same, turn, less))
      | inr behind ↦ let e : i ≡ j = omega (arith, le, behind) in let at = ap (λ (k : ℕ). get_or ids k 0) e in lt-ltb _ _ (omega (arith, same, at, less))
    ]

pub less-point : (n k : ℕ) (ids : List ℕ) → AllWithin (λ (id : ℕ). nat_lt id n ≡ true) ids 0 k → AllByRecursion (λ id. id < n) (take k ids)
less-point n zero ids h = tt
less-point n (suc k) [] h = tt
less-point n (suc k) (id ∷ ids) h = (ltb-true _ _ (h 0 id zero-le (omega arith)), less-point n k ids (λ i d a b. h (suc i) d zero-le (suc-le-suc b)))

pub rest-point : (n k : ℕ) (ids : List ℕ) → AllWithin (λ (id : ℕ). nat_lt id n ≡ false) ids k (length ids) → AllByRecursion (λ id. n ≤ id) (drop k ids)
rest-point n zero [] h = tt
rest-point n zero (id ∷ ids) h = (ltb-false _ _ (h 0 id zero-le (omega arith)), rest-point n zero ids (λ i d a b. h (suc i) d zero-le (suc-le-suc b)))
rest-point n (suc k) [] h = tt
rest-point n (suc k) (id ∷ ids) h = rest-point n k ids (λ i d a b. h (suc i) d (suc-le-suc a) (suc-le-suc b))

-- what the search leaves before its index and from it on
less-at : (n k : ℕ) (ids : List ℕ) (i : ℕ) → AllByRecursion (λ id. id < n) (take k ids) → i < k → i < length ids → get_or ids i 0 < n
less-at n zero ids i h lt within = absurd (omega (arith, lt))
less-at n (suc k) [] i h lt within = absurd (omega (arith, within))
less-at n (suc k) (id ∷ ids) zero h lt within = h.0
less-at n (suc k) (id ∷ ids) (suc i) h lt within = less-at n k ids i h.1 (le_of_suc-le-suc lt) (le_of_suc-le-suc within)

rest-at : (n k : ℕ) (ids : List ℕ) (i : ℕ) → AllByRecursion (λ id. n ≤ id) (drop k ids) → k ≤ i → i < length ids → n ≤ get_or ids i 0
rest-at n k [] i h le within = absurd (omega (arith, within))
rest-at n zero (id ∷ ids) zero h le within = h.0
rest-at n zero (id ∷ ids) (suc i) h le within = rest-at n zero ids i h.1 zero-le (le_of_suc-le-suc within)
rest-at n (suc k) (id ∷ ids) zero h le within = absurd (omega (arith, le))
rest-at n (suc k) (id ∷ ids) (suc i) h le within = rest-at n k ids i h (le_of_suc-le-suc le) (le_of_suc-le-suc within)

-- the searched one isn't there where it doesn't stand at the index
pub among-none : (n k least end : ℕ) (ids : List ℕ) → ids_ascend least end ids ≡ true → AllByRecursion (λ id. id < n) (take k ids) → AllByRecursion (λ id. n ≤ id) (drop k ids)
    → (k < length ids → get_or ids k 0 ≡ n → ⊥) → IsIn n ids → ⊥
among-none n k least end ids up less rest other h =
    let r = index-of n ids h in let is = r.is in let within = r.within in
    elim (cases_lt r.index k) [
      | inl lt ↦ let small = less-at n k ids r.index less lt within in omega (arith, small, is)
      | inr le ↦ elim (cases_lt k r.index) [
        | inl lt ↦
            let here = rest-at n k ids k rest (omega arith) (omega (arith, lt, within)) in
            let turn = in-turn least end ids k r.index up lt within in omega (arith, here, turn, is)
        | inr ge ↦ let e : r.index ≡ k = omega (arith, le, ge) in other (omega (arith, e, within)) (ap (λ (i : ℕ). get_or ids i 0) (sym e) ∙ is)
      ]
    ]

pub among-count : (n k : ℕ) (ids : List ℕ) → k ≤ length ids → AllByRecursion (λ id. id < n) (take k ids) → AllByRecursion (λ id. n ≤ id) (drop k ids) → count_below n ids ≡ k
among-count n zero [] le less rest = refl
among-count n zero (id ∷ ids) le less rest = rw (le-ltb id n rest.0) (among-count n zero ids zero-le tt rest.1)
among-count n (suc k) [] le less rest = absurd (omega (arith, le))
among-count n (suc k) (id ∷ ids) le less rest = rw (lt-ltb id n less.0) (ap suc (among-count n k ids (le_of_suc-le-suc le) less.1 rest))

pub count-within : (n : ℕ) (ids : List ℕ) → count_below n ids ≤ length ids
count-within n [] = omega arith
count-within n (id ∷ ids) = by-case (nat_lt id n) refl (count-within n ids)
  where
    by-case : (b : Bool) → nat_lt id n ≡ b → count_below n ids ≤ length ids → count_below n (id ∷ ids) ≤ suc (length ids)
    by-case true e h = rw e (omega (arith, h))
    by-case false e h = rw e (omega (arith, h))

-- the ids of a part ascend where they are kept
pub listed-ascend : (first : ℕ) (kept : KnownIds) (ids : Vec ℕ Global) (lent : List ℕ) → ids_ascend first (2 ^ 57) (ids_of first kept) ≡ true → kept ≡ Listed ids → lent ≡ ids.items → ids_ascend 0 (2 ^ 57) lent ≡ true
listed-ascend first kept ids lent up is e =
    let same : ids_of first kept ≡ lent = ap (ids_of first) is ∙ sym e in
    ascend-wider first (2 ^ 57) 0 (2 ^ 57) lent zero-le (omega arith) (subst (λ (z : List ℕ). ids_ascend first (2 ^ 57) z ≡ true) same up)

-- a count of what is kept fits with those before it
pub fits-count : (n rank first : ℕ) (kept other : KnownIds) (count : ℕ) → rank + length (ids_of first kept) < 2 ^ 63 → kept ≡ other → count ≡ count_below n (ids_of first other) → rank + count < 2 ^ 64
fits-count n rank first kept other count small is e =
    let within = count-within n (ids_of first kept) in
    let same = e ∙ ap (λ (z : KnownIds). count_below n (ids_of first z)) (sym is) in
    omega (arith, small, within, same)
