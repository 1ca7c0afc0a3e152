-- Marks of ids, and the ids that clone data name.
use Rattle.std.proofs.Common.{◌≡◌, ◌≢◌, ℕ, zero, suc, ◌+◌, ◌<◌, ◌≤◌, Bool, true, false, cond, ◌||◌, inl, inr, List, [], ◌∷◌, ◌++◌, Some, length, map, flat_map, filter, take, set, get_or, refl, sym, ap, ap₂, subst, ◌∙◌, true≢false, arith, nat_eq, append_assoc, append-nil, ⊎_elim}
use Rattle.std.proofs.lemmas.Bool.{eq-eqb}
use Rattle.std.proofs.lemmas.Map.Views.{exact_unsigned_eq}
use Rattle.std.specs.Prelude.{slice_get}
use Rattle.std.specs.List.{AllByRecursion, range_with_len}
use Rattle.std.proofs.lemmas.List.{get_or-set_other, length-set, take_more}
use Rattle.std.proofs.lemmas.Grind.{get_or-set_at, flat_map-append}
use Rattle.id_groups.specs.Lists.{IsIn, is_in}
use Rattle.segment_codec.specs.Record.{Segment}
use Rattle.segment_codec.proofs.Tables.{le_or_lt}
use Rattle.remote_rules.specs.CloneData.{merge_parents}
use Rattle.remote_answers.specs.Marks.{AreMarks, IsWithin, stored_by}

same-self : (x : ℕ) → nat_eq x x ≡ true
same-self x = eq-eqb x x refl

same-exact : (x y : ℕ) → nat_eq x y ≡ true → x ≡ y
same-exact x y h = exact_unsigned_eq x y h

or-false : (b : Bool) → (b || false) ≡ b
or-false true = refl
or-false false = refl

or-true : (b : Bool) → (b || true) ≡ true
or-true true = refl
or-true false = refl

or-assoc : (a b c : Bool) → (a || (b || c)) ≡ ((a || b) || c)
or-assoc true b c = refl
or-assoc false b c = refl

-- whether an id is one of two lists'
pub in-both : (k : ℕ) (xs ys : List ℕ) → is_in nat_eq k (xs ++ ys) ≡ (is_in nat_eq k xs || is_in nat_eq k ys)
in-both k [] ys = refl
in-both k (x ∷ xs) ys = ap (λ b. nat_eq k x || b) (in-both k xs ys) ∙ or-assoc (nat_eq k x) (is_in nat_eq k xs) (is_in nat_eq k ys)

in-last : (k : ℕ) (xs : List ℕ) (x : ℕ) → is_in nat_eq k (xs ++ x ∷ []) ≡ (is_in nat_eq k xs || nat_eq k x)
in-last k xs x = in-both k xs (x ∷ []) ∙ ap (λ b. is_in nat_eq k xs || b) (or-false (nat_eq k x))

differ : (k x : ℕ) → nat_eq k x ≡ false → k ≢ x
differ k x e f = true≢false (sym (same-self x) ∙ ap (λ z. nat_eq z x) (sym f) ∙ e)

-- one id more is marked
pub one-marked : (count : ℕ) (ids : List ℕ) (marks : List Bool) (id : ℕ) → AreMarks count ids marks → id < length marks → AreMarks count (ids ++ id ∷ []) (set marks id true)
one-marked count ids marks id m lt = record { size = length-set marks id true ∙ m.size; each = λ k under. by_test k under (nat_eq k id) refl }
  where
    by_test : (k : ℕ) → k < count → (b : Bool) → nat_eq k id ≡ b → get_or (set marks id true) k false ≡ is_in nat_eq k (ids ++ id ∷ [])
    by_test k under true e =
        get_or-set_at marks id k true false (same-exact k id e) lt
        ∙ sym (in-last k ids id ∙ ap (λ b. is_in nat_eq k ids || b) e ∙ or-true (is_in nat_eq k ids))
    by_test k under false e =
        get_or-set_other marks id k true false (differ k id e) ∙ m.each k under
        ∙ sym (in-last k ids id ∙ ap (λ b. is_in nat_eq k ids || b) e ∙ or-false (is_in nat_eq k ids))

-- the ids that clone data name, as the highest ones and the parents of merges
turned : (a b c d : Bool) → (a || (b || (c || d))) ≡ ((a || c) || (b || d))
turned true b c d = refl
turned false true true d = refl
turned false true false d = refl
turned false false c d = refl

pub in-stored : (k : ℕ) (segments : List Segment) → is_in nat_eq k (flat_map stored_by segments)
    ≡ (is_in nat_eq k (map (λ (s : Segment). s.high) segments) || is_in nat_eq k (flat_map (λ (s : Segment). merge_parents s.parents) segments))
in-stored k [] = refl
in-stored k (s ∷ more) =
    in-both k (stored_by s) (flat_map stored_by more)
    ∙ ap (λ b. (nat_eq k s.high || is_in nat_eq k (merge_parents s.parents)) || b) (in-stored k more)
    ∙ sym (or-assoc (nat_eq k s.high) (is_in nat_eq k (merge_parents s.parents)) (is_in nat_eq k (map (λ (t : Segment). t.high) more) || is_in nat_eq k (flat_map (λ (t : Segment). merge_parents t.parents) more)))
    ∙ turned (nat_eq k s.high) (is_in nat_eq k (merge_parents s.parents)) (is_in nat_eq k (map (λ (t : Segment). t.high) more)) (is_in nat_eq k (flat_map (λ (t : Segment). merge_parents t.parents) more))
    ∙ ap (λ b. (nat_eq k s.high || is_in nat_eq k (map (λ (t : Segment). t.high) more)) || b) (sym (in-both k (merge_parents s.parents) (flat_map (λ (t : Segment). merge_parents t.parents) more)))

-- ---- tests that agree

pub filter-same : {X : Type 0} (f g : X → Bool) (xs : List X) → ((x : X) → IsIn x xs → f x ≡ g x) → filter f xs ≡ filter g xs
filter-same f g [] h = refl
filter-same f g (x ∷ xs) h =
    ap₂ (λ (b : Bool) rest. cond b (x ∷ rest) rest) (h x (inl refl)) (filter-same f g xs (λ y i. h y (inr i)))

pub range-under : (a n id : ℕ) → IsIn id (range_with_len a n) → (a ≤ id) × (id < a + n)
range-under a zero id i = absurd i
range-under a (suc n) id (inl e) = (omega (arith, e), omega (arith, e))
range-under a (suc n) id (inr i) = let r = range-under (a + 1) n id i in let lo = r.0 in let hi = r.1 in (omega (arith, lo), omega (arith, hi))

pub range-in : (a n x : ℕ) → a ≤ x → x < a + n → IsIn x (range_with_len a n)
range-in a zero x le lt = absurd (omega (arith, le, lt))
range-in a (suc n) x le lt = ⊎_elim (λ e. inl (omega (arith, le, e))) (λ l. inr (range-in (a + 1) n x (omega (arith, l)) (omega (arith, lt)))) (le_or_lt x a)

pub range-more : (a n : ℕ) → range_with_len a (n + 1) ≡ range_with_len a n ++ (a + n) ∷ []
range-more a zero = ap (λ k. k ∷ []) (let e : a ≡ a + 0 = omega arith in e)
range-more a (suc n) = ap (range_with_len a) (let e : suc n + 1 ≡ suc (n + 1) = omega arith in e) ∙ ap (λ l. a ∷ l) (range-more (a + 1) n ∙ ap (λ k. range_with_len (a + 1) n ++ k ∷ []) (let e : a + 1 + n ≡ a + suc n = omega arith in e))

-- segments whose ids are below a count
pub high-within : (count : ℕ) (segments : List Segment) → AllByRecursion (IsWithin count) segments → (id : ℕ) → IsIn id (map (λ (s : Segment). s.high) segments) → id < count
high-within count [] h id i = absurd i
high-within count (s ∷ more) h id (inl e) = let lt = h.0.0 in omega (arith, lt, e)
high-within count (s ∷ more) h id (inr i) = high-within count more h.1 id i

pub take-one : (xs : List Segment) (k : ℕ) (s : Segment) → slice_get xs k ≡ Some s → take (k + 1) xs ≡ take k xs ++ s ∷ []
take-one [] zero s e = cc
take-one [] (suc k) s e = cc
take-one (x ∷ xs) zero s e = let same : x ≡ s = cc e in ap (λ z. z ∷ []) same
take-one (x ∷ xs) (suc k) s e = ap (λ n. take n (x ∷ xs)) (let z : suc k + 1 ≡ suc (k + 1) = omega arith in z) ∙ ap (λ l. x ∷ l) (take-one xs k s e)

-- ---- the loops

all-get : (P : ℕ → Type 0) (xs : List ℕ) (i : ℕ) → AllByRecursion P xs → i < length xs → P (get_or xs i 0)
all-get P [] i h lt = absurd (omega (arith, lt))
all-get P (x ∷ xs) zero h lt = h.0
all-get P (x ∷ xs) (suc i) h lt = all-get P xs i h.1 (omega (arith, lt))

-- one id more of a list is marked
pub mark-more : (count : ℕ) (before ids : List ℕ) (marks : List Bool) (i n : ℕ) → AreMarks count (before ++ take i ids) marks → i < length ids → AllByRecursion (λ id. id < n) ids → length marks ≡ n
    → AreMarks count (before ++ take (i + 1) ids) (set marks (get_or ids i 0) true)
mark-more count before ids marks i n m lt all size =
    let under = all-get (λ id. id < n) ids i all lt in
    subst (λ l. AreMarks count l (set marks (get_or ids i 0) true))
    (append_assoc before (take i ids) (get_or ids i 0 ∷ []) ∙ ap (λ l. before ++ l) (sym (take_more ids i 0 lt)))
    (one-marked count (before ++ take i ids) marks (get_or ids i 0) m (omega (arith, under, size)))

-- the ids of one segment more are marked
pub mark-segment : (f : Segment → List ℕ) (count : ℕ) (segments : List Segment) (i : ℕ) (s : Segment) (marks : List Bool) → slice_get segments i ≡ Some s → AreMarks count (flat_map f (take i segments) ++ f s) marks
    → AreMarks count (flat_map f (take (i + 1) segments)) marks
mark-segment f count segments i s marks e m =
    subst (λ l. AreMarks count l marks)
    (sym (ap (flat_map f) (take-one segments i s e) ∙ flat_map-append f (take i segments) (s ∷ []) ∙ ap (λ l. flat_map f (take i segments) ++ l) (append-nil (f s)))) m
