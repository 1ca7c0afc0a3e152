-- Numbers that are put in order, each once.
use Rattle.std.proofs.Common.{◌≡◌, ℕ, ◌+◌, ◌<◌, ◌≤◌, ◌⊎◌, inl, inr, Bool, true, false, cond, List, [], ◌∷◌, ◌++◌, length, refl, sym, subst, ap, ◌∙◌, arith, ⊎_elim}
use Rattle.std.specs.Prelude.{nat_lt, nat_le, filter, flat_map}
use Rattle.std.proofs.lemmas.Bool.{ltb-true, ltb-false, le-leb, leb-true}
use Rattle.std.proofs.lemmas.List.Concat.{flat_map-cons}
use Rattle.std.specs.List.{AllByRecursion}
use Rattle.id_groups.specs.Lists.{IsIn}
use Rattle.id_groups.proofs.Listing.{and_true, both_true}
use Rattle.segment_codec.specs.Reading.{ascend_from}
use Rattle.segment_rules.specs.Levels.{with_number, ascending}

-- ---- membership

pub in-left : {X : Type 0} (x : X) (xs ys : List X) → IsIn x xs → IsIn x (xs ++ ys)
in-left x [] ys i = absurd i
in-left x (y ∷ xs) ys (inl e) = inl e
in-left x (y ∷ xs) ys (inr i) = inr (in-left x xs ys i)

pub in-right : {X : Type 0} (x : X) (xs ys : List X) → IsIn x ys → IsIn x (xs ++ ys)
in-right x [] ys i = i
in-right x (y ∷ xs) ys i = inr (in-right x xs ys i)

pub in-either : {X : Type 0} (x : X) (xs ys : List X) → IsIn x (xs ++ ys) → IsIn x xs ⊎ IsIn x ys
in-either x [] ys i = inr i
in-either x (y ∷ xs) ys (inl e) = inl (inl e)
in-either x (y ∷ xs) ys (inr i) = ⊎_elim (λ j. inl (inr j)) (λ j. inr j) (in-either x xs ys i)

in-kept-case : {X : Type 0} (p : X → Bool) (x y : X) (ys : List X) (b : Bool) → p y ≡ b → IsIn x (cond b (y ∷ ys) ys) → ((IsIn x ys) → (p x ≡ true)) → p x ≡ true
in-kept-case p x y ys true e (inl same) rest = ap p same ∙ e
in-kept-case p x y ys true e (inr i) rest = rest i
in-kept-case p x y ys false e i rest = rest i

-- what a filter keeps passes
pub kept-passes : {X : Type 0} (p : X → Bool) (xs : List X) (x : X) → IsIn x (filter p xs) → p x ≡ true
kept-passes p [] x i = absurd i
kept-passes p (y ∷ ys) x i = in-kept-case p x y (filter p ys) (p y) refl i (λ j. kept-passes p ys x j)

in-from-case : {X : Type 0} (x y : X) (ys zs : List X) (b : Bool) → IsIn x (cond b (y ∷ ys) ys) → (IsIn x ys → IsIn x zs) → IsIn x (y ∷ zs)
in-from-case x y ys zs true (inl e) rest = inl e
in-from-case x y ys zs true (inr i) rest = inr (rest i)
in-from-case x y ys zs false i rest = inr (rest i)

pub kept-in : {X : Type 0} (p : X → Bool) (xs : List X) (x : X) → IsIn x (filter p xs) → IsIn x xs
kept-in p [] x i = absurd i
kept-in p (y ∷ ys) x i = in-from-case x y (filter p ys) ys (p y) i (λ j. kept-in p ys x j)

to-kept-case : {X : Type 0} (p : X → Bool) (x y : X) (ys : List X) (b : Bool) → p y ≡ b → p x ≡ true → (x ≡ y) ⊎ IsIn x ys → IsIn x (cond b (y ∷ ys) ys)
to-kept-case p x y ys true e pass (inl same) = inl same
to-kept-case p x y ys true e pass (inr i) = inr i
to-kept-case p x y ys false e pass (inl same) = absurd (let t : true ≡ false = sym pass ∙ ap p same ∙ e in cc)
to-kept-case p x y ys false e pass (inr i) = i

pub in-kept : {X : Type 0} (p : X → Bool) (xs : List X) (x : X) → p x ≡ true → IsIn x xs → IsIn x (filter p xs)
in-kept p [] x pass i = absurd i
in-kept p (y ∷ ys) x pass (inl e) = to-kept-case p x y (filter p ys) (p y) refl pass (inl e)
in-kept p (y ∷ ys) x pass (inr i) = to-kept-case p x y (filter p ys) (p y) refl pass (inr (in-kept p ys x pass i))

pub in-some : {X Y : Type 0} (f : X → List Y) (xs : List X) (y : Y) → IsIn y (flat_map f xs) → (x : X) × IsIn x xs × IsIn y (f x)
in-some f [] y i = absurd i
in-some f (x ∷ xs) y i =
    ⊎_elim (λ j. (x, inl refl, j)) (λ j. let r = in-some f xs y j in (r.0, inr r.1, r.2))
    (in-either y (f x) (flat_map f xs) (subst (λ z. IsIn y z) (flat_map-cons f x xs) i))

pub some-in : {X Y : Type 0} (f : X → List Y) (xs : List X) (x : X) (y : Y) → IsIn x xs → IsIn y (f x) → IsIn y (flat_map f xs)
some-in f [] x y i j = absurd i
some-in f (z ∷ xs) x y (inl e) j = subst (λ w. IsIn y w) (sym (flat_map-cons f z xs)) (in-left y (f z) (flat_map f xs) (subst (λ w. IsIn y (f w)) e j))
some-in f (z ∷ xs) x y (inr i) j = subst (λ w. IsIn y w) (sym (flat_map-cons f z xs)) (in-right y (f z) (flat_map f xs) (some-in f xs x y i j))

-- ---- in order

-- each is above the ones before, and the first is at least so great
abbrev pub Ascend : ℕ → List ℕ → Type 0
Ascend least [] = Unit {0}
Ascend least (n ∷ more) = (least ≤ n) × Ascend (n + 1) more

pub ascend-means : (least : ℕ) (ns : List ℕ) → ascend_from least ns ≡ true → Ascend least ns
ascend-means least [] h = tt
ascend-means least (n ∷ ns) h = let b = and_true (nat_le least n) (ascend_from (n + 1) ns) h in (leb-true least n b.0, ascend-means (n + 1) ns b.1)

pub ascend-decided : (least : ℕ) (ns : List ℕ) → Ascend least ns → ascend_from least ns ≡ true
ascend-decided least [] h = refl
ascend-decided least (n ∷ ns) h = both_true (nat_le least n) (ascend_from (n + 1) ns) (le-leb least n h.0) (ascend-decided (n + 1) ns h.1)

pub ascend-above : (least : ℕ) (ns : List ℕ) (m : ℕ) → Ascend least ns → IsIn m ns → least ≤ m
ascend-above least [] m h i = absurd i
ascend-above least (n ∷ ns) m h (inl e) = let a = h.0 in omega (arith, a, e)
ascend-above least (n ∷ ns) m h (inr i) = let a = h.0 in let b = ascend-above (n + 1) ns m h.1 i in omega (arith, a, b)

-- ascending lists with the same numbers are the same
pub ascend-same : (least : ℕ) (xs ys : List ℕ) → Ascend least xs → Ascend least ys → ((n : ℕ) → IsIn n xs → IsIn n ys) → ((n : ℕ) → IsIn n ys → IsIn n xs) → xs ≡ ys
ascend-same least [] [] h g to from = refl
ascend-same least [] (y ∷ ys) h g to from = absurd (from y (inl refl))
ascend-same least (x ∷ xs) [] h g to from = absurd (to x (inl refl))
ascend-same least (x ∷ xs) (y ∷ ys) h g to from =
    let le : y ≤ x = least-of y ys x g.1 (to x (inl refl)) in
    let ge : x ≤ y = least-of x xs y h.1 (from y (inl refl)) in
    let same : x ≡ y = omega (arith, le, ge) in
    let more : xs ≡ ys = ascend-same (x + 1) xs ys h.1 (subst (λ n. Ascend (n + 1) ys) (sym same) g.1)
    (λ n i. behind n y ys (x + 1) (ascend-above (x + 1) xs n h.1 i) (omega (arith, same)) (to n (inr i)))
    (λ n i. behind n x xs (y + 1) (ascend-above (y + 1) ys n g.1 i) (omega (arith, same)) (from n (inr i))) in
    ap (λ n. n ∷ xs) same ∙ ap (λ z. y ∷ z) more
  where
    least-of : (y : ℕ) (ys : List ℕ) (x : ℕ) → Ascend (y + 1) ys → IsIn x (y ∷ ys) → y ≤ x
    least-of y ys x g (inl e) = omega (arith, e)
    least-of y ys x g (inr i) = let a = ascend-above (y + 1) ys x g i in omega (arith, a)

    behind : (n y : ℕ) (ys : List ℕ) (least : ℕ) → least ≤ n → y < least → IsIn n (y ∷ ys) → IsIn n ys
    behind n y ys least a lt (inl e) = absurd (omega (arith, a, lt, e))
    behind n y ys least a lt (inr i) = i

-- an ascending list below an end has no more numbers than there are
pub ascend-few : (least end : ℕ) (ns : List ℕ) → Ascend least ns → AllByRecursion (λ n. n < end) ns → least ≤ end → length ns + least ≤ end
ascend-few least end [] h b le = omega (arith, le)
ascend-few least end (n ∷ ns) h b le =
    let lt = b.0 in let a = h.0 in let r = ascend-few (n + 1) end ns h.1 b.1 (omega (arith, lt)) in omega (arith, a, r)

put-ascend : (least n : ℕ) (ms : List ℕ) → least ≤ n → Ascend least ms → Ascend least (with_number n ms)
put-ascend least n [] le h = (le, tt)
put-ascend least n (m ∷ ms) le h = go (nat_lt n m) refl (nat_lt m n) refl (put-ascend (m + 1) n ms)
  where
    go : (b : Bool) → nat_lt n m ≡ b → (c : Bool) → nat_lt m n ≡ c → (m + 1 ≤ n → Ascend (m + 1) ms → Ascend (m + 1) (with_number n ms))
        → Ascend least (cond b (n ∷ m ∷ ms) (cond c (m ∷ with_number n ms) (m ∷ ms)))
    go true e c d rest = let lt = ltb-true n m e in (le, (omega (arith, lt), h.1))
    go false e true d rest = let lt = ltb-true m n d in (h.0, rest (omega (arith, lt)) h.1)
    go false e false d rest = h

pub ascending-ascends : (ns : List ℕ) → Ascend 0 (ascending ns)
ascending-ascends [] = tt
ascending-ascends (n ∷ ns) = put-ascend 0 n (ascending ns) (omega arith) (ascending-ascends ns)

put-in : (n : ℕ) (ms : List ℕ) (x : ℕ) → IsIn x (n ∷ ms) → IsIn x (with_number n ms)
put-in n [] x i = i
put-in n (m ∷ ms) x i = go (nat_lt n m) refl (nat_lt m n) refl (put-in n ms x) i
  where
    go : (b : Bool) → nat_lt n m ≡ b → (c : Bool) → nat_lt m n ≡ c → (IsIn x (n ∷ ms) → IsIn x (with_number n ms))
        → IsIn x (n ∷ m ∷ ms) → IsIn x (cond b (n ∷ m ∷ ms) (cond c (m ∷ with_number n ms) (m ∷ ms)))
    go true e c d rest i = i
    go false e true d rest (inl s) = inr (rest (inl s))
    go false e true d rest (inr (inl s)) = inl s
    go false e true d rest (inr (inr j)) = inr (rest (inr j))
    go false e false d rest (inl s) = inl (let a = ltb-false n m e in let b = ltb-false m n d in omega (arith, a, b, s))
    go false e false d rest (inr j) = j

in-put : (n : ℕ) (ms : List ℕ) (x : ℕ) → IsIn x (with_number n ms) → IsIn x (n ∷ ms)
in-put n [] x i = i
in-put n (m ∷ ms) x i = go (nat_lt n m) (nat_lt m n) (in-put n ms x) i
  where
    go : (b c : Bool) → (IsIn x (with_number n ms) → IsIn x (n ∷ ms))
        → IsIn x (cond b (n ∷ m ∷ ms) (cond c (m ∷ with_number n ms) (m ∷ ms))) → IsIn x (n ∷ m ∷ ms)
    go true c rest i = i
    go false true rest (inl s) = inr (inl s)
    go false true rest (inr j) = ⊎_elim (λ s. inl s) (λ k. inr (inr k)) (rest j)
    go false false rest i = inr i

pub in-ascending : (ns : List ℕ) (x : ℕ) → IsIn x ns → IsIn x (ascending ns)
in-ascending [] x i = absurd i
in-ascending (n ∷ ns) x (inl e) = put-in n (ascending ns) x (inl e)
in-ascending (n ∷ ns) x (inr i) = put-in n (ascending ns) x (inr (in-ascending ns x i))

pub ascending-in : (ns : List ℕ) (x : ℕ) → IsIn x (ascending ns) → IsIn x ns
ascending-in [] x i = absurd i
ascending-in (n ∷ ns) x i = ⊎_elim (λ e. inl e) (λ j. inr (ascending-in ns x j)) (in-put n (ascending ns) x i)

pub all-from-in : {X : Type 0} (P : X → Type 0) (xs : List X) → ((x : X) → IsIn x xs → P x) → AllByRecursion P xs
all-from-in P [] h = tt
all-from-in P (x ∷ xs) h = (h x (inl refl), all-from-in P xs (λ y i. h y (inr i)))
