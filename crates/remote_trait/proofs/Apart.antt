-- Names that are distinct, and sets of ids that code marks.
use Rattle.std.proofs.Common.{◌≡◌, ◌<◌, ◌≤◌, ◌+◌, ◌&&◌, ◌||◌, not, cond, ℕ, zero, suc, Bool, true, false, ◌⊎◌, inl, inr, List, [], ◌∷◌, ◌++◌, length, map, take, get_or, nat_eq, nat_lt, nat_le, refl, sym, ap, ap₂, subst, ◌∙◌, arith}
use Rattle.std.specs.List.{list_all, sum_by, AllPairs}
use Rattle.std.specs.List.Sorted.{IsPermutation, IsStrictlyIncreasing}
use Rattle.std.proofs.lemmas.Bool.{ltb-true, lt-ltb, leb-true, le-leb, eq-eqb, false_from_ne_true}
use Rattle.std.proofs.lemmas.Map.Views.{exact_unsigned_eq}
use Rattle.std.proofs.lemmas.List.{map-append}
use Rattle.std.proofs.lemmas.List.Kept.{AllPairs-from_increasing}
use Rattle.std.proofs.lemmas.List.Sorted.{sum_by-IsPermutation}
use Rattle.std.proofs.lemmas.List.Sums.{sum_by-cons}
use Rattle.id_groups.specs.Lists.{IsIn, is_in, AreDistinct}
use Rattle.id_groups.specs.Name.{Name, same_name}
use Rattle.id_groups.proofs.Names.{same_name-exact}
use Rattle.segment_codec.specs.Record.{Segment}
use Rattle.remote_rules.specs.CloneData.{KnownName, name_fits, merge_parents}
use Rattle.remote_trait.specs.Fronts.{front_of}
use Rattle.remote_trait.proofs.Items.{before, in-more, fits-is}

-- ---- sets

-- the id of one name more
pub named-more : (names : List KnownName) (k : ℕ) (known : KnownName) → k < length names → known ≡ get_or names k known → (set now : ℕ → Bool)
    → ((q : ℕ) → set q ≡ is_in nat_eq q (map (λ (k : KnownName). k.id) (take k names)))
    → ((q : ℕ) → now q ≡ (set q || nat_eq q known.id))
    → (q : ℕ) → now q ≡ is_in nat_eq q (map (λ (k : KnownName). k.id) (take (k + 1) names))
named-more names k known lt is set now h g q =
    g q ∙ ap (λ b. b || nat_eq q known.id) (h q) ∙ sym (in-more nat_eq q (map (λ (k : KnownName). k.id) (take k names)) known.id)
    ∙ ap (is_in nat_eq q) (sym (map-append (λ (k : KnownName). k.id) (take k names) (known ∷ [])) ∙ ap (map (λ (k : KnownName). k.id)) (sym (before names k known lt is)))

all-same : (f g : ℕ → Bool) → ((q : ℕ) → f q ≡ g q) → (xs : List ℕ) → list_all f xs ≡ list_all g xs
all-same f g h [] = refl
all-same f g h (x ∷ xs) = ap₂ (λ a b. a && b) (h x) (all-same f g h xs)

-- what two sets of the same ids say of the needed names
pub needed-same : (f g : ℕ → Bool) → ((q : ℕ) → f q ≡ g q) → (segments : List Segment)
    → list_all (λ (s : Segment). list_all f (s.high ∷ merge_parents s.parents)) segments ≡ list_all (λ (s : Segment). list_all g (s.high ∷ merge_parents s.parents)) segments
needed-same f g h [] = refl
needed-same f g h (s ∷ more) = ap₂ (λ a b. a && b) (all-same f g h (s.high ∷ merge_parents s.parents)) (needed-same f g h more)

-- ---- numbers that rise are distinct, in any order

above : (x : ℕ) (xs : List ℕ) → ((k : ℕ) → k < length xs → x < get_or xs k x) → IsIn x xs → ⊥
above x [] h i = i
above x (y ∷ ys) h (inl e) = let lt = h 0 (omega arith) in omega (arith, lt, e)
above x (y ∷ ys) h (inr i) = above x ys (λ k lt. h (suc k) (omega (arith, lt))) i

pairs-distinct : (xs : List ℕ) → AllPairs (λ a b. a < b) xs → AreDistinct xs
pairs-distinct [] h = tt
pairs-distinct (x ∷ xs) h = (
  above x xs (λ k lt. h 0 (suc k) x (omega arith) (omega (arith, lt))),
  pairs-distinct xs (λ i j d lt less. h (suc i) (suc j) d (omega (arith, lt)) (omega (arith, less))),
)

abbrev one_if : Bool → ℕ
one_if b = cond b 1 0

-- how often a number stands in a list
abbrev count : ℕ → List ℕ → ℕ
count k xs = sum_by (λ x. one_if (nat_eq k x)) xs

count-cons : (k x : ℕ) (xs : List ℕ) → count k (x ∷ xs) ≡ one_if (nat_eq k x) + count k xs
count-cons k x xs = sum_by-cons (λ n. one_if (nat_eq k n)) x xs

same-self : (x : ℕ) → nat_eq x x ≡ true
same-self x = eq-eqb x x refl

count-some : (k : ℕ) (xs : List ℕ) → IsIn k xs → 1 ≤ count k xs
count-some k [] i = absurd i
count-some k (x ∷ xs) (inl e) = let one : one_if (nat_eq k x) ≡ 1 = ap (λ b. one_if b) (subst (λ z. nat_eq k z ≡ true) e (same-self k)) in omega (arith, count-cons k x xs, one)
count-some k (x ∷ xs) (inr i) = omega (arith, count-cons k x xs, count-some k xs i)

one-test : (k x : ℕ) (b : Bool) → nat_eq k x ≡ b → (k ≡ x → ⊥) → one_if b ≡ 0
one-test k x true e n = absurd (n (exact_unsigned_eq k x e))
one-test k x false e n = refl

count-none : (k : ℕ) (xs : List ℕ) → (IsIn k xs → ⊥) → count k xs ≡ 0
count-none k [] n = refl
count-none k (x ∷ xs) n = omega (arith, count-cons k x xs, one-test k x (nat_eq k x) refl (λ e. n (inl e)), count-none k xs (λ i. n (inr i)))

count-head : (k x : ℕ) (xs : List ℕ) (b : Bool) → nat_eq k x ≡ b → (IsIn x xs → ⊥) → count k xs ≤ 1 → one_if b + count k xs ≤ 1
count-head k x xs true e n le = let none : count k xs ≡ 0 = subst (λ z. count z xs ≡ 0) (sym (exact_unsigned_eq k x e)) (count-none x xs n) in omega (arith, none)
count-head k x xs false e n le = omega (arith, le)

distinct-count : (xs : List ℕ) → AreDistinct xs → (k : ℕ) → count k xs ≤ 1
distinct-count [] h k = omega arith
distinct-count (x ∷ xs) h k = let le = count-head k x xs (nat_eq k x) refl h.0 (distinct-count xs h.1 k) in omega (arith, count-cons k x xs, le)

count-distinct : (xs : List ℕ) → ((k : ℕ) → count k xs ≤ 1) → AreDistinct xs
count-distinct [] h = tt
count-distinct (x ∷ xs) h =
    let one : one_if (nat_eq x x) ≡ 1 = ap (λ b. one_if b) (same-self x) in (
      (λ i. let more = count-some x xs i in let le = h x in absurd (omega (arith, count-cons x x xs, one, more, le))),
      count-distinct xs (λ k. let le = h k in omega (arith, count-cons k x xs, le)),
    )

distinct-back : (xs ys : List ℕ) → IsPermutation xs ys → AreDistinct ys → AreDistinct xs
distinct-back xs ys p h = count-distinct xs (λ k. let le = distinct-count ys h k in omega (arith, sum_by-IsPermutation (λ x. one_if (nat_eq k x)) xs ys p, le))

-- ---- names by their first bytes

-- the first bytes of one name more
pub front-more : (names : List KnownName) (k : ℕ) (known : KnownName) → k < length names → known ≡ get_or names k known → (fronts : List ℕ) → fronts ≡ map (λ (k : KnownName). front_of k.name) (take k names)
    → fronts ++ front_of known.name ∷ [] ≡ map (λ (k : KnownName). front_of k.name) (take (k + 1) names)
front-more names k known lt is fronts h =
    ap (λ l. l ++ front_of known.name ∷ []) h ∙ sym (map-append (λ (k : KnownName). front_of k.name) (take k names) (known ∷ [])) ∙ ap (map (λ (k : KnownName). front_of k.name)) (sym (before names k known lt is))

front-in : (name : Name) (ks : List KnownName) → IsIn name (map (λ (k : KnownName). k.name) ks) → IsIn (front_of name) (map (λ (k : KnownName). front_of k.name) ks)
front-in name [] i = i
front-in name (k ∷ ks) (inl e) = inl (ap front_of e)
front-in name (k ∷ ks) (inr i) = inr (front-in name ks i)

fronts-apart : (ks : List KnownName) → AreDistinct (map (λ (k : KnownName). front_of k.name) ks) → AreDistinct (map (λ (k : KnownName). k.name) ks)
fronts-apart [] h = tt
fronts-apart (k ∷ ks) h = ((λ i. h.0 (front-in k.name ks i)), fronts-apart ks h.1)

-- names whose first bytes rise once they are sorted
pub names-apart : (ks : List KnownName) (fronts sorted : List ℕ) → fronts ≡ map (λ (k : KnownName). front_of k.name) ks → IsPermutation fronts sorted → IsStrictlyIncreasing sorted → AreDistinct (map (λ (k : KnownName). k.name) ks)
names-apart ks fronts sorted e p up = fronts-apart ks (subst AreDistinct e (distinct-back fronts sorted p (pairs-distinct sorted (AllPairs-from_increasing sorted up))))

-- ---- distinct names whose ids rise

in-behind : (ks : List KnownName) (i : ℕ) (d : KnownName) → i < length ks → IsIn (get_or ks i d).name (map (λ (k : KnownName). k.name) ks)
in-behind [] i d lt = absurd (omega (arith, lt))
in-behind (k ∷ ks) zero d lt = inl refl
in-behind (k ∷ ks) (suc i) d lt = inr (in-behind ks i d (omega (arith, lt)))

new-at : (ks : List KnownName) (i : ℕ) (d : KnownName) → AreDistinct (map (λ (k : KnownName). k.name) ks) → i < length ks → is_in same_name (get_or ks i d).name (map (λ (k : KnownName). k.name) (take i ks)) ≡ false
new-at [] i d h lt = absurd (omega (arith, lt))
new-at (k ∷ ks) zero d h lt = refl
new-at (k ∷ ks) (suc i) d h lt =
    ap (λ b. b || is_in same_name (get_or ks i d).name (map (λ (k : KnownName). k.name) (take i ks)))
    (false_from_ne_true (same_name (get_or ks i d).name k.name)
    (λ t. h.0 (subst (λ x. IsIn x (map (λ (k : KnownName). k.name) ks)) (same_name-exact (get_or ks i d).name k.name t) (in-behind ks i d (omega (arith, lt))))))
    ∙ new-at ks i d h.1 (omega (arith, lt))

module _ (names : List KnownName) (distinct : AreDistinct (map (λ (k : KnownName). k.name) names)) (k : ℕ) (known : KnownName) (lt : k < length names) (is : known ≡ get_or names k known)
    (next end : ℕ) (ids : (q : ℕ) → list_all (λ (b : KnownName). nat_lt b.id q) (take k names) ≡ nat_le next q) where
  pub id-is : name_fits (take k names) known ≡ nat_le next known.id
  id-is =
      fits-is (take k names) known
      ∙ ap₂ (λ a b. a && not b) (ids known.id) (ap (λ (x : KnownName). is_in same_name x.name (map (λ (k : KnownName). k.name) (take k names))) is ∙ new-at names k known distinct lt)
      ∙ and-true (nat_le next known.id)
    where
      and-true : (b : Bool) → (b && true) ≡ b
      and-true true = refl
      and-true false = refl

  pub id-fits : known.id < end → next ≤ known.id → true ≡ (nat_lt known.id end && name_fits (take k names) known)
  id-fits under le = sym (ap (λ b. b && name_fits (take k names) known) (lt-ltb known.id end under) ∙ id-is ∙ le-leb next known.id le)

  pub id-bad : (end ≤ known.id) ⊎ (known.id < next) → false ≡ (nat_lt known.id end && name_fits (take k names) known)
  id-bad (inl le) = sym (ap (λ b. b && name_fits (take k names) known) (false_from_ne_true (nat_lt known.id end) (λ t. let less = ltb-true known.id end t in omega (arith, less, le))))
  id-bad (inr less) = sym (ap (λ b. nat_lt known.id end && b) (id-is ∙ false_from_ne_true (nat_le next known.id) (λ t. let le = leb-true next known.id t in omega (arith, less, le))) ∙ and-false (nat_lt known.id end))
    where
      and-false : (b : Bool) → (b && false) ≡ false
      and-false true = refl
      and-false false = refl
