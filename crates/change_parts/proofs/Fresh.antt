-- Names that no log has, for commits whose names aren't stored.
use Rattle.std.proofs.Common.{◌≡◌, ◌<◌, ◌≤◌, ◌%◌, ◌^◌, ℕ, zero, suc, Bool, true, false, not, cond, ◌⊎◌, inl, inr, List, [], ◌∷◌, ◌++◌, length, map, take, drop, filter, nat_eq, refl, sym, ap, subst, ◌∙◌, ⊎_elim, if◌then◌else◌, arith, true≢false, le_refl, zero-le, lit<}
use Rattle.std.specs.List.{AllByRecursion}
use Rattle.std.specs.Int.{w64, byte_at, bytes_high_first, to_be_bytes, from_be_bytes}
use Rattle.std.proofs.lemmas.List.{take_at, drop_at}
use Rattle.std.proofs.lemmas.Nat.{from_be_bytes-to_be_bytes_8}
use Rattle.std.proofs.lemmas.Bool.{false_from_ne_true}
use Rattle.id_groups.specs.Lists.{IsIn, is_in, AreDistinct}
use Rattle.id_groups.specs.Name.{Name, IsName}
use Rattle.id_groups.proofs.Listing.{found, missing}
use Rattle.assign_ids.proofs.NumberLemmas.{same-self, same-exact}
use Rattle.batch_codec.specs.Payload.{Known}
use Rattle.commit_graph.proofs.Naming.{each}
use Rattle.change_parts.proofs.Renumber.{in-map}

-- ---- a number that isn't in a list

into : {X : Type 0} (b : Bool) (x y : X) (ys : List X) → IsIn x ys → IsIn x (cond b (y ∷ ys) ys)
into true x y ys j = inr j
into false x y ys j = j

stays : {X : Type 0} (test : X → Bool) (x : X) (xs : List X) → IsIn x xs → test x ≡ true → IsIn x (filter test xs)
stays test x [] i e = absurd i
stays test x (y ∷ xs) (inl g) e = subst (λ b. IsIn x (cond b (y ∷ filter test xs) (filter test xs))) (sym (ap test (sym g) ∙ e)) (inl g)
stays test x (y ∷ xs) (inr i) e = into (test y) x y (filter test xs) (stays test x xs i e)

no-longer : (test : ℕ → Bool) (xs : List ℕ) → length (filter test xs) ≤ length xs
no-longer test [] = omega arith
no-longer test (x ∷ xs) = by_test (test x) (no-longer test xs)
  where
    by_test : (b : Bool) → length (filter test xs) ≤ length xs → length (cond b (x ∷ filter test xs) (filter test xs)) ≤ suc (length xs)
    by_test true le = omega (arith, le)
    by_test false le = omega (arith, le)

shorter : (test : ℕ → Bool) (n : ℕ) (xs : List ℕ) → IsIn n xs → test n ≡ false → length (filter test xs) < length xs
shorter test n [] i e = absurd i
shorter test n (x ∷ xs) (inl g) e = subst (λ b. length (cond b (x ∷ filter test xs) (filter test xs)) < suc (length xs)) (sym (ap test (sym g) ∙ e)) (let le = no-longer test xs in omega (arith, le))
shorter test n (x ∷ xs) (inr i) e = by_test (test x) (shorter test n xs i e)
  where
    by_test : (b : Bool) → length (filter test xs) < length xs → length (cond b (x ∷ filter test xs) (filter test xs)) < suc (length xs)
    by_test true lt = omega (arith, lt)
    by_test false lt = omega (arith, lt)

abbrev others-than : ℕ → List ℕ → List ℕ
others-than n xs = filter (λ k. not (nat_eq k n)) xs

abbrev IsFresh : ℕ → List ℕ → Type 0
IsFresh n xs = (t : ℕ) × (t ≤ n) × (IsIn t xs → ⊥)

pub fresh-number : (n : ℕ) (xs : List ℕ) → length xs ≤ n → IsFresh n xs
fresh-number n [] le = (0, zero-le, λ i. i)
fresh-number zero (x ∷ xs) le = absurd (omega (arith, le))
fresh-number (suc n) (x ∷ xs) le = by_test (is_in nat_eq (suc n) (x ∷ xs)) refl (fresh-number n (others-than (suc n) (x ∷ xs)))
  where
    by_test : (b : Bool) → is_in nat_eq (suc n) (x ∷ xs) ≡ b → (length (others-than (suc n) (x ∷ xs)) ≤ n → IsFresh n (others-than (suc n) (x ∷ xs))) → IsFresh (suc n) (x ∷ xs)
    by_test false e rec = (suc n, le_refl (suc n), missing nat_eq same-exact same-self (suc n) (x ∷ xs) e)
    by_test true e rec =
        let lt = shorter (λ k. not (nat_eq k (suc n))) (suc n) (x ∷ xs) (found nat_eq same-exact same-self (suc n) (x ∷ xs) e) (ap not (same-self (suc n))) in
        let r = rec (omega (arith, lt, le)) in
        let below = r.1 in (
          r.0,
          omega (arith, below),
          λ i. r.2 (stays (λ k. not (nat_eq k (suc n))) r.0 (x ∷ xs) i
              (ap not (false_from_ne_true (nat_eq r.0 (suc n)) (λ t. let f = same-exact r.0 (suc n) t in let z : ⊥ = omega (arith, f, below) in z)))),
        )

-- ---- names of a family

fits : (n : ℕ) → n % 256 < 256
fits n = omega arith

byte-fits : (i n : ℕ) → byte_at i n < 256
byte-fits zero n = fits n
byte-fits (suc i) n = fits _

bytes-fit : (k n : ℕ) → AllByRecursion (λ b. b < 256) (bytes_high_first k n)
bytes-fit zero n = tt
bytes-fit (suc k) n = (byte-fits k n, bytes-fit k n)

all-join : (P : ℕ → Type 0) (xs ys : List ℕ) → AllByRecursion P xs → AllByRecursion P ys → AllByRecursion P (xs ++ ys)
all-join P [] ys h k = k
all-join P (x ∷ xs) ys h k = (h.0, all-join P xs ys h.1 k)

-- the name of a number, in a family
pub lazy : ℕ → ℕ → Name
lazy t id = to_be_bytes w64 t ++ (to_be_bytes w64 id ++ (0 ∷ 0 ∷ 0 ∷ 0 ∷ []))

abbrev pub family : Name → ℕ
family x = from_be_bytes w64 (take 8 x)

pub lazy-name : (t id : ℕ) → IsName (lazy t id)
unfolding lazy
lazy-name t id =
    let zeros : AllByRecursion (λ b. b < 256) (0 ∷ 0 ∷ 0 ∷ 0 ∷ []) = (lit< tt, (lit< tt, (lit< tt, (lit< tt, tt)))) in
    (refl, all-join (λ b. b < 256) (to_be_bytes w64 t) (to_be_bytes w64 id ++ (0 ∷ 0 ∷ 0 ∷ 0 ∷ [])) (bytes-fit 8 t) (all-join (λ b. b < 256) (to_be_bytes w64 id) (0 ∷ 0 ∷ 0 ∷ 0 ∷ []) (bytes-fit 8 id) zeros))

pub lazy-family : (t id : ℕ) → t < 2 ^ 64 → family (lazy t id) ≡ t
unfolding lazy
lazy-family t id lt = ap (from_be_bytes w64) (take_at (to_be_bytes w64 t) (to_be_bytes w64 id ++ (0 ∷ 0 ∷ 0 ∷ 0 ∷ [])) 8 refl) ∙ from_be_bytes-to_be_bytes_8 t lt

pub lazy-one : (t i j : ℕ) → i < 2 ^ 64 → j < 2 ^ 64 → lazy t i ≡ lazy t j → i ≡ j
unfolding lazy
lazy-one t i j li lj e = sym (number i li) ∙ ap (λ l. from_be_bytes w64 (take 8 (drop 8 l))) e ∙ number j lj
  where
    number : (k : ℕ) → k < 2 ^ 64 → from_be_bytes w64 (take 8 (drop 8 (to_be_bytes w64 t ++ (to_be_bytes w64 k ++ (0 ∷ 0 ∷ 0 ∷ 0 ∷ []))))) ≡ k
    number k lt = ap (λ l. from_be_bytes w64 (take 8 l)) (drop_at (to_be_bytes w64 t) (to_be_bytes w64 k ++ (0 ∷ 0 ∷ 0 ∷ 0 ∷ [])) 8 refl)
        ∙ ap (from_be_bytes w64) (take_at (to_be_bytes w64 k) (0 ∷ 0 ∷ 0 ∷ 0 ∷ []) 8 refl) ∙ from_be_bytes-to_be_bytes_8 k lt

-- ---- the names of ids, some of which are known

pub name-of-id : ℕ → List Known → ℕ → Name
name-of-id t [] id = lazy t id
name-of-id t (k ∷ more) id = if nat_eq k.id id then k.name else name-of-id t more id

-- the name is known, or it is one of the family
abbrev pub IsNamed : ℕ → List Known → ℕ → Type 0
IsNamed t known id = ((k : Known) × IsIn k known × (k.id ≡ id) × (name-of-id t known id ≡ k.name)) ⊎ (name-of-id t known id ≡ lazy t id)

pub named : (t : ℕ) (known : List Known) (id : ℕ) → IsNamed t known id
unfolding name-of-id
named t [] id = inr refl
named t (k ∷ more) id = by_test (nat_eq k.id id) refl (named t more id)
  where
    by_test : (b : Bool) → nat_eq k.id id ≡ b → IsNamed t more id
        → ((q : Known) × IsIn q (k ∷ more) × (q.id ≡ id) × ((if nat_eq k.id id then k.name else name-of-id t more id) ≡ q.name)) ⊎ ((if nat_eq k.id id then k.name else name-of-id t more id) ≡ lazy t id)
    by_test true e rec = inl (k, inl refl, same-exact k.id id e, ap (λ b. if b then k.name else name-of-id t more id) e)
    by_test false e (inl r) = inl (r.0, inr r.1, r.2, ap (λ b. if b then k.name else name-of-id t more id) e ∙ r.3)
    by_test false e (inr r) = inr (ap (λ b. if b then k.name else name-of-id t more id) e ∙ r)

-- a known id has the name of an entry
found-name : (t : ℕ) (known : List Known) (k : Known) → IsIn k known → (q : Known) × IsIn q known × (q.id ≡ k.id) × (name-of-id t known k.id ≡ q.name)
unfolding name-of-id
found-name t [] k i = absurd i
found-name t (q ∷ more) k i = by_test (nat_eq q.id k.id) refl i (found-name t more k)
  where
    by_test : (b : Bool) → nat_eq q.id k.id ≡ b → IsIn k (q ∷ more) → (IsIn k more → (p : Known) × IsIn p more × (p.id ≡ k.id) × (name-of-id t more k.id ≡ p.name))
        → (p : Known) × IsIn p (q ∷ more) × (p.id ≡ k.id) × ((if nat_eq q.id k.id then q.name else name-of-id t more k.id) ≡ p.name)
    by_test true e i rec = (q, inl refl, same-exact q.id k.id e, ap (λ b. if b then q.name else name-of-id t more k.id) e)
    by_test false e (inl f) rec = absurd (true≢false (sym (same-self k.id) ∙ ap (λ (z : Known). nat_eq z.id k.id) f ∙ e))
    by_test false e (inr i) rec = let r = rec i in (r.0, inr r.1, r.2, ap (λ b. if b then q.name else name-of-id t more k.id) e ∙ r.3)

-- two of a list have what tells them apart
pub distinct-one : {X Y : Type 0} (f : X → Y) (x y : X) (xs : List X) → AreDistinct (map f xs) → IsIn x xs → IsIn y xs → f x ≡ f y → x ≡ y
distinct-one f x y [] d i j e = absurd i
distinct-one f x y (z ∷ xs) d (inl a) (inl b) e = a ∙ sym b
distinct-one f x y (z ∷ xs) d (inl a) (inr j) e = absurd (d.0 (subst (λ q. IsIn q (map f xs)) (sym e ∙ ap f a) (in-map f y xs j)))
distinct-one f x y (z ∷ xs) d (inr i) (inl b) e = absurd (d.0 (subst (λ q. IsIn q (map f xs)) (e ∙ ap f b) (in-map f x xs i)))
distinct-one f x y (z ∷ xs) d (inr i) (inr j) e = distinct-one f x y xs d.1 i j e

module _ (t : ℕ) (known : List Known) (room : t < 2 ^ 64)
    (names : AreDistinct (map (λ (k : Known). k.name) known)) (ids : AreDistinct (map (λ (k : Known). k.id) known))
    (used : List Name) (fresh : IsIn t (map family used) → ⊥) (known_used : (x : Name) → IsIn x (map (λ (k : Known). k.name) known) → IsIn x used) where
  pub not-used : (id : ℕ) → IsIn (lazy t id) used → ⊥
  not-used id i = fresh (subst (λ n. IsIn n (map family used)) (lazy-family t id room) (in-map family (lazy t id) used i))

  pub name-known : (k : Known) → IsIn k known → name-of-id t known k.id ≡ k.name
  name-known k i =
      let r = found-name t known k i in
      r.3 ∙ ap (λ (q : Known). q.name) (distinct-one (λ (q : Known). q.id) r.0 k known ids r.1 i r.2)

  -- two ids have two names
  pub names-one : (i j : ℕ) → i < 2 ^ 64 → j < 2 ^ 64 → name-of-id t known i ≡ name-of-id t known j → i ≡ j
  names-one i j li lj e = ⊎_elim
      (λ a. ⊎_elim
      (λ b. sym a.2 ∙ ap (λ (q : Known). q.id) (distinct-one (λ (q : Known). q.name) a.0 b.0 known names a.1 b.1 (sym a.3 ∙ e ∙ b.3)) ∙ b.2)
      (λ b. absurd (not-used j (known_used (lazy t j) (subst (λ x. IsIn x (map (λ (k : Known). k.name) known)) (sym a.3 ∙ e ∙ b) (in-map (λ (k : Known). k.name) a.0 known a.1)))))
      (named t known j))
      (λ a. ⊎_elim
      (λ b. absurd (not-used i (known_used (lazy t i) (subst (λ x. IsIn x (map (λ (k : Known). k.name) known)) (sym b.3 ∙ sym e ∙ a) (in-map (λ (k : Known). k.name) b.0 known b.1)))))
      (λ b. lazy-one t i j li lj (sym a ∙ e ∙ b))
      (named t known j))
      (named t known i)

  -- a name of an id is known, or it isn't used
  pub name-apart : (id : ℕ) (x : Name) → name-of-id t known id ≡ x → IsIn x used → IsIn x (map (λ (k : Known). k.name) known)
  name-apart id x e i = ⊎_elim
      (λ a. subst (λ z. IsIn z (map (λ (k : Known). k.name) known)) (sym a.3 ∙ e) (in-map (λ (k : Known). k.name) a.0 known a.1))
      (λ a. absurd (not-used id (subst (λ z. IsIn z used) (sym e ∙ a) i)))
      (named t known id)

  pub name-whole : AllByRecursion IsName (map (λ (k : Known). k.name) known) → (id : ℕ) → IsName (name-of-id t known id)
  name-whole h id = ⊎_elim
      (λ a. subst IsName (sym a.3) (each IsName (map (λ (k : Known). k.name) known) h a.0.name (in-map (λ (k : Known). k.name) a.0 known a.1)))
      (λ a. subst IsName (sym a) (lazy-name t id))
      (named t known id)
