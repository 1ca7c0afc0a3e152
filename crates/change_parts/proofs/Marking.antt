-- Numbers that are marked, and ids that are given to numbers.
use Rattle.std.proofs.Common.{◌≡◌, ◌≢◌, ◌<◌, ◌≤◌, ℕ, zero, suc, ◌+◌, ◌-◌, ◌^◌, Bool, true, false, not, cond, ◌||◌, List, [], ◌∷◌, ◌++◌, length, map, filter, take, drop, set, replicate, get_or, refl, sym, ap, ap₂, subst, ◌∙◌, if◌then◌else◌, true≢false, arith, nat_eq, ⊎_elim, eq-or-lt_of_le, le_refl}
use Rattle.std.specs.List.{AllByRecursion}
use Rattle.std.proofs.lemmas.List.{map-append, take_more, take_all, drop_more, get_or-set_other, get_or-replicate}
use Rattle.std.proofs.lemmas.List.Elements.{filter-append}
use Rattle.std.proofs.lemmas.Grind.{get_or-set_at}
use Rattle.id_groups.specs.Lists.{is_in}
use Rattle.id_groups.specs.Id.{other_id}
use Rattle.commit_graph.specs.Ids.{place_of}
use Rattle.commit_graph.proofs.Places.{chosen, left-out, over-master, other-place}
use Rattle.segment_codec.specs.Record.{Segment}
use Rattle.segment_codec.specs.Table.{IsLawful, parents_at}
use Rattle.segment_codec.proofs.Tables.{parent-below}
use Rattle.commit_graph.proofs.Naming.{all-each}
use Rattle.assign_ids.specs.Numbers.{AreBelow}
use Rattle.assign_ids.proofs.NumberLemmas.{same-self, same-exact}
use Rattle.name_map.specs.Part.{upward}
use Rattle.change_parts.specs.Moves.{node_of, rest_of, moved_id}
use Rattle.change_parts.proofs.Moving.{upward-below, below-filter}

or-false : (b : Bool) → (b || false) ≡ b
or-false true = refl
or-false false = refl

or-true : (b : Bool) → (b || true) ≡ true
or-true true = refl
or-true false = refl

or-assoc : (a b c : Bool) → (a || (b || c)) ≡ ((a || b) || c)
or-assoc true b c = refl
or-assoc false b c = refl

in-last : (k : ℕ) (xs : List ℕ) (x : ℕ) → is_in nat_eq k (xs ++ x ∷ []) ≡ (is_in nat_eq k xs || nat_eq k x)
in-last k [] x = or-false (nat_eq k x)
in-last k (y ∷ xs) x = ap (λ b. nat_eq k y || b) (in-last k xs x) ∙ or-assoc (nat_eq k y) (is_in nat_eq k xs) (nat_eq k x)

differ : (k x : ℕ) → nat_eq k x ≡ false → k ≢ x
differ k x e f = true≢false (sym (same-self x) ∙ ap (λ z. nat_eq z x) (sym f) ∙ e)

pub mark-next : (old marks : List Bool) (numbers : List ℕ) (i k : ℕ) → i < length numbers → k < length marks
    → get_or marks k false ≡ (get_or old k false || is_in nat_eq k (take i numbers))
    → get_or (set marks (get_or numbers i 0) true) k false ≡ (get_or old k false || is_in nat_eq k (take (i + 1) numbers))
mark-next old marks numbers i k lt small h = by_test (nat_eq k (get_or numbers i 0)) refl
  where
    more : (get_or old k false || is_in nat_eq k (take (i + 1) numbers)) ≡ ((get_or old k false || is_in nat_eq k (take i numbers)) || nat_eq k (get_or numbers i 0))
    more = ap (λ l. get_or old k false || is_in nat_eq k l) (take_more numbers i 0 lt)
        ∙ ap (λ b. get_or old k false || b) (in-last k (take i numbers) (get_or numbers i 0))
        ∙ or-assoc (get_or old k false) (is_in nat_eq k (take i numbers)) (nat_eq k (get_or numbers i 0))

    by_test : (b : Bool) → nat_eq k (get_or numbers i 0) ≡ b → get_or (set marks (get_or numbers i 0) true) k false ≡ (get_or old k false || is_in nat_eq k (take (i + 1) numbers))
    by_test true e = get_or-set_at marks (get_or numbers i 0) k true false (same-exact k (get_or numbers i 0) e) (subst (λ z. z < length marks) (same-exact k (get_or numbers i 0) e) small)
        ∙ sym (more ∙ ap (λ b. (get_or old k false || is_in nat_eq k (take i numbers)) || b) e ∙ or-true (get_or old k false || is_in nat_eq k (take i numbers)))
    by_test false e = get_or-set_other marks (get_or numbers i 0) k true false (differ k (get_or numbers i 0) e) ∙ h
        ∙ sym (more ∙ ap (λ b. (get_or old k false || is_in nat_eq k (take i numbers)) || b) e ∙ or-false (get_or old k false || is_in nat_eq k (take i numbers)))

abbrev pub NumberedBy : List ℕ → List ℕ → ℕ → List ℕ → ℕ → ℕ → Type 0
NumberedBy ids numbers first old i k = get_or ids k 0 ≡ (if is_in nat_eq k (drop i numbers) then first + i + place_of nat_eq k (drop i numbers) else get_or old k 0)

pub number-next : (ids old numbers : List ℕ) (first n i k : ℕ) → n ≡ i + 1 → n ≤ length numbers → k < length ids
    → NumberedBy ids numbers first old n k → NumberedBy (set ids (get_or numbers i 0) (first + i)) numbers first old i k
number-next ids old numbers first n i k e le small h = by_test (nat_eq (get_or numbers i 0) k) refl
  where
    behind : drop i numbers ≡ get_or numbers i 0 ∷ drop n numbers
    behind = drop_more numbers i 0 (omega (arith, e, le)) ∙ ap (λ m. get_or numbers i 0 ∷ drop m numbers) (sym e)

    turned : (a b : ℕ) (c : Bool) → nat_eq a b ≡ c → nat_eq b a ≡ c
    turned a b true f = subst (λ z. nat_eq b z ≡ true) (sym (same-exact a b f)) (same-self b)
    turned a b false f = other (nat_eq b a) refl
      where
        other : (d : Bool) → nat_eq b a ≡ d → nat_eq b a ≡ false
        other true g = absurd (true≢false (sym (same-self b) ∙ ap (λ z. nat_eq z b) (same-exact b a g) ∙ f))
        other false g = g

    by_test : (b : Bool) → nat_eq (get_or numbers i 0) k ≡ b → NumberedBy (set ids (get_or numbers i 0) (first + i)) numbers first old i k
    by_test true f =
        let same : k ≡ get_or numbers i 0 = sym (same-exact (get_or numbers i 0) k f) in
        get_or-set_at ids (get_or numbers i 0) k (first + i) 0 same (subst (λ z. z < length ids) same small)
        ∙ (let z : first + i ≡ first + i + 0 = omega arith in z)
        ∙ ap (λ b. first + i + (if b then 0 else suc (place_of nat_eq k (drop n numbers)))) (sym f)
        ∙ sym (ap (λ l. if is_in nat_eq k l then first + i + place_of nat_eq k l else get_or old k 0) behind
        ∙ ap (λ b. if (b || is_in nat_eq k (drop n numbers)) then first + i + place_of nat_eq k (get_or numbers i 0 ∷ drop n numbers) else get_or old k 0) (turned (get_or numbers i 0) k true f))
    by_test false f =
        get_or-set_other ids (get_or numbers i 0) k (first + i) 0 (differ k (get_or numbers i 0) (turned (get_or numbers i 0) k false f)) ∙ h
        ∙ sym (ap (λ l. if is_in nat_eq k l then first + i + place_of nat_eq k l else get_or old k 0) behind
        ∙ ap (λ b. if (b || is_in nat_eq k (drop n numbers)) then first + i + place_of nat_eq k (get_or numbers i 0 ∷ drop n numbers) else get_or old k 0) (turned (get_or numbers i 0) k false f)
        ∙ ap (λ b. if is_in nat_eq k (drop n numbers) then first + i + (if b then 0 else suc (place_of nat_eq k (drop n numbers))) else get_or old k 0) f
        ∙ ap (λ z. if is_in nat_eq k (drop n numbers) then z else get_or old k 0) (let z : first + i + suc (place_of nat_eq k (drop n numbers)) ≡ first + n + place_of nat_eq k (drop n numbers) = omega (arith, e) in z))

pub upward-next : (first n m : ℕ) → m ≡ suc n → upward first m ≡ upward first n ++ (first + n) ∷ []
upward-next first zero m e = ap (upward first) e ∙ ap (λ m. m ∷ []) (let z : first ≡ first + 0 = omega arith in z)
upward-next first (suc n) m e = ap (upward first) e ∙ ap (λ l. first ∷ l) (upward-next (first + 1) n (suc n) refl)
    ∙ ap (λ m. first ∷ (upward (first + 1) n ++ m ∷ [])) (let z : first + 1 + n ≡ first + suc n = omega arith in z)

pub nodes-next : (ids : List ℕ) (i x : ℕ) → i < length ids → x ≡ get_or ids i x → map node_of (take (i + 1) ids) ≡ map node_of (take i ids) ++ node_of x ∷ []
nodes-next ids i x lt e = ap (map node_of) (take_more ids i x lt) ∙ map-append node_of (take i ids) (get_or ids i x ∷ []) ∙ ap (λ z. map node_of (take i ids) ++ node_of z ∷ []) (sym e)

pub filter-next : (test : ℕ → Bool) (k : ℕ) → filter test (upward 0 (k + 1)) ≡ filter test (upward 0 k) ++ cond (test k) (k ∷ []) []
filter-next test k = ap (filter test) (upward-next 0 k (k + 1) (omega arith)) ∙ filter-append test (upward 0 k) ((0 + k) ∷ [])
    ∙ ap (λ j. filter test (upward 0 k) ++ cond (test j) (j ∷ []) []) (let z : 0 + k ≡ k = omega arith in z)

pub small-parents : (flats : List Segment) → IsLawful flats → (k : ℕ) → k < 2 ^ 32 → AllByRecursion (λ p. p < 2 ^ 56 + 2 ^ 32) (parents_at flats (other_id k))
small-parents flats lawful k lt = all-each (λ p. p < 2 ^ 56 + 2 ^ 32) (parents_at flats (other_id k)) (λ p i. let b = (parent-below flats lawful (other_id k) p i).0 in omega (arith, b, lt))

pub filter-same : (p q : ℕ → Bool) (n : ℕ) (ks : List ℕ) → AreBelow n ks → ((k : ℕ) → k < n → p k ≡ q k) → filter p ks ≡ filter q ks
filter-same p q n [] h f = refl
filter-same p q n (k ∷ ks) h f = ap₂ (λ b l. cond b (k ∷ l) l) (f k h.0) (filter-same p q n ks h.1 f)

pub unmarked-first : (n k : ℕ) → k < n → (b : Bool) → (get_or (replicate n false) k false || b) ≡ b
unmarked-first n k lt b = ap (λ z. z || b) (get_or-replicate n k false false lt)

pub all-taken : {X : Type 0} (xs : List X) (i : ℕ) → length xs ≤ i → take i xs ≡ xs
all-taken xs i le = take_all i xs le

not-equal : (k first : ℕ) → first ≤ k → k ≢ first → first + 1 ≤ k
not-equal k first le ne = ⊎_elim (λ e. absurd (ne (sym e))) (λ lt. omega (arith, lt)) (eq-or-lt_of_le le)

in-upward : (first n k : ℕ) → first ≤ k → k < first + n → is_in nat_eq k (upward first n) ≡ true
in-upward first zero k le lt = absurd (omega (arith, le, lt))
in-upward first (suc n) k le lt = by_test (nat_eq k first) refl (λ le2. in-upward (first + 1) n k le2 (omega (arith, lt)))
  where
    by_test : (b : Bool) → nat_eq k first ≡ b → (first + 1 ≤ k → is_in nat_eq k (upward (first + 1) n) ≡ true) → (b || is_in nat_eq k (upward (first + 1) n)) ≡ true
    by_test true e rec = refl
    by_test false e rec = rec (not-equal k first le (differ k first e))

in-kept : (test : ℕ → Bool) (k : ℕ) (ks : List ℕ) → test k ≡ true → is_in nat_eq k ks ≡ true → is_in nat_eq k (filter test ks) ≡ true
in-kept test k [] t i = i
in-kept test k (j ∷ ks) t i = by_same (nat_eq k j) refl (test j) refl (in-kept test k ks t)
  where
    by_same : (b : Bool) → nat_eq k j ≡ b → (c : Bool) → test j ≡ c → (is_in nat_eq k ks ≡ true → is_in nat_eq k (filter test ks) ≡ true) → is_in nat_eq k (cond c (j ∷ filter test ks) (filter test ks)) ≡ true
    by_same true e true f rec = ap (λ b. b || is_in nat_eq k (filter test ks)) e
    by_same true e false f rec = absurd (true≢false (sym t ∙ ap test (same-exact k j e) ∙ f))
    by_same false e true f rec = ap (λ b. b || is_in nat_eq k (filter test ks)) e ∙ rec (sym (ap (λ b. b || is_in nat_eq k ks) e) ∙ i)
    by_same false e false f rec = rec (sym (ap (λ b. b || is_in nat_eq k ks) e) ∙ i)

-- a number below n that isn't in the order is of the rest
in-rest : (n k : ℕ) (order : List ℕ) → k < n → is_in nat_eq k order ≡ false → is_in nat_eq k (rest_of n order) ≡ true
in-rest n k order lt e = in-kept (λ j. not (is_in nat_eq j order)) k (upward 0 n) (ap not e) (in-upward 0 n k (omega arith) (omega (arith, lt)))

-- the ids of the rest, and over them those of the order
pub moved-is : (before n k blank : ℕ) (order : List ℕ) → k < n
    → (if is_in nat_eq k order then before + place_of nat_eq k order else (if is_in nat_eq k (rest_of n order) then 2 ^ 56 + place_of nat_eq k (rest_of n order) else blank))
    ≡ moved_id before n order (other_id k)
moved-is before n k blank order lt = by_test (is_in nat_eq k order) refl ∙ sym moved
  where
    moved : moved_id before n order (other_id k) ≡ (if is_in nat_eq k order then before + place_of nat_eq k order else other_id (place_of nat_eq k (rest_of n order)))
    moved =
        ap (λ b. if b then other_id k else (if is_in nat_eq (other_id k - 2 ^ 56) order then before + place_of nat_eq (other_id k - 2 ^ 56) order else other_id (place_of nat_eq (other_id k - 2 ^ 56) (rest_of n order)))) (over-master k)
        ∙ ap (λ j. if is_in nat_eq j order then before + place_of nat_eq j order else other_id (place_of nat_eq j (rest_of n order))) (other-place k)

    by_test : (b : Bool) → is_in nat_eq k order ≡ b
        → (if is_in nat_eq k order then before + place_of nat_eq k order else (if is_in nat_eq k (rest_of n order) then 2 ^ 56 + place_of nat_eq k (rest_of n order) else blank))
        ≡ (if is_in nat_eq k order then before + place_of nat_eq k order else other_id (place_of nat_eq k (rest_of n order)))
    by_test true e = chosen (is_in nat_eq k order) (before + place_of nat_eq k order) _ e ∙ sym (chosen (is_in nat_eq k order) (before + place_of nat_eq k order) _ e)
    by_test false e = left-out (is_in nat_eq k order) (before + place_of nat_eq k order) _ e
        ∙ chosen (is_in nat_eq k (rest_of n order)) (2 ^ 56 + place_of nat_eq k (rest_of n order)) blank (in-rest n k order lt e)
        ∙ sym (left-out (is_in nat_eq k order) (before + place_of nat_eq k order) (other_id (place_of nat_eq k (rest_of n order))) e)

pub rest-below : (n : ℕ) (order : List ℕ) → AreBelow n (rest_of n order)
rest-below n order = below-filter (λ k. not (is_in nat_eq k order)) n (upward 0 n) (upward-below 0 n n (omega arith))

pub filter-short : {X : Type 0} (test : X → Bool) (xs : List X) → length (filter test xs) ≤ length xs
filter-short test [] = le_refl 0
filter-short test (x ∷ xs) = pick (test x) (filter-short test xs)
  where
    pick : (b : Bool) → length (filter test xs) ≤ length xs → length (cond b (x ∷ filter test xs) (filter test xs)) ≤ length (x ∷ xs)
    pick true h = omega (arith, h)
    pick false h = omega (arith, h)

upward-long : (first n : ℕ) → length (upward first n) ≡ n
upward-long first zero = refl
upward-long first (suc n) = ap suc (upward-long (first + 1) n)

pub rest-short : (n : ℕ) (order : List ℕ) → length (rest_of n order) ≤ n
rest-short n order = subst (λ m. length (rest_of n order) ≤ m) (upward-long 0 n) (filter-short (λ k. not (is_in nat_eq k order)) (upward 0 n))
