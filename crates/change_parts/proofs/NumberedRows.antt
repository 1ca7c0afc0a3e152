-- Rows whose parents are ids make a world, if their names are distinct and each parent stands before its child.
use Rattle.std.proofs.Common.{◌≡◌, ◌<◌, ◌≤◌, ◌+◌, ◌-◌, ◌^◌, ℕ, zero, suc, ◌⊎◌, inl, inr, List, [], ◌∷◌, ◌++◌, length, map, Option, Some, None, slice_get, get_or, is_some, refl, sym, ap, ap₂, subst, ◌∙◌, ⊎_elim, if◌then◌else◌, arith, true≢false, append_assoc, length-append}
use Rattle.std.specs.List.{AllByRecursion}
use Rattle.std.proofs.lemmas.List.{map-append, length-map}
use Rattle.id_groups.specs.Lists.{IsIn, AreAllIn, AreDistinct}
use Rattle.id_groups.specs.Name.{Name, same_name}
use Rattle.id_groups.specs.Id.{is_master_id, other_id}
use Rattle.id_groups.proofs.Names.{same_name-exact, same_name-self}
use Rattle.commit_graph.specs.World.{Row, World, IsWorld, IsHistory}
use Rattle.commit_graph.specs.Ids.{id_in}
use Rattle.commit_graph.proofs.Naming.{each}
use Rattle.commit_graph.proofs.Places.{chosen, left-out, below-master, over-master, id-in-master, id-in-others}
use Rattle.payload_tables.specs.Pending.{HeldRow, row_names}
use Rattle.payload_tables.proofs.Lists.{distinct-parts}
use Rattle.change_parts.proofs.Renumber.{map-in-back}
use Rattle.payload_tables.proofs.Rows.{get-below}
use Rattle.payload_tables.proofs.Joined.{get-map}

-- what holds of each row's parents, and of the number of the row
abbrev pub AllRows : (ℕ → List ℕ → Type 0) → ℕ → List HeldRow → Type 0
AllRows Q k [] = Unit {0}
AllRows Q k (row ∷ rows) = Q k row.parents × AllRows Q (k + 1) rows

pub rows-join : (Q : ℕ → List ℕ → Type 0) (k : ℕ) (xs ys : List HeldRow) → AllRows Q k xs → AllRows Q (k + length xs) ys → AllRows Q k (xs ++ ys)
rows-join Q k [] ys h g = subst (λ n. AllRows Q n ys) (let z : k + 0 ≡ k = omega arith in z) g
rows-join Q k (x ∷ xs) ys h g = (h.0, rows-join Q (k + 1) xs ys h.1 (subst (λ n. AllRows Q n ys) (let z : k + suc (length xs) ≡ k + 1 + length xs = omega arith in z) g))

pub rows-weaker : (P Q : ℕ → List ℕ → Type 0) (end : ℕ) → ((k : ℕ) (ps : List ℕ) → k < end → P k ps → Q k ps) → (k : ℕ) (rows : List HeldRow) → k + length rows ≤ end → AllRows P k rows → AllRows Q k rows
rows-weaker P Q end f k [] le h = tt
rows-weaker P Q end f k (r ∷ rows) le h = (f k r.parents (omega (arith, le)) h.0, rows-weaker P Q end f (k + 1) rows (omega (arith, le)) h.1)

pub rows-moved : (P Q : ℕ → List ℕ → Type 0) (by : ℕ) → ((k : ℕ) (ps : List ℕ) → P k ps → Q (by + k) ps) → (k : ℕ) (rows : List HeldRow) → AllRows P k rows → AllRows Q (by + k) rows
rows-moved P Q by f k [] h = tt
rows-moved P Q by f k (r ∷ rows) h = (f k r.parents h.0, subst (λ n. AllRows Q n rows) (let z : by + (k + 1) ≡ by + k + 1 = omega arith in z) (rows-moved P Q by f (k + 1) rows h.1))

-- the parents of the k-th master row, and of the k-th other one behind so many master rows
abbrev pub Below : ℕ → List ℕ → Type 0
Below k ps = AllByRecursion (λ p. p < k) ps × AreDistinct ps × (length ps ≤ 8)

abbrev pub Behind : ℕ → ℕ → List ℕ → Type 0
Behind m k ps = AllByRecursion (λ p. (p < m) ⊎ ((2 ^ 56 ≤ p) × (p < 2 ^ 56 + k))) ps × AreDistinct ps × (length ps ≤ 8)

-- ---- lists

get-some : (xs : List Name) (k : ℕ) (x : Name) → slice_get xs k ≡ Some x → get_or xs k [] ≡ x
get-some [] k x e = absurd (true≢false (sym (ap is_some e)))
get-some (y ∷ xs) zero x e = ap some_or e
  where
    some_or : Option Name → Name
    some_or None = y
    some_or (Some a) = a
get-some (y ∷ xs) (suc k) x e = get-some xs k x e

get-or-in : (xs : List Name) (k : ℕ) → k < length xs → IsIn (get_or xs k []) xs
get-or-in [] k lt = absurd (omega (arith, lt))
get-or-in (y ∷ xs) zero lt = inl refl
get-or-in (y ∷ xs) (suc k) lt = inr (get-or-in xs k (omega (arith, lt)))

get-or-front : (xs ys : List Name) (k : ℕ) → k < length xs → get_or (xs ++ ys) k [] ≡ get_or xs k []
get-or-front [] ys k lt = absurd (omega (arith, lt))
get-or-front (y ∷ xs) ys zero lt = refl
get-or-front (y ∷ xs) ys (suc k) lt = get-or-front xs ys k (omega (arith, lt))

get-or-one : (xs : List Name) (i j : ℕ) → AreDistinct xs → i < length xs → j < length xs → get_or xs i [] ≡ get_or xs j [] → i ≡ j
get-or-one [] i j d li lj e = absurd (omega (arith, li))
get-or-one (x ∷ xs) zero zero d li lj e = refl
get-or-one (x ∷ xs) zero (suc j) d li lj e = absurd (d.0 (subst (λ z. IsIn z xs) (sym e) (get-or-in xs j (omega (arith, lj)))))
get-or-one (x ∷ xs) (suc i) zero d li lj e = absurd (d.0 (subst (λ z. IsIn z xs) e (get-or-in xs i (omega (arith, li)))))
get-or-one (x ∷ xs) (suc i) (suc j) d li lj e = ap suc (get-or-one xs i j d.1 (omega (arith, li)) (omega (arith, lj)) e)

mapped-distinct : (f : ℕ → Name) (xs : List ℕ) → ((x y : ℕ) → IsIn x xs → IsIn y xs → f x ≡ f y → x ≡ y) → AreDistinct xs → AreDistinct (map f xs)
mapped-distinct f [] one d = tt
mapped-distinct f (x ∷ xs) one d = (
  (λ i. let r = map-in-back f (f x) xs i in d.0 (subst (λ z. IsIn z xs) (sym (one x r.0 (inl refl) (inr r.1) r.2)) r.1)),
  mapped-distinct f xs (λ y z i j. one y z (inr i) (inr j)) d.1,
)

all-mapped : (f : ℕ → Name) (xs : List ℕ) (names : List Name) → ((x : ℕ) → IsIn x xs → IsIn (f x) names) → AreAllIn (map f xs) names
all-mapped f [] names h = tt
all-mapped f (x ∷ xs) names h = (h x (inl refl), all-mapped f xs names (λ y i. h y (inr i)))

same-each : (f : ℕ → ℕ) (xs : List ℕ) → ((x : ℕ) → IsIn x xs → f x ≡ x) → map f xs ≡ xs
same-each f [] h = refl
same-each f (x ∷ xs) h = ap₂ (λ a b. a ∷ b) (h x (inl refl)) (same-each f xs (λ y i. h y (inr i)))

map-twice : (f : ℕ → Name) (g : Name → ℕ) (xs : List ℕ) → map g (map f xs) ≡ map (λ x. g (f x)) xs
map-twice f g [] = refl
map-twice f g (x ∷ xs) = ap (λ l. g (f x) ∷ l) (map-twice f g xs)

names-long : (rows : List HeldRow) → length (row_names rows) ≡ length rows
names-long rows = length-map rows (λ (r : HeldRow). r.name)

get-name : (rows : List HeldRow) (k : ℕ) (x : HeldRow) → slice_get rows k ≡ Some x → get_or (row_names rows) k [] ≡ x.name
get-name rows k x e = get-some (row_names rows) k x.name (get-map (λ (r : HeldRow). r.name) rows k x e)

get-back : (xs ys : List Name) (k : ℕ) → get_or (xs ++ ys) (length xs + k) [] ≡ get_or ys k []
get-back [] ys k = ap (λ n. get_or ys n []) (let z : 0 + k ≡ k = omega arith in z)
get-back (x ∷ xs) ys k = ap (λ n. get_or (x ∷ (xs ++ ys)) n []) (let z : length (x ∷ xs) + k ≡ suc (length xs + k) = omega arith in z) ∙ get-back xs ys k

-- ---- the world

module _ (ms bs : List HeldRow) (apart : AreDistinct (row_names (ms ++ bs))) (small : length ms ≤ 2 ^ 56) (of_ms : AllRows Below 0 ms) (of_bs : AllRows (Behind (length ms)) 0 bs) where
  -- the place of an id among all rows
  abbrev pub place : ℕ → ℕ
  place p = if is_master_id p then p else length ms + (p - 2 ^ 56)

  -- the name of an id
  abbrev pub naming : ℕ → Name
  naming p = get_or (row_names (ms ++ bs)) (place p) []

  abbrev pub row : HeldRow → Row Name
  row x = record { name = x.name; parents = map naming x.parents }

  abbrev pub world : World Name
  world = record { master = map row ms; others = map row bs }

  -- an id of the world
  abbrev pub IsHere : ℕ → Type 0
  IsHere p = (p < length ms) ⊎ ((2 ^ 56 ≤ p) × (p < 2 ^ 56 + length bs))

  place-master : (p : ℕ) → p < length ms → place p ≡ p
  place-master p lt = let s = small in chosen (is_master_id p) p (length ms + (p - 2 ^ 56)) (below-master p (omega (arith, lt, s)))

  place-other : (p : ℕ) → 2 ^ 56 ≤ p → place p ≡ length ms + (p - 2 ^ 56)
  place-other p le = left-out (is_master_id p) p (length ms + (p - 2 ^ 56)) (ap is_master_id (let z : p ≡ other_id (p - 2 ^ 56) = omega (arith, le) in z) ∙ over-master (p - 2 ^ 56))

  place-one : (p q : ℕ) → IsHere p → IsHere q → place p ≡ place q → p ≡ q
  place-one p q (inl a) (inl b) e = sym (place-master p a) ∙ e ∙ place-master q b
  place-one p q (inl a) (inr b) e = let x = place-master p a in let y = place-other q b.0 in absurd (let z : ⊥ = omega (arith, a, x, y, e) in z)
  place-one p q (inr a) (inl b) e = let x = place-other p a.0 in let y = place-master q b in absurd (let z : ⊥ = omega (arith, b, x, y, e) in z)
  place-one p q (inr a) (inr b) e = let x = place-other p a.0 in let y = place-other q b.0 in let l = a.0 in let m = b.0 in omega (arith, l, m, x, y, e)

  place-there : (p : ℕ) → IsHere p → place p < length (ms ++ bs)
  place-there p (inl a) = let x = place-master p a in let l = length-append ms bs in omega (arith, a, x, l)
  place-there p (inr a) = let x = place-other p a.0 in let l = length-append ms bs in let lo = a.0 in let hi = a.1 in omega (arith, x, l, lo, hi)

  naming-one : (p q : ℕ) → IsHere p → IsHere q → naming p ≡ naming q → p ≡ q
  naming-one p q a b e = place-one p q a b (let n = names-long (ms ++ bs) in let x = place-there p a in let y = place-there q b in
      get-or-one (row_names (ms ++ bs)) (place p) (place q) apart (omega (arith, n, x)) (omega (arith, n, y)) e)

  -- the parents of the row with this number
  abbrev Stands : ℕ → List ℕ → Type 0
  Stands k ps = AllByRecursion (λ p. IsHere p × (place p < k)) ps × AreDistinct ps × (length ps ≤ 8)

  each-weaker : (P Q : ℕ → Type 0) → ((p : ℕ) → P p → Q p) → (ps : List ℕ) → AllByRecursion P ps → AllByRecursion Q ps
  each-weaker P Q f [] h = tt
  each-weaker P Q f (p ∷ ps) h = (f p h.0, each-weaker P Q f ps h.1)

  -- the parents of an other row, by their places
  behind-stand : (k : ℕ) → k < length bs → (ps : List ℕ) → AllByRecursion (λ p. (p < length ms) ⊎ ((2 ^ 56 ≤ p) × (p < 2 ^ 56 + k))) ps → AllByRecursion (λ p. IsHere p × (place p < length ms + k)) ps
  behind-stand k lt [] h = tt
  behind-stand k lt (p ∷ ps) h = (
    ⊎_elim (λ a. (inl a, (let x = place-master p a in omega (arith, x, a))))
        (λ b. let lo = b.0 in let hi = b.1 in let x = place-other p lo in (inr (lo, omega (arith, hi, lt)), omega (arith, lo, hi, x))) h.0,
    behind-stand k lt ps h.1,
  )

  all-stand : AllRows Stands 0 (ms ++ bs)
  all-stand = rows-join Stands 0 ms bs
      (rows-weaker Below Stands (length ms)
      (λ k ps lt h. (each-weaker (λ p. p < k) (λ p. IsHere p × (place p < k)) (λ p l. let in_ms : p < length ms = omega (arith, l, lt) in (inl in_ms, (let x = place-master p in_ms in omega (arith, x, l)))) ps h.0, h.1, h.2))
      0 ms (omega arith) of_ms)
      (subst (λ n. AllRows Stands n bs) (let z : length ms + 0 ≡ 0 + length ms = omega arith in z)
      (rows-moved (λ k ps. Stands (length ms + k) ps) Stands (length ms) (λ k ps h. h) 0 bs
      (rows-weaker (Behind (length ms)) (λ k ps. Stands (length ms + k) ps) (length bs) (λ k ps lt h. (behind-stand k lt ps h.0, h.1, h.2)) 0 bs (omega arith) of_bs)))

  history : (front rest : List HeldRow) → ms ++ bs ≡ front ++ rest → AllRows Stands (length front) rest → IsHistory (row_names front) (map row rest)
  history front [] e h = tt
  history front (r ∷ rest) e h =
      let names : row_names (ms ++ bs) ≡ row_names front ++ row_names (r ∷ rest) = ap row_names e ∙ map-append (λ (x : HeldRow). x.name) front (r ∷ rest) in
      let parts = distinct-parts (row_names front) (row_names (r ∷ rest)) (subst AreDistinct names apart) in (
        record {
          fresh = λ i. parts.2 r.name i (inl refl);
          known = all-mapped naming r.parents (row_names front) (λ p i.
              let s = each (λ p. IsHere p × (place p < length front)) r.parents h.0.0 p i in
              let lt = s.1 in let n = names-long front in
              subst (λ x. IsIn x (row_names front)) (sym (ap (λ l. get_or l (place p) []) names ∙ get-or-front (row_names front) (row_names (r ∷ rest)) (place p) (omega (arith, lt, n))))
              (get-or-in (row_names front) (place p) (omega (arith, lt, n))));
          distinct = mapped-distinct naming r.parents
              (λ p q i j f. naming-one p q (each (λ p. IsHere p × (place p < length front)) r.parents h.0.0 p i).0 (each (λ p. IsHere p × (place p < length front)) r.parents h.0.0 q j).0 f) h.0.1;
          few = (let l = length-map r.parents naming in let f = h.0.2 in omega (arith, l, f));
        },
        subst (λ b. IsHistory b (map row rest)) (map-append (λ (x : HeldRow). x.name) front (r ∷ []))
            (history (front ++ r ∷ []) rest (e ∙ sym (append_assoc front (r ∷ []) rest)) (subst (λ n. AllRows Stands n rest) (let l = length-append front (r ∷ []) in let z : length front + 1 ≡ length (front ++ r ∷ []) = omega (arith, l) in z) h.1)),
      )

  pub is-world : IsWorld world
  is-world = subst (IsHistory []) (map-append row ms bs) (history [] (ms ++ bs) refl all-stand)

  -- each id is that of its name
  pub id-of-name : (p : ℕ) → IsHere p → id_in same_name world (naming p) ≡ p
  id-of-name p (inl lt) =
      let x = get-below ms p lt in
      let name : naming p ≡ x.0.name =
      ap (λ k. get_or (row_names (ms ++ bs)) k []) (place-master p lt) ∙ ap (λ l. get_or l p []) (map-append (λ (r : HeldRow). r.name) ms bs)
      ∙ get-or-front (row_names ms) (row_names bs) p (let n = names-long ms in omega (arith, n, lt)) ∙ get-name ms p x.0 x.1 in
      ap (id_in same_name world) name ∙ id-in-master same_name same_name-exact same_name-self world is-world p (row x.0) (get-map row ms p x.0 x.1)
  id-of-name p (inr b) =
      let lo = b.0 in let hi = b.1 in
      let x = get-below bs (p - 2 ^ 56) (omega (arith, lo, hi)) in
      let name : naming p ≡ x.0.name =
      ap (λ k. get_or (row_names (ms ++ bs)) k []) (place-other p lo ∙ (let n = names-long ms in let z : length ms + (p - 2 ^ 56) ≡ length (row_names ms) + (p - 2 ^ 56) = omega (arith, n) in z))
      ∙ ap (λ l. get_or l (length (row_names ms) + (p - 2 ^ 56)) []) (map-append (λ (r : HeldRow). r.name) ms bs)
      ∙ get-back (row_names ms) (row_names bs) (p - 2 ^ 56) ∙ get-name bs (p - 2 ^ 56) x.0 x.1 in
      ap (id_in same_name world) name ∙ id-in-others same_name same_name-exact same_name-self world is-world (p - 2 ^ 56) (row x.0) (get-map row bs (p - 2 ^ 56) x.0 x.1)
      ∙ (let z : other_id (p - 2 ^ 56) ≡ p = omega (arith, lo) in z)

  one-of : (k : ℕ) (rows : List HeldRow) → AllRows Stands k rows → (x : HeldRow) → IsIn x rows → (j : ℕ) × Stands j x.parents
  one-of k [] h x i = absurd i
  one-of k (r ∷ rows) h x (inl e) = (k, subst (λ (z : HeldRow). Stands k z.parents) (sym e) h.0)
  one-of k (r ∷ rows) h x (inr i) = one-of (k + 1) rows h.1 x i

  -- each row by its parents' ids again
  pub row-again : (x : HeldRow) → IsIn x (ms ++ bs) → map (id_in same_name world) (row x).parents ≡ x.parents
  row-again x i =
      let s = one-of 0 (ms ++ bs) all-stand x i in
      map-twice naming (id_in same_name world) x.parents ∙ same-each (λ p. id_in same_name world (naming p)) x.parents (λ p j. id-of-name p (each (λ p. IsHere p × (place p < s.0)) x.parents s.1.0 p j).0)
