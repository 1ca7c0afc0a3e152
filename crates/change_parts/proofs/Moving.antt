-- The change of a flush is the change by numbers.
use Rattle.change_parts.proofs.Spans.{same-change}
use Rattle.std.proofs.Common.{◌≡◌, ◌<◌, ◌≤◌, ℕ, zero, suc, ◌+◌, ◌-◌, ◌^◌, Bool, true, false, not, cond, ◌⊎◌, inl, inr, List, [], ◌∷◌, ◌++◌, length, map, reverse, filter, drop, Option, Some, None, slice_get, get_or, refl, sym, ap, ap₂, subst, ◌∙◌, if◌then◌else◌, ⊎_elim, true≢false, append_assoc, length-append, drop_at, arith, nat_eq, le_refl, zero-lt-suc, is_some, lit≤}
use Rattle.std.specs.List.{cons_option}
use Rattle.std.proofs.lemmas.List.{map-append, length-map}
use Rattle.std.proofs.lemmas.List.Elements.{filter_map-append}
use Rattle.std.proofs.lemmas.Bool.{false_from_ne_true}
use Rattle.std.proofs.lemmas.Option.{slice_get-get_or}
use Rattle.std.proofs.Math.Seq.{get_or-append_seam}
use Rattle.id_groups.specs.Lists.{IsIn, is_in, AreAllIn}
use Rattle.id_groups.specs.Name.{Name, same_name}
use Rattle.id_groups.specs.Id.{is_master_id, other_id}
use Rattle.id_groups.proofs.Names.{same_name-exact, same_name-self}
use Rattle.id_groups.proofs.Listing.{found, there}
use Rattle.commit_graph.specs.World.{Row, World, IsWorld, IsHistory, rows_of, names_of, row_named}
use Rattle.commit_graph.specs.Ids.{id_in, place_of, parent_ids}
use Rattle.commit_graph.proofs.Histories.{in-append, history-front, history-rest, in-all}
use Rattle.commit_graph.proofs.Down.{in-left, in-right, in-reverse}
use Rattle.commit_graph.proofs.Places.{at-name, item-at, id-in-master, id-in-others, below-master, over-master, other-place, chosen, left-out, place-at, apart}
use Rattle.assign_ids.specs.Numbers.{AreBelow, HaveOlderParents, others_of, order_of}
use Rattle.assign_ids.specs.declared.graph.Node.{Node}
use Rattle.assign_ids.specs.declared.graph.Node.TheVariants.{Placed, Other}
use Rattle.assign_ids.proofs.NumberLemmas.{same-self, same-exact}
use Rattle.batch_codec.specs.Payload.{Payload}
use Rattle.name_map.specs.Part.{upward}
use Rattle.change_parts.specs.Flat.{flat_segments}
use Rattle.change_rules.specs.Flush.{flushed, master_after, rows_named, rows_outside}
use Rattle.change_parts.specs.Moves.{flat_record, node_of, rest_of, moved_id, moved_parents, moved_change}
use Rattle.change_rules.specs.Change.{flush_change, known_from}
use Rattle.change_rules.proofs.Flushes.{row-found, front-rows, newest-down}
use Rattle.change_rules.proofs.Changes.{id-front, rows-front, parents-known}
use Rattle.segment_codec.specs.Record.{Segment}
use Rattle.segment_rules.specs.Flat.{flat_segments_of}
use Rattle.segment_rules.specs.NewLevels.{new_levels}
use Rattle.payload_tables.proofs.Lists.{names-length, get-below}
use Rattle.change_parts.proofs.Renumber.{in-map, Agree, placed-in, order-same}

-- Lists by their numbers.

pub by-numbers : {X : Type 0} (d : X) (front xs : List X) → xs ≡ map (λ k. get_or (front ++ xs) k d) (upward (length front) (length xs))
by-numbers d front [] = refl
by-numbers d front (x ∷ xs) = ap₂ (λ a b. a ∷ b) (sym (get_or-append_seam front x xs d))
    (by-numbers d (front ++ x ∷ []) xs
    ∙ ap (λ l. map (λ k. get_or l k d) (upward (length (front ++ x ∷ [])) (length xs))) (append_assoc front (x ∷ []) xs)
    ∙ ap (λ n. map (λ k. get_or (front ++ x ∷ xs) k d) (upward n (length xs))) (length-append front (x ∷ [])))

pub upward-below : (first n end : ℕ) → first + n ≤ end → AreBelow end (upward first n)
upward-below first zero end le = tt
upward-below first (suc n) end le = (omega (arith, le), upward-below (first + 1) n end (omega (arith, le)))

pub below-filter : (test : ℕ → Bool) (n : ℕ) (ks : List ℕ) → AreBelow n ks → AreBelow n (filter test ks)
below-filter test n [] h = tt
below-filter test n (k ∷ ks) h = pick (test k) (below-filter test n ks h.1)
  where
    pick : (b : Bool) → AreBelow n (filter test ks) → AreBelow n (cond b (k ∷ filter test ks) (filter test ks))
    pick true r = (h.0, r)
    pick false r = r

pub filter-map-by : {X : Type 0} (g : ℕ → X) (p : X → Bool) (q : ℕ → Bool) (n : ℕ) (ks : List ℕ) → AreBelow n ks → ((k : ℕ) → k < n → p (g k) ≡ q k) → filter p (map g ks) ≡ map g (filter q ks)
filter-map-by g p q n [] h f = refl
filter-map-by {X} g p q n (k ∷ ks) h f = ap (λ b. cond b (g k ∷ filter p (map g ks)) (filter p (map g ks))) (f k h.0) ∙ pick (q k) (filter-map-by g p q n ks h.1 f)
  where
    pick : (b : Bool) → filter p (map g ks) ≡ map g (filter q ks) → cond b (g k ∷ filter p (map g ks)) (filter p (map g ks)) ≡ map g (cond b (k ∷ filter q ks) (filter q ks))
    pick true r = ap (λ l. g k ∷ l) r
    pick false r = r

pub map-map : {X Y Z : Type 0} (f : Y → Z) (g : X → Y) (xs : List X) → map f (map g xs) ≡ map (λ x. f (g x)) xs
map-map f g [] = refl
map-map f g (x ∷ xs) = ap (λ l. f (g x) ∷ l) (map-map f g xs)

pub map-below : {X : Type 0} (f g : ℕ → X) (n : ℕ) (ks : List ℕ) → AreBelow n ks → ((k : ℕ) → k < n → f k ≡ g k) → map f ks ≡ map g ks
map-below f g n [] h e = refl
map-below f g n (k ∷ ks) h e = ap₂ (λ a b. a ∷ b) (e k h.0) (map-below f g n ks h.1 e)

pub map-in : {X Y : Type 0} (f g : X → Y) (xs : List X) → ((x : X) → IsIn x xs → f x ≡ g x) → map f xs ≡ map g xs
map-in f g [] e = refl
map-in f g (x ∷ xs) e = ap₂ (λ a b. a ∷ b) (e x (inl refl)) (map-in f g xs (λ y i. e y (inr i)))

-- In a history each parent stands before its child.
pub earlier : (before : List Name) (rows : List (Row Name)) (k : ℕ) (r : Row Name) → IsHistory before rows → slice_get rows k ≡ Some r → (p : Name) → IsIn p r.parents
    → IsIn p before ⊎ ((i : ℕ) × (q : Row Name) × (slice_get rows i ≡ Some q) × (q.name ≡ p) × (i < k))
earlier before [] k r h e p i = absurd (true≢false (sym (ap is_some e)))
earlier before (q ∷ rows) zero r h e p i = inl (in-all p r.parents before i (subst (λ (z : Row Name). AreAllIn z.parents before) (some-same q r e) h.0.known))
  where
    some_or : Row Name → Option (Row Name) → Row Name
    some_or d None = d
    some_or d (Some x) = x

    some-same : (x y : Row Name) → ◌≡◌ {A = Option (Row Name)} (Some x) (Some y) → x ≡ y
    some-same x y e = ap (some_or x) e
earlier before (q ∷ rows) (suc k) r h e p i = ⊎_elim
    (λ j. ⊎_elim (λ l. inl l) (λ l. inr (0, q, refl, ⊎_elim (λ f. sym f) (λ f. absurd f) l, zero-lt-suc k)) (in-append p before (q.name ∷ []) j))
    (λ t. inr (suc t.0, t.1, t.2, t.3, (let lt = t.4 in omega (arith, lt))))
    (earlier (before ++ q.name ∷ []) rows k r h.1 e p i)

-- the place of a name in a list behind others
place-behind-front : (x : Name) (front ys : List Name) → (IsIn x front → ⊥) → place_of same_name x (front ++ ys) ≡ length front + place_of same_name x ys
place-behind-front x [] ys none = omega arith
place-behind-front x (y ∷ front) ys none = by_test (same_name y x) refl (place-behind-front x front ys (λ i. none (inr i)))
  where
    by_test : (b : Bool) → same_name y x ≡ b → place_of same_name x (front ++ ys) ≡ length front + place_of same_name x ys
        → (if b then 0 else suc (place_of same_name x (front ++ ys))) ≡ length (y ∷ front) + place_of same_name x ys
    by_test true e r = absurd (none (inl (sym (same_name-exact y x e))))
    by_test false e r = omega (arith, r)

module _ (v : World Name) (whole : IsWorld v) (small : length v.master ≤ 16777216) (parents : ℕ → List ℕ) (name : ℕ → Name)
    (parents_are : (k : ℕ) (r : Row Name) → slice_get v.others k ≡ Some r → parents k ≡ map (id_in same_name v) r.parents)
    (no_parents : (k : ℕ) → length v.others ≤ k → parents k ≡ [])
    (names_are : (k : ℕ) (r : Row Name) → slice_get v.others k ≡ Some r → name k ≡ r.name)
    (heads : List Name) (known : AreAllIn heads (names_of (rows_of v))) where
  abbrev pub n : ℕ
  n = length v.others

  abbrev pub nodes : ℕ → List Node
  nodes k = map node_of (parents k)

  abbrev pub nobody : Row Name
  nobody = record { name = []; parents = [] }

  abbrev pub row : ℕ → Row Name
  row k = get_or v.others k nobody

  pub row-at : (k : ℕ) → k < n → slice_get v.others k ≡ Some (row k)
  row-at k lt = slice_get-get_or v.others k nobody lt

  pub row-name : (k : ℕ) → k < n → (row k).name ≡ name k
  row-name k lt = sym (names_are k (row k) (row-at k lt))

  others-history : IsHistory (names_of v.master) v.others
  others-history = history-rest [] v.master v.others whole

  pub name-apart : (k : ℕ) → k < n → IsIn (name k) (names_of v.master) → ⊥
  name-apart k lt i = apart (names_of v.master) v.others k (row k) others-history (row-at k lt) (subst (λ z. IsIn z (names_of v.master)) (sym (row-name k lt)) i)

  pub name-one : (j k : ℕ) → j < n → k < n → name j ≡ name k → j ≡ k
  name-one j k lj lk e =
      sym (place-at same_name same_name-exact same_name-self (names_of v.master) v.others j (row j) others-history (row-at j lj))
      ∙ ap (λ z. place_of same_name z (names_of v.others)) (row-name j lj ∙ e ∙ sym (row-name k lk))
      ∙ place-at same_name same_name-exact same_name-self (names_of v.master) v.others k (row k) others-history (row-at k lk)

  -- the id of a commit, and its node
  pub id-master : (i : ℕ) (r : Row Name) → slice_get v.master i ≡ Some r → (id_in same_name v r.name ≡ i) × (is_master_id i ≡ true)
  id-master i r e = (
    id-in-master same_name same_name-exact same_name-self v whole i r e,
    below-master i (let lt = get-below v.master i r e in let le = small in in-56 i (omega (arith, lt, le))),
  )
    where
      in-56 : (i : ℕ) → i < 16777216 → i < 2 ^ 56
      in-56 i lt = let k : 16777216 ≤ 2 ^ 56 = lit≤ tt in omega (arith, k, lt)

  node-master : (p : Name) → IsIn p (names_of v.master) → node_of (id_in same_name v p) ≡ Placed
  node-master p i =
      let t = at-name v.master p i in
      let e = id-master t.0 t.1 t.2 in
      ap (λ z. node_of (id_in same_name v z)) (sym t.3) ∙ ap node_of e.0 ∙ ap (λ b. if b then Placed else Other (t.0 - 2 ^ 56)) e.1

  pub id-other : (j : ℕ) (r : Row Name) → slice_get v.others j ≡ Some r → id_in same_name v r.name ≡ other_id j
  id-other j r e = id-in-others same_name same_name-exact same_name-self v whole j r e

  node-other : (j : ℕ) (r : Row Name) → slice_get v.others j ≡ Some r → node_of (id_in same_name v r.name) ≡ Other j
  node-other j r e = ap node_of (id-other j r e) ∙ ap (λ b. if b then Placed else Other (other_id j - 2 ^ 56)) (over-master j) ∙ ap (λ k. Other k) (other-place j)

  -- where a commit stands
  abbrev pub Stands : ℕ → Name → Type 0
  Stands end p = IsIn p (names_of v.master) ⊎ ((i : ℕ) × (q : Row Name) × (slice_get v.others i ≡ Some q) × (q.name ≡ p) × (i < end))

  agree : (end : ℕ) → end ≤ n → (ps : List Name) → ((p : Name) → IsIn p ps → Stands end p)
      → Agree (names_of v.master) n name ps (map node_of (map (id_in same_name v) ps)) × AreBelow end (others_of (map node_of (map (id_in same_name v) ps)))
  agree end le [] f = (tt, tt)
  agree end le (p ∷ ps) f = by_place (f p (inl refl)) (agree end le ps (λ q i. f q (inr i)))
    where
      by_place : Stands end p → Agree (names_of v.master) n name ps (map node_of (map (id_in same_name v) ps)) × AreBelow end (others_of (map node_of (map (id_in same_name v) ps)))
          → Agree (names_of v.master) n name (p ∷ ps) (map node_of (map (id_in same_name v) (p ∷ ps))) × AreBelow end (others_of (map node_of (map (id_in same_name v) (p ∷ ps))))
      by_place (inl i) r =
          subst (λ (z : Node). Agree (names_of v.master) n name (p ∷ ps) (z ∷ map node_of (map (id_in same_name v) ps)) × AreBelow end (others_of (z ∷ map node_of (map (id_in same_name v) ps)))) (sym (node-master p i)) ((i, r.0), r.1)
      by_place (inr t) r =
          let lt = t.4 in
          let named : name t.0 ≡ p = names_are t.0 t.1 t.2 ∙ t.3 in
          let node : node_of (id_in same_name v p) ≡ Other t.0 = ap (λ z. node_of (id_in same_name v z)) (sym t.3) ∙ node-other t.0 t.1 t.2 in
          subst (λ (z : Node). Agree (names_of v.master) n name (p ∷ ps) (z ∷ map node_of (map (id_in same_name v) ps)) × AreBelow end (others_of (z ∷ map node_of (map (id_in same_name v) ps)))) (sym node)
          ((omega (arith, lt, le), named, r.0), (lt, r.1))

  pub row-stands : (k : ℕ) → k < n → (p : Name) → IsIn p (row k).parents → Stands k p
  row-stands k lt p i = earlier (names_of v.master) v.others k (row k) others-history (row-at k lt) p i

  row-nodes : (k : ℕ) → k < n → nodes k ≡ map node_of (map (id_in same_name v) (row k).parents)
  row-nodes k lt = ap (map node_of) (parents_are k (row k) (row-at k lt))

  pub older : HaveOlderParents nodes
  older k = ⊎_elim
      (λ lt. subst (λ l. AreBelow k (others_of l)) (sym (row-nodes k lt)) (agree k (let l = lt in omega (arith, l)) (row k).parents (row-stands k lt)).1)
      (λ le. none k le)
      (lt_or_le k n)
    where
      lt_or_le : (a b : ℕ) → (a < b) ⊎ (b ≤ a)
      lt_or_le zero zero = inr (le_refl 0)
      lt_or_le zero (suc b) = inl (zero-lt-suc b)
      lt_or_le (suc a) zero = inr (omega arith)
      lt_or_le (suc a) (suc b) = ⊎_elim (λ l. inl (omega (arith, l))) (λ l. inr (omega (arith, l))) (lt_or_le a b)

      none : (k : ℕ) → n ≤ k → AreBelow k (others_of (nodes k))
      none k le = subst (λ l. AreBelow k (others_of (map node_of l))) (sym (no_parents k le)) tt

  -- What moves, by numbers.

  heads-stand : (p : Name) → IsIn p heads → Stands n p
  heads-stand p i = ⊎_elim (λ j. inl j) (λ o. let t = at-name v.others p o in inr (t.0, t.1, t.2, t.3, get-below v.others t.0 t.1 t.2))
      (in-append p (names_of v.master) (names_of v.others) (subst (IsIn p) (map-append (λ r. r.name) v.master v.others) (in-all p heads (names_of (rows_of v)) i known)))

  abbrev pub at : List Node
  at = map node_of (map (id_in same_name v) heads)

  abbrev pub order : List ℕ
  order = order_of nodes n (others_of at)

  abbrev pub rest : List ℕ
  rest = rest_of n order

  abbrev pub new : World Name
  new = flushed same_name v heads

  pub at-below : AreBelow n (others_of at)
  at-below = (agree n (le_refl n) heads heads-stand).1

  row-in-rows : (k : ℕ) → k < n → (r : Row Name) × IsIn r (reverse (rows_of v)) × (r.name ≡ name k) × Agree (names_of v.master) n name r.parents (nodes k)
  row-in-rows k lt = (
    row k,
    in-reverse (row k) (rows_of v) (in-right (row k) v.master v.others (item-at v.others k (row k) (row-at k lt))),
    row-name k lt,
    subst (Agree (names_of v.master) n name (row k).parents) (sym (row-nodes k lt)) (agree k (let l = lt in omega (arith, l)) (row k).parents (row-stands k lt)).0,
  )

  moves : AreBelow n order × (master_after same_name v heads ≡ names_of v.master ++ map name order)
  moves = order-same (reverse (rows_of v)) (names_of v.master) n name nodes (newest-down same_name same_name-exact same_name-self v whole heads known) older row-in-rows name-one name-apart heads at
      (agree n (le_refl n) heads heads-stand).0

  pub order-below : AreBelow n order
  order-below = moves.0

  rest-below : AreBelow n rest
  rest-below = below-filter (λ k. not (is_in nat_eq k order)) n (upward 0 n) (upward-below 0 n n (omega arith))

  rows-by : (ks : List ℕ) → AreBelow n ks → rows_named same_name (rows_of v) (map name ks) ≡ map row ks
  rows-by [] h = refl
  rows-by (k ∷ ks) h =
      ap (λ o. cons_option o (rows_named same_name (rows_of v) (map name ks)))
      (ap (row_named same_name (rows_of v)) (sym (row-name k h.0))
      ∙ row-found same_name same_name-exact same_name-self [] (rows_of v) (row k) whole (in-right (row k) v.master v.others (item-at v.others k (row k) (row-at k h.0))))
      ∙ ap (λ l. row k ∷ l) (rows-by ks h.1)

  pub master-rows : new.master ≡ v.master ++ map row order
  master-rows =
      ap (rows_named same_name (rows_of v)) moves.1
      ∙ filter_map-append (row_named same_name (rows_of v)) (names_of v.master) (map name order)
      ∙ ap₂ (λ a b. a ++ b) (front-rows same_name same_name-exact same_name-self (rows_of v) whole v.master (λ r i. in-left r v.master v.others i)) (rows-by order moves.0)

  pub others-rows : new.others ≡ map row rest
  others-rows =
      ap (λ o. rows_outside same_name v.others o) moves.1
      ∙ ap (λ l. filter (λ r. not (is_in same_name r.name (names_of v.master ++ map name order))) l) (by-numbers nobody [] v.others)
      ∙ filter-map-by row (λ r. not (is_in same_name r.name (names_of v.master ++ map name order))) (λ k. not (is_in nat_eq k order)) n (upward 0 n) (upward-below 0 n n (omega arith))
      (λ k lt. ap (λ z. not (is_in same_name z (names_of v.master ++ map name order))) (row-name k lt)
      ∙ ap not (placed-in (reverse (rows_of v)) (names_of v.master) n name nodes (newest-down same_name same_name-exact same_name-self v whole heads known) older row-in-rows name-one name-apart k order lt moves.0))

  pub names-by : (ks : List ℕ) → AreBelow n ks → names_of (map row ks) ≡ map name ks
  names-by ks h = map-map (λ (r : Row Name). r.name) row ks ∙ map-below (λ k. (row k).name) name n ks h row-name

  master-names : names_of new.master ≡ names_of v.master ++ map name order
  master-names = ap names_of master-rows ∙ map-append (λ r. r.name) v.master (map row order) ∙ ap (λ l. names_of v.master ++ l) (names-by order moves.0)

  others-names : names_of new.others ≡ map name rest
  others-names = ap names_of others-rows ∙ names-by rest rest-below

  -- Ids.

  test-same : (x j : ℕ) → x < n → j < n → same_name (name x) (name j) ≡ nat_eq x j
  test-same x j lx lj = by_test (nat_eq x j) refl
    where
      by_test : (b : Bool) → nat_eq x j ≡ b → same_name (name x) (name j) ≡ b
      by_test true e = ap (λ z. same_name (name z) (name j)) (same-exact x j e) ∙ same_name-self (name j)
      by_test false e = false_from_ne_true (same_name (name x) (name j))
          (λ t. true≢false (sym (ap (λ z. nat_eq z j) (name-one x j lx lj (same_name-exact (name x) (name j) t)) ∙ same-self j) ∙ e))

  pub place-by : (xs : List ℕ) → AreBelow n xs → (j : ℕ) → j < n → place_of same_name (name j) (map name xs) ≡ place_of nat_eq j xs
  place-by [] h j lt = refl
  place-by (x ∷ xs) h j lt =
      ap (λ b. if b then 0 else suc (place_of same_name (name j) (map name xs))) (test-same x j h.0 lt)
      ∙ ap (λ k. if nat_eq x j then 0 else suc k) (place-by xs h.1 j lt)

  new-master-id : (j : ℕ) → j < n → is_in nat_eq j order ≡ true → id_in same_name new (name j) ≡ length v.master + place_of nat_eq j order
  new-master-id j lt e =
      chosen (is_in same_name (name j) (names_of new.master)) (place_of same_name (name j) (names_of new.master)) (other_id (place_of same_name (name j) (names_of new.others)))
      (ap (is_in same_name (name j)) master-names
      ∙ there same_name same_name-exact same_name-self (name j) (names_of v.master ++ map name order) (in-right (name j) (names_of v.master) (map name order) (in-map name j order (found nat_eq same-exact same-self j order e))))
      ∙ ap (place_of same_name (name j)) master-names
      ∙ place-behind-front (name j) (names_of v.master) (map name order) (name-apart j lt)
      ∙ ap₂ (λ a b. a + b) (names-length v.master) (place-by order moves.0 j lt)

  new-other-id : (j : ℕ) → j < n → is_in nat_eq j order ≡ false → id_in same_name new (name j) ≡ other_id (place_of nat_eq j rest)
  new-other-id j lt e =
      left-out (is_in same_name (name j) (names_of new.master)) (place_of same_name (name j) (names_of new.master)) (other_id (place_of same_name (name j) (names_of new.others)))
      (ap (is_in same_name (name j)) master-names
      ∙ placed-in (reverse (rows_of v)) (names_of v.master) n name nodes (newest-down same_name same_name-exact same_name-self v whole heads known) older row-in-rows name-one name-apart j order lt moves.0
      ∙ e)
      ∙ ap other_id (ap (place_of same_name (name j)) others-names ∙ place-by rest rest-below j lt)

  other-moved : (j : ℕ) → moved_id (length v.master) n order (other_id j) ≡ (if is_in nat_eq j order then length v.master + place_of nat_eq j order else other_id (place_of nat_eq j rest))
  other-moved j =
      ap (λ b. if b then other_id j else (if is_in nat_eq (other_id j - 2 ^ 56) order then length v.master + place_of nat_eq (other_id j - 2 ^ 56) order else other_id (place_of nat_eq (other_id j - 2 ^ 56) rest))) (over-master j)
      ∙ ap (λ k. if is_in nat_eq k order then length v.master + place_of nat_eq k order else other_id (place_of nat_eq k rest)) (other-place j)

  id-moved : (p : Name) → Stands n p → id_in same_name new p ≡ moved_id (length v.master) n order (id_in same_name v p)
  id-moved p (inl i) =
      let t = at-name v.master p i in
      let e = id-master t.0 t.1 t.2 in
      let id : id_in same_name v p ≡ t.0 = ap (id_in same_name v) (sym t.3) ∙ e.0 in
      let stays : moved_id (length v.master) n order (id_in same_name v p) ≡ t.0 =
      ap (moved_id (length v.master) n order) id
      ∙ ap (λ b. if b then t.0 else (if is_in nat_eq (t.0 - 2 ^ 56) order then length v.master + place_of nat_eq (t.0 - 2 ^ 56) order else other_id (place_of nat_eq (t.0 - 2 ^ 56) rest))) e.1 in
      id-front new v (map name order) master-names p i ∙ id ∙ sym stays
  id-moved p (inr t) =
      let named : name t.0 ≡ p = names_are t.0 t.1 t.2 ∙ t.3 in
      let id : id_in same_name v p ≡ other_id t.0 = ap (id_in same_name v) (sym t.3) ∙ id-other t.0 t.1 t.2 in
      ap (id_in same_name new) (sym named) ∙ by_test (is_in nat_eq t.0 order) refl ∙ sym (other-moved t.0) ∙ ap (moved_id (length v.master) n order) (sym id)
    where
      by_test : (b : Bool) → is_in nat_eq t.0 order ≡ b → id_in same_name new (name t.0) ≡ (if is_in nat_eq t.0 order then length v.master + place_of nat_eq t.0 order else other_id (place_of nat_eq t.0 rest))
      by_test true e = new-master-id t.0 t.4 e ∙ sym (chosen (is_in nat_eq t.0 order) (length v.master + place_of nat_eq t.0 order) (other_id (place_of nat_eq t.0 rest)) e)
      by_test false e = new-other-id t.0 t.4 e ∙ sym (left-out (is_in nat_eq t.0 order) (length v.master + place_of nat_eq t.0 order) (other_id (place_of nat_eq t.0 rest)) e)

  stands-further : (k : ℕ) → k < n → (p : Name) → Stands k p → Stands n p
  stands-further k lt p s = ⊎_elim (λ i. inl i) (λ t. inr (t.0, t.1, t.2, t.3, (let l = t.4 in omega (arith, l, lt)))) s

  row-moved : (k : ℕ) → k < n → map (id_in same_name new) (row k).parents ≡ map (moved_id (length v.master) n order) (parents k)
  row-moved k lt =
      map-in (id_in same_name new) (λ p. moved_id (length v.master) n order (id_in same_name v p)) (row k).parents (λ p i. id-moved p (stands-further k lt p (row-stands k lt p i)))
      ∙ sym (map-map (moved_id (length v.master) n order) (id_in same_name v) (row k).parents)
      ∙ ap (map (moved_id (length v.master) n order)) (sym (parents_are k (row k) (row-at k lt)))

  parents-moved : (ks : List ℕ) → AreBelow n ks → parent_ids same_name new (map row ks) ≡ moved_parents (length v.master) n order parents ks
  parents-moved ks h = map-map (λ (r : Row Name). map (id_in same_name new) r.parents) row ks
      ∙ map-below (λ k. map (id_in same_name new) (row k).parents) (λ k. map (moved_id (length v.master) n order) (parents k)) n ks h row-moved

  pub master-size : length new.master ≡ length v.master + length order
  master-size = ap length master-rows ∙ length-append v.master (map row order) ∙ ap (λ k. length v.master + k) (length-map order row)

  pub others-size : length new.others ≡ length rest
  others-size = ap length others-rows ∙ length-map rest row

  behind : drop (length v.master) new.master ≡ map row order
  behind = ap (drop (length v.master)) master-rows ∙ drop_at v.master (map row order) (length v.master) refl

  -- the parents of the new master ids: those that were there, and those of what moved
  front-parents : (masters : List (List ℕ)) → masters ≡ parent_ids same_name v v.master → parent_ids same_name new new.master ≡ masters ++ moved_parents (length v.master) n order parents order
  front-parents masters e =
      ap (parent_ids same_name new) master-rows ∙ map-append (λ (r : Row Name). map (id_in same_name new) r.parents) v.master (map row order)
      ∙ ap₂ (λ a b. a ++ b)
      (rows-front new v (map name order) master-names v.master (parents-known [] v.master (history-front [] v.master v.others whole)) ∙ sym e)
      (parents-moved order moves.0)

  -- the change by numbers is the change
  pub change-same : (masters : List (List ℕ)) → masters ≡ parent_ids same_name v v.master → flush_change v new ≡ moved_change (length v.master) n masters parents name order
  change-same masters e =
      same-change v new
      ∙ ap₂ (λ a b. change (new_levels (flat_segments_of 0 a) (flat_segments_of 0 b)) (length new.master) (parent_ids same_name new (drop (length v.master) new.master)) (names_of (drop (length v.master) new.master)) (parent_ids same_name new new.others) (names_of new.others))
      (sym e) (front-parents masters e)
      ∙ ap (λ l. change (come masters) (length new.master) (parent_ids same_name new l) (names_of l) (parent_ids same_name new new.others) (names_of new.others)) behind
      ∙ ap (λ k. change (come masters) k (parent_ids same_name new (map row order)) (names_of (map row order)) (parent_ids same_name new new.others) (names_of new.others)) master-size
      ∙ ap₂ (λ a b. change (come masters) (length v.master + length order) a b (parent_ids same_name new new.others) (names_of new.others)) (parents-moved order moves.0) (names-by order moves.0)
      ∙ ap₂ (λ a b. change (come masters) (length v.master + length order) (moved_parents (length v.master) n order parents order) (map name order) a b)
      (ap (parent_ids same_name new) others-rows ∙ parents-moved rest rest-below) others-names
    where
      come : List (List ℕ) → List Segment
      come ms = new_levels (flat_segments_of 0 ms) (flat_segments_of 0 (ms ++ moved_parents (length v.master) n order parents order))

      change : List Segment → ℕ → List (List ℕ) → List Name → List (List ℕ) → List Name → Payload
      change levels after ms known os names = record {
        version = 2;
        kind = 1;
        before = length v.master;
        after = after;
        cloned = 0;
        master = map flat_record (flat_segments (length v.master) ms);
        levels = levels;
        known = known_from (length v.master) known;
        heads = [];
        others = map flat_record (flat_segments (2 ^ 56) os);
        other_names = names;
      }
