-- A strip by numbers is the strip of the world.
use Rattle.std.proofs.Common.{◌≡◌, ◌<◌, ◌≤◌, ℕ, zero, suc, ◌+◌, ◌-◌, ◌^◌, Bool, true, false, not, cond, ◌&&◌, ◌||◌, ◌⊎◌, inl, inr, List, [], ◌∷◌, ◌++◌, length, map, filter, flat_map, drop, Some, slice_get, get_or, slice_index, is_some, refl, sym, ap, ap₂, subst, ◌∙◌, if◌then◌else◌, ⊎_elim, true≢false, append-nil, arith, nat_eq, drop_at}
use Rattle.std.specs.Cmp.Lexicographic.{pointwise}
use Rattle.std.specs.List.{list_any, range_with_len}
use Rattle.std.proofs.lemmas.List.{length-map}
use Rattle.std.proofs.lemmas.Bool.{false_from_ne_true}
use Rattle.id_groups.specs.Lists.{IsIn, is_in, AreAllIn}
use Rattle.id_groups.specs.Name.{Name, same_name}
use Rattle.id_groups.specs.Id.{other_id}
use Rattle.id_groups.proofs.Names.{same_name-exact, same_name-self}
use Rattle.id_groups.proofs.Listing.{found, there, any-in, in-any, both_true, or_left}
use Rattle.commit_graph.specs.World.{Row, World, IsWorld, rows_of, names_of}
use Rattle.commit_graph.specs.Graph.{Reaches, IsWalk, graph_of, parents_of}
use Rattle.commit_graph.specs.Search.{reaches_in}
use Rattle.commit_graph.specs.Ids.{id_in, place_of, parent_ids}
use Rattle.commit_graph.proofs.Histories.{in-all, history-front}
use Rattle.commit_graph.proofs.Down.{in-left, in-right, world-walks}
use Rattle.commit_graph.proofs.Walks.{reaches-self, reaches-parent, reaches-found}
use Rattle.payload_tables.proofs.Lists.{parents-known}
use Rattle.commit_graph.proofs.Places.{at-name, item-at, over-master, other-place, left-out}
use Rattle.assign_ids.specs.Numbers.{AreBelow}
use Rattle.assign_ids.proofs.NumberLemmas.{same-self, same-exact}
use Rattle.segment_codec.specs.Record.{Segment}
use Rattle.segment_rules.specs.Flat.{flat_segments_of}
use Rattle.segment_rules.specs.Levels.{level_segments, top_level}
use Rattle.segment_rules.specs.NewLevels.{same_segment, new_levels}
use Rattle.batch_codec.specs.Payload.{Payload}
use Rattle.name_map.specs.Part.{upward}
use Rattle.change_rules.specs.Strip.{stripped}
use Rattle.change_rules.specs.Change.{flush_change, known_from}
use Rattle.change_rules.proofs.Flushes.{row-found}
use Rattle.change_rules.proofs.Changes.{id-front, rows-front}
use Rattle.change_parts.specs.Flat.{flat_segments}
use Rattle.change_parts.specs.Moves.{flat_record, new_id, name_at}
use Rattle.strip_plan.specs.Stripping.{is_marked, AreSpread, places_of, strip_payload}
use Rattle.change_parts.proofs.Renumber.{map-in-back}
use Rattle.change_parts.proofs.Spans.{same-change}
use Rattle.change_parts.proofs.Marking.{filter-short}
use Rattle.change_parts.proofs.Moving.{by-numbers, filter-map-by, upward-below, below-filter, map-map, map-below, map-in, row-at, row-name, name-apart, place-by, names-by, id-other, id-master, row-stands}

same-or-more : (k first : ℕ) → first ≤ k → (k ≡ first) ⊎ (first + 1 ≤ k)
same-or-more zero zero le = inl refl
same-or-more zero (suc y) le = absurd (let z : ⊥ = omega (arith, le) in z)
same-or-more (suc x) zero le = inr (omega arith)
same-or-more (suc x) (suc y) le = ⊎_elim (λ e. inl (ap suc e)) (λ l. inr (omega (arith, l))) (same-or-more x y (omega (arith, le)))

same-bool : (a b : Bool) → (a ≡ true → b ≡ true) → (b ≡ true → a ≡ true) → a ≡ b
same-bool true b f g = sym (f refl)
same-bool false true f g = g refl
same-bool false false f g = refl

or-right : (a b : Bool) → b ≡ true → (a || b) ≡ true
or-right true b e = refl
or-right false b e = e

or-case : (a b : Bool) → (a || b) ≡ true → (a ≡ true) ⊎ (b ≡ true)
or-case true b e = inl refl
or-case false b e = inr e

-- no segment of levels is new where the flat segments are the same
none-new : (flats : List Segment) → new_levels flats flats ≡ []
none-new flats = no-items (λ level. filter (λ s. not (is_in same_segment s (level_segments flats level))) (level_segments flats level)) (range_with_len 1 top_level)
    (λ level. all-old (level_segments flats level) (level_segments flats level) (λ s i. i))
  where
    same-one : (s : Segment) → same_segment s s ≡ true
    same-one s = both_true (nat_eq s.low s.low && nat_eq s.high s.high && nat_eq s.level s.level) (pointwise nat_eq s.parents s.parents)
        (both_true (nat_eq s.low s.low && nat_eq s.high s.high) (nat_eq s.level s.level) (both_true (nat_eq s.low s.low) (nat_eq s.high s.high) (same-self s.low) (same-self s.high)) (same-self s.level))
        (same-parents s.parents)
      where
        same-parents : (xs : List ℕ) → pointwise nat_eq xs xs ≡ true
        same-parents [] = refl
        same-parents (x ∷ xs) = both_true (nat_eq x x) (pointwise nat_eq xs xs) (same-self x) (same-parents xs)

    old : (s : Segment) (xs : List Segment) → IsIn s xs → is_in same_segment s xs ≡ true
    old s [] i = absurd i
    old s (x ∷ xs) (inl e) = or_left (same_segment s x) (is_in same_segment s xs) (subst (λ z. same_segment s z ≡ true) e (same-one s))
    old s (x ∷ xs) (inr i) = or-right (same_segment s x) (is_in same_segment s xs) (old s xs i)

    all-old : (olds xs : List Segment) → ((s : Segment) → IsIn s xs → IsIn s olds) → filter (λ s. not (is_in same_segment s olds)) xs ≡ []
    all-old olds [] f = refl
    all-old olds (x ∷ xs) f =
        ap (λ b. cond (not b) (x ∷ filter (λ s. not (is_in same_segment s olds)) xs) (filter (λ s. not (is_in same_segment s olds)) xs)) (old x olds (f x (inl refl)))
        ∙ all-old olds xs (λ s i. f s (inr i))

    no-items : (f : ℕ → List Segment) (xs : List ℕ) → ((x : ℕ) → f x ≡ []) → flat_map f xs ≡ []
    no-items f [] h = refl
    no-items f (x ∷ xs) h = ap₂ (λ a b. a ++ b) (h x) (no-items f xs h)

module _ (w : World Name) (whole : IsWorld w) (small : length w.master ≤ 16777216) (parents : ℕ → List ℕ) (name : ℕ → Name)
    (parents_are : (k : ℕ) (r : Row Name) → slice_get w.others k ≡ Some r → parents k ≡ map (id_in same_name w) r.parents)
    (no_parents : (k : ℕ) → length w.others ≤ k → parents k ≡ [])
    (names_are : (k : ℕ) (r : Row Name) → slice_get w.others k ≡ Some r → name k ≡ r.name)
    (names : List Name) (others : AreAllIn names (names_of w.others)) where
  abbrev pub n : ℕ
  n = length w.others

  abbrev nobody : Row Name
  nobody = record { name = []; parents = [] }

  abbrev pub row : ℕ → Row Name
  row k = get_or w.others k nobody

  abbrev pub new : World Name
  new = stripped same_name w names

  abbrev gone : Name → Bool
  gone x = list_any (λ name. reaches_in same_name (graph_of same_name w) (length (rows_of w)) x name) names

  at : (k : ℕ) → k < n → slice_get w.others k ≡ Some (row k)
  at k lt = row-at w whole small parents name parents_are no_parents names_are [] tt k lt

  row-in : (k : ℕ) → k < n → IsIn (row k) (rows_of w)
  row-in k lt = in-right (row k) w.master w.others (item-at w.others k (row k) (at k lt))

  named : (k : ℕ) → k < n → (row k).name ≡ name k
  named k lt = row-name w whole small parents name parents_are no_parents names_are [] tt k lt

  parents-in : (k : ℕ) → k < n → (graph_of same_name w).parents (row k).name ≡ (row k).parents
  parents-in k lt = ap parents_of (row-found same_name same_name-exact same_name-self [] (rows_of w) (row k) whole (row-in k lt))

  goes : (x y : Name) → Reaches (graph_of same_name w) x y → IsIn y names → gone x ≡ true
  goes x y r i = in-any (λ name. reaches_in same_name (graph_of same_name w) (length (rows_of w)) x name) names y i (world-walks same_name same_name-exact same_name-self w whole x y r)

  gone-to : (x : Name) → gone x ≡ true → (y : Name) × IsIn y names × Reaches (graph_of same_name w) x y
  gone-to x e =
      let g = any-in (λ name. reaches_in same_name (graph_of same_name w) (length (rows_of w)) x name) names e in
      (g.0, g.1, reaches-found same_name same_name-exact same_name-self (graph_of same_name w) (length (rows_of w)) x g.0 g.2)

  -- commits of master reach commits of master
  master-parents : (x p : Name) → IsIn x (names_of w.master) → IsIn p ((graph_of same_name w).parents x) → IsIn p (names_of w.master)
  master-parents x p i j =
      let t = at-name w.master x i in
      let there = item-at w.master t.0 t.1 t.2 in
      let are : (graph_of same_name w).parents x ≡ t.1.parents = ap (λ z. (graph_of same_name w).parents z) (sym t.3)
      ∙ ap parents_of (row-found same_name same_name-exact same_name-self [] (rows_of w) t.1 whole (in-left t.1 w.master w.others there)) in
      in-all p t.1.parents (names_of w.master) (subst (IsIn p) are j) (parents-known [] w.master (history-front [] w.master w.others whole) t.1 there)

  master-walk : (x : Name) (walk : List Name) (y : Name) → IsIn x (names_of w.master) → IsWalk (graph_of same_name w) x walk y → IsIn y (names_of w.master)
  master-walk x [] y i h = subst (λ z. IsIn z (names_of w.master)) h i
  master-walk x (p ∷ walk) y i h = master-walk p walk y (master-parents x p i h.0) h.1

  other-name : (y : Name) → IsIn y names → (j : ℕ) × (j < n) × (name j ≡ y)
  other-name y i = let t = at-name w.others y (in-all y names (names_of w.others) i others) in
      (t.0, under w.others t.0 t.1 t.2, names_are t.0 t.1 t.2 ∙ t.3)
    where
      under : (xs : List (Row Name)) (k : ℕ) (r : Row Name) → slice_get xs k ≡ Some r → k < length xs
      under [] k r e = absurd (true≢false (sym (ap is_some e)))
      under (x ∷ xs) zero r e = omega arith
      under (x ∷ xs) (suc k) r e = let z = under xs k r e in omega (arith, z)

  master-stays : (x : Name) → IsIn x (names_of w.master) → gone x ≡ true → ⊥
  master-stays x i e =
      let g = gone-to x e in
      let o = other-name g.0 g.1 in
      name-apart w whole small parents name parents_are no_parents names_are [] tt o.0 o.1 (subst (λ z. IsIn z (names_of w.master)) (sym o.2) (master-walk x g.2.0 g.0 i g.2.1))

  -- a commit among the others goes where it is given, or where a parent goes
  gone-given : (k : ℕ) → k < n → IsIn (name k) names → gone (row k).name ≡ true
  gone-given k lt i = goes (row k).name (name k) (subst (Reaches (graph_of same_name w) (row k).name) (named k lt) (reaches-self (graph_of same_name w) (row k).name)) i

  gone-parent : (k : ℕ) → k < n → (p : Name) → IsIn p (row k).parents → gone p ≡ true → gone (row k).name ≡ true
  gone-parent k lt p i e =
      let g = gone-to p e in
      goes (row k).name g.0 (reaches-parent (graph_of same_name w) (row k).name p g.0 (subst (IsIn p) (sym (parents-in k lt)) i) g.2) g.1

  gone-why : (k : ℕ) → k < n → gone (row k).name ≡ true → IsIn (name k) names ⊎ ((p : Name) × IsIn p (row k).parents × (gone p ≡ true))
  gone-why k lt e = let g = gone-to (row k).name e in by_walk g.2.0 g.0 g.1 g.2.1
    where
      by_walk : (walk : List Name) (y : Name) → IsIn y names → IsWalk (graph_of same_name w) (row k).name walk y → IsIn (name k) names ⊎ ((p : Name) × IsIn p (row k).parents × (gone p ≡ true))
      by_walk [] y i h = inl (subst (λ z. IsIn z names) (sym h ∙ named k lt) i)
      by_walk (p ∷ walk) y i h = inr (p, subst (IsIn p) (parents-in k lt) h.0, goes p y (walk, h.1) i)

  -- the numbers of the given ids
  module _ (ids : List ℕ) (ids_are : ids ≡ map (id_in same_name w) names) where
    given-there : (k : ℕ) → k < n → IsIn (name k) names → is_in nat_eq k (places_of ids) ≡ true
    given-there k lt i =
        there nat_eq same-exact same-self k (places_of ids)
        (subst (λ l. IsIn k (places_of l)) (sym ids_are)
        (subst (λ z. IsIn z (map (λ id. id - 2 ^ 56) (map (id_in same_name w) names))) (ap (λ id. id - 2 ^ 56) (id-of k lt) ∙ other-place k)
        (in-mapped (λ id. id - 2 ^ 56) (id_in same_name w (name k)) (map (id_in same_name w) names) (in-mapped-name (id_in same_name w) (name k) names i))))
      where
        in-mapped : (f : ℕ → ℕ) (x : ℕ) (xs : List ℕ) → IsIn x xs → IsIn (f x) (map f xs)
        in-mapped f x [] j = absurd j
        in-mapped f x (y ∷ xs) (inl e) = inl (ap f e)
        in-mapped f x (y ∷ xs) (inr j) = inr (in-mapped f x xs j)

        in-mapped-name : (f : Name → ℕ) (x : Name) (xs : List Name) → IsIn x xs → IsIn (f x) (map f xs)
        in-mapped-name f x [] j = absurd j
        in-mapped-name f x (y ∷ xs) (inl e) = inl (ap f e)
        in-mapped-name f x (y ∷ xs) (inr j) = inr (in-mapped-name f x xs j)

        id-of : (k : ℕ) → k < n → id_in same_name w (name k) ≡ other_id k
        id-of k lt = ap (id_in same_name w) (sym (named k lt)) ∙ id-other w whole small parents name parents_are no_parents names_are [] tt k (row k) (at k lt)

    given-back : (k : ℕ) → k < n → is_in nat_eq k (places_of ids) ≡ true → IsIn (name k) names
    given-back k lt e =
        let i = found nat_eq same-exact same-self k (places_of ids) e in
        let a = map-in-back (λ id. id - 2 ^ 56) k (map (id_in same_name w) names) (subst (λ l. IsIn k (places_of l)) ids_are i) in
        let b = map-in-back (id_in same_name w) a.0 names a.1 in
        let o = other-name b.0 b.1 in
        let id : a.0 ≡ other_id o.0 = b.2 ∙ ap (id_in same_name w) (sym o.2 ∙ sym (named o.0 o.1)) ∙ id-other w whole small parents name parents_are no_parents names_are [] tt o.0 (row o.0) (at o.0 o.1) in
        let same : k ≡ o.0 = a.2 ∙ ap (λ id. id - 2 ^ 56) id ∙ other-place o.0 in
        subst (λ z. IsIn z names) (sym (ap name same ∙ o.2)) b.1

    module _ (graph : List (List ℕ)) (graph_is : (k : ℕ) → k < n → get_or graph k [] ≡ parents k) (given marks : List Bool)
        (given_are : (k : ℕ) → k < n → get_or given k false ≡ is_in nat_eq k (places_of ids)) (given_long : length given ≡ n) (spread : AreSpread graph given marks) where
      row-parents : (k : ℕ) → k < n → get_or graph k [] ≡ map (id_in same_name w) (row k).parents
      row-parents k lt = graph_is k lt ∙ parents_are k (row k) (at k lt)

      -- where a parent stands
      abbrev Parent : ℕ → Name → Type 0
      Parent k p = (IsIn p (names_of w.master) × (is_marked marks (id_in same_name w p) ≡ false)) ⊎ ((j : ℕ) × (j < k) × (p ≡ (row j).name) × (is_marked marks (id_in same_name w p) ≡ get_or marks j false))

      parent-stands : (k : ℕ) → k < n → (p : Name) → IsIn p (row k).parents → Parent k p
      parent-stands k lt p i = ⊎_elim
          (λ j.
          let t = at-name w.master p j in
          let e = id-master w whole small parents name parents_are no_parents names_are [] tt t.0 t.1 t.2 in
          inl (j, ap (λ z. is_marked marks (id_in same_name w z)) (sym t.3) ∙ ap (is_marked marks) e.0 ∙ ap (λ b. not b && get_or marks (t.0 - 2 ^ 56) false) e.1))
          (λ t.
          let id : id_in same_name w p ≡ other_id t.0 = ap (id_in same_name w) (sym t.3) ∙ id-other w whole small parents name parents_are no_parents names_are [] tt t.0 t.1 t.2 in
          let lj : t.0 < n = let l = t.4 in omega (arith, l, lt) in
          inr (
            t.0,
            t.4,
            sym t.3 ∙ sym (names_are t.0 t.1 t.2) ∙ sym (named t.0 lj),
            ap (is_marked marks) id ∙ ap (λ b. not b && get_or marks (other_id t.0 - 2 ^ 56) false) (over-master t.0) ∙ ap (λ j. get_or marks j false) (other-place t.0),
          ))
          (row-stands w whole small parents name parents_are no_parents names_are [] tt k lt p i)

      -- marks are what goes
      marks-are : (m k : ℕ) → k < m → k < n → get_or marks k false ≡ gone (row k).name
      marks-are zero k lm lt = absurd (let z : ⊥ = omega (arith, lm) in z)
      marks-are (suc m) k lm lt =
          spread.each k (let e = given_long in omega (arith, lt, e))
          ∙ same-bool (get_or given k false || list_any (is_marked marks) (get_or graph k [])) (gone (row k).name)
          (forth (λ j lj. marks-are m j (omega (arith, lj, lm)) (omega (arith, lj, lt))))
          (back (λ j lj. marks-are m j (omega (arith, lj, lm)) (omega (arith, lj, lt))))
        where
          forth : ((j : ℕ) → j < k → get_or marks j false ≡ gone (row j).name) → (get_or given k false || list_any (is_marked marks) (get_or graph k [])) ≡ true → gone (row k).name ≡ true
          forth rec e = ⊎_elim
              (λ g. gone-given k lt (given-back k lt (sym (given_are k lt) ∙ g)))
              (λ g.
              let a = any-in (is_marked marks) (get_or graph k []) g in
              let b = map-in-back (id_in same_name w) a.0 (row k).parents (subst (IsIn a.0) (row-parents k lt) a.1) in
              ⊎_elim
              (λ s. absurd (true≢false (sym a.2 ∙ ap (is_marked marks) b.2 ∙ s.1)))
              (λ s. gone-parent k lt b.0 b.1 (ap gone s.2 ∙ sym (rec s.0 s.1) ∙ sym s.3 ∙ ap (is_marked marks) (sym b.2) ∙ a.2))
              (parent-stands k lt b.0 b.1))
              (or-case (get_or given k false) (list_any (is_marked marks) (get_or graph k [])) e)

          back : ((j : ℕ) → j < k → get_or marks j false ≡ gone (row j).name) → gone (row k).name ≡ true → (get_or given k false || list_any (is_marked marks) (get_or graph k [])) ≡ true
          back rec e = ⊎_elim
              (λ i. ap (λ b. b || list_any (is_marked marks) (get_or graph k [])) (given_are k lt ∙ given-there k lt i))
              (λ p. or-right (get_or given k false) (list_any (is_marked marks) (get_or graph k [])) (⊎_elim
              (λ s. absurd (master-stays p.0 s.0 p.2))
              (λ s. in-any (is_marked marks) (get_or graph k []) (id_in same_name w p.0) (subst (IsIn (id_in same_name w p.0)) (sym (row-parents k lt)) (in-ids p.0 (row k).parents p.1))
              (s.3 ∙ rec s.0 s.1 ∙ ap gone (sym s.2) ∙ p.2))
              (parent-stands k lt p.0 p.1)))
              (gone-why k lt e)
            where
              in-ids : (x : Name) (xs : List Name) → IsIn x xs → IsIn (id_in same_name w x) (map (id_in same_name w) xs)
              in-ids x [] j = absurd j
              in-ids x (y ∷ xs) (inl f) = inl (ap (id_in same_name w) f)
              in-ids x (y ∷ xs) (inr j) = inr (in-ids x xs j)

      abbrev pub kept : List ℕ
      kept = filter (λ k. not (get_or marks k false)) (upward 0 n)

      pub kept-below : AreBelow n kept
      kept-below = below-filter (λ k. not (get_or marks k false)) n (upward 0 n) (upward-below 0 n n (omega arith))

      -- the others that stay
      pub others-rows : new.others ≡ map row kept
      others-rows =
          ap (filter (λ r. not (gone r.name))) (by-numbers nobody [] w.others)
          ∙ filter-map-by row (λ r. not (gone r.name)) (λ k. not (get_or marks k false)) n (upward 0 n) (upward-below 0 n n (omega arith))
          (λ k lt. ap not (sym (marks-are n k lt lt)))

      pub others-names : names_of new.others ≡ map name kept
      others-names = ap names_of others-rows ∙ names-by w whole small parents name parents_are no_parents names_are [] tt kept kept-below

      pub others-size : length new.others ≡ length kept
      others-size = ap length others-rows ∙ length-map kept row

      -- where all stay the world is the same
      pub all-kept : length kept ≡ n → new ≡ w
      all-kept e =
          ap (λ l. record { master = w.master; others = l })
          (others-rows ∙ ap (map row) (whole-filter (λ k. not (get_or marks k false)) (upward 0 n) (e ∙ sym (upward-long 0 n))) ∙ sym (by-numbers nobody [] w.others))
        where
          upward-long : (first m : ℕ) → length (upward first m) ≡ m
          upward-long first zero = refl
          upward-long first (suc m) = ap suc (upward-long (first + 1) m)

          whole-filter : (f : ℕ → Bool) (xs : List ℕ) → length (filter f xs) ≡ length xs → filter f xs ≡ xs
          whole-filter f [] g = refl
          whole-filter f (x ∷ xs) g = pick (f x) g (whole-filter f xs) (filter-short f xs)
            where
              pick : (b : Bool) → length (cond b (x ∷ filter f xs) (filter f xs)) ≡ length (x ∷ xs) → (length (filter f xs) ≡ length xs → filter f xs ≡ xs) → length (filter f xs) ≤ length xs
                  → cond b (x ∷ filter f xs) (filter f xs) ≡ x ∷ xs
              pick true h rec le = ap (λ l. x ∷ l) (rec (omega (arith, h)))
              pick false h rec le = absurd (let z : ⊥ = omega (arith, h, le) in z)

      pub kept-long : length kept ≤ n
      kept-long = let a = filter-short (λ k. not (get_or marks k false)) (upward 0 n) in let b = long 0 n in omega (arith, a, b)
        where
          long : (first m : ℕ) → length (upward first m) ≡ m
          long first zero = refl
          long first (suc m) = ap suc (long (first + 1) m)

      -- ids
      module _ (new_ids : List ℕ) (new_are : (k : ℕ) → k < n → is_in nat_eq k kept ≡ true → slice_index new_ids k ≡ other_id (place_of nat_eq k kept)) where
        kept-in : (k : ℕ) → k < n → get_or marks k false ≡ false → is_in nat_eq k kept ≡ true
        kept-in k lt e = there nat_eq same-exact same-self k kept (in-filter (λ j. not (get_or marks j false)) k (upward 0 n) (in-upward 0 n k (omega arith) (omega (arith, lt))) (ap not e))
          where
            in-filter : (f : ℕ → Bool) (x : ℕ) (xs : List ℕ) → IsIn x xs → f x ≡ true → IsIn x (filter f xs)
            in-filter f x [] i g = absurd i
            in-filter f x (y ∷ xs) (inl h) g = subst (λ b. IsIn x (cond b (y ∷ filter f xs) (filter f xs))) (sym (ap f (sym h) ∙ g)) (inl h)
            in-filter f x (y ∷ xs) (inr i) g = pick (f y) (in-filter f x xs i g)
              where
                pick : (b : Bool) → IsIn x (filter f xs) → IsIn x (cond b (y ∷ filter f xs) (filter f xs))
                pick true j = inr j
                pick false j = j

            in-upward : (first m k : ℕ) → first ≤ k → k < first + m → IsIn k (upward first m)
            in-upward first zero k a b = absurd (let z : ⊥ = omega (arith, a, b) in z)
            in-upward first (suc m) k a b = ⊎_elim (λ (e : k ≡ first). inl e) (λ (l : first + 1 ≤ k). inr (in-upward (first + 1) m k l (omega (arith, b)))) (same-or-more k first a)

        new-other : (k : ℕ) → k < n → id_in same_name new (name k) ≡ other_id (place_of nat_eq k kept)
        new-other k lt =
            left-out (is_in same_name (name k) (names_of w.master)) (place_of same_name (name k) (names_of w.master)) (other_id (place_of same_name (name k) (names_of new.others)))
            (false_from_ne_true (is_in same_name (name k) (names_of w.master)) (λ t. name-apart w whole small parents name parents_are no_parents names_are [] tt k lt (found same_name same_name-exact same_name-self (name k) (names_of w.master) t)))
            ∙ ap other_id (ap (place_of same_name (name k)) others-names ∙ place-by w whole small parents name parents_are no_parents names_are [] tt kept kept-below k lt)

        kept-id : (k : ℕ) → k < n → get_or marks k false ≡ false → (p : Name) → IsIn p (row k).parents → id_in same_name new p ≡ new_id new_ids (id_in same_name w p)
        kept-id k lt stays p i = ⊎_elim
            (λ s.
            let t = at-name w.master p s.0 in
            let e = id-master w whole small parents name parents_are no_parents names_are [] tt t.0 t.1 t.2 in
            let id : id_in same_name w p ≡ t.0 = ap (id_in same_name w) (sym t.3) ∙ e.0 in
            id-front new w [] (sym (append-nil (names_of w.master))) p s.0 ∙ id ∙ sym (ap (new_id new_ids) id ∙ ap (λ b. if b then t.0 else slice_index new_ids (t.0 - 2 ^ 56)) e.1))
            (λ s.
            let lj : s.0 < n = let l = s.1 in omega (arith, l, lt) in
            let is : p ≡ name s.0 = s.2 ∙ named s.0 lj in
            let id : id_in same_name w p ≡ other_id s.0 = ap (id_in same_name w) s.2 ∙ id-other w whole small parents name parents_are no_parents names_are [] tt s.0 (row s.0) (at s.0 lj) in
            let there : get_or marks s.0 false ≡ false = false_from_ne_true (get_or marks s.0 false)
            (λ t. true≢false (sym (marks-are n k lt lt ∙ gone-parent k lt p i (ap gone s.2 ∙ sym (marks-are n s.0 lj lj) ∙ t)) ∙ stays)) in
            ap (id_in same_name new) is ∙ new-other s.0 lj ∙ sym (new_are s.0 lj (kept-in s.0 lj there))
            ∙ sym (ap (new_id new_ids) id ∙ ap (λ b. if b then other_id s.0 else slice_index new_ids (other_id s.0 - 2 ^ 56)) (over-master s.0) ∙ ap (slice_index new_ids) (other-place s.0)))
            (parent-stands k lt p i)

        parents-kept : (ks : List ℕ) → ((k : ℕ) → IsIn k ks → (k < n) × (get_or marks k false ≡ false)) → parent_ids same_name new (map row ks) ≡ map (λ k. map (new_id new_ids) (get_or graph k [])) ks
        parents-kept [] f = refl
        parents-kept (k ∷ ks) f =
            let a = f k (inl refl) in
            ap₂ (λ x y. x ∷ y)
            (map-in (id_in same_name new) (λ p. new_id new_ids (id_in same_name w p)) (row k).parents (λ p i. kept-id k a.0 a.1 p i)
            ∙ sym (map-map (new_id new_ids) (id_in same_name w) (row k).parents) ∙ ap (map (new_id new_ids)) (sym (row-parents k a.0)))
            (parents-kept ks (λ j i. f j (inr i)))

        kept-facts : (k : ℕ) → IsIn k kept → (k < n) × (get_or marks k false ≡ false)
        kept-facts k i = let r = passes (λ j. not (get_or marks j false)) k (upward 0 n) i in (below k (upward 0 n) (upward-below 0 n n (omega arith)) r.0, not-is (get_or marks k false) r.1)
          where
            passes : (f : ℕ → Bool) (x : ℕ) (xs : List ℕ) → IsIn x (filter f xs) → IsIn x xs × (f x ≡ true)
            passes f x [] j = absurd j
            passes f x (y ∷ xs) j = by_test (f y) refl j (passes f x xs)
              where
                by_test : (b : Bool) → f y ≡ b → IsIn x (cond b (y ∷ filter f xs) (filter f xs)) → (IsIn x (filter f xs) → IsIn x xs × (f x ≡ true)) → IsIn x (y ∷ xs) × (f x ≡ true)
                by_test true e (inl g) rec = (inl g, ap f g ∙ e)
                by_test true e (inr q) rec = let r = rec q in (inr r.0, r.1)
                by_test false e q rec = let r = rec q in (inr r.0, r.1)

            below : (x : ℕ) (xs : List ℕ) → AreBelow n xs → IsIn x xs → x < n
            below x [] h j = absurd j
            below x (y ∷ xs) h (inl e) = let l = h.0 in omega (arith, e, l)
            below x (y ∷ xs) h (inr j) = below x xs h.1 j

            not-is : (b : Bool) → not b ≡ true → b ≡ false
            not-is true e = absurd (true≢false (sym e))
            not-is false e = refl

        -- the change by numbers is the change
        pub strip-same : (bytes : List ℕ) → ((k : ℕ) → k < n → name_at bytes k ≡ name k) → flush_change w new ≡ strip_payload new_ids graph bytes (length w.master) kept
        strip-same bytes bytes_are =
            same-change w new
            ∙ ap (λ l. change (new_levels olds (flat_segments_of 0 (parent_ids same_name new w.master))) (parent_ids same_name new l) (names_of l) (parent_ids same_name new new.others) (names_of new.others)) nothing
            ∙ ap (λ l. change l [] [] (parent_ids same_name new new.others) (names_of new.others)) (ap (λ l. new_levels olds (flat_segments_of 0 l)) masters-stay ∙ none-new olds)
            ∙ ap₂ {C = Payload} (λ a b. change [] [] [] a b) (ap (parent_ids same_name new) others-rows ∙ parents-kept kept kept-facts)
            (others-names ∙ sym (map-below (name_at bytes) name n kept kept-below bytes_are))
          where
            olds : List Segment
            olds = flat_segments_of 0 (parent_ids same_name w w.master)

            nothing : drop (length w.master) w.master ≡ []
            nothing = ap (drop (length w.master)) (sym (append-nil w.master)) ∙ drop_at w.master [] (length w.master) refl

            -- the master group has the same parents
            masters-stay : parent_ids same_name new w.master ≡ parent_ids same_name w w.master
            masters-stay = rows-front new w [] (sym (append-nil (names_of w.master))) w.master (parents-known [] w.master (history-front [] w.master w.others whole))

            change : List Segment → List (List ℕ) → List Name → List (List ℕ) → List Name → Payload
            change levels ms known os names = record {
              version = 2;
              kind = 1;
              before = length w.master;
              after = length w.master;
              cloned = 0;
              levels = levels;
              master = map flat_record (flat_segments (length w.master) ms);
              known = known_from (length w.master) known;
              heads = [];
              others = map flat_record (flat_segments (2 ^ 56) os);
              other_names = names;
            }
