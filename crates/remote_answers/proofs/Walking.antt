-- The rows of a master and the segments of its ids: the same lines of first parents, the same walks.
use Rattle.std.proofs.Common.{◌≡◌, ℕ, zero, suc, ◌+◌, ◌<◌, ◌^◌, inl, inr, List, [], ◌∷◌, ◌++◌, Option, Some, None, length, map, refl, sym, ap, subst, ◌∙◌, arith, append-nil, ⊎_elim, zero-le}
use Rattle.std.specs.Prelude.{slice_get, option_and_then, reverse}
use Rattle.std.proofs.lemmas.List.{reverse-reverse}
use Rattle.std.specs.Option.{option_map}
use Rattle.std.proofs.lemmas.Option.{slice_get_within}
use Rattle.id_groups.specs.Lists.{IsIn}
use Rattle.id_groups.specs.Name.{Name, same_name}
use Rattle.id_groups.proofs.Names.{same_name-exact, same_name-self}
use Rattle.commit_graph.specs.World.{Row, names_of}
use Rattle.commit_graph.specs.Graph.{IsWalk, Reaches, first_ancestor, first_of_list}
use Rattle.commit_graph.proofs.Down.{in-down, in-reverse}
use Rattle.commit_graph.proofs.Places.{at-name, name-at, place-left}
use Rattle.commit_graph.proofs.Leading.{parents-at}
use Rattle.commit_graph.proofs.Walks.{reaches-self, reaches-parent}
use Rattle.segment_codec.specs.Record.{Segment}
use Rattle.segment_codec.specs.Table.{Cover, IsHeld, parents_at}
use Rattle.segment_codec.proofs.Tables.{le_or_lt, segment-in, follow-held, follow-within, found-head, found-behind, head-or-behind}
use Rattle.ancestor_query.specs.Graph.{table_graph}
use Rattle.commit_graph.proofs.Histories.{in-append}
use Rattle.remote_rules.specs.Known.{master_world}
use Rattle.remote_trait.specs.Honest.{IsNamed, rows_graph}
use Rattle.remote_trait.proofs.Rows.{id_of, parent-row}
use Rattle.remote_answers.specs.Master.{IsMasterIn, name_at}

-- ---- lists

pub map-in : {X Y : Type 0} (f : X → Y) (xs : List X) (x : X) → IsIn x xs → IsIn (f x) (map f xs)
map-in f [] x i = absurd i
map-in f (y ∷ xs) x (inl e) = inl (ap f e)
map-in f (y ∷ xs) x (inr i) = inr (map-in f xs x i)

pub in-map : {X Y : Type 0} (f : X → Y) (xs : List X) (y : Y) → IsIn y (map f xs) → (x : X) × IsIn x xs × (y ≡ f x)
in-map f [] y i = absurd i
in-map f (x ∷ xs) y (inl e) = (x, inl refl, e)
in-map f (x ∷ xs) y (inr i) = let t = in-map f xs y i in (t.0, inr t.1, t.2)

pub some-at : {X : Type 0} (xs : List X) (i : ℕ) → i < length xs → (x : X) × (slice_get xs i ≡ Some x)
some-at [] i lt = absurd (omega (arith, lt))
some-at (x ∷ xs) zero lt = (x, refl)
some-at (x ∷ xs) (suc i) lt = some-at xs i (omega (arith, lt))

pub within : (rows : List (Row Name)) (id : ℕ) (x : Name) → IsNamed rows id x → id < length rows
within rows id x n = slice_get_within rows id n.row n.there

pub named-at : (rows : List (Row Name)) (id : ℕ) (x : Name) → IsNamed rows id x → name_at rows id ≡ Some x
named-at rows id x n = ap (option_map (λ (row : Row Name). row.name)) n.there ∙ ap (λ z. Some z) n.named

module _ (flats : List Segment) (rows : List (Row Name)) (m : IsMasterIn flats rows) where
  pub cover-of : Cover flats (length rows) m.other_count
  cover-of = record { front = m.masters; back = m.others; parts = m.parts; master_ids = m.follow; other_ids = m.behind; room = (let few = m.few in omega (arith, few)) }

  -- each id is one of the segments'
  pub held-of : (id : ℕ) → id < length rows → IsHeld flats id
  held-of id lt = let h = follow-held 0 (length rows) m.masters m.follow id (omega arith) lt in subst (λ l. IsHeld l id) (sym m.parts) (front m.masters h)
    where
      front : (masters : List Segment) → IsHeld masters id → IsHeld (masters ++ m.others) id
      front [] h = cc
      front (s ∷ masters) h = ⊎_elim
          (λ i. (s, found-head s (masters ++ m.others) id i))
          (λ n. let r = front masters (h.0, sym (found-behind s masters id n) ∙ h.1) in (r.0, found-behind s (masters ++ m.others) id n ∙ r.1))
          (head-or-behind s id)

  -- the parents of a row by its name
  pub parents-named : (id : ℕ) (row : Row Name) → slice_get rows id ≡ Some row → (rows_graph rows).parents row.name ≡ row.parents
  parents-named id row e = parents-at same_name same_name-exact same_name-self (master_world rows) m.world.world id row (place-left rows [] id row e)

  -- one step, by ids and by names
  pub step-first : (id : ℕ) (row : Row Name) → slice_get rows id ≡ Some row → first_of_list ((rows_graph rows).parents row.name) ≡ option_and_then (name_at rows) (first_of_list (parents_at flats id))
  step-first id row e =
      ap first_of_list (parents-named id row e)
      ∙ first row.parents (λ p i. (parent-row rows m.world id row e p i).0)
      ∙ ap (λ l. option_and_then (name_at rows) (first_of_list l)) (sym (m.parents id row e))
    where
      first : (ps : List Name) → ((p : Name) → IsIn p ps → IsNamed rows (id_of rows p) p) → first_of_list ps ≡ option_and_then (name_at rows) (first_of_list (map (id_of rows) ps))
      first [] f = refl
      first (p ∷ ps) f = sym (named-at rows (id_of rows p) p (f p (inl refl)))

  -- a parent of an id is an id
  pub parent-id : (id j : ℕ) → id < length rows → IsIn j (parents_at flats id) → j < length rows
  parent-id id j lt i =
      let at = some-at rows id lt in
      let p = in-map (id_of rows) at.0.parents j (subst (IsIn j) (m.parents id at.0 at.1) i) in
      let t = parent-row rows m.world id at.0 at.1 p.0 p.1 in
      subst (λ n. n < length rows) (sym p.2) (within rows (id_of rows p.0) p.0 t.0)

  -- so many steps
  pub first-ids : (n id : ℕ) → id < length rows → (j : ℕ) → first_ancestor (table_graph flats) n id ≡ Some j → j < length rows
  first-ids zero id lt j e = let same : id ≡ j = cc in subst (λ k. k < length rows) same lt
  first-ids (suc n) id lt j e = on (first_ancestor (table_graph flats) n id) (λ k f. first-ids n id lt k f) e
    where
      first-in : (xs : List ℕ) → first_of_list xs ≡ Some j → IsIn j xs
      first-in [] h = cc
      first-in (x ∷ xs) h = let same : x ≡ j = cc in inl (sym same)

      on : (before : Option ℕ) → ((k : ℕ) → before ≡ Some k → k < length rows) → option_and_then (λ y. first_of_list (parents_at flats y)) before ≡ Some j → j < length rows
      on None f e = cc
      on (Some k) f e = parent-id k j (f k refl) (first-in (parents_at flats k) e)

  pub first-named : (n id : ℕ) (x : Name) → IsNamed rows id x → first_ancestor (rows_graph rows) n x ≡ option_and_then (name_at rows) (first_ancestor (table_graph flats) n id)
  first-named zero id x at = sym (named-at rows id x at)
  first-named (suc n) id x at =
      ap (option_and_then (λ z. first_of_list ((rows_graph rows).parents z))) (first-named n id x at)
      ∙ on (first_ancestor (table_graph flats) n id) (first-ids n id (within rows id x at))
    where
      on : (before : Option ℕ) → ((j : ℕ) → before ≡ Some j → j < length rows)
          → option_and_then (λ z. first_of_list ((rows_graph rows).parents z)) (option_and_then (name_at rows) before) ≡ option_and_then (name_at rows) (option_and_then (λ y. first_of_list (parents_at flats y)) before)
      on None f = refl
      on (Some j) f =
          let at = some-at rows j (f j refl) in
          ap (option_and_then (λ z. first_of_list ((rows_graph rows).parents z))) (ap (option_map (λ (row : Row Name). row.name)) at.1) ∙ step-first j at.0 at.1

  -- ---- walks

  -- a walk by names is one by ids
  pub walk-ids : (walk : List Name) (id : ℕ) (x y : Name) → IsNamed rows id x → IsWalk (rows_graph rows) x walk y → (j : ℕ) × IsNamed rows j y × Reaches (table_graph flats) id j
  walk-ids [] id x y at e = (id, subst (IsNamed rows id) e at, reaches-self (table_graph flats) id)
  walk-ids (p ∷ more) id x y at w =
      let ps : IsIn p at.row.parents = subst (IsIn p) (subst (λ z. (rows_graph rows).parents z ≡ at.row.parents) at.named (parents-named id at.row at.there)) w.0 in
      let t = parent-row rows m.world id at.row at.there p ps in
      let r = walk-ids more (id_of rows p) p y t.0 w.1 in
      let up : IsIn (id_of rows p) (parents_at flats id) = subst (IsIn (id_of rows p)) (sym (m.parents id at.row at.there)) (map-in (id_of rows) at.row.parents p ps) in
      (r.0, r.1, reaches-parent (table_graph flats) id (id_of rows p) r.0 up r.2)

  -- a walk by ids is one by names
  pub walk-names : (walk : List ℕ) (id j : ℕ) (x : Name) → IsNamed rows id x → IsWalk (table_graph flats) id walk j → (y : Name) × IsNamed rows j y × Reaches (rows_graph rows) x y
  walk-names [] id j x at e = (x, subst (λ k. IsNamed rows k x) e at, reaches-self (rows_graph rows) x)
  walk-names (k ∷ more) id j x at w =
      let p = in-map (id_of rows) at.row.parents k (subst (IsIn k) (m.parents id at.row at.there) w.0) in
      let t = parent-row rows m.world id at.row at.there p.0 p.1 in
      let r = walk-names more k j p.0 (subst (λ n. IsNamed rows n p.0) (sym p.2) t.0) w.1 in
      let up : IsIn p.0 ((rows_graph rows).parents x) = subst (IsIn p.0) (sym (subst (λ z. (rows_graph rows).parents z ≡ at.row.parents) at.named (parents-named id at.row at.there))) p.1 in
      (r.0, r.1, reaches-parent (rows_graph rows) x p.0 r.0 up r.2)

-- ---- commits that are there

names-all : (rows : List (Row Name)) → names_of (rows ++ []) ≡ names_of rows
names-all rows = ap names_of (append-nil rows)

pub there-down : (rows : List (Row Name)) (id : ℕ) (x : Name) → IsNamed rows id x → IsIn x (rows_graph rows).down
there-down rows id x n = in-down same_name (master_world rows) x (subst (IsIn x) (sym (names-all rows)) (subst (λ z. IsIn z (names_of rows)) n.named (name-at rows id n.row n.there)))

pub named-in : (rows : List (Row Name)) (id : ℕ) (x : Name) → IsNamed rows id x → IsIn x (names_of rows)
named-in rows id x n = subst (λ z. IsIn z (names_of rows)) n.named (name-at rows id n.row n.there)

pub id-there : (rows : List (Row Name)) (x : Name) → IsIn x (names_of rows) → (id : ℕ) × IsNamed rows id x
id-there rows x i = let t = at-name rows x i in (t.0, record { row = t.1; there = t.2; named = t.3 })

pub down-there : (rows : List (Row Name)) (x : Name) → IsIn x (rows_graph rows).down → (id : ℕ) × IsNamed rows id x
down-there rows x i = id-there rows x (subst (IsIn x) (reverse-reverse (names_of rows)) (in-reverse x (reverse (names_of rows)) i))

-- ---- the bound of the master ids

held-front : (front back : List Segment) (x : ℕ) → IsHeld front x → IsHeld (front ++ back) x
held-front [] back x h = let e : None ≡ Some h.0 = h.1 in cc
held-front (t ∷ front) back x h = ⊎_elim
    (λ i. (t, found-head t (front ++ back) x i))
    (λ n. let r = held-front front back x (h.0, sym (found-behind t front x n) ∙ h.1) in (r.0, found-behind t (front ++ back) x n ∙ r.1))
    (head-or-behind t x)

below-held : (flats : List Segment) (master others : ℕ) → Cover flats master others → (x : ℕ) → x < master → IsHeld flats x
below-held flats master others c x lt =
    subst (λ l. IsHeld l x) (sym c.parts) (held-front c.front c.back x (follow-held 0 master c.front c.master_ids x zero-le lt))

no-more : (flats : List Segment) (a b c d : ℕ) → Cover flats a b → Cover flats c d → a < c → ⊥
no-more flats a b c d one two lt =
    let h = below-held flats c d two a lt in
    let i = segment-in flats a h.0 h.1 in
    let low = i.1.0 in
    let high = i.1.1 in
    let room = two.room in
    ⊎_elim
    (λ j. let w = follow-within 0 a one.front one.master_ids h.0 j in let top = w.2 in omega (arith, top, high))
    (λ j. let w = follow-within (2 ^ 56) (2 ^ 56 + b) one.back one.other_ids h.0 j in let bottom = w.0 in omega (arith, bottom, low, lt, room))
    (in-append h.0 one.front one.back (subst (IsIn h.0) one.parts i.0))

-- a table has one bound
pub one-bound : (flats : List Segment) (a b c d : ℕ) → Cover flats a b → Cover flats c d → a ≡ c
one-bound flats a b c d one two = ⊎_elim
    (λ le. ⊎_elim (λ ge. omega (arith, le, ge)) (λ lt. absurd (no-more flats a b c d one two lt)) (le_or_lt c a))
    (λ lt. absurd (no-more flats c d a b two one lt)) (le_or_lt a c)
