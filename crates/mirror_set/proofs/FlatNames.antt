-- The names that first parents lead to from the highest id of a flat segment, of a world whose clone data are known.
use Rattle.std.proofs.Common.{◌≡◌, ℕ, zero, suc, ◌+◌, ◌-◌, ◌<◌, ◌≤◌, Bool, true, false, cond, inl, inr, List, [], ◌∷◌, ◌++◌, Some, None, length, map, filter, take, drop, nat_eq, refl, sym, ap, subst, ◌∙◌, arith, append-nil, append_assoc, get_or}
use Rattle.std.specs.Prelude.{slice_get, reverse, option_and_then}
use Rattle.std.specs.Option.{option_map}
use Rattle.std.proofs.lemmas.Grind.{reverse_onto}
use Rattle.std.proofs.lemmas.List.{length-append, length-reverse}
use Rattle.std.proofs.lemmas.Map.Views.{exact_unsigned_eq}
use Rattle.std.proofs.lemmas.Option.{slice_get-map}
use Rattle.id_groups.specs.Lists.{IsIn, IsFiltered}
use Rattle.id_groups.specs.Name.{Name, same_name}
use Rattle.id_groups.proofs.Names.{same_name-exact, same_name-self}
use Rattle.commit_graph.specs.World.{Row, names_of}
use Rattle.commit_graph.specs.Graph.{first_ancestor, first_of_list}
use Rattle.commit_graph.specs.Ids.{parent_ids}
use Rattle.commit_graph.proofs.Places.{place-left, name-at}
use Rattle.commit_graph.proofs.Leading.{parents-at}
use Rattle.segment_codec.specs.Record.{Segment}
use Rattle.remote_rules.specs.CloneData.{CloneData, KnownName, names_at}
use Rattle.remote_rules.specs.Clones.{IsFlatIn, IsCloneOf, numbered}
use Rattle.remote_rules.specs.Known.{master_world}
use Rattle.remote_trait.specs.Calls.{AreMaster}
use Rattle.remote_trait.specs.Honest.{IsNamed, AreNamesOf, rows_graph}
use Rattle.remote_trait.proofs.Items.{behind, none-behind}
use Rattle.remote_trait.proofs.Rows.{named-once, id_of, parent-row}

-- ---- lists

filtered-in : {X : Type 0} (P : X → Type 0) (xs ys : List X) (y : X) → IsFiltered P xs ys → IsIn y ys → IsIn y xs
filtered-in P [] ys y f i = subst (IsIn y) f i
filtered-in P (x ∷ xs) ys y (inl f) i = by_place (filtered-in P xs f.1 y f.3) (subst (IsIn y) f.2 i)
  where
    by_place : (IsIn y f.1 → IsIn y xs) → IsIn y (x ∷ f.1) → IsIn y (x ∷ xs)
    by_place rec (inl e) = inl e
    by_place rec (inr j) = inr (rec j)
filtered-in P (x ∷ xs) ys y (inr f) i = inr (filtered-in P xs ys y f.1 i)

take-next : {X : Type 0} (m n : ℕ) (xs : List X) (y : X) → slice_get xs (m + n) ≡ Some y → take (suc n) (drop m xs) ≡ take n (drop m xs) ++ y ∷ []
take-next m n [] y e = cc
take-next zero zero (x ∷ xs) y e = let is : x ≡ y = cc in ap (λ z. z ∷ []) is
take-next zero (suc n) (x ∷ xs) y e =
    let below : 0 + suc n ≡ suc (0 + n) = omega arith in
    ap (λ l. x ∷ l) (take-next 0 n xs y (subst (λ k. slice_get (x ∷ xs) k ≡ Some y) below e))
take-next (suc m) n (x ∷ xs) y e =
    let below : suc m + n ≡ suc (m + n) = omega arith in
    take-next m n xs y (subst (λ k. slice_get (x ∷ xs) k ≡ Some y) below e)

-- items that are those of a list from one end down are a part of it, the other way round
pub backwards : {X : Type 0} (got xs : List X) (end : ℕ) → length got ≤ end → ((k : ℕ) → k < length got → slice_get got k ≡ slice_get xs (end - 1 - k))
    → reverse got ≡ take (length got) (drop (end - length got) xs)
backwards [] xs end le each = refl
backwards (x ∷ got) xs end le each =
    let here : Some x ≡ slice_get xs (end - 1 - 0) = each 0 (omega arith) in
    let at : end - suc (length got) + length got ≡ end - 1 - 0 = omega (arith, le) in
    let rest : reverse got ≡ take (length got) (drop (end - 1 - length got) xs) = backwards got xs (end - 1) (omega (arith, le))
    (λ k lt. let same : end - 1 - suc k ≡ end - 1 - 1 - k = omega arith in each (suc k) (omega (arith, lt)) ∙ ap (slice_get xs) same) in
    let same : end - 1 - length got ≡ end - suc (length got) = omega arith in
    reverse_onto got x [] ∙ ap (λ l. l ++ x ∷ []) (rest ∙ ap (λ n. take (length got) (drop n xs)) same)
    ∙ sym (take-next (end - suc (length got)) (length got) xs x (ap (slice_get xs) at ∙ sym here))

-- ---- rows

pub row-there : (rows : List (Row Name)) (id : ℕ) → id < length rows → (row : Row Name) × (slice_get rows id ≡ Some row)
row-there [] id lt = absurd (omega (arith, lt))
row-there (r ∷ rows) zero lt = (r, refl)
row-there (r ∷ rows) (suc id) lt = row-there rows id (omega (arith, lt))

named-there : (rows : List (Row Name)) (id : ℕ) → id < length rows → (x : Name) × IsNamed rows id x
named-there rows id lt = let r = row-there rows id lt in (r.0.name, record { row = r.0; there = r.1; named = refl })

name-of-row : (rows : List (Row Name)) (id : ℕ) (x : Name) → IsNamed rows id x → slice_get (names_of rows) id ≡ Some x
name-of-row rows id x n = slice_get-map (λ (r : Row Name). r.name) rows id ∙ ap (option_map (λ (r : Row Name). r.name)) n.there ∙ ap (λ z. Some z) n.named

module _ (rows : List (Row Name)) (h : AreMaster rows) where
  -- first parents lead from an id whose one parent is the one before to that one
  back-one : (id : ℕ) (x y : Name) → slice_get (parent_ids same_name (master_world rows) rows) id ≡ Some ((id - 1) ∷ []) → IsNamed rows id x → IsNamed rows (id - 1) y
      → first_of_list ((rows_graph rows).parents x) ≡ Some y
  back-one id x y e n m =
      let ids : Some (map (id_of rows) n.row.parents) ≡ Some ((id - 1) ∷ []) =
      sym (slice_get-map (λ (r : Row Name). map (id_of rows) r.parents) rows id ∙ ap (option_map (λ (r : Row Name). map (id_of rows) r.parents)) n.there) ∙ e in
      let one : map (id_of rows) n.row.parents ≡ (id - 1) ∷ [] = cc in
      let parents : (rows_graph rows).parents n.row.name ≡ n.row.parents =
      parents-at same_name same_name-exact same_name-self (master_world rows) h.world id n.row (place-left rows [] id n.row n.there) in
      ap first_of_list (ap (rows_graph rows).parents (sym n.named) ∙ parents) ∙ by_parents n.row.parents one (λ p i. (parent-row rows h id n.row n.there p i).0)
    where
      by_parents : (ps : List Name) → map (id_of rows) ps ≡ (id - 1) ∷ [] → ((p : Name) → IsIn p ps → IsNamed rows (id_of rows p) p) → first_of_list ps ≡ Some y
      by_parents [] f named = cc
      by_parents (p ∷ ps) f named =
          let at : id_of rows p ≡ id - 1 = cc in
          ap (λ z. Some z) (named-once rows (id - 1) p y (subst (λ k. IsNamed rows k p) at (named p (inl refl))) m)

  -- and so on, down to the lowest id of a flat segment
  pub line-down : (s : Segment) → IsFlatIn (parent_ids same_name (master_world rows) rows) s → s.high < length rows → (x : Name) → IsNamed rows s.high x
      → (k : ℕ) → k ≤ s.high - s.low → (y : Name) → IsNamed rows (s.high - k) y → first_ancestor (rows_graph rows) k x ≡ Some y
  line-down s f lt x n zero le y m = let same : s.high - 0 ≡ s.high = omega arith in ap (λ z. Some z) (named-once rows s.high x y n (subst (λ k. IsNamed rows k y) same m))
  line-down s f lt x n (suc k) le y m =
      let before = named-there rows (s.high - k) (omega (arith, lt)) in
      let here = line-down s f lt x n k (omega (arith, le)) before.0 before.1 in
      let only = f.others (s.high - k) (omega (arith, le)) (omega arith) in
      let same : s.high - suc k ≡ s.high - k - 1 = omega arith in
      ap (option_and_then (λ z. first_of_list ((rows_graph rows).parents z))) here ∙ back-one (s.high - k) before.0 y only before.1 (subst (λ n. IsNamed rows n y) same m)

-- ---- clone data

-- a known name stands among those that are given
known-in : (names : List KnownName) (id : ℕ) (x : Name) → names_at names id ≡ x ∷ [] → (k : KnownName) × IsIn k names × (k.id ≡ id) × (k.name ≡ x)
known-in [] id x e = absurd cc
known-in (k ∷ names) id x e = by_test (nat_eq k.id id) refl e (λ f. let r = known-in names id x f in (r.0, inr r.1, r.2, r.3))
  where
    by_test : (b : Bool) → nat_eq k.id id ≡ b → map (λ (c : KnownName). c.name) (cond b (k ∷ filter (λ (c : KnownName). nat_eq c.id id) names) (filter (λ (c : KnownName). nat_eq c.id id) names)) ≡ x ∷ []
        → (names_at names id ≡ x ∷ [] → (c : KnownName) × IsIn c (k ∷ names) × (c.id ≡ id) × (c.name ≡ x)) → (c : KnownName) × IsIn c (k ∷ names) × (c.id ≡ id) × (c.name ≡ x)
    by_test true f g rec = let is : k.name ≡ x = cc in (k, inl refl, exact_unsigned_eq k.id id f, is)
    by_test false f g rec = rec g

numbered-row : (first : ℕ) (rows : List (Row Name)) (k : KnownName) → IsIn k (numbered first rows) → (i : ℕ) × (k.id ≡ first + i) × IsNamed rows i k.name
numbered-row first [] k i = absurd i
numbered-row first (row ∷ rows) k (inl e) =
    let id = ap (λ (c : KnownName). c.id) e in
    (0, omega (arith, id), record { row = row; there = refl; named = sym (ap (λ (c : KnownName). c.name) e) })
numbered-row first (row ∷ rows) k (inr i) =
    let r = numbered-row (first + 1) rows k i in
    let id = r.1 in
    (suc r.0, omega (arith, id), record { row = r.2.row; there = r.2.there; named = r.2.named })

-- the name that clone data give of an id is its row's
pub given-named : (rows : List (Row Name)) (told : CloneData) → IsCloneOf rows told → (id : ℕ) (x : Name) → names_at told.names id ≡ x ∷ [] → IsNamed rows id x
given-named rows told c id x e =
    let k = known-in told.names id x e in
    let r = numbered-row 0 rows k.0 (filtered-in _ (numbered 0 rows) told.names k.0 c.names k.1) in
    let same : r.0 ≡ id = (let a = r.1 in let b = k.2 in omega (arith, a, b)) in
    subst (λ n. IsNamed rows n x) same (subst (IsNamed rows r.0) k.3 r.2)

-- ---- what an honest mirror gives of a segment

module _ (rows : List (Row Name)) (h : AreMaster rows) (told : CloneData) (c : IsCloneOf rows told) (s : Segment) (i : IsIn s told.segments) (lt : s.high < length rows)
    (x : Name) (e : names_at told.names s.high ≡ x ∷ []) (room : ℕ) (fits : room ≤ s.high + 1 - s.low) (got : List Name) (a : AreNamesOf rows x 0 room got) where
  line-is : (k : ℕ) → k ≤ s.high - s.low → first_ancestor (rows_graph rows) k x ≡ slice_get (names_of rows) (s.high - k)
  line-is k le =
      let y = named-there rows (s.high - k) (omega (arith, lt)) in
      line-down rows h s (c.segments.each s i) lt x (given-named rows told c s.high x e) k le y.0 y.1 ∙ sym (name-of-row rows (s.high - k) y.0 y.1)

  -- the names are those of its highest ids, the highest one's first
  pub given-line : length got ≤ room → reverse got ≡ take (length got) (drop (s.high + 1 - length got) (names_of rows))
  given-line le = backwards got (names_of rows) (s.high + 1) (omega (arith, le, fits))
      (λ k less.
      let same : s.high - k ≡ s.high + 1 - 1 - k = omega arith in
      let zero_on : 0 + k ≡ k = omega arith in
      sym (subst (λ n. first_ancestor (rows_graph rows) n x ≡ slice_get got k) zero_on (a.each k less)) ∙ line-is k (omega (arith, less, le, fits)) ∙ ap (slice_get (names_of rows)) same)

  -- and there are never fewer than were asked for
  pub never-few : length got < room → ⊥
  never-few few =
      let n = given-named rows told c s.high x e in
      let inside : IsIn x (names_of rows) = subst (λ z. IsIn z (names_of rows)) n.named (name-at rows s.high n.row n.there) in
      let y = named-there rows (s.high - length got) (omega (arith, lt)) in
      let zero_on : 0 + length got ≡ length got = omega arith in
      let none = subst (λ n. first_ancestor (rows_graph rows) n x ≡ None) zero_on (a.all few inside) in
      let there = line-down rows h s (c.segments.each s i) lt x n (length got) (omega (arith, few, fits)) y.0 y.1 in
      cc

-- ---- names put behind others, the last one first

pub reversed-none : {X : Type 0} (held names : List X) → held ≡ held ++ reverse (drop (length names) names)
reversed-none held names = sym (append-nil held) ∙ ap (λ l. held ++ reverse l) (sym (none-behind names (length names) (omega arith)))

pub reversed-more : {X : Type 0} (held names items : List X) (i : ℕ) (x : X) → 0 < i → i ≤ length names → x ≡ get_or names (i - 1) x → items ≡ held ++ reverse (drop i names)
    → items ++ x ∷ [] ≡ held ++ reverse (drop (i - 1) names)
reversed-more held names items i x some le is h =
    let next : i - 1 + 1 ≡ i = omega (arith, some) in
    ap (λ l. l ++ x ∷ []) h ∙ append_assoc held (reverse (drop i names)) (x ∷ [])
    ∙ ap (λ l. held ++ l) (sym (reverse_onto (drop i names) x []) ∙ ap reverse (sym (behind names (i - 1) x (omega (arith, some, le)) is ∙ ap (λ n. x ∷ drop n names) next)))

pub reversed-length : {X : Type 0} (held names items : List X) (i : ℕ) → i ≤ length names → items ≡ held ++ reverse (drop i names) → length items ≤ length held + length names
reversed-length held names items i le h =
    let size : length items ≡ length held + length (drop i names) = ap length h ∙ length-append held (reverse (drop i names)) ∙ ap (λ n. length held + n) (length-reverse (drop i names)) in
    let rest = fewer i names in
    omega (arith, size, rest)
  where
    fewer : {X : Type 0} (n : ℕ) (xs : List X) → length (drop n xs) ≤ length xs
    fewer zero xs = omega arith
    fewer (suc n) [] = omega arith
    fewer (suc n) (y ∷ xs) = let r = fewer n xs in omega (arith, r)
