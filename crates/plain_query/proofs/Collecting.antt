-- Sets of commits that are gathered by a test of each name, or of each row.
use Rattle.std.proofs.Common.{◌≡◌, ℕ, ◌+◌, ◌<◌, ◌≤◌, true, ◌⊎◌, take, inl, inr, List, [], ◌∷◌, Some, length, get_or, refl, sym, ap, subst, ◌∙◌, arith, ⊎_elim, below_more, Bool}
use Rattle.std.specs.Prelude.{slice_get, ◌↔◌}
use Rattle.std.proofs.lemmas.Option.{slice_get_within, slice_get_read}
use Rattle.id_groups.specs.Lists.{IsIn}
use Rattle.commit_graph.specs.World.{Row, World, IsWorld, rows_of, names_of}
use Rattle.commit_graph.specs.Graph.{Graph, graph_of, IsWalk, Reaches}
use Rattle.commit_graph.specs.Sets as sets
use Rattle.commit_graph.proofs.Histories.{in-all}
use Rattle.commit_graph.proofs.Walks.{reaches-self, reaches-parent}
use Rattle.commit_graph.proofs.Places.{same-row, item-at, each-at}
use Rattle.commit_graph.proofs.Leading.{known-before, parents-at}
use Rattle.plain_query.specs.Members.{AreMembers, among}
use Rattle.plain_query.proofs.Gathering.{names-below, row-with}

module _ {N : Type 0} where
  -- those of the first names that pass
  pub record AreKept (xs : List N) (P : N → Type 0) (i : ℕ) (found : List N) : Type 0 where
    pub sound : (x : N) → IsIn x found → IsIn x xs × P x
    pub whole : (k : ℕ) (y : N) → k < i → slice_get xs k ≡ Some y → P y → IsIn y found

  some-same : (x y : N) → Some x ≡ Some y → x ≡ y
  some-same x y h = cc

  pub kept-put : (xs : List N) (P : N → Type 0) (i : ℕ) (y : N) → slice_get xs i ≡ Some y → (found : List N) → AreKept xs P i found → P y
      → (new : List N) → ((x : N) → IsIn x new ↔ (IsIn x found ⊎ (x ≡ y))) → (last : List N) → last ≡ new → AreKept xs P (i + 1) last
  kept-put xs P i y e found a p new iff last is = subst (AreKept xs P (i + 1)) (sym is) (record {
    sound = λ x j. ⊎_elim (λ k. a.sound x k) (λ f. (subst (λ (z : N). IsIn z xs) (sym f) (item-at xs i y e), subst P (sym f) p)) ((iff x).0 j);
    whole = λ k z lt at.
        below_more (λ (n : ℕ). (q : N) → slice_get xs n ≡ Some q → P q → IsIn q new) i
        (λ n less q there h. (iff q).1 (inl (a.whole n q less there h)))
        (λ q there h. (iff q).1 (inr (some-same q y (sym there ∙ e)))) k lt z at;
  })

  pub kept-left : (xs : List N) (P : N → Type 0) (i : ℕ) (y : N) → slice_get xs i ≡ Some y → (found : List N) → AreKept xs P i found → (P y → ⊥)
      → (last : List N) → last ≡ found → AreKept xs P (i + 1) last
  kept-left xs P i y e found a off last is = subst (AreKept xs P (i + 1)) (sym is) (record {
    sound = a.sound;
    whole = λ k z lt at.
        below_more (λ (n : ℕ). (q : N) → slice_get xs n ≡ Some q → P q → IsIn q found) i
        (λ n less q there h. a.whole n q less there h)
        (λ q there h. absurd (off (subst P (some-same q y (sym there ∙ e)) h))) k lt z at;
  })

  pub kept-all : (xs : List N) (P : N → Type 0) (i : ℕ) → length xs ≤ i → (found : List N) → AreKept xs P i found → (x : N) → IsIn x found ↔ (IsIn x xs × P x)
  kept-all xs P i le found a x = (
    a.sound x,
    λ h. each-at (λ (z : N). P z → IsIn z found) xs (λ k y lt at p. a.whole k y (omega (arith, lt, le)) at p) x h.0 h.1,
  )

  -- a set that was put to none, and another that was put to its copy
  pub copied : (none put held new : List N) → none ≡ [] → put ≡ held → ((x : N) → IsIn x new ↔ (IsIn x none ⊎ IsIn x put)) → (x : N) → IsIn x new ↔ IsIn x held
  copied none put held new empty same iff x = (
    λ i. ⊎_elim (λ j. absurd (subst (IsIn x) empty j)) (λ j. subst (IsIn x) same j) ((iff x).0 i),
    λ j. (iff x).1 (inr (subst (IsIn x) (sym same) j)),
  )

  pub joined : (one copy put other new : List N) → ((x : N) → IsIn x copy ↔ IsIn x one) → put ≡ other → ((x : N) → IsIn x new ↔ (IsIn x copy ⊎ IsIn x put))
      → (x : N) → IsIn x new ↔ (IsIn x one ⊎ IsIn x other)
  joined one copy put other new c same iff x = (
    λ i. ⊎_elim (λ j. inl ((c x).0 j)) (λ j. inr (subst (IsIn x) same j)) ((iff x).0 i),
    λ s. (iff x).1 (⊎_elim (λ j. inl ((c x).1 j)) (λ j. inr (subst (IsIn x) (sym same) j)) s),
  )

  -- the item at a place
  pub at-place : (xs : List N) (i : ℕ) (y : N) → i < length xs → y ≡ get_or xs i y → slice_get xs i ≡ Some y
  at-place xs i y lt is = slice_get_read xs (length xs) i y refl lt is

  -- a row that passes has this name
  abbrev pub HasRow : List (Row N) → (Row N → Type 0) → N → Type 0
  HasRow rows P x = (k : ℕ) × (row : Row N) × (slice_get rows k ≡ Some row) × (row.name ≡ x) × P row

  -- the names of those of the first rows that pass
  pub record AreChosen (rows : List (Row N)) (P : Row N → Type 0) (i : ℕ) (found : List N) : Type 0 where
    pub sound : (x : N) → IsIn x found → HasRow rows P x
    pub whole : (k : ℕ) (row : Row N) → k < i → slice_get rows k ≡ Some row → P row → IsIn row.name found

  pub chosen-put : (rows : List (Row N)) (P : Row N → Type 0) (i : ℕ) (r : Row N) → slice_get rows i ≡ Some r → (found : List N) → AreChosen rows P i found → P r
      → (name : N) → name ≡ r.name → (new : List N) → ((x : N) → IsIn x new ↔ (IsIn x found ⊎ (x ≡ name))) → (last : List N) → last ≡ new → AreChosen rows P (i + 1) last
  chosen-put rows P i r e found a p name is_name new iff last is = subst (AreChosen rows P (i + 1)) (sym is) (record {
    sound = λ x j. ⊎_elim (λ k. a.sound x k) (λ f. (i, r, e, sym (f ∙ is_name), p)) ((iff x).0 j);
    whole = λ k row lt at.
        below_more (λ (n : ℕ). (q : Row N) → slice_get rows n ≡ Some q → P q → IsIn q.name new) i
        (λ n less q there h. (iff q.name).1 (inl (a.whole n q less there h)))
        (λ q there h. (iff q.name).1 (inr (ap (λ (z : Row N). z.name) (same-row q r (sym there ∙ e)) ∙ sym is_name))) k lt row at;
  })

  pub chosen-left : (rows : List (Row N)) (P : Row N → Type 0) (i : ℕ) (r : Row N) → slice_get rows i ≡ Some r → (found : List N) → AreChosen rows P i found → (P r → ⊥)
      → (last : List N) → last ≡ found → AreChosen rows P (i + 1) last
  chosen-left rows P i r e found a off last is = subst (AreChosen rows P (i + 1)) (sym is) (record {
    sound = a.sound;
    whole = λ k row lt at.
        below_more (λ (n : ℕ). (q : Row N) → slice_get rows n ≡ Some q → P q → IsIn q.name found) i
        (λ n less q there h. a.whole n q less there h)
        (λ q there h. absurd (off (subst P (same-row q r (sym there ∙ e)) h))) k lt row at;
  })

  pub chosen-all : (rows : List (Row N)) (P : Row N → Type 0) (i : ℕ) → length rows ≤ i → (found : List N) → AreChosen rows P i found → (x : N) → IsIn x found ↔ HasRow rows P x
  chosen-all rows P i le found a x = (
    a.sound x,
    λ h. let lt = slice_get_within rows h.0 h.1 h.2 in
        subst (λ (z : N). IsIn z found) h.3 (a.whole h.0 h.1 (omega (arith, lt, le)) h.2 h.4),
  )

  -- a row has a parent in the set
  abbrev pub HasParentIn : List N → Row N → Type 0
  HasParentIn set row = (p : N) × IsIn p row.parents × IsIn p set

  -- what reaches the set, gathered: of the first rows those with such a parent
  pub record AreLed (g : Graph N) (rows : List (Row N)) (set : List N) (i : ℕ) (found : List N) : Type 0 where
    pub sound : (x : N) → IsIn x found → sets.descendants g (among set) x
    pub base : (x : N) → IsIn x set → IsIn x found
    pub whole : (k : ℕ) (row : Row N) → k < i → slice_get rows k ≡ Some row → HasParentIn found row → IsIn row.name found

  pub led-none : (g : Graph N) (rows : List (Row N)) (set found : List N) → ((x : N) → IsIn x found ↔ IsIn x set) → AreLed g rows set 0 found
  led-none g rows set found iff = record {
    sound = λ x j. (x, (iff x).0 j, reaches-self g x);
    base = λ x s. (iff x).1 s;
    whole = λ k row lt at p. absurd (omega (arith, lt));
  }

  -- what each of the first names reaches, of what some name reaches
  abbrev pub AreShared : Graph N → List N → ℕ → List N → Type 0
  AreShared g set i found = (x : N) → IsIn x found ↔ (sets.ancestors g (among set) x × ((k : ℕ) (y : N) → k < i → slice_get set k ≡ Some y → Reaches g y x))

  pub shared-none : (g : Graph N) (set found : List N) → AreMembers (sets.ancestors g (among set)) found → AreShared g set 0 found
  shared-none g set found a x = (
    λ j. ((a x).0 j, λ k y lt at. absurd (omega (arith, lt))),
    λ h. (a x).1 h.0,
  )

  pub shared-more : (g : Graph N) (names set : List N) → names ≡ set → (i : ℕ) (y : N) → slice_get names i ≡ Some y → (found : List N) → AreShared g set i found
      → (only : List N) → AreMembers (λ (z : N). z ≡ y) only → (reached : List N) → AreMembers (sets.ancestors g (among only)) reached
      → (new : List N) → ((x : N) → IsIn x new ↔ (IsIn x found × IsIn x reached)) → AreShared g set (i + 1) new
  shared-more g names set same i y e found a only is reached r new iff x = (
    λ j. let h = (iff x).0 j in let f = (a x).0 h.0 in let m = (r x).0 h.1 in (
      f.0,
      λ k z lt at. below_more (λ (n : ℕ). (q : N) → slice_get set n ≡ Some q → Reaches g q x) i
          (λ n less q there. f.1 n q less there)
          (λ q there. subst (λ (p : N). Reaches g p x) ((is m.0).0 m.1 ∙ sym (some-same q y (sym there ∙ here))) m.2) k lt z at,
    ),
    λ h. (iff x).1 (
      (a x).1 (h.0, λ k z lt at. h.1 k z (omega (arith, lt)) at),
      (r x).1 (y, (is y).1 refl, h.1 i y (omega arith) here),
    ),
  )
    where
      here : slice_get set i ≡ Some y
      here = subst (λ (l : List N). slice_get l i ≡ Some y) same e

  pub shared-all : (g : Graph N) (set : List N) (i : ℕ) → length set ≤ i → (found : List N) → AreShared g set i found → AreMembers (sets.common g (among set)) found
  shared-all g set i le found a x = (
    λ j. let h = (a x).0 j in (
      (h.0.0, h.0.1),
      λ m s. each-at (λ (z : N). Reaches g z x) set (λ k y lt at. h.1 k y (omega (arith, lt, le)) at) m s,
    ),
    λ h. (a x).1 (
      (h.0.0, h.0.1, h.1 h.0.0 h.0.1),
      λ k y lt at. h.1 y (item-at set k y at),
    ),
  )

module _ {N : Type 0} (same : N → N → Bool) (exact : (x y : N) → same x y ≡ true → x ≡ y) (self : (x : N) → same x x ≡ true) (w : World N) (h : IsWorld w) where
  -- the commits of the rows with a parent in the set are its children
  pub children-all : (set found : List N) → ((x : N) → IsIn x found ↔ HasRow (rows_of w) (HasParentIn set) x) → AreMembers (sets.children (graph_of same w) (among set)) found
  children-all set found iff x = (
    λ j. let t = (iff x).0 j in (
      t.4.0,
      t.4.2,
      subst (λ (z : N). IsIn t.4.0 ((graph_of same w).parents z)) t.3 (subst (IsIn t.4.0) (sym (parents-at same exact self w h t.0 t.1 t.2)) t.4.1),
    ),
    λ t. let q = row-with same exact self (rows_of w) x t.0 t.2 in (iff x).1 (q.0, q.1, q.2, q.3, (t.0, q.4, t.1)),
  )

  first-in : (xs : List N) → 2 ≤ length xs → (p : N) × IsIn p xs
  first-in [] le = absurd (omega (arith, le))
  first-in (y ∷ xs) le = (y, inl refl)

  -- the rows with two parents are those of the commits that have them
  pub merges-all : (found : List N) → ((x : N) → IsIn x found ↔ HasRow (rows_of w) (λ (row : Row N). 2 ≤ length row.parents) x)
      → AreMembers (λ (x : N). 2 ≤ length ((graph_of same w).parents x)) found
  merges-all found iff x = (
    λ j. let t = (iff x).0 j in
        subst (λ (z : N). 2 ≤ length ((graph_of same w).parents z)) t.3 (subst (λ (l : List N). 2 ≤ length l) (sym (parents-at same exact self w h t.0 t.1 t.2)) t.4),
    λ le. let p = first-in ((graph_of same w).parents x) le in
        let q = row-with same exact self (rows_of w) x p.0 p.1 in
        let here : (graph_of same w).parents x ≡ q.1.parents = ap (λ (z : N). (graph_of same w).parents z) (sym q.3) ∙ parents-at same exact self w h q.0 q.1 q.2 in
        (iff x).1 (q.0, q.1, q.2, q.3, subst (λ (l : List N). 2 ≤ length l) here le),
  )

  -- a row with a parent that reaches the set reaches it; no row before it has this one as a parent
  pub led-put : (i : ℕ) (r : Row N) → slice_get (rows_of w) i ≡ Some r → (set found : List N) → AreLed (graph_of same w) (rows_of w) set i found
      → HasParentIn found r → (name : N) → name ≡ r.name → (new : List N) → ((x : N) → IsIn x new ↔ (IsIn x found ⊎ (x ≡ name))) → (last : List N) → last ≡ new
      → AreLed (graph_of same w) (rows_of w) set (i + 1) last
  led-put i r e set found a by name is_name new iff last is = subst (AreLed (graph_of same w) (rows_of w) set (i + 1)) (sym is) (record {
    sound = λ x j. ⊎_elim (λ k. a.sound x k) (λ f. let t = a.sound by.0 by.2 in (
      t.0,
      t.1,
      subst (λ (z : N). Reaches (graph_of same w) z t.0) (sym (f ∙ is_name))
          (reaches-parent (graph_of same w) r.name by.0 t.0 (subst (IsIn by.0) (sym (parents-at same exact self w h i r e)) by.1) t.2),
    )) ((iff x).0 j);
    base = λ x s. (iff x).1 (inl (a.base x s));
    whole = λ k row lt at.
        below_more (λ (n : ℕ). (q : Row N) → slice_get (rows_of w) n ≡ Some q → HasParentIn new q → IsIn q.name new) i
        (λ n less q there t. ⊎_elim
        (λ old. (iff q.name).1 (inl (a.whole n q less there (t.0, t.1, old))))
        (λ f. absurd ((known-before w h i r e).fresh
        (names-below r.name (rows_of w) n i (omega (arith, less))
        (subst (λ (z : N). IsIn z (names_of (take n (rows_of w)))) (f ∙ is_name) (in-all t.0 q.parents (names_of (take n (rows_of w))) t.1 (known-before w h n q there).known)))))
        ((iff t.0).0 t.2))
        (λ q there t. (iff q.name).1 (inr (ap (λ (z : Row N). z.name) (same-row q r (sym there ∙ e)) ∙ sym is_name))) k lt row at;
  })

  pub led-left : (i : ℕ) (r : Row N) → slice_get (rows_of w) i ≡ Some r → (set found : List N) → AreLed (graph_of same w) (rows_of w) set i found
      → (HasParentIn found r → ⊥) → (last : List N) → last ≡ found → AreLed (graph_of same w) (rows_of w) set (i + 1) last
  led-left i r e set found a off last is = subst (AreLed (graph_of same w) (rows_of w) set (i + 1)) (sym is) (record {
    sound = a.sound;
    base = a.base;
    whole = λ k row lt at.
        below_more (λ (n : ℕ). (q : Row N) → slice_get (rows_of w) n ≡ Some q → HasParentIn found q → IsIn q.name found) i
        (λ n less q there t. a.whole n q less there t)
        (λ q there t. absurd (off (subst (HasParentIn found) (same-row q r (sym there ∙ e)) t))) k lt row at;
  })

  -- behind the last row each walk into the set has been followed, from its end back
  along : (set found : List N) (i : ℕ) → length (rows_of w) ≤ i → AreLed (graph_of same w) (rows_of w) set i found
      → (x : N) (walk : List N) (m : N) → IsIn m set → IsWalk (graph_of same w) x walk m → IsIn x found
  along set found i le a x [] m s walked = a.base x (subst (λ (z : N). IsIn z set) (sym walked) s)
  along set found i le a x (p ∷ more) m s walked =
      let q = row-with same exact self (rows_of w) x p walked.0 in
      let lt = slice_get_within (rows_of w) q.0 q.1 q.2 in
      subst (λ (z : N). IsIn z found) q.3 (a.whole q.0 q.1 (omega (arith, lt, le)) q.2 (p, q.4, along set found i le a p more m s walked.1))

  pub led-all : (set found : List N) (i : ℕ) → length (rows_of w) ≤ i → AreLed (graph_of same w) (rows_of w) set i found → AreMembers (sets.descendants (graph_of same w) (among set)) found
  led-all set found i le a x = (a.sound x, λ t. along set found i le a x t.2.0 t.0 t.1 t.2.1)
