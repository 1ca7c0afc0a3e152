-- Commits that lead to a target, found row by row, and first parents step by step.
use Rattle.std.proofs.Common.{◌≡◌, ℕ, zero, suc, ◌+◌, ◌-◌, ◌<◌, ◌≤◌, ◌^◌, Bool, true, false, ◌⊎◌, inl, inr, List, [], ◌∷◌, ◌++◌, Option, Some, None, length, take, drop, refl, sym, ap, subst, ◌∙◌, arith, ⊎_elim, if◌then◌else◌, zero-add}
use Rattle.std.specs.Prelude.{slice_get, is_some, MatchOption, option_and_then}
use Rattle.std.proofs.lemmas.Option.{slice_get_within, get_or_from_slice_get}
use Rattle.std.proofs.lemmas.Bool.{ltb-false}
use Rattle.std.proofs.lemmas.List.{map-append, take-append-drop, take_all}
use Rattle.id_groups.specs.Lists.{IsIn}
use Rattle.id_groups.specs.Id.{is_master_id, other_id}
use Rattle.commit_graph.specs.World.{Row, World, IsWorld, IsNext, rows_of, names_of}
use Rattle.commit_graph.specs.Ids.{row_at, id_in}
use Rattle.commit_graph.specs.Graph.{Graph, graph_of, parents_of, IsWalk, Reaches, first_ancestor, first_of_list}
use Rattle.commit_graph.proofs.Histories.{in-append, in-all}
use Rattle.commit_graph.proofs.Down.{in-left, in-right}
use Rattle.commit_graph.proofs.Walks.{reaches-parent}
use Rattle.commit_graph.proofs.Places.{same-row, name-at, named-at, place-left, place-right, history-at, take-next, item-at, id-in-master, id-in-others}

pub some-if : {X : Type 0} (o : Option X) (P : Type 0) (Q : X → Type 0) → MatchOption o (¬ P) Q → P → is_some o ≡ true
some-if None P Q h p = absurd (h p)
some-if (Some x) P Q h p = refl

pub at-some : {X : Type 0} (o : Option X) (x : X) (P : Type 0) (Q : X → Type 0) → MatchOption o P Q → o ≡ Some x → Q x
at-some {X = X} o x P Q h e = let M : Option X → Type 0 = λ z. MatchOption z P Q in subst M e h

module _ {N : Type 0} where
  -- one option holds one row
  pub of-row : (o : Option N) (q : Option (Row N)) (a b : Row N) → q ≡ Some a → q ≡ Some b → o ≡ Some a.name → o ≡ Some b.name
  of-row o q a b f g e = e ∙ ap (λ (z : Row N). Some z.name) (same-row a b (sym f ∙ g))

  -- the row of an id stands somewhere among the rows
  pub place-of-id : (w : World N) (id : ℕ) (r : Row N) → row_at w id ≡ Some r → (i : ℕ) × (slice_get (rows_of w) i ≡ Some r)
  place-of-id w id r h = by_group (is_master_id id) h
    where
      by_group : (b : Bool) → (if b then slice_get w.master id else slice_get w.others (id - 2 ^ 56)) ≡ Some r → (i : ℕ) × (slice_get (rows_of w) i ≡ Some r)
      by_group true e = (id, place-left w.master w.others id r e)
      by_group false e = (length w.master + (id - 2 ^ 56), place-right w.master w.others (id - 2 ^ 56) r e)

  -- the parents of a row of a world stand before it
  pub known-before : (w : World N) → IsWorld w → (i : ℕ) (r : Row N) → slice_get (rows_of w) i ≡ Some r → IsNext (names_of (take i (rows_of w))) r
  known-before w h i r e = history-at (rows_of w) i r (slice_get_within (rows_of w) i r e) (sym (get_or_from_slice_get (rows_of w) i r r e)) h

  pub parent-known : (w : World N) → IsWorld w → (i : ℕ) (r : Row N) → slice_get (rows_of w) i ≡ Some r → (p : N) → IsIn p r.parents → IsIn p (names_of (rows_of w))
  parent-known w h i r e p j =
      subst (λ (l : List (Row N)). IsIn p (names_of l)) (take-append-drop i (rows_of w))
      (subst (IsIn p) (sym (map-append (λ (z : Row N). z.name) (take i (rows_of w)) (drop i (rows_of w))))
      (in-left p (names_of (take i (rows_of w))) (names_of (drop i (rows_of w))) (in-all p r.parents (names_of (take i (rows_of w))) j (known-before w h i r e).known)))

  -- the names up to one more place
  names-next : (rows : List (Row N)) (i : ℕ) (r : Row N) → slice_get rows i ≡ Some r → (x : N) → IsIn x (names_of (take (i + 1) rows)) → IsIn x (names_of (take i rows)) ⊎ (x ≡ r.name)
  names-next rows i r e x h =
      let next = take-next rows i r (slice_get_within rows i r e) (sym (get_or_from_slice_get rows i r r e)) in
      ⊎_elim (λ j. inl j) (λ j. ⊎_elim (λ f. inr f) (λ f. absurd f) j)
      (in-append x (names_of (take i rows)) (r.name ∷ []) (subst (IsIn x) (map-append (λ (z : Row N). z.name) (take i rows) (r ∷ []))
      (subst (λ (l : List (Row N)). IsIn x (names_of l)) (sym next) h)))

  -- these names are those among the first rows that reach the target
  pub record AreLeading (g : Graph N) (rows : List (Row N)) (target : N) (leading : List N) : Type 0 where
    pub sound : (x : N) → IsIn x leading → Reaches g x target
    pub whole : (x : N) → IsIn x (names_of rows) → Reaches g x target → IsIn x leading

  -- the first item
  pub first-of : (xs : List N) → slice_get xs 0 ≡ first_of_list xs
  first-of [] = refl
  first-of (x ∷ xs) = refl

  -- behind a step that leads nowhere no step leads anywhere
  pub none-after : (g : Graph N) (x : N) (k m : ℕ) → first_ancestor g m x ≡ None → first_ancestor g (k + m) x ≡ None
  none-after g x zero m e = subst (λ (n : ℕ). first_ancestor g n x ≡ None) (sym (zero-add m)) e
  none-after g x (suc k) m e =
      let next : suc (k + m) ≡ suc k + m = omega arith in
      subst (λ (n : ℕ). first_ancestor g n x ≡ None) next (ap (option_and_then (λ (y : N). first_of_list (g.parents y))) (none-after g x k m e))

module _ {N : Type 0} (same : N → N → Bool) (exact : (x y : N) → same x y ≡ true → x ≡ y) (self : (x : N) → same x x ≡ true) (w : World N) (h : IsWorld w) where
  -- the parents of a row are those of its name
  pub parents-at : (i : ℕ) (r : Row N) → slice_get (rows_of w) i ≡ Some r → (graph_of same w).parents r.name ≡ r.parents
  parents-at i r e = ap parents_of (named-at same exact self [] (rows_of w) i r h e)

  -- a row that leads to the target is put behind those that do
  pub leading-more : (i : ℕ) (r : Row N) → slice_get (rows_of w) i ≡ Some r → (target : N) (leading : List N) → AreLeading (graph_of same w) (take i (rows_of w)) target leading
      → (r.name ≡ target) ⊎ ((p : N) × IsIn p r.parents × IsIn p leading) → AreLeading (graph_of same w) (take (i + 1) (rows_of w)) target (leading ++ r.name ∷ [])
  leading-more i r e target leading a by = record {
    sound = λ x j. ⊎_elim (λ k. a.sound x k)
        (λ k. ⊎_elim (λ f. subst (λ (z : N). Reaches (graph_of same w) z target) (sym f) from_row) (λ f. absurd f) k)
        (in-append x leading (r.name ∷ []) j);
    whole = λ x j walk. ⊎_elim (λ k. in-left x leading (r.name ∷ []) (a.whole x k walk)) (λ f. in-right x leading (r.name ∷ []) (inl f))
        (names-next (rows_of w) i r e x j);
  }
    where
      from_row : Reaches (graph_of same w) r.name target
      from_row = ⊎_elim (λ f. ([], f))
          (λ t. reaches-parent (graph_of same w) r.name t.0 target (subst (IsIn t.0) (sym (parents-at i r e)) t.1) (a.sound t.0 t.2)) by

  -- a row that doesn't is left out
  pub leading-same : (i : ℕ) (r : Row N) → slice_get (rows_of w) i ≡ Some r → (target : N) (leading : List N) → AreLeading (graph_of same w) (take i (rows_of w)) target leading
      → ((r.name ≡ target) ⊎ ((p : N) × IsIn p r.parents × IsIn p leading) → ⊥) → AreLeading (graph_of same w) (take (i + 1) (rows_of w)) target leading
  leading-same i r e target leading a off = record {
    sound = a.sound;
    whole = λ x j walk. ⊎_elim (λ k. a.whole x k walk) (λ f. absurd (walked (subst (λ (z : N). Reaches (graph_of same w) z target) f walk).0 (subst (λ (z : N). Reaches (graph_of same w) z target) f walk).1))
        (names-next (rows_of w) i r e x j);
  }
    where
      walked : (walk : List N) → IsWalk (graph_of same w) r.name walk target → ⊥
      walked [] f = off (inl f)
      walked (p ∷ more) f =
          let in_row = subst (IsIn p) (parents-at i r e) f.0 in
          off (inr (p, in_row, a.whole p (in-all p r.parents (names_of (take i (rows_of w))) in_row (known-before w h i r e).known) (more, f.1)))

  -- at the end the names are all those that reach the target
  pub leading-all : (i : ℕ) → length (rows_of w) ≤ i → (target : N) (leading : List N) → AreLeading (graph_of same w) (take i (rows_of w)) target leading
      → (id : ℕ) (r : Row N) → row_at w id ≡ Some r → Reaches (graph_of same w) r.name target → IsIn r.name leading
  leading-all i le target leading a id r e walk =
      let at = place-of-id w id r e in
      a.whole r.name (subst (λ (l : List (Row N)). IsIn r.name (names_of l)) (sym (take_all i (rows_of w) le)) (name-at (rows_of w) at.0 r at.1)) walk

  -- a step of the list, as the program comes to it
  pub leading-push : (i : ℕ) (r : Row N) → slice_get (rows_of w) i ≡ Some r → (target : N) (leading : List N) → AreLeading (graph_of same w) (take i (rows_of w)) target leading
      → (held : List N) → held ≡ leading → (r.name ≡ target) ⊎ ((p : N) × IsIn p r.parents × IsIn p held) → (x : N) → x ≡ r.name → (new : List N) → new ≡ leading ++ x ∷ []
      → AreLeading (graph_of same w) (take (i + 1) (rows_of w)) target new
  leading-push i r e target leading a held is_held by x is_x new is_new =
      subst (AreLeading (graph_of same w) (take (i + 1) (rows_of w)) target) (sym (is_new ∙ ap (λ (z : N). leading ++ z ∷ []) is_x))
      (leading-more i r e target leading a (subst (λ (l : List N). (r.name ≡ target) ⊎ ((p : N) × IsIn p r.parents × IsIn p l)) is_held by))

  pub leading-keep : (i : ℕ) (r : Row N) → slice_get (rows_of w) i ≡ Some r → (target : N) (leading : List N) → AreLeading (graph_of same w) (take i (rows_of w)) target leading
      → (held : List N) → held ≡ leading → ((r.name ≡ target) ⊎ ((p : N) × IsIn p r.parents × IsIn p held) → ⊥) → (new : List N) → new ≡ leading
      → AreLeading (graph_of same w) (take (i + 1) (rows_of w)) target new
  leading-keep i r e target leading a held is_held off new is_new =
      subst (AreLeading (graph_of same w) (take (i + 1) (rows_of w)) target) (sym is_new)
      (leading-same i r e target leading a (subst (λ (l : List N). (r.name ≡ target) ⊎ ((p : N) × IsIn p r.parents × IsIn p l) → ⊥) is_held off))

  -- whether a name is in the list, at the end
  pub leading-answer : (i : ℕ) → length (rows_of w) ≤ i → (target : N) (leading : List N) → AreLeading (graph_of same w) (take i (rows_of w)) target leading
      → (x y : ℕ) (from to a b : Row N) → row_at w x ≡ Some from → row_at w y ≡ Some to → row_at w x ≡ Some a → row_at w y ≡ Some b
      → target ≡ b.name → (name : N) → name ≡ a.name → (held : List N) → held ≡ leading → (found : Bool)
      → (found ≡ true → IsIn name held) × (IsIn name held → found ≡ true)
      → (found ≡ true → Reaches (graph_of same w) from.name to.name) × (Reaches (graph_of same w) from.name to.name → found ≡ true)
  leading-answer i le target leading lead x y from to a b is_from is_to is_a is_b is_target name is_name held is_held found iff =
      let n : name ≡ from.name = is_name ∙ ap (λ (z : Row N). z.name) (same-row a from (sym is_a ∙ is_from)) in
      let t : target ≡ to.name = is_target ∙ ap (λ (z : Row N). z.name) (same-row b to (sym is_b ∙ is_to)) in (
        λ f. subst (λ (z : N). Reaches (graph_of same w) z to.name) n (subst (λ (z : N). Reaches (graph_of same w) name z) t (lead.sound name (subst (IsIn name) is_held (iff.0 f)))),
        λ walk. iff.1 (subst (IsIn name) (sym is_held) (subst (λ (z : N). IsIn z leading) (sym n)
            (leading-all i le target leading lead x from is_from (subst (λ (z : N). Reaches (graph_of same w) from.name z) (sym t) walk)))),
      )

  -- the id of a row is that of its name
  pub id-of-row : (id : ℕ) (r : Row N) → row_at w id ≡ Some r → id_in same w r.name ≡ id
  id-of-row id r e = by_group (is_master_id id) refl e
    where
      by_group : (b : Bool) → is_master_id id ≡ b → (if b then slice_get w.master id else slice_get w.others (id - 2 ^ 56)) ≡ Some r → id_in same w r.name ≡ id
      by_group true t f = id-in-master same exact self w h id r f
      by_group false t f =
          let over : 2 ^ 56 ≤ id = ltb-false id (2 ^ 56) t in
          let back : other_id (id - 2 ^ 56) ≡ id = omega (arith, over) in
          id-in-others same exact self w h (id - 2 ^ 56) r f ∙ back

  -- a parent of a commit is one of the world
  pub first-known : (id : ℕ) (r : Row N) → row_at w id ≡ Some r → (p : N) → slice_get r.parents 0 ≡ Some p → IsIn p (names_of (rows_of w))
  first-known id r e p f = let at = place-of-id w id r e in parent-known w h at.0 r at.1 p (item-at r.parents 0 p f)

  -- one step more leads to the first parent
  pub first-step : (i id : ℕ) (r : Row N) → row_at w id ≡ Some r → (x : N) → first_ancestor (graph_of same w) i x ≡ Some r.name → first_ancestor (graph_of same w) (suc i) x ≡ slice_get r.parents 0
  first-step i id r e x f =
      let at = place-of-id w id r e in
      ap (option_and_then (λ (y : N). first_of_list ((graph_of same w).parents y))) f ∙ ap first_of_list (parents-at at.0 r at.1) ∙ sym (first-of r.parents)

  pub step-none : (i n : ℕ) → i < n → (id : ℕ) (r : Row N) → row_at w id ≡ Some r → slice_get r.parents 0 ≡ None → (x : N) → first_ancestor (graph_of same w) i x ≡ Some r.name → first_ancestor (graph_of same w) n x ≡ None
  step-none i n lt id r e f x g =
      let whole : (n - suc i) + suc i ≡ n = omega (arith, lt) in
      subst (λ (m : ℕ). first_ancestor (graph_of same w) m x ≡ None) whole (none-after (graph_of same w) x (n - suc i) (suc i) (first-step i id r e x g ∙ f))
