-- Sets that stand for others, and the filtering of a world's commits by one.
use Rattle.std.proofs.Common.{◌≡◌, ℕ, ◌+◌, Bool, inl, inr, List, [], ◌∷◌, ◌++◌, drop, reverse, append-nil, Some, refl, sym, ap, subst, ◌∙◌, ⊎_elim}
use Rattle.std.specs.Prelude.{slice_get}
use Rattle.std.proofs.lemmas.Option.{slice_get_within, get_or_from_slice_get}
use Rattle.std.proofs.lemmas.List.{reverse-append, map-append, drop_more}
use Rattle.id_groups.specs.Lists.{IsIn, IsFiltered}
use Rattle.commit_graph.specs.World.{Row, World, rows_of, names_of}
use Rattle.commit_graph.specs.Graph.{graph_of}
use Rattle.commit_graph.proofs.Histories.{in-append}
use Rattle.commit_graph.proofs.Down.{in-down, in-left, in-right}
use Rattle.plain_query.specs.Members.{AreMembers, among}

module _ {N : Type 0} where
  reverse-in : (x : N) (xs : List N) → IsIn x (reverse xs) → IsIn x xs
  reverse-in x [] i = i
  reverse-in x (y ∷ xs) i = ⊎_elim (λ j. inr (reverse-in x xs j)) (λ j. ⊎_elim (λ e. inl e) (λ f. absurd f) j)
      (in-append x (reverse xs) (y ∷ []) (subst (IsIn x) (reverse-append (y ∷ []) xs) i))

  -- the commits of a graph are those of its rows
  pub all-down : (same : N → N → Bool) (w : World N) (found : List N) → AreMembers (among (names_of (rows_of w))) found → AreMembers (among (graph_of same w).down) found
  all-down same w found a = λ x. (
    λ j. in-down same w x ((a x).0 j),
    λ i. (a x).1 (subst (IsIn x) (sym (map-append (λ (r : Row N). r.name) w.master w.others))
        (⊎_elim (λ j. in-right x (names_of w.master) (names_of w.others) (reverse-in x (names_of w.others) j))
        (λ j. in-left x (names_of w.master) (names_of w.others) (reverse-in x (names_of w.master) j))
        (in-append x (reverse (names_of w.others)) (reverse (names_of w.master)) i))),
  )

  -- filterings one behind the other
  filtered-append : (P : N → Type 0) (xs ys zs ws : List N) → IsFiltered P xs ys → IsFiltered P zs ws → IsFiltered P (xs ++ zs) (ys ++ ws)
  filtered-append P [] ys zs ws h g = subst (λ (l : List N). IsFiltered P zs (l ++ ws)) (sym h) g
  filtered-append P (x ∷ xs) ys zs ws (inl h) g = inl (h.0, h.1 ++ ws, ap (λ (l : List N). l ++ ws) h.2, filtered-append P xs h.1 zs ws h.3 g)
  filtered-append P (x ∷ xs) ys zs ws (inr h) g = inr (h.0, filtered-append P xs ys zs ws h.1 g)

  -- the names of the rows from a place on, the last row first
  abbrev pub down_to : List (Row N) → ℕ → List N
  down_to rows i = reverse (names_of (drop i rows))

  -- one more row
  down-next : (rows : List (Row N)) (i : ℕ) (r : Row N) → slice_get rows i ≡ Some r → down_to rows i ≡ down_to rows (i + 1) ++ r.name ∷ []
  down-next rows i r e =
      let lt = slice_get_within rows i r e in
      ap (λ (l : List (Row N)). reverse (names_of l)) (drop_more rows i r lt ∙ ap (λ (z : Row N). z ∷ drop (i + 1) rows) (get_or_from_slice_get rows i r r e))
      ∙ reverse-append (r.name ∷ []) (names_of (drop (i + 1) rows))

  -- a member is put behind the names, and what is none isn't
  pub filtered-push : (P : N → Type 0) (rows : List (Row N)) (n i : ℕ) → n ≡ i + 1 → (r : Row N) → slice_get rows i ≡ Some r → (names : List N) → IsFiltered P (down_to rows n) names
      → (name : N) → name ≡ r.name → P name → (new : List N) → new ≡ names ++ name ∷ [] → IsFiltered P (down_to rows i) new
  filtered-push P rows n i next r e names h name is p new is_new =
      subst (IsFiltered P (down_to rows i)) (sym (is_new ∙ ap (λ (z : N). names ++ z ∷ []) is))
      (subst (λ (l : List N). IsFiltered P l (names ++ r.name ∷ [])) (sym (down-next rows i r e))
      (filtered-append P (down_to rows (i + 1)) names (r.name ∷ []) (r.name ∷ []) (subst (λ (m : ℕ). IsFiltered P (down_to rows m) names) next h) (inl (subst P is p, [], refl, refl))))

  pub filtered-keep : (P : N → Type 0) (rows : List (Row N)) (n i : ℕ) → n ≡ i + 1 → (r : Row N) → slice_get rows i ≡ Some r → (names : List N) → IsFiltered P (down_to rows n) names
      → (name : N) → name ≡ r.name → (P name → ⊥) → (new : List N) → new ≡ names → IsFiltered P (down_to rows i) new
  filtered-keep P rows n i next r e names h name is off new is_new =
      subst (IsFiltered P (down_to rows i)) (sym is_new)
      (subst (λ (l : List N). IsFiltered P l names) (sym (down-next rows i r e))
      (subst (IsFiltered P (down_to rows (i + 1) ++ r.name ∷ [])) (append-nil names)
      (filtered-append P (down_to rows (i + 1)) names (r.name ∷ []) [] (subst (λ (m : ℕ). IsFiltered P (down_to rows m) names) next h) (inr (λ p. off (subst P (sym is) p), refl)))))

  -- at the first row all commits of the graph are gone over
  pub filtered-all : (same : N → N → Bool) (w : World N) (P : N → Type 0) (i : ℕ) → i ≡ 0 → (names : List N) → IsFiltered P (down_to (rows_of w) i) names → IsFiltered P (graph_of same w).down names
  filtered-all same w P i start names h =
      subst (λ (l : List N). IsFiltered P l names)
      (ap (λ (n : ℕ). down_to (rows_of w) n) start ∙ ap (λ (l : List N). reverse l) (map-append (λ (r : Row N). r.name) w.master w.others) ∙ reverse-append (names_of w.master) (names_of w.others)) h
