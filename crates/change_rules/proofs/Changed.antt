-- Rebases, strips and pulls of worlds are worlds.
use Rattle.std.proofs.Common.{◌≡◌, Bool, true, false, not, cond, ◌⊎◌, inl, inr, List, [], ◌∷◌, ◌++◌, length, filter, Option, Some, None, refl, sym, ap, subst, ◌∙◌, if◌then◌else◌, ⊎_elim, true≢false, is_some, append_assoc}
use Rattle.std.specs.List.{list_any}
use Rattle.std.proofs.lemmas.List.{map-append}
use Rattle.id_groups.specs.Lists.{IsIn, is_in, AreAllIn}
use Rattle.id_groups.proofs.Listing.{found, missing, any-in, in-any}
use Rattle.commit_graph.specs.World.{Row, World, IsWorld, IsHistory, rows_of, names_of, row_named, with_pending}
use Rattle.commit_graph.specs.Graph.{graph_of, parents_of}
use Rattle.commit_graph.specs.Search.{reaches_in}
use Rattle.commit_graph.proofs.Histories.{in-append, history-append, history-front, history-rest}
use Rattle.commit_graph.proofs.Down.{in-left, in-right, world-walks}
use Rattle.commit_graph.proofs.Walks.{reaches-found}
use Rattle.change_rules.specs.Rebase.{left_of, first_lost, first_missing, first_outside, or_else}
use Rattle.change_rules.specs.Flush.{rows_outside}
use Rattle.change_rules.specs.Strip.{stripped}
use Rattle.change_rules.specs.Pull.{pulled}
use Rattle.change_rules.proofs.Flushes.{row-found, outside-history, filtered-names}

some-none : {X : Type 0} (x : X) → Some x ≡ None → ⊥
some-none x e = true≢false (ap is_some e)

module _ {N : Type 0} (same : N → N → Bool) (exact : (x y : N) → same x y ≡ true → x ≡ y) (self : (x : N) → same x x ≡ true) where
  or-none : (o other : Option N) → or_else o other ≡ None → (o ≡ None) × (other ≡ None)
  or-none None other e = (refl, e)
  or-none (Some x) other e = absurd (some-none x e)

  none-outside : (known xs : List N) → first_outside same known xs ≡ None → AreAllIn xs known
  none-outside known [] e = tt
  none-outside known (x ∷ xs) e = by_test (is_in same x known) refl e (none-outside known xs)
    where
      by_test : (b : Bool) → is_in same x known ≡ b → (if b then first_outside same known xs else Some x) ≡ None → (first_outside same known xs ≡ None → AreAllIn xs known) → AreAllIn (x ∷ xs) known
      by_test true f e rec = (found same exact self x known f, rec e)
      by_test false f e rec = absurd (some-none x e)

  -- the rows that are left go on behind the world and each other, where none loses a parent
  left-history : (w : World N) (before out : List N) (pending : List (Row N)) → ((y : N) → IsIn y out → IsIn y (names_of (rows_of w)) ⊎ IsIn y before)
      → IsHistory before pending → first_missing same out (left_of same w pending) ≡ None → IsHistory out (left_of same w pending)
  left-history w before out [] f h e = tt
  left-history w before out (r ∷ pending) f h e =
      by_test (is_in same r.name (names_of (rows_of w))) refl e
      (λ e'. left-history w (before ++ r.name ∷ []) out pending (λ y i. ⊎_elim (λ j. inl j) (λ j. inr (in-left y before (r.name ∷ []) j)) (f y i)) h.1 e')
      (λ e'. left-history w (before ++ r.name ∷ []) (out ++ r.name ∷ []) pending
      (λ y i. ⊎_elim (λ j. ⊎_elim (λ k. inl k) (λ k. inr (in-left y before (r.name ∷ []) k)) (f y j)) (λ j. inr (in-right y before (r.name ∷ []) j)) (in-append y out (r.name ∷ []) i)) h.1 e')
    where
      by_test : (b : Bool) → is_in same r.name (names_of (rows_of w)) ≡ b → first_missing same out (cond (not b) (r ∷ left_of same w pending) (left_of same w pending)) ≡ None
          → (first_missing same out (left_of same w pending) ≡ None → IsHistory out (left_of same w pending))
          → (first_missing same (out ++ r.name ∷ []) (left_of same w pending) ≡ None → IsHistory (out ++ r.name ∷ []) (left_of same w pending))
          → IsHistory out (cond (not b) (r ∷ left_of same w pending) (left_of same w pending))
      by_test true g e skip keep = skip e
      by_test false g e skip keep =
          let both = or-none (first_outside same out r.parents) (first_missing same (out ++ r.name ∷ []) (left_of same w pending)) e in (
            record {
              fresh = λ i. ⊎_elim (missing same exact self r.name (names_of (rows_of w)) g) h.0.fresh (f r.name i);
              known = none-outside out r.parents both.0;
              distinct = h.0.distinct;
              few = h.0.few;
            },
            keep both.1,
          )

  -- a rebase that loses no parent
  pub rebase-lossless : (w base : World N) (pending : List (Row N)) → IsWorld w → IsWorld (with_pending base pending) → first_lost same w pending ≡ None → IsWorld (with_pending w (left_of same w pending))
  rebase-lossless w base pending hw hv e =
      subst (IsHistory []) (append_assoc w.master w.others (left_of same w pending))
      (history-append [] (rows_of w) (left_of same w pending) hw
      (left-history w (names_of (rows_of base)) (names_of (rows_of w)) pending (λ y i. inl i)
      (history-rest [] (rows_of base) pending (subst (IsHistory []) (sym (append_assoc base.master base.others pending)) hv)) e))

  -- what isn't taken by a strip
  module _ (w : World N) (whole : IsWorld w) (names : List N) where
    gone : N → Bool
    gone x = list_any (λ name. reaches_in same (graph_of same w) (length (rows_of w)) x name) names

    -- a commit goes where a parent goes
    gone-child : (r : Row N) → IsIn r (rows_of w) → (p : N) → IsIn p r.parents → gone p ≡ true → gone r.name ≡ true
    unfolding gone
    gone-child r i p j e =
        let g = any-in (λ name. reaches_in same (graph_of same w) (length (rows_of w)) p name) names e in
        let walk = reaches-found same exact self (graph_of same w) (length (rows_of w)) p g.0 g.2 in
        let at : parents_of (row_named same (rows_of w) r.name) ≡ r.parents = ap parents_of (row-found same exact self [] (rows_of w) r whole i) in
        in-any (λ name. reaches_in same (graph_of same w) (length (rows_of w)) r.name name) names g.0 g.1
        (world-walks same exact self w whole r.name g.0 (p ∷ walk.0, (subst (IsIn p) (sym at) j, walk.1)))

    kept-history : (before out : List N) (rows : List (Row N)) → ((r : Row N) → IsIn r rows → IsIn r (rows_of w)) → ((y : N) → IsIn y (names_of w.master) → IsIn y before)
        → ((y : N) → IsIn y before → IsIn y (names_of w.master) ⊎ (gone y ≡ false) → IsIn y out) → ((y : N) → IsIn y out → IsIn y before)
        → IsHistory before rows → IsHistory out (filter (λ r. not (gone r.name)) rows)
    kept-history before out [] s m f g h = tt
    kept-history before out (r ∷ rows) s m f g h =
        by_test (gone r.name) refl
        (λ e. kept-history (before ++ r.name ∷ []) out rows (λ q i. s q (inr i)) (λ y i. in-left y before (r.name ∷ []) (m y i))
        (λ y i k. ⊎_elim (λ j. f y j k) (λ j. last y j k e) (in-append y before (r.name ∷ []) i)) (λ y i. in-left y before (r.name ∷ []) (g y i)) h.1)
        (kept-history (before ++ r.name ∷ []) (out ++ r.name ∷ []) rows (λ q i. s q (inr i)) (λ y i. in-left y before (r.name ∷ []) (m y i))
        (λ y i k. ⊎_elim (λ j. in-left y out (r.name ∷ []) (f y j k)) (λ j. in-right y out (r.name ∷ []) j) (in-append y before (r.name ∷ []) i))
        (λ y i. ⊎_elim (λ j. in-left y before (r.name ∷ []) (g y j)) (λ j. in-right y before (r.name ∷ []) j) (in-append y out (r.name ∷ []) i)) h.1)
      where
        last : (y : N) → IsIn y (r.name ∷ []) → IsIn y (names_of w.master) ⊎ (gone y ≡ false) → gone r.name ≡ true → IsIn y out
        last y (inl e) (inl k) t = absurd (h.0.fresh (subst (λ z. IsIn z before) e (m y k)))
        last y (inl e) (inr k) t = absurd (true≢false (sym t ∙ ap gone (sym e) ∙ k))
        last y (inr i) k t = absurd i

        stays : gone r.name ≡ false → (p : N) → IsIn p r.parents → gone p ≡ false
        stays e p i = which (gone p) refl
          where
            which : (b : Bool) → gone p ≡ b → gone p ≡ false
            which true t = absurd (true≢false (sym (gone-child r (s r (inl refl)) p i t) ∙ e))
            which false t = t

        all-known : gone r.name ≡ false → (ps : List N) → ((p : N) → IsIn p ps → IsIn p r.parents) → AreAllIn ps before → AreAllIn ps out
        all-known e [] sub a = tt
        all-known e (p ∷ ps) sub a = (f p a.0 (inr (stays e p (sub p (inl refl)))), all-known e ps (λ q i. sub q (inr i)) a.1)

        by_test : (b : Bool) → gone r.name ≡ b → (gone r.name ≡ true → IsHistory out (filter (λ r. not (gone r.name)) rows)) → IsHistory (out ++ r.name ∷ []) (filter (λ r. not (gone r.name)) rows)
            → IsHistory out (cond (not b) (r ∷ filter (λ r. not (gone r.name)) rows) (filter (λ r. not (gone r.name)) rows))
        by_test true e skip keep = skip e
        by_test false e skip keep = (
          record {
            fresh = λ i. h.0.fresh (g r.name i);
            known = all-known e r.parents (λ q i. i) h.0.known;
            distinct = h.0.distinct;
            few = h.0.few;
          },
          keep,
        )

    -- a strip leaves a world
    pub strip-world : IsWorld (stripped same w names)
    unfolding gone
    strip-world =
        history-append [] w.master (stripped same w names).others (history-front [] w.master w.others whole)
        (kept-history (names_of w.master) (names_of w.master) w.others (λ r i. in-right r w.master w.others i) (λ y i. i) (λ y i k. i) (λ y i. i) (history-rest [] w.master w.others whole))

    pub strip-names : (x : N) → IsIn x (names_of (rows_of (stripped same w names))) → IsIn x (names_of (rows_of w))
    strip-names x i =
        subst (IsIn x) (sym (map-append (λ r. r.name) w.master w.others))
        (⊎_elim (λ j. in-left x (names_of w.master) (names_of w.others) j)
        (λ j. in-right x (names_of w.master) (names_of w.others) (filtered-names _ x w.others j))
        (in-append x (names_of w.master) (names_of (stripped same w names).others) (subst (IsIn x) (map-append (λ r. r.name) w.master (stripped same w names).others) i)))

  -- a pull of a remote's master leaves a world
  module _ (w r : World N) (whole : IsWorld w) (served : IsHistory [] r.master) where
    pub pull-world : IsWorld (pulled same w r)
    pull-world =
        let old = names_of w.master in
        let new = rows_outside same r.master old in
        let master : IsHistory [] (w.master ++ new) =
        history-append [] w.master new (history-front [] w.master w.others whole)
        (outside-history same exact self r.master served old [] old r.master (λ y i. absurd i) (λ y i. inr i) (λ y i. i) served) in
        let all = names_of (w.master ++ new) in
        history-append [] (w.master ++ new) (rows_outside same w.others all) master
        (outside-history same exact self (rows_of w) whole all old all w.others
        (λ y i. subst (IsIn y) (sym (map-append (λ q. q.name) w.master new)) (in-left y old (names_of new) i)) (λ y i. inr i) (λ y i. i) (history-rest [] w.master w.others whole))

    pub pull-names : (x : N) → IsIn x (names_of (rows_of (pulled same w r))) → IsIn x (names_of (rows_of w)) ⊎ IsIn x (names_of r.master)
    pull-names x i =
        let old = names_of w.master in
        let new = rows_outside same r.master old in
        let into : IsIn x (names_of w.master) → IsIn x (names_of (rows_of w)) = λ j. subst (IsIn x) (sym (map-append (λ q. q.name) w.master w.others)) (in-left x old (names_of w.others) j) in
        ⊎_elim
        (λ j. ⊎_elim (λ k. inl (into k)) (λ k. inr (filtered-names _ x r.master k)) (in-append x old (names_of new) (subst (IsIn x) (map-append (λ q. q.name) w.master new) j)))
        (λ j. inl (subst (IsIn x) (sym (map-append (λ q. q.name) w.master w.others)) (in-right x old (names_of w.others) (filtered-names _ x w.others j))))
        (in-append x (names_of (w.master ++ new)) (names_of (rows_outside same w.others (names_of (w.master ++ new))))
        (subst (IsIn x) (map-append (λ q. q.name) (w.master ++ new) (rows_outside same w.others (names_of (w.master ++ new)))) i))
