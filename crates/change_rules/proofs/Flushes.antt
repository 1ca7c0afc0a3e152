-- A flush of a world is a world.
use Rattle.std.proofs.Common.{◌≡◌, ◌≤◌, Bool, true, false, not, cond, ◌⊎◌, inl, inr, List, [], ◌∷◌, ◌++◌, length, reverse, filter, filter_map, Option, Some, None, refl, sym, ap, ap₂, subst, ◌∙◌, if◌then◌else◌, ⊎_elim, true≢false, append_assoc, append-nil}
use Rattle.std.specs.List.{cons_option}
use Rattle.std.proofs.lemmas.List.{reverse-append, map-append}
use Rattle.std.proofs.lemmas.List.Elements.{filter_map-append}
use Rattle.id_groups.specs.Lists.{IsIn, is_in, AreAllIn, AreDistinct}
use Rattle.id_groups.proofs.Listing.{found, missing}
use Rattle.commit_graph.specs.World.{Row, World, IsWorld, IsHistory, GrowsMaster, rows_of, names_of, row_named, with_pending}
use Rattle.commit_graph.specs.Graph.{parents_of}
use Rattle.commit_graph.proofs.Histories.{in-all, in-append, history-append, history-front, history-rest}
use Rattle.commit_graph.proofs.Down.{in-left, in-right}
use Rattle.assign_ids.proofs.Placings.{IsDown, history-down, all-through, IsOrder, AreParents, IsPlaced, all-places, places}
use Rattle.change_rules.specs.Rebase.{left_of}
use Rattle.change_rules.specs.Flush.{flushed, master_after, rows_named, rows_outside}

pub in-reverse-back : {N : Type 0} (x : N) (xs : List N) → IsIn x (reverse xs) → IsIn x xs
in-reverse-back x [] i = i
in-reverse-back x (y ∷ xs) i = ⊎_elim (λ j. inr (in-reverse-back x xs j)) (λ j. ⊎_elim (λ e. inl e) (λ e. absurd e) j)
    (in-append x (reverse xs) (y ∷ []) (subst (IsIn x) (reverse-append (y ∷ []) xs) i))

pub name-in : {N : Type 0} (r : Row N) (rows : List (Row N)) → IsIn r rows → IsIn r.name (names_of rows)
name-in r [] i = absurd i
name-in r (q ∷ rows) (inl e) = inl (ap (λ (z : Row _). z.name) e)
name-in r (q ∷ rows) (inr i) = inr (name-in r rows i)

-- a later row has a new name
name-new : {N : Type 0} (before : List N) (rows : List (Row N)) (r : Row N) → IsHistory before rows → IsIn r rows → IsIn r.name before → ⊥
name-new before [] r h i j = i
name-new before (q ∷ rows) r h (inl e) j = h.0.fresh (subst (λ (z : Row _). IsIn z.name before) e j)
name-new before (q ∷ rows) r h (inr i) j = name-new (before ++ q.name ∷ []) rows r h.1 i (in-left r.name before (q.name ∷ []) j)

into-option : {Y : Type 0} (o : Option Y) (y : Y) (ys : List Y) → IsIn y ys → IsIn y (cons_option o ys)
into-option None y ys j = j
into-option (Some a) y ys j = inr j

-- what a list gives of an element is in what it gives
named-in : {X Y : Type 0} (f : X → Option Y) (x : X) (y : Y) (xs : List X) → IsIn x xs → f x ≡ Some y → IsIn y (filter_map f xs)
named-in f x y [] i e = absurd i
named-in f x y (z ∷ xs) (inl g) e = subst (λ o. IsIn y (cons_option o (filter_map f xs))) (sym (ap f (sym g) ∙ e)) (inl refl)
named-in f x y (z ∷ xs) (inr i) e = into-option (f z) y (filter_map f xs) (named-in f x y xs i e)

into-cond : {X : Type 0} (b : Bool) (x y : X) (ys : List X) → IsIn x ys → IsIn x (cond b (y ∷ ys) ys)
into-cond true x y ys j = inr j
into-cond false x y ys j = j

-- what passes is in the filter
filter-in : {X : Type 0} (test : X → Bool) (x : X) (xs : List X) → IsIn x xs → test x ≡ true → IsIn x (filter test xs)
filter-in test x [] i e = absurd i
filter-in test x (y ∷ xs) (inl g) e = subst (λ b. IsIn x (cond b (y ∷ filter test xs) (filter test xs))) (sym (ap test (sym g) ∙ e)) (inl g)
filter-in test x (y ∷ xs) (inr i) e = into-cond (test y) x y (filter test xs) (filter-in test x xs i e)

-- a filter of rows brings no name
pub filtered-names : {N : Type 0} (test : Row N → Bool) (x : N) (rows : List (Row N)) → IsIn x (names_of (filter test rows)) → IsIn x (names_of rows)
filtered-names test x [] i = i
filtered-names test x (r ∷ rows) i = by_test (test r) (filtered-names test x rows) i
  where
    by_test : (b : Bool) → (IsIn x (names_of (filter test rows)) → IsIn x (names_of rows)) → IsIn x (names_of (cond b (r ∷ filter test rows) (filter test rows))) → IsIn x (names_of (r ∷ rows))
    by_test true rec (inl e) = inl e
    by_test true rec (inr j) = inr (rec j)
    by_test false rec j = inr (rec j)

module _ {N : Type 0} (same : N → N → Bool) (exact : (x y : N) → same x y ≡ true → x ≡ y) (self : (x : N) → same x x ≡ true) where
  -- each row is found by its name
  pub row-found : (before : List N) (rows : List (Row N)) (r : Row N) → IsHistory before rows → IsIn r rows → row_named same rows r.name ≡ Some r
  row-found before [] r h i = absurd i
  row-found before (q ∷ rows) r h (inl e) = ap (λ (z : Row N). if same q.name z.name then Some q else row_named same rows z.name) e
      ∙ ap (λ b. if b then Some q else row_named same rows q.name) (self q.name) ∙ ap Some (sym e)
  row-found before (q ∷ rows) r h (inr i) = later (same q.name r.name) refl (row-found (before ++ q.name ∷ []) rows r h.1 i)
    where
      later : (b : Bool) → same q.name r.name ≡ b → row_named same rows r.name ≡ Some r → (if b then Some q else row_named same rows r.name) ≡ Some r
      later true e f = absurd (name-new (before ++ q.name ∷ []) rows r h.1 i (in-right r.name before (q.name ∷ []) (inl (sym (exact q.name r.name e)))))
      later false e f = f

  -- what is known of the row of a name
  row-of : (before : List N) (rows : List (Row N)) (x : N) → IsHistory before rows → IsIn x (names_of rows)
      → (r : Row N) × (row_named same rows x ≡ Some r) × (r.name ≡ x) × AreDistinct r.parents × (length r.parents ≤ 8)
  row-of before [] x h i = absurd i
  row-of before (q ∷ rows) x h i = which (same q.name x) refl i (λ j. row-of (before ++ q.name ∷ []) rows x h.1 j)
    where
      which : (b : Bool) → same q.name x ≡ b → IsIn x (names_of (q ∷ rows))
          → (IsIn x (names_of rows) → (r : Row N) × (row_named same rows x ≡ Some r) × (r.name ≡ x) × AreDistinct r.parents × (length r.parents ≤ 8))
          → (r : Row N) × ((if b then Some q else row_named same rows x) ≡ Some r) × (r.name ≡ x) × AreDistinct r.parents × (length r.parents ≤ 8)
      which true e i rec = (q, refl, exact q.name x e, h.0.distinct, h.0.few)
      which false e (inl f) rec = absurd (true≢false (sym (self x) ∙ ap (λ z. same z x) f ∙ e))
      which false e (inr j) rec = rec j

  module _ (rows : List (Row N)) (whole : IsHistory [] rows) where
    par : N → List N
    par x = parents_of (row_named same rows x)

    are-parents : (some : List (Row N)) → ((r : Row N) → IsIn r some → IsIn r rows) → AreParents par some
    unfolding par
    are-parents [] f = tt
    are-parents (r ∷ some) f = (ap parents_of (row-found [] rows r whole (f r (inl refl))), are-parents some (λ q i. f q (inr i)))

    history-order : (before : List N) (some : List (Row N)) → IsHistory before some → AreParents par some → IsOrder par before (names_of some)
    history-order before [] h e = tt
    history-order before (r ∷ some) h e = (h.0.fresh, subst (λ l. AreAllIn l before) (sym e.0) h.0.known, history-order (before ++ r.name ∷ []) some h.1 e.1)

    -- the rows of an order make a history
    order-history : (before xs : List N) → IsOrder par before xs → AreAllIn xs (names_of rows) → IsHistory before (rows_named same rows xs) × (names_of (rows_named same rows xs) ≡ xs)
    unfolding par
    order-history before [] h all = (tt, refl)
    order-history before (x ∷ xs) h all =
        let found_row = row-of [] rows x whole all.0 in
        let r = found_row.0 in
        let rest = order-history (before ++ x ∷ []) xs h.2 all.1 in
        let parents_are : parents_of (row_named same rows x) ≡ r.parents = ap parents_of found_row.1 in
        let cons : rows_named same rows (x ∷ xs) ≡ r ∷ rows_named same rows xs = ap (λ o. cons_option o (rows_named same rows xs)) found_row.1 in (
          subst (IsHistory before) (sym cons) (
            record {
              fresh = subst (λ z. IsIn z before → ⊥) (sym found_row.2) h.0;
              known = subst (λ l. AreAllIn l before) parents_are h.1;
              distinct = found_row.3;
              few = found_row.4;
            },
            subst (λ z. IsHistory (before ++ z ∷ []) (rows_named same rows xs)) (sym found_row.2) rest.0,
          ),
          ap names_of cons ∙ ap₂ (λ a b. a ∷ b) found_row.2 rest.1,
        )

    -- rows that aren't in the order go on behind it
    pub outside-history : (order before out : List N) (some : List (Row N)) → ((y : N) → IsIn y before → IsIn y out) → ((y : N) → IsIn y out → IsIn y before ⊎ IsIn y order) → ((y : N) → IsIn y order → IsIn y out)
        → IsHistory before some → IsHistory out (rows_outside same some order)
    outside-history order before out [] f g k h = tt
    outside-history order before out (r ∷ some) f g k h = step (is_in same r.name order) refl
        (λ i. outside-history order (before ++ r.name ∷ []) out some
        (λ y j. ⊎_elim (f y) (λ l. ⊎_elim (λ e. k y (subst (λ z. IsIn z order) (sym e) i)) (λ e. absurd e) l) (in-append y before (r.name ∷ []) j))
        (λ y j. ⊎_elim (λ l. inl (in-left y before (r.name ∷ []) l)) (λ l. inr l) (g y j)) k h.1)
        (outside-history order (before ++ r.name ∷ []) (out ++ r.name ∷ []) some
        (λ y j. ⊎_elim (λ l. in-left y out (r.name ∷ []) (f y l)) (λ l. in-right y out (r.name ∷ []) l) (in-append y before (r.name ∷ []) j))
        (λ y j. ⊎_elim (λ l. ⊎_elim (λ m. inl (in-left y before (r.name ∷ []) m)) (λ m. inr m) (g y l)) (λ l. inl (in-right y before (r.name ∷ []) l)) (in-append y out (r.name ∷ []) j))
        (λ y j. in-left y out (r.name ∷ []) (k y j)) h.1)
      where
        step : (b : Bool) → is_in same r.name order ≡ b → (IsIn r.name order → IsHistory out (rows_outside same some order)) → IsHistory (out ++ r.name ∷ []) (rows_outside same some order)
            → IsHistory out (cond (not b) (r ∷ rows_outside same some order) (rows_outside same some order))
        step true e skip keep = skip (found same exact self r.name order e)
        step false e skip keep = (
          record {
            fresh = λ i. ⊎_elim h.0.fresh (missing same exact self r.name order e) (g r.name i);
            known = all-through r.parents before out f h.0.known;
            distinct = h.0.distinct;
            few = h.0.few;
          },
          keep,
        )

  -- the rows of a history with the names of its first rows are the first rows
  pub front-rows : (all : List (Row N)) → IsHistory [] all → (rows : List (Row N)) → ((r : Row N) → IsIn r rows → IsIn r all) → rows_named same all (names_of rows) ≡ rows
  front-rows all h [] f = refl
  front-rows all h (r ∷ rows) f =
      ap (λ o. cons_option o (rows_named same all (names_of rows))) (row-found [] all r h (f r (inl refl)))
      ∙ ap (λ l. r ∷ l) (front-rows all h rows (λ q i. f q (inr i)))

  all-of : (xs ys : List N) → ((y : N) → IsIn y xs → IsIn y ys) → AreAllIn xs ys
  all-of [] ys f = tt
  all-of (x ∷ xs) ys f = (f x (inl refl), all-of xs ys (λ y i. f y (inr i)))

  names-reverse : (rows : List (Row N)) (x : N) → IsIn x (names_of rows) → IsIn x (names_of (reverse rows))
  names-reverse [] x i = absurd i
  names-reverse (r ∷ rows) x i =
      subst (λ l. IsIn x (names_of l)) (sym (reverse-append (r ∷ []) rows))
      (subst (IsIn x) (sym (map-append (λ q. q.name) (reverse rows) (r ∷ [])))
      (⊎_elim (λ e. in-right x (names_of (reverse rows)) (r.name ∷ []) (inl e)) (λ j. in-left x (names_of (reverse rows)) (r.name ∷ []) (names-reverse rows x j)) i))

  names-reverse-back : (rows : List (Row N)) (x : N) → IsIn x (names_of (reverse rows)) → IsIn x (names_of rows)
  names-reverse-back [] x i = i
  names-reverse-back (r ∷ rows) x i =
      ⊎_elim (λ j. inr (names-reverse-back rows x j)) (λ j. ⊎_elim (λ e. inl e) (λ e. absurd e) j)
      (in-append x (names_of (reverse rows)) (r.name ∷ []) (subst (IsIn x) (map-append (λ q. q.name) (reverse rows) (r ∷ [])) (subst (λ l. IsIn x (names_of l)) (reverse-append (r ∷ []) rows) i)))

  module _ (w : World N) (whole : IsWorld w) (heads : List N) (known : AreAllIn heads (names_of (rows_of w))) where
    pub newest-down : IsDown (reverse (rows_of w))
    newest-down = subst IsDown (append-nil (reverse (rows_of w))) (history-down [] (rows_of w) [] (λ x j. j) (λ x j. j) tt whole)

    placed : IsPlaced (par (rows_of w) whole) (reverse (rows_of w)) (names_of w.master) (master_after same w heads)
    placed = (all-places same exact self (par (rows_of w) whole) (reverse (rows_of w))
        (places same exact self (par (rows_of w) whole) (reverse (rows_of w)) newest-down
        (are-parents (rows_of w) whole (reverse (rows_of w)) (λ r i. in-reverse-back r (rows_of w) i)))
        (names_of w.master) heads
        (history-order (rows_of w) whole [] w.master (history-front [] w.master w.others whole) (are-parents (rows_of w) whole w.master (λ r i. in-left r w.master w.others i)))
        (all-through heads (names_of (rows_of w)) (names_of (reverse (rows_of w))) (names-reverse (rows_of w)) known)).0

    placed-known : AreAllIn (master_after same w heads) (names_of (rows_of w))
    placed-known = all-of (master_after same w heads) (names_of (rows_of w))
        (λ y i. ⊎_elim (λ j. subst (IsIn y) (sym (map-append (λ r. r.name) w.master w.others)) (in-left y (names_of w.master) (names_of w.others) j))
        (λ j. names-reverse-back (rows_of w) y j) (placed.from y i))

    pub flush-world : IsWorld (flushed same w heads)
    flush-world =
        let order = master_after same w heads in
        let master = order-history (rows_of w) whole [] order placed.good placed-known in
        history-append [] (rows_named same (rows_of w) order) (rows_outside same w.others order) master.0
        (subst (λ l. IsHistory l (rows_outside same w.others order)) (sym master.1)
        (outside-history (rows_of w) whole order (names_of w.master) order w.others
        (λ y i. subst (IsIn y) (sym placed.grown) (in-left y (names_of w.master) placed.more i))
        (λ y i. inr i) (λ y i. i) (history-rest [] w.master w.others whole)))

    -- the rows that were in master stay at its front
    pub flush-grows : GrowsMaster w (flushed same w heads)
    flush-grows = (
      rows_named same (rows_of w) placed.more,
      ap (rows_named same (rows_of w)) placed.grown
          ∙ filter_map-append (row_named same (rows_of w)) (names_of w.master) placed.more
          ∙ ap (λ l. l ++ rows_named same (rows_of w) placed.more) (front-rows (rows_of w) whole w.master (λ r i. in-left r w.master w.others i)),
    )

    -- a flush brings no name
    pub flush-names : (x : N) → IsIn x (names_of (rows_of (flushed same w heads))) → IsIn x (names_of (rows_of w))
    flush-names x i =
        let order = master_after same w heads in
        let master : names_of (rows_named same (rows_of w) order) ≡ order = (order-history (rows_of w) whole [] order placed.good placed-known).1 in
        ⊎_elim (λ j. in-all x order (names_of (rows_of w)) (subst (IsIn x) master j) placed-known)
        (λ j. subst (IsIn x) (sym (map-append (λ r. r.name) w.master w.others)) (in-right x (names_of w.master) (names_of w.others) (filtered-names (λ q. not (is_in same q.name order)) x w.others j)))
        (in-append x (names_of (rows_named same (rows_of w) order)) (names_of (rows_outside same w.others order))
        (subst (IsIn x) (map-append (λ r. r.name) (rows_named same (rows_of w) order) (rows_outside same w.others order)) i))

    -- no row is lost by a flush
    pub flush-keeps : (r : Row N) → IsIn r (rows_of w) → IsIn r (rows_of (flushed same w heads))
    flush-keeps r i = by_order (is_in same r.name order) refl
      where
        order : List N
        order = master_after same w heads

        by_order : (b : Bool) → is_in same r.name order ≡ b → IsIn r (rows_of (flushed same w heads))
        by_order true e = in-left r (rows_named same (rows_of w) order) (rows_outside same w.others order)
            (named-in (row_named same (rows_of w)) r.name r order (found same exact self r.name order e) (row-found [] (rows_of w) r whole i))
        by_order false e = in-right r (rows_named same (rows_of w) order) (rows_outside same w.others order)
            (filter-in (λ q. not (is_in same q.name order)) r w.others
            (⊎_elim (λ j. absurd (missing same exact self r.name order e (subst (IsIn r.name) (sym placed.grown) (in-left r.name (names_of w.master) placed.more (name-in r w.master j))))) (λ j. j) (in-append r w.master w.others i))
            (ap not e))

  -- a rebase of what a session sees on a world that has its base's rows is a world
  pub rebase-world : (w base : World N) (pending : List (Row N)) → IsWorld w → IsWorld (with_pending base pending) → ((x : N) → IsIn x (names_of (rows_of base)) → IsIn x (names_of (rows_of w)))
      → IsWorld (with_pending w (left_of same w pending))
  rebase-world w base pending hw hv f =
      subst (IsHistory []) (append_assoc w.master w.others (left_of same w pending))
      (history-append [] (rows_of w) (left_of same w pending) hw
      (outside-history (rows_of w) hw (names_of (rows_of w)) (names_of (rows_of base)) (names_of (rows_of w)) pending f (λ y i. inr i) (λ y i. i)
      (history-rest [] (rows_of base) pending (subst (IsHistory []) (sym (append_assoc base.master base.others pending)) hv))))
