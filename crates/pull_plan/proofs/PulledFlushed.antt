-- A pull is a flush of the remote's missing rows, put behind the others, with the remote's names as heads.
use Rattle.std.proofs.Common.{◌≡◌, Bool, true, false, not, ◌&&◌, cond, ◌⊎◌, inl, inr, List, [], ◌∷◌, ◌++◌, reverse, filter, Option, Some, None, is_some, refl, sym, ap, ap₂, subst, ◌∙◌, if◌then◌else◌, ⊎_elim, true≢false, append_assoc, append-nil}
use Rattle.std.specs.Cmp.Lexicographic.{pointwise}
use Rattle.std.proofs.lemmas.List.{map-append}
use Rattle.std.proofs.lemmas.List.Elements.{filter-append}
use Rattle.id_groups.specs.Lists.{IsIn, is_in, AreAllIn}
use Rattle.id_groups.proofs.Listing.{found, there, missing}
use Rattle.commit_graph.specs.World.{Row, World, IsWorld, IsHistory, rows_of, names_of, row_named, with_pending}
use Rattle.commit_graph.proofs.Histories.{in-append, history-append}
use Rattle.commit_graph.proofs.Down.{in-left, in-right, in-reverse}
use Rattle.assign_ids.specs.Placing.{place, place_all}
use Rattle.assign_ids.proofs.Placings.{IsDown, history-down, place-there, place-behind}
use Rattle.change_rules.specs.Rebase.{left_of, has_parents, conflicts, first_conflict}
use Rattle.change_rules.specs.Flush.{flushed, rows_named, rows_outside, master_after}
use Rattle.change_rules.specs.Pull.{pulled}
use Rattle.change_rules.proofs.Flushes.{name-in, row-found, front-rows, outside-history}

some-none : {X : Type 0} (x : X) → Some x ≡ None → ⊥
some-none x e = true≢false (ap is_some e)

-- a row with a name among those of some rows
row-at : {N : Type 0} (rows : List (Row N)) (x : N) → IsIn x (names_of rows) → (q : Row N) × IsIn q rows × (q.name ≡ x)
row-at [] x i = absurd i
row-at (q ∷ rows) x (inl e) = (q, inl refl, sym e)
row-at (q ∷ rows) x (inr i) = let k = row-at rows x i in (k.0, inr k.1, k.2)

passes : {X : Type 0} (test : X → Bool) (x : X) (xs : List X) → IsIn x xs → test x ≡ true → IsIn x (filter test xs)
passes test x [] i e = absurd i
passes test x (y ∷ xs) (inl g) e = subst (λ b. IsIn x (cond b (y ∷ filter test xs) (filter test xs))) (sym (ap test (sym g) ∙ e)) (inl g)
passes test x (y ∷ xs) (inr i) e = by_test (test y) (passes test x xs i e)
  where
    by_test : (b : Bool) → IsIn x (filter test xs) → IsIn x (cond b (y ∷ filter test xs) (filter test xs))
    by_test true j = inr j
    by_test false j = j

none-pass : {X : Type 0} (test : X → Bool) (xs : List X) → ((x : X) → IsIn x xs → test x ≡ false) → filter test xs ≡ []
none-pass test [] f = refl
none-pass test (x ∷ xs) f = ap (λ b. cond b (x ∷ filter test xs) (filter test xs)) (f x (inl refl)) ∙ none-pass test xs (λ y i. f y (inr i))

-- what passed was there, and passes
passed : {X : Type 0} (test : X → Bool) (x : X) (xs : List X) → IsIn x (filter test xs) → IsIn x xs × (test x ≡ true)
passed test x [] i = absurd i
passed test x (y ∷ xs) i = by_test (test y) refl (passed test x xs) i
  where
    by_test : (b : Bool) → test y ≡ b → (IsIn x (filter test xs) → IsIn x xs × (test x ≡ true)) → IsIn x (cond b (y ∷ filter test xs) (filter test xs)) → IsIn x (y ∷ xs) × (test x ≡ true)
    by_test true e rec (inl g) = (inl g, ap test g ∙ e)
    by_test true e rec (inr j) = let k = rec j in (inr k.0, k.1)
    by_test false e rec j = let k = rec j in (inr k.0, k.1)

not-false : (b : Bool) → not b ≡ true → b ≡ false
not-false true e = absurd (true≢false (sym e))
not-false false e = refl

module _ {N : Type 0} (same : N → N → Bool) (exact : (x y : N) → same x y ≡ true → x ≡ y) (self : (x : N) → same x x ≡ true) where
  are-same : (xs ys : List N) → pointwise same xs ys ≡ true → xs ≡ ys
  are-same [] [] e = refl
  are-same [] (y ∷ ys) e = absurd (true≢false (sym e))
  are-same (x ∷ xs) [] e = absurd (true≢false (sym e))
  are-same (x ∷ xs) (y ∷ ys) e = by_test (same x y) refl e (are-same xs ys)
    where
      by_test : (b : Bool) → same x y ≡ b → (b && pointwise same xs ys) ≡ true → (pointwise same xs ys ≡ true → xs ≡ ys) → x ∷ xs ≡ y ∷ ys
      by_test true f e rec = ap₂ (λ z zs. z ∷ zs) (exact x y f) (rec e)
      by_test false f e rec = absurd (true≢false (sym e))

  absent : (x : N) (xs : List N) → (IsIn x xs → ⊥) → is_in same x xs ≡ false
  absent x xs h = by_test (is_in same x xs) refl
    where
      by_test : (b : Bool) → is_in same x xs ≡ b → is_in same x xs ≡ false
      by_test true e = absurd (h (found same exact self x xs e))
      by_test false e = e

  -- where nothing conflicts, a row whose name the world has is one of its rows
  pub agreed : (w : World N) → IsWorld w → (rows : List (Row N)) → first_conflict same w rows ≡ None → (q : Row N) → IsIn q rows → IsIn q.name (names_of (rows_of w)) → IsIn q (rows_of w)
  agreed w whole [] e q i j = absurd i
  agreed w whole (r ∷ rows) e q i j = by_test (conflicts same w r) refl e i (λ e' k. agreed w whole rows e' q k j)
    where
      is_row : (p : Row N) → p ≡ q → conflicts same w p ≡ false → IsIn q (rows_of w)
      is_row p eq f =
          let k = row-at (rows_of w) q.name j in
          let at : row_named same (rows_of w) q.name ≡ Some k.0 = subst (λ x. row_named same (rows_of w) x ≡ Some k.0) k.2 (row-found same exact self [] (rows_of w) k.0 whole k.1) in
          let known : is_in same q.name (names_of (rows_of w)) ≡ true = there same exact self q.name (names_of (rows_of w)) j in
          let fits : not (pointwise same k.0.parents q.parents) ≡ false =
          sym (ap₂ (λ b (o : Option (Row N)). b && not (has_parents same o q.parents)) known at) ∙ subst (λ (z : Row N). conflicts same w z ≡ false) eq f in
          subst (λ z. IsIn z (rows_of w)) (ap₂ (λ n ps. record { name = n; parents = ps }) k.2 (are-same k.0.parents q.parents (pick (pointwise same k.0.parents q.parents) fits))) k.1
        where
          pick : (b : Bool) → not b ≡ false → b ≡ true
          pick true e = refl
          pick false e = absurd (true≢false e)

      by_test : (b : Bool) → conflicts same w r ≡ b → (if b then Some r.name else first_conflict same w rows) ≡ None → IsIn q (r ∷ rows) → (first_conflict same w rows ≡ None → IsIn q rows → IsIn q (rows_of w)) → IsIn q (rows_of w)
      by_test true f e i rec = absurd (some-none r.name e)
      by_test false f e (inl g) rec = is_row r (sym g) f
      by_test false f e (inr k) rec = rec e k

  module _ (w r : World N) (whole : IsWorld w) (served : IsHistory [] r.master) (agrees : first_conflict same w r.master ≡ None) where
    seen : World N
    seen = with_pending w (left_of same w r.master)

    masters : List N
    masters = names_of w.master

    -- the missing rows go on behind the world
    pub pulled-beside : IsWorld (with_pending w (left_of same w r.master))
    pulled-beside =
        let known = names_of (rows_of w) in
        subst (IsHistory []) (append_assoc w.master w.others (left_of same w r.master))
        (history-append [] (rows_of w) (left_of same w r.master) whole
        (outside-history same exact self r.master served known [] known r.master (λ y i. absurd i) (λ y i. inr i) (λ y i. i) served))

    -- the world's rows are seen
    of-world : (q : Row N) → IsIn q (rows_of w) → IsIn q (rows_of seen)
    unfolding seen
    of-world q i = subst (IsIn q) (append_assoc w.master w.others (left_of same w r.master)) (in-left q (rows_of w) (left_of same w r.master) i)

    -- so are the remote's
    of-remote : (q : Row N) → IsIn q r.master → IsIn q (rows_of seen)
    unfolding seen
    of-remote q i = by_test (is_in same q.name (names_of (rows_of w))) refl
      where
        by_test : (b : Bool) → is_in same q.name (names_of (rows_of w)) ≡ b → IsIn q (rows_of seen)
        by_test true e = of-world q (agreed w whole r.master agrees q i (found same exact self q.name (names_of (rows_of w)) e))
        by_test false e = subst (IsIn q) (append_assoc w.master w.others (left_of same w r.master))
            (in-right q (rows_of w) (left_of same w r.master) (passes (λ row. not (is_in same row.name (names_of (rows_of w)))) q r.master i (ap not e)))

    down : IsDown (reverse (rows_of seen))
    unfolding seen
    down = subst IsDown (append-nil (reverse (rows_of seen))) (history-down [] (rows_of seen) [] (λ x j. j) (λ x j. j) tt pulled-beside)

    -- placing what is there changes nothing
    all-there : (order xs : List N) → AreAllIn xs order → place_all same (reverse (rows_of seen)) order xs ≡ order
    all-there order [] h = refl
    all-there order (x ∷ xs) h =
        ap (λ o. place_all same (reverse (rows_of seen)) o xs) (place-there same exact self (λ (y : N). []) (reverse (rows_of seen)) order x (there same exact self x order h.0))
        ∙ all-there order xs h.1

    -- The remote's rows come in its order: of a row that isn't in master all parents are there already.
    in-order : (before order : List N) (rows : List (Row N)) → IsHistory before rows → ((q : Row N) → IsIn q rows → IsIn q (rows_of seen))
        → ((y : N) → IsIn y before → IsIn y order) → ((y : N) → IsIn y order → IsIn y masters ⊎ IsIn y before) → ((y : N) → IsIn y masters → IsIn y order)
        → place_all same (reverse (rows_of seen)) order (names_of rows) ≡ order ++ names_of (rows_outside same rows masters)
    in-order before order [] h f has only kept = sym (append-nil order)
    in-order before order (q ∷ rows) h f has only kept =
        by_test (is_in same q.name masters) refl
        (λ i. in-order (before ++ q.name ∷ []) order rows h.1 (λ p k. f p (inr k))
        (λ y j. ⊎_elim (has y) (λ l. ⊎_elim (λ e. kept y (subst (λ z. IsIn z masters) (sym e) i)) (λ e. absurd e) l) (in-append y before (q.name ∷ []) j))
        (λ y j. ⊎_elim (λ l. inl l) (λ l. inr (in-left y before (q.name ∷ []) l)) (only y j)) kept)
        (in-order (before ++ q.name ∷ []) (order ++ q.name ∷ []) rows h.1 (λ p k. f p (inr k))
        (λ y j. ⊎_elim (λ l. in-left y order (q.name ∷ []) (has y l)) (λ l. in-right y order (q.name ∷ []) l) (in-append y before (q.name ∷ []) j))
        (λ y j. ⊎_elim (λ l. ⊎_elim (λ m. inl m) (λ m. inr (in-left y before (q.name ∷ []) m)) (only y l)) (λ l. inr (in-right y before (q.name ∷ []) l)) (in-append y order (q.name ∷ []) j))
        (λ y j. in-left y order (q.name ∷ []) (kept y j)))
      where
        through : (xs : List N) → AreAllIn xs before → AreAllIn xs order
        through [] a = tt
        through (x ∷ xs) a = (has x a.0, through xs a.1)

        by_test : (b : Bool) → is_in same q.name masters ≡ b
            → (IsIn q.name masters → place_all same (reverse (rows_of seen)) order (names_of rows) ≡ order ++ names_of (rows_outside same rows masters))
            → place_all same (reverse (rows_of seen)) (order ++ q.name ∷ []) (names_of rows) ≡ (order ++ q.name ∷ []) ++ names_of (rows_outside same rows masters)
            → place_all same (reverse (rows_of seen)) (place same (reverse (rows_of seen)) order q.name) (names_of rows) ≡ order ++ names_of (cond (not b) (q ∷ rows_outside same rows masters) (rows_outside same rows masters))
        by_test true e skip add =
            let i = found same exact self q.name masters e in
            ap (λ o. place_all same (reverse (rows_of seen)) o (names_of rows)) (place-there same exact self (λ (y : N). []) (reverse (rows_of seen)) order q.name (there same exact self q.name order (kept q.name i))) ∙ skip i
        by_test false e skip add =
            let new : is_in same q.name order ≡ false = absent q.name order (λ j. ⊎_elim (missing same exact self q.name masters e) h.0.fresh (only q.name j)) in
            ap (λ o. place_all same (reverse (rows_of seen)) o (names_of rows))
            (place-behind same exact self (λ (y : N). []) (reverse (rows_of seen)) down q (in-reverse q (rows_of seen) (f q (inl refl))) order new
            ∙ ap (λ o. o ++ q.name ∷ []) (all-there order q.parents (through q.parents h.0.known)))
            ∙ add ∙ append_assoc order (q.name ∷ []) (names_of (rows_outside same rows masters))

    new-rows : List (Row N)
    new-rows = rows_outside same r.master (names_of w.master)

    order-is : master_after same seen (names_of r.master) ≡ names_of (w.master ++ new-rows)
    unfolding seen masters new-rows
    order-is =
        in-order [] masters r.master served of-remote (λ y i. absurd i) (λ y i. inl i) (λ y i. i)
        ∙ sym (map-append (λ q. q.name) w.master new-rows)

    master-is : rows_named same (rows_of seen) (names_of (w.master ++ new-rows)) ≡ w.master ++ new-rows
    unfolding seen new-rows masters
    master-is = front-rows same exact self (rows_of seen) pulled-beside (w.master ++ new-rows)
        (λ q i. ⊎_elim (λ j. of-world q (in-left q w.master w.others j)) (λ j. of-remote q (passed (λ row. not (is_in same row.name masters)) q r.master j).0) (in-append q w.master new-rows i))

    -- a missing row is new
    left-new : (q : Row N) → IsIn q (left_of same w r.master) → is_in same q.name (names_of (w.master ++ new-rows)) ≡ true
    unfolding new-rows
    left-new q i =
        let k = passed (λ row. not (is_in same row.name (names_of (rows_of w)))) q r.master i in
        let out : is_in same q.name (names_of w.master) ≡ false =
        absent q.name (names_of w.master) (λ j. missing same exact self q.name (names_of (rows_of w)) (not-false (is_in same q.name (names_of (rows_of w))) k.1)
        (subst (IsIn q.name) (sym (map-append (λ p. p.name) w.master w.others)) (in-left q.name (names_of w.master) (names_of w.others) j))) in
        there same exact self q.name (names_of (w.master ++ new-rows))
        (name-in q (w.master ++ new-rows) (in-right q w.master new-rows (passes (λ row. not (is_in same row.name (names_of w.master))) q r.master k.0 (ap not out))))

    others-are : rows_outside same seen.others (names_of (w.master ++ new-rows)) ≡ rows_outside same w.others (names_of (w.master ++ new-rows))
    unfolding seen
    others-are =
        let test = λ (row : Row N). not (is_in same row.name (names_of (w.master ++ new-rows))) in
        filter-append test w.others (left_of same w r.master)
        ∙ ap (λ l. filter test w.others ++ l) (none-pass test (left_of same w r.master) (λ q i. ap not (left-new q i)))
        ∙ append-nil (filter test w.others)

    -- A pull is this flush.
    pub pulled-flushed : pulled same w r ≡ flushed same (with_pending w (left_of same w r.master)) (names_of r.master)
    unfolding seen new-rows
    pulled-flushed = sym (
        ap (λ order. record { master = rows_named same (rows_of seen) order; others = rows_outside same seen.others order }) order-is
        ∙ ap₂ (λ m o. record { master = m; others = o }) master-is others-are
        )
