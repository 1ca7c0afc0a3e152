-- Rows by their places, and worlds by their ids.
use Rattle.std.proofs.Common.{◌≡◌, ℕ, zero, suc, ◌<◌, ◌≤◌, ◌-◌, ◌+◌, ◌^◌, Bool, true, false, inl, inr, List, [], ◌∷◌, ◌++◌, Option, Some, None, length, take, drop, refl, sym, ap, subst, ◌∙◌, arith, ⊎_elim, true≢false, if◌then◌else◌, append-nil, zero-add, get_or, below_more}
use Rattle.std.specs.Prelude.{slice_get, slice_index, is_some, MatchOption}
use Rattle.std.specs.List.{AllByRecursion}
use Rattle.std.proofs.lemmas.Option.{slice_get_within, get_or_from_slice_get, slice_get_read}
use Rattle.std.proofs.lemmas.List.{map-append, take-append-drop, drop_more, take_more}
use Rattle.std.proofs.lemmas.Bool.{false_from_ne_true}
use Rattle.std.proofs.lemmas.Bool.Decides.{nat_tests}
use Rattle.id_groups.specs.Lists.{IsIn, AreAllIn, AreDistinct, is_in}
use Rattle.id_groups.specs.Name.{Name, IsName}
use Rattle.id_groups.specs.Id.{is_master_id, other_id}
use Rattle.id_groups.proofs.Listing.{found, there}
use Rattle.commit_graph.specs.World.{Row, World, IsWorld, IsNamedWorld, IsNext, IsHistory, rows_of, names_of, row_named, with_pending}
use Rattle.commit_graph.specs.Ids.{place_of, id_in, row_at}
use Rattle.commit_graph.proofs.Histories.{history-append, history-front, history-rest, in-append, world-next}
use Rattle.commit_graph.proofs.Down.{in-left, in-right}
use Rattle.commit_graph.proofs.Naming.{named-by, name-of, pending-names}

module _ {N : Type 0} where
  pub same-row : (q r : Row N) → Some q ≡ Some r → q ≡ r
  same-row q r h = cc

  -- the name of the row at a place is one of the names
  pub name-at : (rows : List (Row N)) (i : ℕ) (r : Row N) → slice_get rows i ≡ Some r → IsIn r.name (names_of rows)
  name-at [] i r h = cc
  name-at (q ∷ rows) zero r h = inl (ap (λ (z : Row N). z.name) (sym (same-row q r h)))
  name-at (q ∷ rows) (suc i) r h = inr (name-at rows i r h)

  -- a name that is one of the names has a row at some place
  pub at-name : (rows : List (Row N)) (x : N) → IsIn x (names_of rows) → (i : ℕ) × (r : Row N) × (slice_get rows i ≡ Some r) × (r.name ≡ x)
  at-name [] x h = absurd h
  at-name (q ∷ rows) x (inl e) = (0, q, refl, sym e)
  at-name (q ∷ rows) x (inr h) = let t = at-name rows x h in (suc t.0, t.1, t.2, t.3)

  -- no row has a name that none of the places has
  pub nowhere : (rows : List (Row N)) (x : N) → ((i : ℕ) (r : Row N) → i < length rows → slice_get rows i ≡ Some r → r.name ≡ x → ⊥) → IsIn x (names_of rows) → ⊥
  nowhere rows x f h = let t = at-name rows x h in f t.0 t.1 (slice_get_within rows t.0 t.1 t.2) t.2 t.3

  -- the name of a row of a history is not among those before it
  pub apart : (before : List N) (rows : List (Row N)) (i : ℕ) (r : Row N) → IsHistory before rows → slice_get rows i ≡ Some r → IsIn r.name before → ⊥
  apart before [] i r h e j = cc
  apart before (q ∷ rows) zero r h e j = h.0.fresh (subst (λ (z : Row N). IsIn z.name before) (sym (same-row q r e)) j)
  apart before (q ∷ rows) (suc i) r h e j = apart (before ++ q.name ∷ []) rows i r h.1 e (in-left r.name before (q.name ∷ []) j)

  -- each parent that is met at its place is one of the names
  pub all-at : (xs ys : List N) → ((i : ℕ) (x : N) → i < length xs → slice_get xs i ≡ Some x → IsIn x ys) → AreAllIn xs ys
  all-at [] ys f = tt
  all-at (x ∷ xs) ys f = (f 0 x (omega arith) refl, all-at xs ys (λ i z lt e. f (suc i) z (omega (arith, lt)) e))

  pub item-at : (xs : List N) (i : ℕ) (x : N) → slice_get xs i ≡ Some x → IsIn x xs
  item-at [] i x h = cc
  item-at (y ∷ xs) zero x h = inl (cc)
  item-at (y ∷ xs) (suc i) x h = inr (item-at xs i x h)

  -- the item that was read at a place is one of the items
  pub read-at : (xs : List N) (i : ℕ) (x : N) → i < length xs → x ≡ get_or xs i x → IsIn x xs
  read-at xs i x lt is = item-at xs i x (slice_get_read xs (length xs) i x refl lt is)

  -- one more item that P holds of
  pub more-at : (P : N → Type 0) (xs : List N) (i : ℕ) (x : N) → ((k : ℕ) (p : N) → k < i → slice_get xs k ≡ Some p → P p) → x ≡ get_or xs i x → P x
      → (k : ℕ) (p : N) → k < i + 1 → slice_get xs k ≡ Some p → P p
  more-at P xs i x before is here k p lt e =
      below_more (λ (n : ℕ). (q : N) → slice_get xs n ≡ Some q → P q) i (λ n less q. before n q less)
      (λ q at. subst P (is ∙ get_or_from_slice_get xs i q x at) here) k lt p e

  -- what holds at each place holds of each item
  pub each-at : (P : N → Type 0) (xs : List N) → ((k : ℕ) (y : N) → k < length xs → slice_get xs k ≡ Some y → P y) → (x : N) → IsIn x xs → P x
  each-at P [] f x h = absurd h
  each-at P (y ∷ xs) f x (inl e) = f 0 x (omega arith) (ap (λ (z : N). Some z) (sym e))
  each-at P (y ∷ xs) f x (inr h) = each-at P xs (λ k z lt e. f (suc k) z (omega (arith, lt)) e) x h

  -- the rows up to a place, the row there, and the rest
  pub split-at : (rows : List (Row N)) (i : ℕ) (r : Row N) → i < length rows → r ≡ get_or rows i r → take i rows ++ (r ∷ drop (i + 1) rows) ≡ rows
  split-at rows i r lt is =
      ap (λ (z : Row N). take i rows ++ (z ∷ drop (i + 1) rows)) is ∙ ap (λ (l : List (Row N)). take i rows ++ l) (sym (drop_more rows i r lt)) ∙ take-append-drop i rows

  pub take-next : (rows : List (Row N)) (i : ℕ) (r : Row N) → i < length rows → r ≡ get_or rows i r → take i rows ++ r ∷ [] ≡ take (i + 1) rows
  take-next rows i r lt is = ap (λ (z : Row N). take i rows ++ z ∷ []) is ∙ sym (take_more rows i r lt)

  -- each row of a history may come behind those before it
  pub history-at : (rows : List (Row N)) (i : ℕ) (r : Row N) → i < length rows → r ≡ get_or rows i r → IsHistory [] rows → IsNext (names_of (take i rows)) r
  history-at rows i r lt is h = (history-rest [] (take i rows) (r ∷ drop (i + 1) rows) (subst (IsHistory []) (sym (split-at rows i r lt is)) h)).0

  -- one more row of a history
  pub history-more : (rows : List (Row N)) (i : ℕ) (r : Row N) → i < length rows → r ≡ get_or rows i r → IsHistory [] (take i rows) → IsNext (names_of (take i rows)) r → IsHistory [] (take (i + 1) rows)
  history-more rows i r lt is h g = subst (IsHistory []) (take-next rows i r lt is) (history-append [] (take i rows) (r ∷ []) h (g, tt))

  all-push : (P : N → Type 0) (xs : List N) (y : N) → AllByRecursion P xs → P y → AllByRecursion P (xs ++ y ∷ [])
  all-push P [] y h g = (g, tt)
  all-push P (x ∷ xs) y h g = (h.0, all-push P xs y h.1 g)

  pub names-more : (P : N → Type 0) (rows : List (Row N)) (i : ℕ) (r : Row N) → i < length rows → r ≡ get_or rows i r
      → AllByRecursion P (names_of (take i rows)) → P r.name → AllByRecursion P (names_of (take (i + 1) rows))
  names-more P rows i r lt is h g =
      subst (λ (l : List (Row N)). AllByRecursion P (names_of l)) (take-next rows i r lt is)
      (subst (AllByRecursion P) (sym (map-append (λ (z : Row N). z.name) (take i rows) (r ∷ []))) (all-push P (names_of (take i rows)) r.name h g))

  -- what the answer of a search for a name says
  abbrev pub IsPosition : List (Row N) → N → Option ℕ → Type 0
  IsPosition rows x o = MatchOption o (¬ (IsIn x (names_of rows))) (λ place. (row : Row N) × (slice_get rows place ≡ Some row) × (row.name ≡ x))

  pub known-by : (rows : List (Row N)) (x : N) (o : Option ℕ) → IsPosition rows x o → is_some o ≡ true → IsIn x (names_of rows)
  known-by rows x None h e = absurd (true≢false (sym e))
  known-by rows x (Some place) h e = subst (λ (z : N). IsIn z (names_of rows)) h.2 (name-at rows place h.0 h.1)

  pub unknown-by : (rows : List (Row N)) (x : N) (o : Option ℕ) → IsPosition rows x o → is_some o ≡ false → IsIn x (names_of rows) → ⊥
  unknown-by rows x None h e = h
  unknown-by rows x (Some place) h e = absurd (true≢false e)

  -- the rows of a master alone
  pub master-world : (rows : List (Row N)) → IsHistory [] rows → IsWorld (record { master = rows; others = [] })
  master-world rows h = subst (IsHistory []) (sym (append-nil rows)) h

  pub world-master : (rows : List (Row N)) → IsWorld (record { master = rows; others = [] }) → IsHistory [] rows
  world-master rows h = subst (IsHistory []) (append-nil rows) h

  -- the row at a place of the first list, and of the second, is one of both together
  pub place-left : (xs ys : List (Row N)) (i : ℕ) (r : Row N) → slice_get xs i ≡ Some r → slice_get (xs ++ ys) i ≡ Some r
  place-left [] ys i r h = cc
  place-left (x ∷ xs) ys zero r h = h
  place-left (x ∷ xs) ys (suc i) r h = place-left xs ys i r h

  pub place-right : (xs ys : List (Row N)) (i : ℕ) (r : Row N) → slice_get ys i ≡ Some r → slice_get (xs ++ ys) (length xs + i) ≡ Some r
  place-right [] ys i r h = subst (λ (n : ℕ). slice_get ys n ≡ Some r) (sym (zero-add i)) h
  place-right (x ∷ xs) ys i r h =
      let next : suc (length xs + i) ≡ suc (length xs) + i = omega arith in
      subst (λ (n : ℕ). slice_get (x ∷ (xs ++ ys)) n ≡ Some r) next (place-right xs ys i r h)

  -- a name that is neither in master nor among the others is not in the world
  pub not-in-world : (w : World N) (x : N) (m o : List (Row N)) → m ≡ w.master → o ≡ w.others → (IsIn x (names_of m) → ⊥) → (IsIn x (names_of o) → ⊥) → IsIn x (names_of (rows_of w)) → ⊥
  not-in-world w x m o is_m is_o f g h =
      ⊎_elim (subst (λ (l : List (Row N)). IsIn x (names_of l) → ⊥) is_m f) (subst (λ (l : List (Row N)). IsIn x (names_of l) → ⊥) is_o g)
      (in-append x (names_of w.master) (names_of w.others) (subst (IsIn x) (map-append (λ (r : Row N). r.name) w.master w.others) h))

pub below-master : (id : ℕ) → id < 2 ^ 56 → is_master_id id ≡ true
below-master id h = grind (arith, nat_tests)

pub over-master : (place : ℕ) → is_master_id (other_id place) ≡ false
over-master place = grind (arith, nat_tests)

pub other-place : (place : ℕ) → other_id place - 2 ^ 56 ≡ place
other-place place = omega arith

-- a choice at a test that is decided
pub chosen : {X : Type 0} (b : Bool) (x y : X) → b ≡ true → (if b then x else y) ≡ x
chosen true x y h = refl
chosen false x y h = absurd (true≢false (sym h))

pub left-out : {X : Type 0} (b : Bool) (x y : X) → b ≡ false → (if b then x else y) ≡ y
left-out true x y h = absurd (true≢false h)
left-out false x y h = refl

-- the id is that of the commit with this name
pub record IsFound {N : Type 0} (same : N → N → Bool) (w : World N) (name : N) (id : ℕ) : Type 0 where
  pub there : IsIn name (names_of (rows_of w))
  pub same_id : id ≡ id_in same w name
  pub row : (r : Row N) × (row_at w id ≡ Some r) × (r.name ≡ name)
  pub named : row_at w id ≡ row_named same (rows_of w) name

module _ {N : Type 0} (same : N → N → Bool) (exact : (x y : N) → same x y ≡ true → x ≡ y) (self : (x : N) → same x x ≡ true) where
  -- the place of the name of the row at a place
  pub place-at : (before : List N) (rows : List (Row N)) (i : ℕ) (r : Row N) → IsHistory before rows → slice_get rows i ≡ Some r → place_of same r.name (names_of rows) ≡ i
  place-at before [] i r h e = cc
  place-at before (q ∷ rows) zero r h e = first (same q.name r.name) (subst (λ (z : Row N). same q.name z.name ≡ true) (same-row q r e) (self q.name))
    where
      first : (b : Bool) → b ≡ true → (if b then 0 else suc (place_of same r.name (names_of rows))) ≡ 0
      first true t = refl
      first false t = absurd (true≢false (sym t))
  place-at before (q ∷ rows) (suc i) r h e = later (same q.name r.name) refl (apart (before ++ q.name ∷ []) rows i r h.1 e) (place-at (before ++ q.name ∷ []) rows i r h.1 e)
    where
      later : (b : Bool) → same q.name r.name ≡ b → (IsIn r.name (before ++ q.name ∷ []) → ⊥) → place_of same r.name (names_of rows) ≡ i → (if b then 0 else suc (place_of same r.name (names_of rows))) ≡ suc i
      later true t f g = absurd (f (in-right r.name before (q.name ∷ []) (inl (sym (exact q.name r.name t)))))
      later false t f g = ap suc g

  -- the row at a place is the one of its name
  pub named-at : (before : List N) (rows : List (Row N)) (i : ℕ) (r : Row N) → IsHistory before rows → slice_get rows i ≡ Some r → row_named same rows r.name ≡ Some r
  named-at before [] i r h e = cc
  named-at before (q ∷ rows) zero r h e = first (same q.name r.name) (subst (λ (z : Row N). same q.name z.name ≡ true) (same-row q r e) (self q.name))
    where
      first : (b : Bool) → b ≡ true → (if b then Some q else row_named same rows r.name) ≡ Some r
      first true t = e
      first false t = absurd (true≢false (sym t))
  named-at before (q ∷ rows) (suc i) r h e = later (same q.name r.name) refl (apart (before ++ q.name ∷ []) rows i r h.1 e) (named-at (before ++ q.name ∷ []) rows i r h.1 e)
    where
      later : (b : Bool) → same q.name r.name ≡ b → (IsIn r.name (before ++ q.name ∷ []) → ⊥) → row_named same rows r.name ≡ Some r → (if b then Some q else row_named same rows r.name) ≡ Some r
      later true t f g = absurd (f (in-right r.name before (q.name ∷ []) (inl (sym (exact q.name r.name t)))))
      later false t f g = g

  pub id-in-master : (w : World N) → IsWorld w → (place : ℕ) (r : Row N) → slice_get w.master place ≡ Some r → id_in same w r.name ≡ place
  id-in-master w h place r e =
      chosen (is_in same r.name (names_of w.master)) (place_of same r.name (names_of w.master)) (other_id (place_of same r.name (names_of w.others)))
      (there same exact self r.name (names_of w.master) (name-at w.master place r e))
      ∙ place-at [] w.master place r (history-front [] w.master w.others h) e

  pub id-in-others : (w : World N) → IsWorld w → (place : ℕ) (r : Row N) → slice_get w.others place ≡ Some r → id_in same w r.name ≡ other_id place
  id-in-others w h place r e =
      let rest = history-rest [] w.master w.others h in
      left-out (is_in same r.name (names_of w.master)) (place_of same r.name (names_of w.master)) (other_id (place_of same r.name (names_of w.others)))
      (false_from_ne_true (is_in same r.name (names_of w.master)) (λ t. apart (names_of w.master) w.others place r rest e (found same exact self r.name (names_of w.master) t)))
      ∙ ap other_id (place-at (names_of w.master) w.others place r rest e)

  pub master-found : (w : World N) → IsWorld w → length w.master ≤ 2 ^ 32 → (place : ℕ) (r : Row N) → slice_get w.master place ≡ Some r → IsFound same w r.name place
  master-found w h few place r e =
      let at = place-left w.master w.others place r e in
      let lt = slice_get_within w.master place r e in
      let at_id : row_at w place ≡ Some r = chosen (is_master_id place) (slice_get w.master place) (slice_get w.others (place - 2 ^ 56)) (below-master place (omega (arith, lt, few))) ∙ e in
      record {
        there = name-at (rows_of w) place r at;
        same_id = sym (id-in-master w h place r e);
        row = (r, at_id, refl);
        named = at_id ∙ sym (named-at [] (rows_of w) place r h at);
      }

  pub others-found : (w : World N) → IsWorld w → (place : ℕ) (r : Row N) → slice_get w.others place ≡ Some r → IsFound same w r.name (other_id place)
  others-found w h place r e =
      let at = place-right w.master w.others place r e in
      let at_id : row_at w (other_id place) ≡ Some r =
      left-out (is_master_id (other_id place)) (slice_get w.master (other_id place)) (slice_get w.others (other_id place - 2 ^ 56)) (over-master place)
      ∙ ap (slice_get w.others) (other-place place) ∙ e in
      record {
        there = name-at (rows_of w) (length w.master + place) r at;
        same_id = sym (id-in-others w h place r e);
        row = (r, at_id, refl);
        named = at_id ∙ sym (named-at [] (rows_of w) (length w.master + place) r h at);
      }

  -- the same, of a row that a search came to
  pub found-in-master : (w : World N) → IsWorld w → length w.master ≤ 2 ^ 32 → (m : List (Row N)) → m ≡ w.master → (x : N) (place : ℕ)
      → (r : Row N) × (slice_get m place ≡ Some r) × (r.name ≡ x) → (id : ℕ) → id ≡ place → IsFound same w x id
  found-in-master w h few m is x place t id e =
      subst (λ (n : ℕ). IsFound same w x n) (sym e) (subst (λ (z : N). IsFound same w z place) t.2
      (master-found w h few place t.0 (subst (λ (l : List (Row N)). slice_get l place ≡ Some t.0) is t.1)))

  pub found-in-others : (w : World N) → IsWorld w → (o : List (Row N)) → o ≡ w.others → (x : N) (place : ℕ)
      → (r : Row N) × (slice_get o place ≡ Some r) × (r.name ≡ x) → (id : ℕ) → id ≡ other_id place → IsFound same w x id
  found-in-others w h o is x place t id e =
      subst (λ (n : ℕ). IsFound same w x n) (sym e) (subst (λ (z : N). IsFound same w z (other_id place)) t.2
      (others-found w h place t.0 (subst (λ (l : List (Row N)). slice_get l place ≡ Some t.0) is t.1)))

-- a place of a list that isn't too long can be that of an id
pub place-fits : {X : Type 0} (rows all : List X) (place : ℕ) (x : X) → rows ≡ all → length all ≤ 2 ^ 32 → slice_get rows place ≡ Some x → place < 2 ^ 56
place-fits rows all place x is few e =
    let lt = slice_get_within rows place x e in
    let len : length rows ≡ length all = ap length is in
    omega (arith, lt, len, few)

-- a named world with one more row among its others
pub named-push : (w v : World Name) → w ≡ v → IsNamedWorld w → (row : Row Name) → IsName row.name → AreDistinct row.parents → length row.parents ≤ 8
    → (IsIn row.name (names_of (rows_of v)) → ⊥) → AreAllIn row.parents (names_of (rows_of v)) → (others : List (Row Name)) → others ≡ w.others ++ row ∷ []
    → IsNamedWorld (record { master = w.master; others = others })
named-push w v same h row name distinct few fresh known others is =
    let P : World Name → Type 0 = λ z. IsNext (names_of (rows_of z)) row in
    let next : P w = subst P (sym same) (record { fresh = fresh; known = known; distinct = distinct; few = few }) in
    subst (λ (l : List (Row Name)). IsNamedWorld (record { master = w.master; others = l })) (sym is)
    (named-by (with_pending w (row ∷ [])) (world-next w row h.world next)
    (λ x i. ⊎_elim (name-of w h x) (λ j. ⊎_elim (λ e. subst IsName (sym e) name) (λ f. absurd f) j) (pending-names w (row ∷ []) x i)))

all-bytes : (xs : List ℕ) → ((i : ℕ) → slice_index xs i < 256) → AllByRecursion (λ b. b < 256) xs
all-bytes [] h = tt
all-bytes (x ∷ xs) h = (h 0, all-bytes xs (λ i. h (suc i)))

-- 20 bytes are a name
pub name-of-bytes : (bytes : List ℕ) → length bytes ≡ 20 → ((i : ℕ) → slice_index bytes i < 256) → IsName bytes
name-of-bytes bytes size h = (size, all-bytes bytes h)
