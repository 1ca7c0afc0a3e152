-- Names that are found among pending rows, and heads.
use Rattle.std.proofs.Common.{◌≡◌, ◌<◌, ℕ, zero, suc, ◌+◌, Bool, true, false, List, [], ◌∷◌, ◌++◌, length, map, take, Option, Some, None, slice_get, get_or, is_some, refl, sym, ap, ap₂, subst, ◌∙◌, ⊎_elim, arith, true≢false, if◌then◌else◌, append_assoc}
use Rattle.std.specs.Prelude.{MatchOption}
use Rattle.std.proofs.lemmas.List.{map-append, take_more}
use Rattle.std.proofs.lemmas.Bool.{false_from_ne_true}
use Rattle.id_groups.specs.Lists.{IsIn, is_in, AreAllIn}
use Rattle.id_groups.specs.Name.{Name, same_name}
use Rattle.id_groups.specs.Id.{other_id}
use Rattle.id_groups.proofs.Names.{same_name-exact, same_name-self}
use Rattle.id_groups.proofs.Listing.{found, there}
use Rattle.commit_graph.specs.World.{Row, World, IsWorld, rows_of, names_of, with_pending}
use Rattle.commit_graph.specs.Ids.{id_in}
use Rattle.assign_ids.specs.Numbers.{others_of}
use Rattle.assign_ids.specs.declared.graph.Node.{Node}
use Rattle.assign_ids.specs.declared.graph.Node.TheVariants.{Placed, Other}
use Rattle.change_parts.specs.Moves.{node_of}
use Rattle.commit_graph.proofs.Histories.{in-append}
use Rattle.commit_graph.proofs.Down.{in-left, in-right}
use Rattle.commit_graph.proofs.Places.{id-in-others, name-at}
use Rattle.payload_tables.specs.Pending.{HeldRow, row_names}
use Rattle.payload_tables.specs.Bases.{held_row}
use Rattle.change_parts.specs.Plans.{stored_id}
use Rattle.flush_plan.specs.Flushing.{first_unknown}
use Rattle.payload_tables.proofs.Joined.{seen-id}

-- ---- a head

module _ (w : World Name) (rows : List (Row Name)) (whole : IsWorld (with_pending w rows)) (head : Name) where
  names-parts : names_of (rows_of (with_pending w rows)) ≡ names_of (rows_of w) ++ names_of rows
  names-parts = ap names_of (sym (append_assoc w.master w.others rows)) ∙ map-append (λ (r : Row Name). r.name) (w.master ++ w.others) rows

  abbrev IsHead : Option ℕ → Type 0
  IsHead o = MatchOption o (IsIn head (names_of (rows_of (with_pending w rows))) → ⊥) (λ id. IsIn head (names_of (rows_of (with_pending w rows))) × (id ≡ id_in same_name (with_pending w rows) head))

  stored-or : (b : Bool) → is_in same_name head (names_of (rows_of w)) ≡ b → stored_id w head ≡ (if b then Some (id_in same_name w head) else None)
  stored-or b e = ap (λ z. if z then Some (id_in same_name w head) else None) e

  pub head-stored : (o : Option ℕ) → o ≡ stored_id w head → is_some o ≡ true → IsHead o
  head-stored o e s = by_test (is_in same_name head (names_of (rows_of w))) refl
    where
      by_test : (b : Bool) → is_in same_name head (names_of (rows_of w)) ≡ b → IsHead o
      by_test true t =
          let i = found same_name same_name-exact same_name-self head (names_of (rows_of w)) t in
          subst IsHead (sym (e ∙ stored-or true t)) (subst (IsIn head) (sym names-parts) (in-left head (names_of (rows_of w)) (names_of rows) i), sym (seen-id w rows head i))
      by_test false t = absurd (true≢false (sym s ∙ ap is_some (e ∙ stored-or false t)))

  not-stored : (o : Option ℕ) → o ≡ stored_id w head → is_some o ≡ false → IsIn head (names_of (rows_of w)) → ⊥
  not-stored o e s i = true≢false (ap is_some (sym (e ∙ stored-or true (there same_name same_name-exact same_name-self head (names_of (rows_of w)) i))) ∙ s)

  names-of-rows : (v : World Name) (some : List (Row Name)) → row_names (map (held_row v) some) ≡ names_of some
  names-of-rows v [] = refl
  names-of-rows v (r ∷ some) = ap (λ l. r.name ∷ l) (names-of-rows v some)

  pub head-nowhere : (o : Option ℕ) → o ≡ stored_id w head → is_some o ≡ false → (IsIn head (row_names (map (held_row (with_pending w rows)) rows)) → ⊥) → IsHead None
  head-nowhere o e s none i = ⊎_elim (not-stored o e s) (λ j. none (subst (IsIn head) (sym (names-of-rows (with_pending w rows) rows)) j)) (in-append head (names_of (rows_of w)) (names_of rows) (subst (IsIn head) names-parts i))

  row-of-map : (v : World Name) (some : List (Row Name)) (k : ℕ) (q : HeldRow) → slice_get (map (held_row v) some) k ≡ Some q → (r : Row Name) × (slice_get some k ≡ Some r) × (r.name ≡ q.name)
  row-of-map v [] k q e = absurd (true≢false (sym (ap is_some e)))
  row-of-map v (r ∷ some) zero q e = (r, refl, ap (name_or q) e)
    where
      name_or : HeldRow → Option HeldRow → Name
      name_or d None = d.name
      name_or d (Some x) = x.name
  row-of-map v (r ∷ some) (suc k) q e = row-of-map v some k q e

  get-behind : (xs : List (Row Name)) (k : ℕ) (r : Row Name) → slice_get rows k ≡ Some r → slice_get (xs ++ rows) (length xs + k) ≡ Some r
  get-behind [] k r e = ap (slice_get rows) (let z : 0 + k ≡ k = omega arith in z) ∙ e
  get-behind (x ∷ xs) k r e = ap (slice_get (x ∷ (xs ++ rows))) (let z : length (x ∷ xs) + k ≡ suc (length xs + k) = omega arith in z) ∙ get-behind xs k r e

  pub head-pending : (k : ℕ) (q : HeldRow) → slice_get (map (held_row (with_pending w rows)) rows) k ≡ Some q → q.name ≡ head
      → IsIn head (names_of (rows_of (with_pending w rows))) × (other_id (length w.others + k) ≡ id_in same_name (with_pending w rows) head)
  head-pending k q e n =
      let r = row-of-map (with_pending w rows) rows k q e in (
        subst (IsIn head) (sym names-parts) (in-right head (names_of (rows_of w)) (names_of rows) (subst (λ z. IsIn z (names_of rows)) (r.2 ∙ n) (name-at rows k r.0 r.1))),
        sym (id-in-others same_name same_name-exact same_name-self (with_pending w rows) whole (length w.others + k) r.0 (get-behind w.others k r.0 r.1)) ∙ ap (id_in same_name (with_pending w rows)) (r.2 ∙ n),
      )

-- ---- all heads

pub map-at : {X Y : Type 0} (f : X → Y) (xs : List X) (i : ℕ) (x : X) (y : Y) (ys : List Y) → ys ≡ map f xs → i < length xs → x ≡ get_or xs i x → y ≡ get_or ys i y → y ≡ f x
map-at f xs i x y ys e lt ex ey = ey ∙ ap (λ l. get_or l i y) e ∙ at f xs i x y lt ∙ ap f (sym ex)
  where
    at : {X Y : Type 0} (f : X → Y) (xs : List X) (i : ℕ) (x : X) (y : Y) → i < length xs → get_or (map f xs) i y ≡ f (get_or xs i x)
    at f [] i x y lt = absurd (omega (arith, lt))
    at f (z ∷ xs) zero x y lt = refl
    at f (z ∷ xs) (suc i) x y lt = at f xs i x y (omega (arith, lt))

pub unknown-at : (v : World Name) (heads : List Name) (i : ℕ) (h : Name) → i < length heads → h ≡ get_or heads i h → AreAllIn (take i heads) (names_of (rows_of v)) → (IsIn h (names_of (rows_of v)) → ⊥) → first_unknown v heads ≡ Some h
unknown-at v [] i h lt e all out = absurd (omega (arith, lt))
unknown-at v (x ∷ heads) zero h lt e all out =
    ap (λ b. if b then first_unknown v heads else Some x) (false_from_ne_true (is_in same_name x (names_of (rows_of v)))
    (λ t. out (subst (λ z. IsIn z (names_of (rows_of v))) (sym e) (found same_name same_name-exact same_name-self x (names_of (rows_of v)) t))))
    ∙ ap Some (sym e)
unknown-at v (x ∷ heads) (suc i) h lt e all out =
    ap (λ b. if b then first_unknown v heads else Some x) (there same_name same_name-exact same_name-self x (names_of (rows_of v)) all.0) ∙ unknown-at v heads i h (omega (arith, lt)) e all.1 out

pub known-at : (v : World Name) (heads : List Name) → AreAllIn heads (names_of (rows_of v)) → first_unknown v heads ≡ None
known-at v [] all = refl
known-at v (x ∷ heads) all = ap (λ b. if b then first_unknown v heads else Some x) (there same_name same_name-exact same_name-self x (names_of (rows_of v)) all.0) ∙ known-at v heads all.1

all-more : (xs ys : List Name) (x : Name) → AreAllIn xs ys → IsIn x ys → AreAllIn (xs ++ x ∷ []) ys
all-more [] ys x all i = (i, tt)
all-more (y ∷ xs) ys x all i = (all.0, all-more xs ys x all.1 i)

pub others-more : (xs : List Node) (x : Node) → others_of (xs ++ x ∷ []) ≡ others_of xs ++ others_of (x ∷ [])
others-more [] x = refl
others-more (Placed ∷ xs) x = others-more xs x
others-more (Other k ∷ xs) x = ap (λ l. k ∷ l) (others-more xs x)

pub all-next : (v : World Name) (heads : List Name) (i : ℕ) (h : Name) → i < length heads → h ≡ get_or heads i h → AreAllIn (take i heads) (names_of (rows_of v)) → IsIn h (names_of (rows_of v)) → AreAllIn (take (i + 1) heads) (names_of (rows_of v))
all-next v heads i h lt e all here =
    subst (λ l. AreAllIn l (names_of (rows_of v))) (sym (take_more heads i h lt ∙ ap (λ z. take i heads ++ z ∷ []) (sym e))) (all-more (take i heads) (names_of (rows_of v)) h all here)

pub numbers-next : (v : World Name) (heads : List Name) (i : ℕ) (h : Name) (numbers new : List ℕ) (id : ℕ) → i < length heads → h ≡ get_or heads i h
    → numbers ≡ others_of (map node_of (map (id_in same_name v) (take i heads))) → id ≡ id_in same_name v h → new ≡ numbers ++ others_of (node_of id ∷ [])
    → new ≡ others_of (map node_of (map (id_in same_name v) (take (i + 1) heads)))
numbers-next v heads i h numbers new id lt e n is more =
    more ∙ ap₂ (λ a b. a ++ others_of (node_of b ∷ [])) n is
    ∙ sym (ap (λ l. others_of (map node_of (map (id_in same_name v) l))) (take_more heads i h lt ∙ ap (λ z. take i heads ++ z ∷ []) (sym e))
    ∙ ap (λ l. others_of (map node_of l)) (map-append (id_in same_name v) (take i heads) (h ∷ []))
    ∙ ap others_of (map-append node_of (map (id_in same_name v) (take i heads)) (id_in same_name v h ∷ []))
    ∙ others-more (map node_of (map (id_in same_name v) (take i heads))) (node_of (id_in same_name v h)))

-- ---- the rows, one by one
