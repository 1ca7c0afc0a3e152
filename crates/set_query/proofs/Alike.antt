-- Forms of expressions over sets that have the same members, and the greatest members of a set.
use Rattle.std.proofs.Common.{◌≡◌, ℕ, zero, suc, ◌+◌, ◌-◌, ◌<◌, inl, inr, List, [], ◌∷◌, ◌++◌, Ok, Err, length, take, drop, refl, sym, subst, ap, ◌∙◌, arith, ⊎_elim}
use Rattle.std.specs.Prelude.{◌↔◌, IfOk}
use Rattle.std.specs.declared.result.Result.{Result}
use Rattle.id_groups.specs.Lists.{IsIn, IsFiltered}
use Rattle.id_groups.specs.declared.span.IdSpan.{IdSpan}
use Rattle.id_groups.proofs.Listing.{filtered_once}
use Rattle.commit_graph.specs.Sets as sets
use Rattle.commit_graph.proofs.Histories.{in-append}
use Rattle.segment_codec.specs.Record.{Segment}
use Rattle.segment_codec.specs.Table.{IsHeld, IsLawful}
use Rattle.segment_codec.proofs.Tables.{AreRising, segment-in, over-in, lawful-rising}
use Rattle.span_set.specs.Members.{IsMember, IsCanonical, IsDescending, AreUnder, descending_from, ids_of}
use Rattle.span_set.proofs.Counts.{ids-member, member-ids, ids-descending}
use Rattle.ancestor_query.specs.Graph.{table_graph, down_of}
use Rattle.set_expr.specs.declared.words.Call.{Call}
use Rattle.set_expr.specs.declared.words.PairCall.{PairCall}
use Rattle.set_expr.specs.Expr.{Expr, commits_in}
use Rattle.set_expr.specs.Meaning.{made_of, made_of_two}
use Rattle.set_expr.proofs.Renamings.{Agrees, call-agree, pair-agree, top-agree}
use Rattle.set_query.proofs.Ids.{held-down, down-held, self-renaming, table-closed, ids-in}

-- a fact on a result that is there
pub on-ok : {T E : Type 0} (r : Result T E) (P Q : T → Type 0) → ((x : T) → P x → Q x) → IfOk r P → IfOk r Q
on-ok (Ok x) P Q step h = step x h
on-ok (Err e) P Q step h = tt

-- two equivalences one behind the other
pub both : {A B C : Type 0} → A ↔ B → B ↔ C → A ↔ C
both f g = (λ a. g.0 (f.0 a), λ c. f.1 (g.1 c))

-- the ids in front of a cut, and those behind it
pub front-is : {N : Type 0} (front ids : List ℕ) (a : Expr N) (n : ℕ) → n ≡ length (commits_in a) → front ≡ take n ids → front ≡ take (length (commits_in a)) ids
front-is front ids a n is f = f ∙ ap (λ m. take m ids) is

pub back-is : {N : Type 0} (back ids : List ℕ) (a : Expr N) (n : ℕ) → n ≡ length (commits_in a) → back ≡ drop n ids → back ≡ drop (length (commits_in a)) ids
back-is back ids a n is f = f ∙ ap (λ m. drop m ids) is

module _ (flats : List Segment) (lawful : IsLawful flats) where
  -- two sets of ids with the same members
  agrees : (S T : ℕ → Type 0) → ((x : ℕ) → S x ↔ T x) → ((x : ℕ) → S x → IsHeld flats x) → Agrees (λ x. x) (table_graph flats) S T
  agrees S T same held = record {
    to = λ x s. (same x).0 s;
    from = λ x t. (x, (same x).1 t, refl);
    within = λ x s. held-down flats x (held x s);
  }

  alike : (S T : ℕ → Type 0) → Agrees (λ x. x) (table_graph flats) S T → (x : ℕ) → S x ↔ T x
  alike S T a x = (a.to x, λ t. let z = a.from x t in subst S z.2 z.1)

  pub same-call : (call : Call) (S T : ℕ → Type 0) → ((x : ℕ) → S x ↔ T x) → ((x : ℕ) → S x → IsHeld flats x)
      → (x : ℕ) → made_of (table_graph flats) call S x ↔ made_of (table_graph flats) call T x
  same-call call S T same held =
      let g = table_graph flats in let closed = table-closed flats lawful in
      alike (made_of g call S) (made_of g call T) (call-agree (λ x. x) g g (self-renaming g) closed closed call S T (agrees S T same held))

  pub same-pair : (call : PairCall) (S A T B : ℕ → Type 0) → ((x : ℕ) → S x ↔ T x) → ((x : ℕ) → A x ↔ B x) → ((x : ℕ) → S x → IsHeld flats x) → ((x : ℕ) → A x → IsHeld flats x)
      → (x : ℕ) → made_of_two (table_graph flats) call S A x ↔ made_of_two (table_graph flats) call T B x
  same-pair call S A T B same other held also =
      let g = table_graph flats in let closed = table-closed flats lawful in
      alike (made_of_two g call S A) (made_of_two g call T B) (pair-agree (λ x. x) g g (self-renaming g) closed closed call S A T B (agrees S T same held) (agrees A B other also))

  pub same-top : (n : ℕ) (S T : ℕ → Type 0) → ((x : ℕ) → S x ↔ T x) → ((x : ℕ) → S x → IsHeld flats x)
      → (x : ℕ) → sets.top (table_graph flats) S n x ↔ sets.top (table_graph flats) T n x
  same-top n S T same held =
      let g = table_graph flats in let closed = table-closed flats lawful in
      alike (sets.top g S n) (sets.top g T n) (top-agree (λ x. x) g g (self-renaming g) closed closed S T (agrees S T same held) n)

-- an id of a list that lies below another
under-in : (x y : ℕ) (xs : List ℕ) → AreUnder x xs → IsIn y xs → y < x
under-in x y [] h i = absurd i
under-in x y (z ∷ xs) h (inl e) = let lt = h.0 in subst (λ (k : ℕ). k < x) (sym e) lt
under-in x y (z ∷ xs) h (inr i) = under-in x y xs h.1 i

in-under : (x : ℕ) (xs : List ℕ) → ((y : ℕ) → IsIn y xs → y < x) → AreUnder x xs
in-under x [] h = tt
in-under x (y ∷ xs) h = (h y (inl refl), in-under x xs (λ z i. h z (inr i)))

descending-append : (xs ys : List ℕ) → IsDescending xs → IsDescending ys → ((x y : ℕ) → IsIn x xs → IsIn y ys → y < x) → IsDescending (xs ++ ys)
descending-append [] ys h k under = k
descending-append (x ∷ xs) ys h k under = (
  in-under x (xs ++ ys) (λ y i. ⊎_elim (λ a. under-in x y xs h.0 a) (λ b. under x y (inl refl) b) (in-append y xs ys i)),
  descending-append xs ys h.1 k (λ z y i j. under z y (inr i) j),
)

from-below : (low n y : ℕ) → IsIn y (descending_from low n) → y < low + n
from-below low zero y i = absurd i
from-below low (suc n) y (inl e) = omega (arith, e)
from-below low (suc n) y (inr i) = let lt = from-below low n y i in omega (arith, lt)

from-descending : (low n : ℕ) → IsDescending (descending_from low n)
from-descending low zero = tt
from-descending low (suc n) = (in-under (low + n) (descending_from low n) (from-below low n), from-descending low n)

-- the ids of a table stand from the greatest down
down-descending : (flats : List Segment) → AreRising flats → IsDescending (down_of flats)
down-descending [] h = tt
down-descending (s ∷ rest) h =
    descending-append (down_of rest) (descending_from s.low (s.high + 1 - s.low)) (down-descending rest h.2) (from-descending s.low (s.high + 1 - s.low))
    (λ x y i j.
    let held = down-held rest x i in
    let f = segment-in rest x held.0 held.1 in
    let over = over-in s rest held.0 h.1 f.0 in
    let low = f.1.0 in
    let high = (ids-in s y j).1 in
    omega (arith, over, low, high))

-- what is in a list that descends filters another that does, where it is in that one too
filtered : (P : ℕ → Type 0) (xs ys : List ℕ) → IsDescending xs → IsDescending ys → ((x : ℕ) → IsIn x ys → IsIn x xs) → ((x : ℕ) → IsIn x xs → P x ↔ IsIn x ys) → IsFiltered P xs ys
filtered P [] [] h k within same = refl
filtered P [] (y ∷ ys) h k within same = absurd (within y (inl refl))
filtered P (x ∷ xs) [] h k within same = inr ((λ p. (same x (inl refl)).0 p), filtered P xs [] h.1 k (λ z i. absurd i) (λ z i. same z (inr i)))
filtered P (x ∷ xs) (y ∷ ys) h k within same = ⊎_elim
    (λ e. inl (
      (same x (inl refl)).1 (inl (sym e)),
      ys,
      ap (λ z. z ∷ ys) e,
      filtered P xs ys h.1 k.1 (λ z j. there z e j (within z (inr j))) (λ z i. (λ p. behind z e i ((same z (inr i)).0 p), λ j. (same z (inr i)).1 (inr j))),
    ))
    (λ i. inr (
      (λ p. let lt = apart x i ((same x (inl refl)).0 p) in omega (arith, lt)),
      filtered P xs (y ∷ ys) h.1 k (λ z j. inside z i j (within z j)) (λ z m. same z (inr m)),
    ))
    (within y (inl refl))
  where
    behind : (z : ℕ) → y ≡ x → IsIn z xs → IsIn z (y ∷ ys) → IsIn z ys
    behind z e i (inl f) = let lt = under-in x z xs h.0 i in absurd (omega (arith, lt, e, f))
    behind z e i (inr j) = j

    there : (z : ℕ) → y ≡ x → IsIn z ys → IsIn z (x ∷ xs) → IsIn z xs
    there z e j (inl f) = let lt = under-in y z ys k.0 j in absurd (omega (arith, lt, e, f))
    there z e j (inr i) = i

    apart : (z : ℕ) → IsIn y xs → IsIn z (y ∷ ys) → z < x
    apart z i (inl f) = let lt = under-in x y xs h.0 i in omega (arith, lt, f)
    apart z i (inr j) = let lt = under-in x y xs h.0 i in let under = under-in y z ys k.0 j in omega (arith, lt, under)

    inside : (z : ℕ) → IsIn y xs → IsIn z (y ∷ ys) → IsIn z (x ∷ xs) → IsIn z xs
    inside z i j (inl e) = let lt = apart z i j in absurd (omega (arith, lt, e))
    inside z i j (inr m) = m

-- the greatest of a set's ids
pub top-taken : (flats : List Segment) → IsLawful flats → (members taken : List IdSpan) (n : ℕ) → IsCanonical members → ((x : ℕ) → IsMember members x → IsHeld flats x)
    → ids_of taken ≡ take n (ids_of members) → (x : ℕ) → IsMember taken x ↔ sets.top (table_graph flats) (IsMember members) n x
top-taken flats lawful members taken n canonical held is x = (
  λ m. (ids_of members, all, subst (IsIn x) is (member-ids taken x m)),
  λ t. ids-member taken x (subst (IsIn x) (ap (take n) (filtered_once (IsMember members) (down_of flats) t.0 (ids_of members) t.1 all) ∙ sym is) t.2),
)
  where
    all : IsFiltered (IsMember members) (down_of flats) (ids_of members)
    all = filtered (IsMember members) (down_of flats) (ids_of members) (down-descending flats (lawful-rising flats lawful)) (ids-descending members canonical)
        (λ z i. held-down flats z (held z (ids-member members z i))) (λ z i. (member-ids members z, ids-member members z))
