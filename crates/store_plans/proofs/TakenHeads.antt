-- Heads that take over what was found of the rows with their names.
use Rattle.std.proofs.Common.{◌≡◌, ◌<◌, ◌+◌, ℕ, zero, suc, inl, inr, ⊎_elim, List, [], ◌∷◌, length, map, get_or, Option, Some, None, is_some, refl, sym, ap, ap₂, subst, ◌∙◌, arith, true≢false}
use Rattle.std.specs.Prelude.{slice_get, IfOk, Result, Ok, Err}
use Rattle.std.specs.List.{AllZip}
use Rattle.std.proofs.Common.{set, ◌≤◌, le_refl, eq-or-lt_of_le}
use Rattle.std.proofs.lemmas.List.{get_or-set_same, get_or-set_other}
use Rattle.std.proofs.lemmas.Bool.{cases_eq}
use Rattle.id_groups.specs.Name.{Name}
use Rattle.commit_graph.specs.World.{Row, World, names_of}
use Rattle.name_map.specs.Added.{Placed}
use Rattle.change_parts.specs.Asked.{IsFoundIn}
use Rattle.change_parts.specs.Plans.{stored_id}
use Rattle.store_plans.specs.Changes.{IsHeadFound, IsRowFound, IsTaken}

none-some : {X : Type 0} {x : X} → ◌≡◌ {A = Option X} (Some x) None → ⊥
none-some e = true≢false (ap is_some e)

-- what was found of a name that stands there
zip-at : (R : Name → Option ℕ → Type 0) (names : List Name) (ids : List (Option ℕ)) (k : ℕ) (x : Name) → AllZip R names ids → slice_get names k ≡ Some x → R x (get_or ids k None)
zip-at R [] [] k x z e = absurd (none-some (sym e))
zip-at R [] (i ∷ ids) k x z e = absurd z
zip-at R (n ∷ names) [] k x z e = absurd z
zip-at R (n ∷ names) (i ∷ ids) zero x z e = subst (λ m. R m i) (ap or_own e) z.0
  where
    or_own : Option Name → Name
    or_own None = n
    or_own (Some m) = m
zip-at R (n ∷ names) (i ∷ ids) (suc k) x z e = zip-at R names ids k x z.1 e

-- each head takes one over, or keeps its own
abbrev TakeOver : List Name → List (Option ℕ) → List Name → List (Option ℕ) → List (Option ℕ) → Type 0
TakeOver names ids heads found later = (i : ℕ) → i < length heads → IsTaken names ids (get_or heads i []) (get_or found i None) (get_or later i None)

taken-all : (R S : Name → Option ℕ → Type 0) (names : List Name) (ids : List (Option ℕ)) → ((h : Name) (f n : Option ℕ) → R h f → IsTaken names ids h f n → S h n)
    → (heads : List Name) (found later : List (Option ℕ)) → length later ≡ length found → AllZip R heads found → TakeOver names ids heads found later → AllZip S heads later
taken-all R S names ids one [] [] [] e z t = tt
taken-all R S names ids one [] [] (n ∷ later) e z t = absurd (omega (arith, e))
taken-all R S names ids one [] (f ∷ found) later e z t = absurd z
taken-all R S names ids one (h ∷ heads) [] later e z t = absurd z
taken-all R S names ids one (h ∷ heads) (f ∷ found) [] e z t = absurd (omega (arith, e))
taken-all R S names ids one (h ∷ heads) (f ∷ found) (n ∷ later) e z t =
    (one h f n z.0 (t 0 (omega arith)), taken-all R S names ids one heads found later (omega (arith, e)) z.1 (λ i lt. t (suc i) (omega (arith, lt))))

pub zip-map : (f : Name → Option ℕ) (names : List Name) (ids : List (Option ℕ)) → AllZip (λ n i. i ≡ f n) names ids → ids ≡ map f names
zip-map f [] [] z = refl
zip-map f [] (i ∷ ids) z = absurd z
zip-map f (n ∷ names) [] z = absurd z
zip-map f (n ∷ names) (i ∷ ids) z = ap₂ (λ a b. a ∷ b) z.0 (zip-map f names ids z.1)

-- what is taken over is right, where what was found of the rows is
pub taken-right : (w : World Name) (rows : List (Row Name)) (ids : List (Option ℕ)) → AllZip (IsRowFound w) (names_of rows) ids → (heads : List Name) (found later : List (Option ℕ)) → length later ≡ length found
    → AllZip (IsHeadFound w rows) heads found → ((i : ℕ) → i < length heads → IsTaken (names_of rows) ids (get_or heads i []) (get_or found i None) (get_or later i None)) → later ≡ map (stored_id w) heads
taken-right w rows ids r heads found later e z t = zip-map (stored_id w) heads later (taken-all (IsHeadFound w rows) (IsRowFound w) (names_of rows) ids one heads found later e z t)
  where
    one : (h : Name) (f n : Option ℕ) → IsHeadFound w rows h f → IsTaken (names_of rows) ids h f n → n ≡ stored_id w h
    one h (Some id) n (inl is) t = t ∙ is
    one h (Some id) n (inr p) t = absurd (none-some p.0)
    one h None n (inl is) (inl out) = out.1 ∙ is
    one h None n (inr p) (inl out) = absurd (out.0 p.1)
    one h None n p (inr k) = k.2 ∙ zip-at (IsRowFound w) (names_of rows) ids k.0 h r k.1

-- whatever the mirrors tell, it is an id of the base, or the head isn't stored
pub taken-found : (added : List Placed) (names : List Name) (ids : List (Option ℕ)) → AllZip (IsFoundIn added) names ids → (heads : List Name) (found later : List (Option ℕ)) → length later ≡ length found
    → AllZip (IsFoundIn added) heads found → ((i : ℕ) → i < length heads → IsTaken names ids (get_or heads i []) (get_or found i None) (get_or later i None)) → AllZip (IsFoundIn added) heads later
taken-found added names ids r heads found later e z t = taken-all (IsFoundIn added) (IsFoundIn added) names ids one heads found later e z t
  where
    one : (h : Name) (f n : Option ℕ) → IsFoundIn added h f → IsTaken names ids h f n → IsFoundIn added h n
    one h (Some id) n is t = subst (IsFoundIn added h) (sym t) is
    one h None n is (inl out) = subst (IsFoundIn added h) (sym out.1) is
    one h None n is (inr k) = subst (IsFoundIn added h) (sym k.2) (zip-at (IsFoundIn added) names ids k.0 h r k.1)

-- ---- in place

at-any : {X : Type 0} (xs : List X) (i : ℕ) (d e : X) → i < length xs → get_or xs i d ≡ get_or xs i e
at-any [] i d e lt = absurd (omega (arith, lt))
at-any (x ∷ xs) zero d e lt = refl
at-any (x ∷ xs) (suc i) d e lt = at-any xs i d e (omega (arith, lt))

module _ (names : List Name) (ids : List (Option ℕ)) (heads : List Name) (i : ℕ) (lt : i < length heads) (old cur : List (Option ℕ)) (size : length cur ≡ length old) (own : length old ≡ length heads)
    (rest : (j : ℕ) → i ≤ j → get_or cur j None ≡ get_or old j None) (n : Option ℕ) where
  -- one more head took one over
  pub take-more : ((j : ℕ) → j < i → IsTaken names ids (get_or heads j []) (get_or old j None) (get_or cur j None)) → (x d : Name) (f e : Option ℕ) → x ≡ get_or heads i d → f ≡ get_or cur i e → IsTaken names ids x f n
      → (j : ℕ) → j < i + 1 → IsTaken names ids (get_or heads j []) (get_or old j None) (get_or (set cur i n) j None)
  take-more done x d f e at was t j below = ⊎_elim
      (λ (same : j ≡ i). subst (λ k. IsTaken names ids (get_or heads k []) (get_or old k None) (get_or (set cur i n) k None)) (sym same)
      (subst (λ v. IsTaken names ids (get_or heads i []) (get_or old i None) v) (sym (get_or-set_same cur i n None (omega (arith, lt, size, own))))
      (subst (λ y. IsTaken names ids y (get_or old i None) n) (at ∙ at-any heads i d [] lt)
      (subst (λ v. IsTaken names ids x v n) (was ∙ at-any cur i e None (omega (arith, lt, size, own)) ∙ rest i (le_refl _)) t))))
      (λ (other : j ≡ i → ⊥). subst (λ v. IsTaken names ids (get_or heads j []) (get_or old j None) v) (sym (get_or-set_other cur i j n None other)) (done j (lt-of j i below other)))
      (cases_eq j i)
    where
      lt-of : (j i : ℕ) → j < i + 1 → (j ≡ i → ⊥) → j < i
      lt-of j i le other = ⊎_elim (λ e. absurd (other e)) (λ l. l) (eq-or-lt_of_le (let a = le in omega (arith, a)))

  pub rest-more : (j : ℕ) → i + 1 ≤ j → get_or (set cur i n) j None ≡ get_or old j None
  rest-more j le = get_or-set_other cur i j n None (λ e. absurd (omega (arith, le, e))) ∙ rest j (omega (arith, le))

-- a fact that doesn't hang on what is answered
pub ok-any : {X E : Type 0} (r : Result X E) (P : Type 0) → P → IfOk r (λ x. P)
ok-any (Ok x) P p = p
ok-any (Err e) P p = tt
