-- Parents that are looked up one by one, and one that comes twice.
use Rattle.std.proofs.Common.{◌≡◌, ◌<◌, ◌+◌, inl, inr, ℕ, suc, Bool, true, false, ◌||◌, List, [], ◌∷◌, ◌++◌, length, get_or, drop, refl, sym, ◌∙◌, ap, subst, Some, None, add-one}
use Rattle.std.proofs.Math.Seq.{drop-cons}
use Rattle.id_groups.specs.Lists.{IsIn, is_in, AreDistinct}
use Rattle.id_groups.specs.Name.{Name, same_name}
use Rattle.id_groups.proofs.Listing.{missing}
use Rattle.id_groups.proofs.Names.{same_name-exact, same_name-self}
use Rattle.step_rules.specs.declared.Refusal.TheVariants.{Twice}
use Rattle.step_rules.specs.Tests.{twice}

by_bool : {P : Type 0} (b : Bool) → (b ≡ true → P) → (b ≡ false → P) → P
by_bool true f g = f refl
by_bool false f g = g refl

-- two names that differ don't pass the test
same-false : (a b : Name) → ¬ (a ≡ b) → same_name a b ≡ false
same-false a b h = by_bool (same_name a b) (λ e. absurd (h (same_name-exact a b e))) (λ e. e)

not-in : (x : Name) (xs : List Name) → is_in same_name x xs ≡ false → ¬ (IsIn x xs)
not-in x xs h = missing same_name same_name-exact same_name-self x xs h

in-front : {X : Type 0} (x : X) (xs ys : List X) → IsIn x xs → IsIn x (xs ++ ys)
in-front x [] ys h = absurd h
in-front x (z ∷ xs) ys (inl e) = inl e
in-front x (z ∷ xs) ys (inr h) = inr (in-front x xs ys h)

in-end : {X : Type 0} (x : X) (xs : List X) → IsIn x (xs ++ x ∷ [])
in-end x [] = inl refl
in-end x (z ∷ xs) = inr (in-end x xs)

-- the test of the first of some parents, and of the rest
pub twice-first : (before : List Name) (p : Name) (parents : List Name) → is_in same_name p before ≡ true → twice before (p ∷ parents) ≡ Some (Twice p)
twice-first before p parents h = rw h refl

pub twice-next : (before : List Name) (p : Name) (parents : List Name) → is_in same_name p before ≡ false → twice before (p ∷ parents) ≡ twice (before ++ p ∷ []) parents
twice-next before p parents h = rw h refl

record Apart (before parents : List Name) : Type 0 where
  distinct : AreDistinct parents
  apart : (x : Name) → IsIn x parents → ¬ (IsIn x before)

apart : (before parents : List Name) → twice before parents ≡ None → Apart before parents
apart before [] h = record { distinct = tt; apart = λ x i. absurd i }
apart before (p ∷ parents) h =
    by_bool (is_in same_name p before)
    (λ e. cc (sym (twice-first before p parents e) ∙ h))
    (λ e.
    let rest = apart (before ++ p ∷ []) parents (sym (twice-next before p parents e) ∙ h) in
    record {
      distinct = (λ i. rest.apart p i (in-end p before), rest.distinct);
      apart = λ x i. apart-one x i e rest;
    })
  where
    apart-one : (x : Name) → IsIn x (p ∷ parents) → is_in same_name p before ≡ false → Apart (before ++ p ∷ []) parents → ¬ (IsIn x before)
    apart-one x (inl is) e rest = λ j. not-in p before e (subst (λ y. IsIn y before) is j)
    apart-one x (inr i) e rest = λ j. rest.apart x i (in-front x before (p ∷ []) j)

-- parents of which none comes twice are distinct
pub distinct-parents : (parents : List Name) → twice [] parents ≡ None → AreDistinct parents
distinct-parents parents h = (apart [] parents h).distinct

-- one more item in front of what is dropped
pub behind : {X : Type 0} (xs : List X) (i : ℕ) (y : X) → i < length xs → y ≡ get_or xs i y → drop i xs ≡ y ∷ drop (i + 1) xs
behind xs i y below is = rw add-one (drop-cons xs i y below ∙ ap (λ z. z ∷ drop (suc i) xs) (sym is))

-- the search for a name, item by item
pub in-found : (x : Name) (xs : List Name) (i : ℕ) (y : Name) → i < length xs → y ≡ get_or xs i y
    → is_in same_name x xs ≡ is_in same_name x (drop i xs) → x ≡ y → true ≡ is_in same_name x xs
in-found x xs i y below is so_far same =
    sym (so_far ∙ ap (is_in same_name x) (behind xs i y below is) ∙ ap (λ b. b || is_in same_name x (drop (i + 1) xs)) (subst (λ z. same_name x z ≡ true) same (same_name-self x)))

pub in-next : (x : Name) (xs : List Name) (i : ℕ) (y : Name) → i < length xs → y ≡ get_or xs i y
    → is_in same_name x xs ≡ is_in same_name x (drop i xs) → ¬ (x ≡ y) → is_in same_name x xs ≡ is_in same_name x (drop (i + 1) xs)
in-next x xs i y below is so_far apart =
    so_far ∙ ap (is_in same_name x) (behind xs i y below is) ∙ ap (λ b. b || is_in same_name x (drop (i + 1) xs)) (same-false x y apart)
