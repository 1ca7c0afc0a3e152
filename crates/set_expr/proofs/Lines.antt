-- Walks by first parents: they are steps up, and a search of bounded depth finds them.
use Rattle.std.proofs.Common.{◌≡◌, ℕ, zero, suc, ◌≤◌, Bool, true, false, inl, inr, List, [], ◌∷◌, length, take, Option, Some, None, refl, sym, ◌∙◌, ap, option_and_then, suc-le-suc, zero-le, if◌then◌else◌}
use Rattle.id_groups.specs.Lists.{IsIn}
use Rattle.commit_graph.specs.World.{Row}
use Rattle.commit_graph.specs.Graph.{Graph, IsWalk, Reaches, first_ancestor, first_of_list}
use Rattle.commit_graph.proofs.Histories.{place_in}
use Rattle.commit_graph.proofs.Walks.{Falls}
use Rattle.set_expr.proofs.Deciding.{some-same, none-some, take-in}
use Rattle.set_expr.specs.Line.{by_first}

pub place-bound : {N : Type 0} (same : N → N → Bool) (self : (x : N) → same x x ≡ true) (rows : List (Row N)) (x : N) → place_in same self rows x ≤ length rows
place-bound same self [] x = zero-le
place-bound same self (r ∷ rows) x = go (same r.name x) (place-bound same self rows x)
  where
    go : (b : Bool) → place_in same self rows x ≤ length rows → (if b then 0 else suc (place_in same self rows x)) ≤ suc (length rows)
    go true h = zero-le
    go false h = suc-le-suc h

one-first : {N : Type 0} (p : N) (xs : List N) → IsIn p (take 1 xs) → first_of_list xs ≡ Some p
one-first p [] i = absurd i
one-first p (x ∷ xs) (inl e) = ap Some (sym e)
one-first p (x ∷ xs) (inr i) = absurd i

first-one : {N : Type 0} (p : N) (xs : List N) → first_of_list xs ≡ Some p → IsIn p (take 1 xs)
first-one p [] e = absurd (none-some p e)
first-one p (x ∷ xs) e = inl (sym (some-same x p e))

module _ {N : Type 0} (g : Graph N) where
  -- along a first parent a number falls that falls along each
  pub first-falls : (rank : N → ℕ) → Falls g rank → Falls (by_first g) rank
  first-falls rank falls x p i = falls x p (take-in p 1 (g.parents x) i)

  zero-shift : (o : Option N) → o ≡ option_and_then (λ p. first_ancestor g 0 p) o
  zero-shift None = refl
  zero-shift (Some p) = refl

  more-shift : (n : ℕ) (o : Option N) → option_and_then (λ y. first_of_list (g.parents y)) (option_and_then (λ p. first_ancestor g n p) o) ≡ option_and_then (λ p. first_ancestor g (suc n) p) o
  more-shift n None = refl
  more-shift n (Some p) = refl

  -- the first step may stand in front in place of the last one behind
  first-shift : (n : ℕ) (x : N) → first_ancestor g (suc n) x ≡ option_and_then (λ p. first_ancestor g n p) (first_of_list (g.parents x))
  first-shift zero x = zero-shift (first_of_list (g.parents x))
  first-shift (suc n) x = ap (option_and_then (λ y. first_of_list (g.parents y))) (first-shift n x) ∙ more-shift n (first_of_list (g.parents x))

  step-behind : (n : ℕ) (y : N) (o : Option N) → option_and_then (λ p. first_ancestor g n p) o ≡ Some y → (p : N) × (o ≡ Some p) × (first_ancestor g n p ≡ Some y)
  step-behind n y None e = absurd (none-some y e)
  step-behind n y (Some p) e = (p, refl, e)

  pub walk-steps : (x : N) (walk : List N) (y : N) → IsWalk (by_first g) x walk y → (n : ℕ) × (first_ancestor g n x ≡ Some y)
  walk-steps x [] y h = (0, ap Some h)
  walk-steps x (p ∷ more) y h =
      let r = walk-steps p more y h.1 in
      (suc r.0, first-shift r.0 x ∙ (ap (option_and_then (λ q. first_ancestor g r.0 q)) (one-first p (g.parents x) h.0) ∙ r.1))

  pub steps-walk : (n : ℕ) (x y : N) → first_ancestor g n x ≡ Some y → Reaches (by_first g) x y
  steps-walk zero x y e = ([], some-same x y e)
  steps-walk (suc n) x y e =
      let s = step-behind n y (first_of_list (g.parents x)) (sym (first-shift n x) ∙ e) in
      let r = steps-walk n s.0 y s.2 in
      (s.0 ∷ r.0, (first-one s.0 (g.parents x) s.1, r.1))
