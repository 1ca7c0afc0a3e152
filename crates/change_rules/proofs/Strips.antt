-- What a strip takes.
use Rattle.std.proofs.Common.{◌≡◌, ◌↔◌, not, cond, Bool, true, false, inl, inr, List, [], ◌∷◌, length, filter, refl, sym, ap, ◌∙◌, subst, true≢false}
use Rattle.std.specs.List.{list_any}
use Rattle.id_groups.specs.Lists.{IsIn}
use Rattle.id_groups.specs.Name.{Name, same_name}
use Rattle.id_groups.proofs.Names.{same_name-exact, same_name-self}
use Rattle.id_groups.proofs.Listing.{any-in, in-any}
use Rattle.commit_graph.specs.World.{Row, World, IsWorld, rows_of}
use Rattle.commit_graph.specs.Graph.{graph_of, Reaches}
use Rattle.commit_graph.specs.Search.{reaches_in}
use Rattle.commit_graph.proofs.Down.{world-walks}
use Rattle.commit_graph.proofs.Walks.{reaches-found}
use Rattle.change_rules.specs.Strip.{stripped}

in-filter : {X : Type 0} (f : X → Bool) (x : X) (xs : List X) → IsIn x xs → f x ≡ true → IsIn x (filter f xs)
in-filter f x [] i e = absurd i
in-filter f x (y ∷ xs) (inl g) e = subst (λ b. IsIn x (cond b (y ∷ filter f xs) (filter f xs))) (sym (ap f (sym g) ∙ e)) (inl g)
in-filter f x (y ∷ xs) (inr i) e = by_test (f y) (in-filter f x xs i e)
  where
    by_test : (b : Bool) → IsIn x (filter f xs) → IsIn x (cond b (y ∷ filter f xs) (filter f xs))
    by_test true j = inr j
    by_test false j = j

passes : {X : Type 0} (f : X → Bool) (x : X) (xs : List X) → IsIn x (filter f xs) → f x ≡ true
passes f x [] i = absurd i
passes f x (y ∷ xs) i = by_test (f y) refl i (passes f x xs)
  where
    by_test : (b : Bool) → f y ≡ b → IsIn x (cond b (y ∷ filter f xs) (filter f xs)) → (IsIn x (filter f xs) → f x ≡ true) → f x ≡ true
    by_test true e (inl g) rec = ap f g ∙ e
    by_test true e (inr j) rec = rec j
    by_test false e j rec = rec j

not-is : (b : Bool) → not b ≡ true → b ≡ false
not-is true e = absurd (true≢false (sym e))
not-is false e = refl

is-not : (b : Bool) → (b ≡ true → ⊥) → not b ≡ true
is-not true f = absurd (f refl)
is-not false f = refl

module _ (w : World Name) (whole : IsWorld w) (names : List Name) (row : Row Name) (there : IsIn row w.others) where
  abbrev reached : Bool
  reached = list_any (λ name. reaches_in same_name (graph_of same_name w) (length (rows_of w)) row.name name) names

  -- a row stays exactly where it reaches no name
  pub strip-takes : IsIn row (stripped same_name w names).others ↔ ((name : Name) → IsIn name names → Reaches (graph_of same_name w) row.name name → ⊥)
  strip-takes = (stays, back)
    where
      stays : IsIn row (stripped same_name w names).others → (name : Name) → IsIn name names → Reaches (graph_of same_name w) row.name name → ⊥
      stays i name j walk = absurd (true≢false (sym (in-any (λ name. reaches_in same_name (graph_of same_name w) (length (rows_of w)) row.name name) names name j (world-walks same_name same_name-exact same_name-self w whole row.name name walk))
          ∙ not-is reached (passes (λ (r : Row Name). not (list_any (λ name. reaches_in same_name (graph_of same_name w) (length (rows_of w)) r.name name) names)) row w.others i)))

      back : ((name : Name) → IsIn name names → Reaches (graph_of same_name w) row.name name → ⊥) → IsIn row (stripped same_name w names).others
      back f = in-filter (λ (r : Row Name). not (list_any (λ name. reaches_in same_name (graph_of same_name w) (length (rows_of w)) r.name name) names)) row w.others there (is-not reached
          (λ e. let r = any-in (λ name. reaches_in same_name (graph_of same_name w) (length (rows_of w)) row.name name) names e in
          f r.0 r.1 (reaches-found same_name same_name-exact same_name-self (graph_of same_name w) (length (rows_of w)) row.name r.0 r.2)))
