-- How far ids are ahead of another one and behind it, over the graph of a table.
use Rattle.std.specs.Prelude.{◌≡◌, ◌↔◌, ℕ, List, length}
use Rattle.id_groups.specs.declared.span.IdSpan.{IdSpan}
use Rattle.commit_graph.specs.Graph.{Graph}
use Rattle.commit_graph.specs.Sets as sets
use Rattle.span_set.specs.Members.{IsMember, IsCanonical, ids_of}
use Rattle.history_walks.specs.declared.tips.Distance.{Distance}

-- the number of ids for which this holds: they are the members of a set in its one form
pub record IsCountOf (P : ℕ → Type 0) (n : ℕ) : Type 0 where
  pub spans : List IdSpan
  pub canonical : IsCanonical spans
  pub members : (z : ℕ) → IsMember spans z ↔ P z
  pub count : n ≡ length (ids_of spans)

-- how many ids x reaches that the base doesn't, and the other way round
pub record AreSidesOf (g : Graph ℕ) (base x : ℕ) (s : Distance) : Type 0 where
  pub ahead : IsCountOf (sets.only g (λ y. y ≡ x) (λ y. y ≡ base)) s.ahead
  pub behind : IsCountOf (sets.only g (λ y. y ≡ base) (λ y. y ≡ x)) s.behind
