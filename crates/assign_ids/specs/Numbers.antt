-- Commits that are known by numbers, some of whose parents may be in master already.
use Rattle.std.specs.Prelude.{ℕ, zero, suc, ◌<◌, List, [], ◌∷◌, false, nat_eq, ⊤}
use Rattle.commit_graph.specs.World.{Row, names_of}
use Rattle.commit_graph.specs.Graph.{Graph}
use Rattle.assign_ids.specs.Placing.{place_all}
use Rattle.assign_ids.specs.declared.graph.Node.{Node}
use Rattle.assign_ids.specs.declared.graph.Node.TheVariants.{Placed, Other}

-- the numbers among these parents, in order: those parents that aren't in master yet
abbrev pub others_of : List Node → List ℕ
others_of [] = []
others_of (Placed ∷ nodes) = others_of nodes
others_of (Other k ∷ nodes) = k ∷ others_of nodes

-- each of these numbers is below n
abbrev pub AreBelow : ℕ → List ℕ → Type 0
AreBelow n [] = ⊤
AreBelow n (k ∷ ks) = (k < n) × AreBelow n ks

-- each parent that isn't in master yet has a lower number than its child
abbrev pub HaveOlderParents : (ℕ → List Node) → Type 0
HaveOlderParents parents = (k : ℕ) → AreBelow k (others_of (parents k))

-- the rows of the numbers below n, newest first; a parent that is in master doesn't count
abbrev pub rows_below : (ℕ → List Node) → ℕ → List (Row ℕ)
rows_below parents zero = []
rows_below parents (suc k) = record { name = k; parents = others_of (parents k) } ∷ rows_below parents k

-- the order in which these heads, with all that they reach, move into master
abbrev pub order_of : (ℕ → List Node) → ℕ → List ℕ → List ℕ
order_of parents n heads = place_all nat_eq (rows_below parents n) [] heads

-- the graph of the numbers below n, none of which is in master
abbrev pub graph_below : (ℕ → List Node) → ℕ → Graph ℕ
graph_below parents n = record {
  down = names_of (rows_below parents n);
  parents = λ k. others_of (parents k);
  is_master = λ k. false;
}
