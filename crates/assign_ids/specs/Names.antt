-- Commits that are known by numbers, and their names.
use Rattle.std.specs.Prelude.{◌≡◌, ◌<◌, ℕ, List, [], ◌∷◌, ⊤}
use Rattle.id_groups.specs.Lists.{IsIn}
use Rattle.id_groups.specs.Name.{Name}
use Rattle.commit_graph.specs.World.{Row}
use Rattle.assign_ids.specs.declared.graph.Node.{Node}
use Rattle.assign_ids.specs.declared.graph.Node.TheVariants.{Placed, Other}

-- the node of a commit: one in master is placed, and of any other it is the number below n that has its name
abbrev pub IsNode : List Name → ℕ → (ℕ → Name) → Name → Node → Type 0
IsNode masters n name commit Placed = IsIn commit masters
IsNode masters n name commit (Other k) = (k < n) × (name k ≡ commit)

-- the nodes of some commits, in order
abbrev pub AreNodes : List Name → ℕ → (ℕ → Name) → List Name → List Node → Type 0
AreNodes masters n name [] [] = ⊤
AreNodes masters n name [] (node ∷ nodes) = ⊥
AreNodes masters n name (commit ∷ commits) [] = ⊥
AreNodes masters n name (commit ∷ commits) (node ∷ nodes) = IsNode masters n name commit node × AreNodes masters n name commits nodes

-- The numbers below n are commits of these rows that aren't in master, each with a name of its own and the nodes of
-- its row's parents.
pub record AreNumbered (rows : List (Row Name)) (masters : List Name) (n : ℕ) (name : ℕ → Name) (parents : ℕ → List Node) : Type 0 where
  pub row : (k : ℕ) → k < n → (r : Row Name) × IsIn r rows × (r.name ≡ name k) × AreNodes masters n name r.parents (parents k)
  pub one : (j k : ℕ) → j < n → k < n → name j ≡ name k → j ≡ k
  pub apart : (k : ℕ) → k < n → IsIn (name k) masters → ⊥
