use Rattle.std.proofs.Common.{ℕ, ◌<◌, ◌≡◌, Some}
use Rattle.std.specs.Prelude.{slice_get}
use Rattle.id_groups.specs.Lists.{IsIn}
use Rattle.id_groups.specs.Name.{Name}
use Rattle.commit_graph.proofs.ancestry.leads.Given as goal

-- none of the parents so far leads to the target
abbrev pub invariant-loop-parent : goal.invariant-loop-parent
invariant-loop-parent l = (k : ℕ) (parent : Name) → k < l.parent-index → slice_get l.parent-items k ≡ Some parent → IsIn parent l.leading → ⊥
