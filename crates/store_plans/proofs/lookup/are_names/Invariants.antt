use Rattle.std.proofs.Common.{ℕ, ◌<◌, ◌≡◌, Some}
use Rattle.std.specs.Prelude.{slice_get}
use Rattle.id_groups.specs.Name.{Name, IsName}
use Rattle.store_plans.proofs.lookup.are_names.Given as goal

-- each so far is a name
abbrev pub invariant-loop-name : goal.invariant-loop-name
invariant-loop-name l = (k : ℕ) (name : Name) → k < l.name-index → slice_get l.names k ≡ Some name → IsName name
