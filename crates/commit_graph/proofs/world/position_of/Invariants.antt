use Rattle.std.proofs.Common.{ℕ, ◌<◌, ◌≡◌, Some}
use Rattle.std.specs.Prelude.{slice_get, ◌≢◌}
use Rattle.id_groups.specs.Name.{Name}
use Rattle.commit_graph.specs.World.{Row}
use Rattle.commit_graph.proofs.world.position_of.Given as goal

-- none of the rows so far has the name
abbrev pub invariant-loop-place : goal.invariant-loop-place
invariant-loop-place l = (k : ℕ) (row : Row Name) → k < l.place → slice_get l.rows k ≡ Some row → row.name ≢ l.name
