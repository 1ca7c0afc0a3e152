use Rattle.std.proofs.Common.{◌≡◌, Some}
use Rattle.id_groups.specs.Name.{Name, same_name}
use Rattle.commit_graph.specs.World.{Row}
use Rattle.commit_graph.specs.Ids.{row_at}
use Rattle.commit_graph.specs.Graph.{graph_of, first_ancestor}
use Rattle.commit_graph.proofs.ancestry.first_ancestor.Given as goal

-- so many steps lead to the row that stands at the id
abbrev pub invariant-loop-step : goal.invariant-loop-step
invariant-loop-step l = (row : Row Name) × (row_at l.world l.at ≡ Some row)
    × ((from : Row Name) → row_at l.world l.fn.x ≡ Some from → first_ancestor (graph_of same_name l.world) l._step from.name ≡ Some row.name)
