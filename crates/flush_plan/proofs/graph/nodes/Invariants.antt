use Rattle.std.proofs.Common.{◌≡◌, map, take}
use Rattle.change_parts.specs.Moves.{node_of}
use Rattle.flush_plan.proofs.graph.nodes.Given as goal

abbrev pub invariant-ids : goal.invariant-ids
invariant-ids l = l.nodes.items ≡ map node_of (take l.id-index l.ids)
