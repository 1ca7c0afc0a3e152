use Rattle.std.proofs.Common.{◌≡◌, Some}
use Rattle.id_groups.specs.Name.{same_name}
use Rattle.commit_graph.specs.Graph.{graph_of, first_ancestor}
use Rattle.plain_query.proofs.words.up.Given as goal

-- so many steps lead to the commit
abbrev pub invariant-loop-step : goal.invariant-loop-step
invariant-loop-step l = first_ancestor (graph_of same_name l.world) l._step l.name ≡ Some l.at
