use Rattle.std.proofs.Common.{subst, sym}
use Rattle.id_groups.specs.Lists.{IsIn}
use Rattle.id_groups.specs.Name.{Name, same_name}
use Rattle.commit_graph.specs.Graph.{graph_of}
use Rattle.commit_graph.proofs.Down.{in-down}
use Rattle.remote_memory.proofs.Parents.{there-of}
use Rattle.remote_memory.proofs.cloning.keep_name.Goals as goal

pub is_stored-requires-clause-there : goal.is_stored-requires-clause-there
is_stored-requires-clause-there c =
    subst (λ (n : Name). IsIn n (graph_of same_name c.args.world.now).down) (sym c.name.ensures)
    (in-down same_name c.args.world.now c.row.result.now.name (there-of c.args.world.now c.args.id c.row.result.now c.row.ensures))
