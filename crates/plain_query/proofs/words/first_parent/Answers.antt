use Rattle.std.proofs.Common.{◌∙◌, sym, ap}
use Rattle.id_groups.specs.Name.{same_name}
use Rattle.id_groups.proofs.Names.{same_name-exact}
use Rattle.commit_graph.specs.World.{rows_of}
use Rattle.commit_graph.specs.Graph.{first_of_list}
use Rattle.plain_query.proofs.Alike.{no-row}
use Rattle.plain_query.proofs.words.first_parent.Goals as goal

pub returns-in_err-id : goal.returns-in_err-id
returns-in_err-id c =
    c.from_residual.ensures ∙ sym (ap first_of_list (no-row same_name same_name-exact (rows_of c.args.world.now) c.args.name.now c.in_err-id.ensures.id))
