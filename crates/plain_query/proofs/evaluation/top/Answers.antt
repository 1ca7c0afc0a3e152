use Rattle.std.proofs.Common.{◌∙◌, take, ap}
use Rattle.id_groups.specs.Name.{same_name}
use Rattle.commit_graph.specs.Graph.{graph_of}
use Rattle.plain_query.specs.Members.{among}
use Rattle.plain_query.proofs.Alike.{top-members}
use Rattle.plain_query.proofs.evaluation.top.Goals as goal

pub returns : goal.returns
returns c =
    top-members (graph_of same_name c.args.world.now) (among c.args.set.now) c.args.n c.in_ok-names.names.items c.first_names.result.now c.none-members.result c.add_all.new.self c.in_ok-names.ensures
    (c.first_names.ensures ∙ ap (take c.args.n) c.as_slice.ensures.value) c.none-members.ensures c.in_ok-add_all.ensures
