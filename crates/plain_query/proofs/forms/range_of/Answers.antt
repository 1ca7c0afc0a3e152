use Rattle.id_groups.specs.Name.{same_name}
use Rattle.commit_graph.specs.Graph.{graph_of}
use Rattle.commit_graph.specs.Sets as sets
use Rattle.plain_query.specs.Members.{among}
use Rattle.plain_query.proofs.Alike.{on-ok, inter-members}
use Rattle.plain_query.proofs.forms.range_of.Goals as goal

pub returns : goal.returns
returns c =
    on-ok c.inter.result _ _ (λ r iff. inter-members (sets.descendants (graph_of same_name c.args.world.now) (among c.args.low.now)) (sets.ancestors (graph_of same_name c.args.world.now) (among c.args.high.now)) c.in_ok-above.above c.in_ok-below.below r c.in_ok-above.ensures c.in_ok-below.ensures iff) c.inter.ensures
