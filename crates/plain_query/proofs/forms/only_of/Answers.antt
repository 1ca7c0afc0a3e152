use Rattle.id_groups.specs.Name.{same_name}
use Rattle.commit_graph.specs.Graph.{graph_of}
use Rattle.commit_graph.specs.Sets as sets
use Rattle.plain_query.specs.Members.{among}
use Rattle.plain_query.proofs.Alike.{on-ok, minus-members}
use Rattle.plain_query.proofs.forms.only_of.Goals as goal

pub returns : goal.returns
returns c =
    on-ok c.minus.result _ _ (λ r iff. minus-members (sets.ancestors (graph_of same_name c.args.world.now) (among c.args.one.now)) (sets.ancestors (graph_of same_name c.args.world.now) (among c.args.other.now)) c.in_ok-reached.reached c.in_ok-lost.lost r c.in_ok-reached.ensures c.in_ok-lost.ensures iff) c.minus.ensures
