use Rattle.id_groups.specs.Name.{same_name}
use Rattle.commit_graph.specs.Graph.{graph_of}
use Rattle.commit_graph.specs.Sets as sets
use Rattle.plain_query.specs.Members.{among}
use Rattle.plain_query.proofs.Alike.{on-ok, minus-members, own-members}
use Rattle.plain_query.proofs.forms.heads_of.Goals as goal

pub returns : goal.returns
returns c =
    on-ok c.minus.result _ _ (λ r iff. minus-members (among c.args.set.now) (sets.parents (graph_of same_name c.args.world.now) (among c.args.set.now)) c.args.set.now c.in_ok-parents.parents r (own-members c.args.set.now) c.in_ok-parents.ensures iff) c.minus.ensures
