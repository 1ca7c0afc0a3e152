use Rattle.std.proofs.Common.{◌≤◌, length}
use Rattle.id_groups.specs.Name.{Name}
use Rattle.id_groups.specs.Name.{same_name}
use Rattle.commit_graph.specs.Graph.{graph_of}
use Rattle.plain_query.specs.Members.{among}
use Rattle.plain_query.proofs.Alike.{on-ok, inter-members, own-members}
use Rattle.plain_query.proofs.forms.merges_of.Goals as goal

pub returns : goal.returns
returns c =
    on-ok c.inter.result _ _ (λ r iff. inter-members (among c.args.set.now) (λ (x : Name). 2 ≤ length ((graph_of same_name c.args.world.now).parents x)) c.args.set.now c.in_ok-merges.merges r
    (own-members c.args.set.now) c.in_ok-merges.ensures iff) c.inter.ensures
