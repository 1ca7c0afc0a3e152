use Rattle.id_groups.specs.Name.{same_name}
use Rattle.commit_graph.specs.Graph.{graph_of}
use Rattle.commit_graph.specs.Sets as sets
use Rattle.plain_query.specs.Members.{among}
use Rattle.set_expr.specs.declared.words.Call.TheVariants as calls
use Rattle.plain_query.proofs.Alike.{on-ok, members-to, same-call}
use Rattle.plain_query.proofs.forms.gca_of.Goals as goal

pub returns : goal.returns
returns c =
    on-ok c.heads_of.result _ _ (λ r a. members-to (sets.heads (graph_of same_name c.args.world.now) (among c.in_ok-common.common)) (sets.gca (graph_of same_name c.args.world.now) (among c.args.set.now)) r a
    (same-call (graph_of same_name c.args.world.now) calls.Heads (among c.in_ok-common.common) (sets.common (graph_of same_name c.args.world.now) (among c.args.set.now)) c.in_ok-common.ensures)) c.heads_of.ensures
