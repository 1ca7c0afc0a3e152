use Rattle.std.proofs.Common.{subst}
use Rattle.id_groups.specs.Name.{Name, same_name}
use Rattle.commit_graph.specs.Graph.{graph_of}
use Rattle.set_expr.specs.Expr.{Expr}
use Rattle.set_expr.specs.Meaning.{IsMember}
use Rattle.set_expr.specs.Whole.{tree_of}
use Rattle.plain_query.specs.Members.{AreMembers, among}
use Rattle.plain_query.proofs.Alike.{on-ok, filtered-same}
use Rattle.plain_query.proofs.evaluation.answer.Goals as goal

pub returns : goal.returns
returns c =
    on-ok c.listed.result _ _ (λ names h. filtered-same (among c.in_ok-members.members) (IsMember (graph_of same_name c.args.world.now) (tree_of c.args.expr.now))
    (subst (λ (e : Expr Name). AreMembers (IsMember (graph_of same_name c.args.world.now) e) c.in_ok-members.members) c.tree.ensures.same c.in_ok-members.ensures)
    (graph_of same_name c.args.world.now).down names.items h) c.listed.ensures
