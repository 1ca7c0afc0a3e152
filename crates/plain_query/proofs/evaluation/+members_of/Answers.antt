use Rattle.std.proofs.Common.{sym, subst}
use Rattle.id_groups.specs.Name.{same_name}
use Rattle.commit_graph.specs.Graph.{graph_of}
use Rattle.commit_graph.specs.Sets as sets
use Rattle.set_expr.specs.declared.tree.Tree.{Tree}
use Rattle.set_expr.specs.Meaning.{IsMember, made_of, made_of_two}
use Rattle.set_expr.specs.Tree.{tree_in}
use Rattle.plain_query.specs.Members.{AreMembers, among}
use Rattle.plain_query.proofs.Alike.{on-ok, members-to, same-call, same-pair, same-top}
use Rattle.plain_query.proofs.evaluation.+members_of.Goals as goal

pub returns-in_ok-members-in-Of : goal.returns-in_ok-members-in-Of
returns-in_ok-members-in-Of t c =
    on-ok c.made_of.result _ _ (λ r a. subst (λ (t : Tree). AreMembers (IsMember (graph_of same_name c.args.world.now) (tree_in t)) r) (sym c.in-Of.is)
    (members-to (made_of (graph_of same_name c.args.world.now) c.in-Of.call (among c.in_ok-members-in-Of.members)) (made_of (graph_of same_name c.args.world.now) c.in-Of.call (IsMember (graph_of same_name c.args.world.now) (tree_in c.in-Of.set.value))) r a
    (same-call (graph_of same_name c.args.world.now) c.in-Of.call (among c.in_ok-members-in-Of.members) (IsMember (graph_of same_name c.args.world.now) (tree_in c.in-Of.set.value))
    (subst (λ (t : Tree). AreMembers (IsMember (graph_of same_name c.args.world.now) (tree_in t)) c.in_ok-members-in-Of.members) c.deref.ensures c.in_ok-members-in-Of.ensures)))) c.made_of.ensures

pub returns-in_ok-others-in-OfTwo : goal.returns-in_ok-others-in-OfTwo
returns-in_ok-others-in-OfTwo t c =
    on-ok c.made_of_two.result _ _ (λ r a. subst (λ (t : Tree). AreMembers (IsMember (graph_of same_name c.args.world.now) (tree_in t)) r) (sym c.in-OfTwo.is)
    (members-to (made_of_two (graph_of same_name c.args.world.now) c.in-OfTwo.call (among c.in_ok-some-in-OfTwo.some) (among c.in_ok-others-in-OfTwo.others))
    (made_of_two (graph_of same_name c.args.world.now) c.in-OfTwo.call (IsMember (graph_of same_name c.args.world.now) (tree_in c.in-OfTwo.first.value)) (IsMember (graph_of same_name c.args.world.now) (tree_in c.in-OfTwo.second.value))) r a
    (same-pair (graph_of same_name c.args.world.now) c.in-OfTwo.call (among c.in_ok-some-in-OfTwo.some) (among c.in_ok-others-in-OfTwo.others)
    (IsMember (graph_of same_name c.args.world.now) (tree_in c.in-OfTwo.first.value)) (IsMember (graph_of same_name c.args.world.now) (tree_in c.in-OfTwo.second.value))
    (subst (λ (t : Tree). AreMembers (IsMember (graph_of same_name c.args.world.now) (tree_in t)) c.in_ok-some-in-OfTwo.some) c.deref-in-OfTwo.ensures c.in_ok-some-in-OfTwo.ensures)
    (subst (λ (t : Tree). AreMembers (IsMember (graph_of same_name c.args.world.now) (tree_in t)) c.in_ok-others-in-OfTwo.others) c.deref-in-OfTwo-2.ensures c.in_ok-others-in-OfTwo.ensures)))) c.made_of_two.ensures

pub returns-in_ok-members-in-Top : goal.returns-in_ok-members-in-Top
returns-in_ok-members-in-Top t c =
    on-ok c.top.result _ _ (λ r a. subst (λ (t : Tree). AreMembers (IsMember (graph_of same_name c.args.world.now) (tree_in t)) r) (sym c.in-Top.is)
    (members-to (sets.top (graph_of same_name c.args.world.now) (among c.in_ok-members-in-Top.members) c.in-Top.n) (sets.top (graph_of same_name c.args.world.now) (IsMember (graph_of same_name c.args.world.now) (tree_in c.in-Top.set.value)) c.in-Top.n) r a
    (same-top (graph_of same_name c.args.world.now) c.in-Top.n (among c.in_ok-members-in-Top.members) (IsMember (graph_of same_name c.args.world.now) (tree_in c.in-Top.set.value))
    (subst (λ (t : Tree). AreMembers (IsMember (graph_of same_name c.args.world.now) (tree_in t)) c.in_ok-members-in-Top.members) c.deref-in-Top.ensures c.in_ok-members-in-Top.ensures)))) c.top.ensures
