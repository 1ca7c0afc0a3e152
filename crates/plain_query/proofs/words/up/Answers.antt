use Rattle.std.proofs.Common.{◌≡◌, ℕ, Some, arith, subst}
use Rattle.id_groups.specs.Name.{same_name}
use Rattle.commit_graph.specs.Graph.{graph_of, first_ancestor}
use Rattle.plain_query.proofs.Alike.{on-ok, step-on, step-none, up-members, up-nowhere}
use Rattle.plain_query.proofs.words.up.Goals as goal

pub returns-in-None : goal.returns-in-None
returns-in-None c =
    up-nowhere (graph_of same_name c.args.world.now) c.args.n c.args.name.now c.none.result
    (step-none (graph_of same_name c.args.world.now) c.loop-step._step c.args.n c.args.name.now c.loop-step.at c.loop-step-test.true c.loop-step.invariant c.in-None.ensures) c.none.ensures

pub loop-step-preserved : goal.loop-step-preserved
loop-step-preserved c = step-on (graph_of same_name c.args.world.now) c.loop-step._step c.args.name.now c.loop-step.at c.in-Some.parent c.loop-step.invariant c.in-Some.ensures

pub returns : goal.returns
returns c =
    let all : c.loop-step._step ≡ c.args.n = omega arith in
    on-ok c.one.result _ _ (λ r a. up-members (graph_of same_name c.args.world.now) c.args.n c.args.name.now c.loop-step.at r
    (subst (λ (n : ℕ). first_ancestor (graph_of same_name c.args.world.now) n c.args.name.now ≡ Some c.loop-step.at) all c.loop-step.invariant) a) c.one.ensures
