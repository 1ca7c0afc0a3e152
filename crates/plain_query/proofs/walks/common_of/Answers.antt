use Rattle.std.proofs.Common.{◌≤◌, List, length, subst}
use Rattle.id_groups.specs.Name.{Name, same_name}
use Rattle.commit_graph.specs.Graph.{graph_of}
use Rattle.plain_query.proofs.Collecting.{at-place, shared-none, shared-more, shared-all}
use Rattle.plain_query.proofs.walks.common_of.Goals as goal

pub loop-name-init : goal.loop-name-init
loop-name-init c = shared-none (graph_of same_name c.args.world.now) c.args.set.now c.in_ok-members.members c.in_ok-members.ensures

pub loop-name-preserved : goal.loop-name-preserved
loop-name-preserved c =
    shared-more (graph_of same_name c.args.world.now) c.names-name-items.result.now c.args.set.now c.names-name-items.ensures c.loop-name.name-index c.name-item.result
    (at-place c.names-name-items.result.now c.loop-name.name-index c.name-item.result c.loop-name-test.true c.name-item.is) c.loop-name.members c.loop-name.invariant
    c.in_ok-only.only c.in_ok-only.ensures c.in_ok-reached.reached c.in_ok-reached.ensures c.in_ok-shared.shared c.in_ok-shared.ensures

pub returns : goal.returns
returns c =
    shared-all (graph_of same_name c.args.world.now) c.args.set.now c.loop-name.name-index
    (subst (λ (l : List Name). length l ≤ c.loop-name.name-index) c.names-name-items.ensures c.loop-name-test.false) c.loop-name.members c.loop-name.invariant
