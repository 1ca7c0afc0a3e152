use Rattle.std.proofs.Common.{arith, refl, sym, ap, ◌∙◌, ◌-◌, take, true≢false}
use Rattle.id_groups.specs.Name.{same_name}
use Rattle.id_groups.proofs.Names.{same_name-exact, same_name-self}
use Rattle.commit_graph.specs.World.{rows_of}
use Rattle.commit_graph.specs.Graph.{graph_of}
use Rattle.plain_query.proofs.Gathering.{first, reached-none, reached-put, reached-left, reached-all}
use Rattle.plain_query.proofs.walks.line_of.Goals as goal

pub loop-place-init : goal.loop-place-init
loop-place-init c =
    reached-none first (graph_of same_name c.args.world.now) (rows_of c.args.world.now) c.args.set.now c.row_count-place.result (omega (arith, c.row_count-place.ensures.count)) c.in_ok-members.members c.in_ok-members.ensures

pub loop-place-preserved-in-Continue-branch-2 : goal.loop-place-preserved-in-Continue-branch-2
loop-place-preserved-in-Continue-branch-2 c =
    reached-put same_name same_name-exact same_name-self c.args.world.now c.row_count-place.ensures.world first c.loop-place.place (c.loop-place.place - 1)
    (omega (arith, c.loop-place-test.true)) c.row_at_place-row.result.now c.row_at_place-row.ensures c.args.set.now c.loop-place.members c.loop-place.invariant
    c.name.result.now c.name.ensures (c.if-has.ensures.0 refl) c.first_names.result.now (c.first_names.ensures ∙ ap (take 1) c.parents.ensures) c.add_all.new.self c.in_ok-add_all.ensures

pub loop-place-preserved : goal.loop-place-preserved
loop-place-preserved c =
    reached-left same_name same_name-exact same_name-self c.args.world.now c.row_count-place.ensures.world first c.loop-place.place (c.loop-place.place - 1)
    (omega (arith, c.loop-place-test.true)) c.row_at_place-row.result.now c.row_at_place-row.ensures c.args.set.now c.loop-place.members c.loop-place.invariant
    c.name.result.now c.name.ensures (λ s. true≢false (sym (c.if-has.ensures.1 s)))

pub returns : goal.returns
returns c =
    reached-all same_name same_name-exact same_name-self c.args.world.now c.row_count-place.ensures.world first c.loop-place.place
    (omega (arith, c.loop-place-test.false)) c.args.set.now c.loop-place.members c.loop-place.invariant
