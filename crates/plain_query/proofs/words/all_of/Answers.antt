use Rattle.std.proofs.Common.{arith}
use Rattle.id_groups.specs.Name.{same_name}
use Rattle.commit_graph.specs.World.{rows_of}
use Rattle.plain_query.proofs.Gathering.{names-none, names-more, names-all}
use Rattle.plain_query.proofs.Filtering.{all-down}
use Rattle.plain_query.proofs.words.all_of.Goals as goal

pub loop-place-init : goal.loop-place-init
loop-place-init c = names-none (rows_of c.args.world.now) c.none-members.result c.none-members.ensures

pub loop-place-preserved : goal.loop-place-preserved
loop-place-preserved c =
    names-more (rows_of c.args.world.now) c.loop-place.place c.row_at_place.result.now c.row_at_place.ensures c.loop-place.members c.loop-place.invariant
    c.name.result.now c.name.ensures c.add.new.self c.in_ok-add.ensures

pub returns : goal.returns
returns c =
    all-down same_name c.args.world.now c.loop-place.members
    (names-all (rows_of c.args.world.now) c.loop-place.place (omega (arith, c.loop-place-test.false, c.row_count-place-end.ensures.count)) c.loop-place.members c.loop-place.invariant)
