use Rattle.std.proofs.Common.{arith}
use Rattle.id_groups.specs.Name.{same_name}
use Rattle.id_groups.proofs.Names.{same_name-exact, same_name-self}
use Rattle.plain_query.proofs.Gathering.{names-none, names-more, names-all}
use Rattle.plain_query.proofs.Alike.{front-at, masters-meant}
use Rattle.plain_query.proofs.words.masters_of.Goals as goal

pub loop-place-init : goal.loop-place-init
loop-place-init c = names-none c.args.world.now.master c.none-members.result c.none-members.ensures

pub loop-place-preserved : goal.loop-place-preserved
loop-place-preserved c =
    names-more c.args.world.now.master c.loop-place.place c.row_at_place.result.now
    (front-at c.args.world.now.master c.args.world.now.others c.loop-place.place c.row_at_place.result.now (omega (arith, c.loop-place-test.true, c.master_count-place-end.ensures.count)) c.row_at_place.ensures)
    c.loop-place.members c.loop-place.invariant c.name.result.now c.name.ensures c.add.new.self c.in_ok-add.ensures

pub returns : goal.returns
returns c =
    masters-meant same_name same_name-exact same_name-self c.args.world.now c.loop-place.members
    (names-all c.args.world.now.master c.loop-place.place (omega (arith, c.loop-place-test.false, c.master_count-place-end.ensures.count)) c.loop-place.members c.loop-place.invariant)
