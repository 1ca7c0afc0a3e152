use Rattle.std.proofs.Common.{arith, refl, sym, ◌-◌, true≢false}
use Rattle.id_groups.specs.Name.{same_name}
use Rattle.commit_graph.specs.World.{rows_of}
use Rattle.plain_query.specs.Members.{among}
use Rattle.plain_query.proofs.Filtering.{filtered-push, filtered-keep, filtered-all}
use Rattle.plain_query.proofs.evaluation.listed.Goals as goal

pub loop-place-preserved-in-Continue-1 : goal.loop-place-preserved-in-Continue-1
loop-place-preserved-in-Continue-1 c =
    filtered-push (among c.args.set.now) (rows_of c.args.world.now) c.loop-place.place (c.loop-place.place - 1)
    (omega (arith, c.loop-place-test.true)) c.row_at_place.result.now c.row_at_place.ensures c.loop-place.names.items c.loop-place.invariant
    c.name-name.result.now c.name-name.ensures (c.if-has.ensures.0 refl) c.push.new.self.items c.in_ok-push.ensures.items

pub loop-place-preserved : goal.loop-place-preserved
loop-place-preserved c =
    filtered-keep (among c.args.set.now) (rows_of c.args.world.now) c.loop-place.place (c.loop-place.place - 1)
    (omega (arith, c.loop-place-test.true)) c.row_at_place.result.now c.row_at_place.ensures c.loop-place.names.items c.loop-place.invariant
    c.name-name.result.now c.name-name.ensures (λ p. true≢false (sym (c.if-has.ensures.1 p))) c.loop-place.names.items refl

pub returns : goal.returns
returns c =
    filtered-all same_name c.args.world.now (among c.args.set.now) c.loop-place.place (omega (arith, c.loop-place-test.false)) c.loop-place.names.items c.loop-place.invariant
