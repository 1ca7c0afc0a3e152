use Rattle.std.proofs.Common.{arith, subst}
use Rattle.id_groups.specs.Name.{IsName}
use Rattle.commit_graph.proofs.Naming.{all-each}
use Rattle.commit_graph.proofs.Places.{each-at, more-at, name-of-bytes}
use Rattle.store_plans.proofs.lookup.are_names.Goals as goal

pub loop-name-preserved : goal.loop-name-preserved
loop-name-preserved c =
    more-at IsName c.args.names.now c.loop-name.name-index c.name-item.result c.loop-name.invariant c.name-item.is
    (subst IsName c.lend-bytes.ensures (name-of-bytes c.lend-bytes.result.bytes.now c.lend-bytes.result.has_20 c.lend-bytes.result.of_bytes))

pub returns : goal.returns
returns c = all-each IsName c.args.names.now (each-at IsName c.args.names.now (λ k y lt at. c.loop-name.invariant k y (omega (arith, lt, c.loop-name-test.false)) at))
