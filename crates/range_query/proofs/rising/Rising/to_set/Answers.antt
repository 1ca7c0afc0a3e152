use Rattle.std.proofs.Common.{arith, ◌-◌, subst, sym}
use Rattle.range_query.proofs.RisingLemmas.{span-at}
use Rattle.id_groups.specs.Span.{IsSpan}
use Rattle.range_query.proofs.rising.Rising.to_set.Goals as goal

pub insert_span-requires : goal.insert_span-requires
insert_span-requires c = subst IsSpan (sym c.index.ensures) (span-at c.self.inside.spans.items (c.down.i - 1) c.index.result.now c.self.invariant (omega (arith, c.down-test.true, c.down.auto.i, c.len-i.ensures, c.self.inside.spans.ok.0)))
