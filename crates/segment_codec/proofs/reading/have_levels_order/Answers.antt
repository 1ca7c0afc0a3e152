use Rattle.std.proofs.Common.{sym, arith}
use Rattle.segment_codec.specs.Lent.{parents_left}
use Rattle.segment_codec.proofs.Orders.{few-in-order}
use Rattle.segment_codec.proofs.reading.have_levels_order.Goals as goal

pub returns-then-count-le1 : goal.returns-then-count-le1
returns-then-count-le1 c =
    let e = c.requires in
    sym (few-in-order c.args.level (parents_left c.args.parents) (omega (arith, e, c.if-count-le1.true)))
