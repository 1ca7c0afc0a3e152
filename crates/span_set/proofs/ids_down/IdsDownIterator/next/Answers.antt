use Rattle.std.proofs.Common.{◌<◌, refl, length, arith, ap}
use Rattle.span_set.proofs.Counts.{next-span, not-empty}
use Rattle.span_set.proofs.ids_down.IdsDownIterator.next.Goals as goal

pub returns-clause-steps : goal.returns-clause-steps
returns-clause-steps c =
    let it = c.args.self.now in
    let some : 0 < length it.rest.now = not-empty c.is_empty.result (length it.rest.now) c.is_empty.ensures c.if-is_empty.false in
    next-span it.low it.end c.number-self.result c.number-self-2.result it.rest.now _ c.index-self-0.result some it.filled c.if-self.false
    c.number-self.ensures.number c.number-self-2.ensures.number refl

pub returns-clause-goes : goal.returns-clause-goes
returns-clause-goes c =
    let it = c.args.self.now in
    let some : 0 < length it.rest.now = not-empty c.is_empty.result (length it.rest.now) c.is_empty.ensures c.if-is_empty.false in
    let steps = next-span it.low it.end c.number-self.result c.number-self-2.result it.rest.now _ c.index-self-0.result some it.filled c.if-self.false
    c.number-self.ensures.number c.number-self-2.ensures.number refl in
    record { on = λ f. (tt, tt, let n = ap length steps in omega (arith, n)); keeps = tt; rests = λ f. tt }
