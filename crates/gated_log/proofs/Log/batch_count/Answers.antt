use Rattle.std.proofs.Common.{[], ◌∷◌, length, ap, arith, length-append}
use Rattle.gated_log.specs.Log.{batches}
use Rattle.gated_log.specs.Held.{Held, payloads_at, gate_of}
use Rattle.gated_log.proofs.Places.{length-payloads_at}
use Rattle.gated_log.proofs.Shapes.{count-le}
use Rattle.gated_log.proofs.Log.batch_count.Goals as goal

pub overflow_cast-result : goal.overflow_cast-result
overflow_cast-result c =
    let ps = payloads_at c.self.inside.gates.items c.self.inside.bytes.items in
    let n = length-payloads_at c.self.inside.gates.items c.self.inside.bytes.items in
    let w = c.self.invariant in
    let whole = ap length w.whole in
    let within = w.within in
    let largest = w.largest in
    omega (arith, n, whole, within, largest, count-le ps, length-append (batches ps) (gate_of c.self.inside.bytes.items ∷ []), c.self.inside.gates.ok.0)

pub returns : goal.returns
returns c =
    let n = length-payloads_at c.self.inside.gates.items c.self.inside.bytes.items in
    let e = ap (λ (l : Held). length l.payloads) c.self.view_is in
    omega (arith, n, e, c.self.inside.gates.ok.0)
