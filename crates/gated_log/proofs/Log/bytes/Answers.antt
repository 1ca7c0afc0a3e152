use Rattle.std.proofs.Common.{◌≡◌, [], length, sym, ap, subst, ◌∙◌, arith}
use Rattle.gated_log.specs.Log.{log_length, StandBehind}
use Rattle.gated_log.specs.Held.{Held, payloads_at, gate_of}
use Rattle.gated_log.specs.Holding.{IsLogWithin}
use Rattle.gated_log.proofs.Places.{length-log, stand-behind}
use Rattle.gated_log.proofs.Shapes.{is_log}
use Rattle.gated_log.proofs.Log.bytes.Goals as goal

pub returns-clause-log : goal.returns-clause-log
returns-clause-log c =
    let w = c.self.invariant in
    let long = ap length c.deref.ensures.value in
    let within = w.within in
    subst (λ (l : Held). IsLogWithin l.limit l.payloads c.deref.result.now) c.self.view_is
    (omega (arith, long, within), is_log c.deref.result.now (payloads_at c.self.inside.gates.items c.self.inside.bytes.items) (gate_of c.self.inside.bytes.items) [] w.lengths w.closed (c.deref.ensures.value ∙ w.whole))

pub returns-clause-size : goal.returns-clause-size
returns-clause-size c =
    let w = c.self.invariant in
    subst (λ (l : Held). length c.deref.result.now ≡ log_length l.payloads) c.self.view_is
    (ap length (c.deref.ensures.value ∙ w.whole) ∙ length-log (payloads_at c.self.inside.gates.items c.self.inside.bytes.items) (gate_of c.self.inside.bytes.items))

pub returns-clause-places : goal.returns-clause-places
returns-clause-places c =
    let ps = payloads_at c.self.inside.gates.items c.self.inside.bytes.items in
    let w = c.self.invariant in
    subst (λ (l : Held). StandBehind 0 l.payloads c.deref.result.now) c.self.view_is
    (subst (StandBehind 0 ps) (sym (c.deref.ensures.value ∙ w.whole)) (stand-behind ps (gate_of c.self.inside.bytes.items)))
