use Rattle.std.proofs.Common.{◌≡◌, ◌-◌, ℕ, length, take, drop, ◌∙◌, arith, length-drop}
use Rattle.outside.proofs.ToldLemmas.{WhereTold-join}
use Rattle.remote_pipe.proofs.Taking.{took-more, mid-long, mid-front}
use Rattle.remote_pipe.proofs.exchange.take_exactly.Goals as goal

pub takes-preserved : goal.takes-preserved
takes-preserved g c =
    let inv = c.takes.invariant in
    let within = inv.within in
    let bound = c.in-Ok.ensures.bound.0 in
    let out = c.take.new.out in
    let size : length out ≡ length (drop c.takes.at c.takes.out) = omega (arith, length-drop {A = ℕ} c.takes.at c.takes.out) in
    let long = mid-long c.takes.out out c.takes.at within size in
    record {
      within = omega (arith, long, within, bound, size, length-drop {A = ℕ} c.takes.at c.takes.out);
      len = long ∙ inv.len;
      took = WhereTold-join (g.L.Link.peer c.args.link.now) (g.L.Link.peer c.takes.link) (g.L.Link.peer c.take.new.self) _ _ _
          (λ x y z p q. took-more (take c.takes.at c.takes.out) (take c.in-Ok.count out) _ x y z (mid-front c.takes.out out c.takes.at c.in-Ok.count within bound) p
          (record { split = q.bytes.0; taken = q.taken; mirror = q.mirror })) inv.took c.in-Ok.ensures.takes;
      served = c.take.ensures.served ∙ inv.served;
      put_faults = let a = inv.put_faults in let b = c.take.ensures.others in omega (arith, a, b);
      take_faults = let a = inv.take_faults in let b = c.take.ensures.cause.later in omega (arith, a, b);
    }
