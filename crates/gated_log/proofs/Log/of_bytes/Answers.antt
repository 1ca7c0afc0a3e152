use Rattle.std.proofs.Common.{length, vec_capacity, take, ◌+◌, ◌∙◌, ap, arith}
use Rattle.gated_log.specs.Held.{room_of}
use Rattle.gated_log.proofs.Loading.{loaded}
use Rattle.gated_log.proofs.Log.of_bytes.Goals as goal

pub invariant_of-result : goal.invariant_of-result
invariant_of-result c = (loaded c.args.bytes.now.items c.deref.result.now c.in_ok-found.found.open_gates.items c.truncate.new.self.items c.args.limit (room_of (vec_capacity c.truncate.new.self) (vec_capacity c.in_ok-found.found.open_gates) (length c.in_ok-found.found.open_gates.items)) c.in_ok-found.found.closed c.in_ok-found.ensures c.deref.ensures.value (c.truncate.ensures.items ∙ ap (λ v. take (c.in_ok-found.found.closed + 1) v.items) c.replace-bytes.ensures.value) (omega arith) c.requires.fits c.requires.limit.1).0

pub returns-clause-loads : goal.returns-clause-loads
returns-clause-loads c = (loaded c.args.bytes.now.items c.deref.result.now c.in_ok-found.found.open_gates.items c.truncate.new.self.items c.args.limit (room_of (vec_capacity c.truncate.new.self) (vec_capacity c.in_ok-found.found.open_gates) (length c.in_ok-found.found.open_gates.items)) c.in_ok-found.found.closed c.in_ok-found.ensures c.deref.ensures.value (c.truncate.ensures.items ∙ ap (λ v. take (c.in_ok-found.found.closed + 1) v.items) c.replace-bytes.ensures.value) (omega arith) c.requires.fits c.requires.limit.1).1
