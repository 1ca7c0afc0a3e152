use Rattle.std.proofs.Common.{◌≤◌, ◌+◌, ◌^◌, arith}
use Rattle.call_disk.proofs.Idle.{behind-sound, missing-told, refuses-told}
use Rattle.call_disk.proofs.owned.OwnedDisk.pass.Goals as goal

pub returns-then-not-self-clause-refuses : goal.returns-then-not-self-clause-refuses
returns-then-not-self-clause-refuses c = missing-told c.args.self.now.is_there c.args.self.now.bytes.items c.args.self.now.calls c.if-not-self.true

pub returns-then-self-ge-CALL_LIMIT-clause-refuses : goal.returns-then-self-ge-CALL_LIMIT-clause-refuses
returns-then-self-ge-CALL_LIMIT-clause-refuses c = refuses-told c.args.self.now.is_there c.args.self.now.bytes.items c.args.self.now.calls c.if-self-ge-CALL_LIMIT.true

pub invariant_of-self : goal.invariant_of-self
invariant_of-self c =
    let few : c.args.self.now.calls + 1 ≤ 2 ^ 61 = (let n = c.if-self-ge-CALL_LIMIT.false in omega (arith, n)) in
    record { few = few; sound = behind-sound c.args.self.now.bytes.items (c.args.self.now.calls + 1) few }
