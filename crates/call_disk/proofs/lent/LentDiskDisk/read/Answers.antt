use Rattle.std.proofs.Common.{◌++◌, ◌-◌, drop, length, min, sym, ◌∙◌, ap, take}
use Rattle.call_disk.specs.Awaited.{tape_of}
use Rattle.call_disk.proofs.Lending.{lent-idle, lent-still, then-idle, written-idle}
use Rattle.call_disk.proofs.Replaying.{counted_idle, fit_idle, idle_told, pass_told}
use Rattle.call_disk.proofs.lent.LentDiskDisk.read.Goals as goal

pub invariant_of-self : goal.invariant_of-self
invariant_of-self g c =
    let disk = c.args.self.now in
    let old = tape_of disk.noted in
    let new = tape_of c.fail.new.self in
    let idle = c.fail.ensures.idle in
    record {
      counted = counted_idle old new disk.counted idle;
      fit = fit_idle g.B.Beneath.disk old new disk.fit idle;
      written = written-idle disk.is_written old new disk.written idle;
      lends = disk.lends;
    }

pub returns-then-self-clause-still : goal.returns-then-self-clause-still
returns-then-self-clause-still g c = let disk = c.args.self.now in lent-idle g.B.Beneath.disk disk.bytes.now (tape_of disk.noted) (tape_of c.fail.new.self) c.fail.ensures.idle

pub returns-then-self-clause-err : goal.returns-then-self-clause-err
returns-then-self-clause-err g c = let disk = c.args.self.now in idle_told g.B.Beneath.disk (tape_of disk.noted) (tape_of c.fail.new.self) disk.counted c.fail.ensures.idle

pub invariant_of-self-in-Some : goal.invariant_of-self-in-Some
invariant_of-self-in-Some g c =
    let disk = c.args.self.now in
    let old = tape_of disk.noted in
    let new = tape_of c.pass.new.self in
    let idle = c.pass.ensures.idle in
    record {
      counted = counted_idle old new disk.counted idle;
      fit = fit_idle g.B.Beneath.disk old new disk.fit idle;
      written = written-idle disk.is_written old new disk.written idle;
      lends = disk.lends;
    }

pub invariant_of-self-in-None : goal.invariant_of-self-in-None
invariant_of-self-in-None g c =
    let disk = c.args.self.now in
    let old = tape_of disk.noted in
    let new = tape_of c.fault.new.self in
    let idle = then-idle old (tape_of c.pass.new.self) new c.pass.ensures.idle c.fault.ensures.tape in
    record {
      counted = counted_idle old new disk.counted idle;
      fit = fit_idle g.B.Beneath.disk old new disk.fit idle;
      written = written-idle disk.is_written old new disk.written idle;
      lends = disk.lends;
    }

pub returns-in-Some-clause-count : goal.returns-in-Some-clause-count
returns-in-Some-clause-count g c =
    let disk = c.args.self.now in
    let lent = lent-still g.B.Beneath.disk disk.bytes.now (tape_of disk.noted) disk.lends (sym disk.written ∙ c.if-self.false) in
    c.copy_out.ensures.count ∙ ap (λ bytes. min (length c.args.out.now) (length bytes - c.args.at)) (sym lent)

pub returns-in-Some-clause-bytes : goal.returns-in-Some-clause-bytes
returns-in-Some-clause-bytes g c =
    let disk = c.args.self.now in
    let count = c.copy_out.result in
    let lent = lent-still g.B.Beneath.disk disk.bytes.now (tape_of disk.noted) disk.lends (sym disk.written ∙ c.if-self.false) in
    c.copy_out.ensures.bytes ∙ ap (λ bytes. take count (drop c.args.at bytes) ++ drop count c.args.out.now) (sym lent)

pub returns-in-Some-clause-still : goal.returns-in-Some-clause-still
returns-in-Some-clause-still g c = let disk = c.args.self.now in lent-idle g.B.Beneath.disk disk.bytes.now (tape_of disk.noted) (tape_of c.pass.new.self) c.pass.ensures.idle

pub returns-in-Some-clause-ok : goal.returns-in-Some-clause-ok
returns-in-Some-clause-ok g c = let disk = c.args.self.now in pass_told g.B.Beneath.disk (tape_of disk.noted) (tape_of c.pass.new.self) disk.counted c.in-Some.ensures.some

pub returns-in-None-clause-still : goal.returns-in-None-clause-still
returns-in-None-clause-still g c =
    let disk = c.args.self.now in
    let old = tape_of disk.noted in
    let new = tape_of c.fault.new.self in
    lent-idle g.B.Beneath.disk disk.bytes.now old new (then-idle old (tape_of c.pass.new.self) new c.pass.ensures.idle c.fault.ensures.tape)

pub returns-in-None-clause-err : goal.returns-in-None-clause-err
returns-in-None-clause-err g c =
    let disk = c.args.self.now in
    let old = tape_of disk.noted in
    let new = tape_of c.fault.new.self in
    idle_told g.B.Beneath.disk old new disk.counted (then-idle old (tape_of c.pass.new.self) new c.pass.ensures.idle c.fault.ensures.tape)
