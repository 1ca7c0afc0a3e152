use Rattle.std.proofs.Common.{◌<◌, sym, ◌∙◌, ap, arith}
use Rattle.disk_trait.specs.Images.{Told, moment_of, last_moment}
use Rattle.disk_trait.proofs.Sound.{passes-sound}
use Rattle.disk_memory.specs.Scenes.{history_of, told_of}
use Rattle.disk_memory.proofs.Recording.{later, told-pass, keeps-pass}
use Rattle.disk_memory.proofs.disk.MemoryDisk.pass.Goals as goal

pub invariant_of-self : goal.invariant_of-self
invariant_of-self c =
    let t = told_of (history_of c.args.self.now.start.items c.args.self.now.calls.items c.args.self.now.idle) in
    let p = told-pass c.args.self.now.start.items c.args.self.now.calls.items c.args.self.now.idle in
    let early : moment_of t < last_moment = (let n = c.args.self.now.time in let r = c.requires in omega (arith, n, r)) in
    record {
      holds = c.args.self.now.holds ∙ sym (ap (λ (u : Told). u.bytes) p);
      time = later t _ t.now t.now t.bytes c.args.self.now.clock p c.args.self.now.time;
      few = (let f = c.args.self.now.few in omega (arith, f));
      sound = passes-sound t _ c.args.self.now.sound (early, p);
    }

pub returns-clause-told : goal.returns-clause-told
returns-clause-told c = told-pass c.args.self.now.start.items c.args.self.now.calls.items c.args.self.now.idle

pub returns-clause-kept : goal.returns-clause-kept
returns-clause-kept c = keeps-pass c.args.self.now.start.items c.args.self.now.calls.items c.args.self.now.idle
