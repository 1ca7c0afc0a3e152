use Rattle.std.proofs.Common.{◌<◌, refl, sym, ◌∙◌, ap, arith}
use Rattle.disk_trait.specs.Images.{Told, surely, moment_of, last_moment}
use Rattle.disk_trait.proofs.Sound.{syncs-sound}
use Rattle.disk_memory.specs.Scenes.{history_of, told_of}
use Rattle.disk_memory.proofs.Recording.{later, told-sync, keeps-push}
use Rattle.disk_memory.proofs.disk.MemoryDisk.keep_sync.Goals as goal

pub invariant_of-self-2 : goal.invariant_of-self-2
invariant_of-self-2 c =
    let t = told_of (history_of c.args.self.now.start.items c.args.self.now.calls.items c.args.self.now.idle) in
    let p = told-sync c.args.self.now.start.items c.args.self.now.calls.items c.push.new.self.items _ c.in_ok-push.ensures.items refl in
    let early : moment_of t < last_moment = (let n = c.args.self.now.time in let r = c.requires in omega (arith, n, r)) in
    record {
      holds = c.args.self.now.holds ∙ sym (ap (λ (u : Told). u.bytes) p);
      time = later t _ t.now (surely t.bytes) t.bytes c.args.self.now.clock p c.args.self.now.time;
      few = omega arith;
      sound = syncs-sound t _ c.args.self.now.sound (early, p);
    }

pub returns-clause-ok : goal.returns-clause-ok
returns-clause-ok c = told-sync c.args.self.now.start.items c.args.self.now.calls.items c.push.new.self.items _ c.in_ok-push.ensures.items refl

pub returns-clause-kept : goal.returns-clause-kept
returns-clause-kept c = keeps-push c.args.self.now.start.items c.args.self.now.calls.items c.push.new.self.items _ c.in_ok-push.ensures.items
