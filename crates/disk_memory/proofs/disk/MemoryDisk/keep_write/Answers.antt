use Rattle.std.proofs.Common.{◌≡◌, ◌<◌, ℕ, List, length, refl, sym, ◌∙◌, ap, arith}
use Rattle.disk_trait.specs.Images.{Told, moment_of, last_moment}
use Rattle.disk_trait.specs.Calls.{overwritten, with_range}
use Rattle.disk_trait.proofs.Sound.{writes-sound}
use Rattle.disk_memory.specs.Scenes.{history_of, told_of}
use Rattle.disk_memory.proofs.Recording.{later, told-write, keeps-push}
use Rattle.disk_memory.proofs.disk.MemoryDisk.keep_write.Goals as goal

pub invariant_of-self-2 : goal.invariant_of-self-2
invariant_of-self-2 c =
    let t = told_of (history_of c.args.self.now.start.items c.args.self.now.calls.items c.args.self.now.idle) in
    let lost = with_range t.now c.args.at (length c.args.piece.now) in
    let p = told-write c.args.self.now.start.items c.args.self.now.calls.items c.push.new.self.items _ c.args.at c.in_ok-kept.kept c.args.piece.now c.in_ok-push.ensures.items refl c.in_ok-kept.ensures.items c.requires.at in
    let was : c.deref.result.now ≡ t.bytes = c.deref.ensures.value ∙ c.args.self.now.holds in
    let early : moment_of t < last_moment = (let n = c.args.self.now.time in let r = c.requires.time in omega (arith, n, r)) in
    record {
      holds = c.in_ok-next.ensures ∙ ap (λ (l : List ℕ). overwritten l c.args.at c.args.piece.now) was ∙ sym (ap (λ (u : Told). u.bytes) p);
      time = later t _ lost lost (overwritten t.bytes c.args.at c.args.piece.now) c.args.self.now.clock p c.args.self.now.time;
      few = omega arith;
      sound = writes-sound c.args.at c.args.piece.now t _ c.args.self.now.sound c.requires.at (early, p);
    }

pub returns-clause-ok : goal.returns-clause-ok
returns-clause-ok c = told-write c.args.self.now.start.items c.args.self.now.calls.items c.push.new.self.items _ c.args.at c.in_ok-kept.kept c.args.piece.now c.in_ok-push.ensures.items refl c.in_ok-kept.ensures.items c.requires.at

pub returns-clause-kept : goal.returns-clause-kept
returns-clause-kept c = keeps-push c.args.self.now.start.items c.args.self.now.calls.items c.push.new.self.items _ c.in_ok-push.ensures.items
