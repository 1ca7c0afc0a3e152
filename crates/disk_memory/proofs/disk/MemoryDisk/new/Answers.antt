use Rattle.std.proofs.Common.{◌≡◌, ℕ, List, sym, ◌∙◌, ap, subst, arith}
use Rattle.disk_trait.specs.Images.{Told, IsSound, moment_of, fresh_disk}
use Rattle.disk_trait.proofs.Sound.{fresh-sound}
use Rattle.disk_memory.specs.declared.call.Call.{Call}
use Rattle.disk_memory.specs.Scenes.{history_of, told_of}
use Rattle.disk_memory.proofs.Recording.{told-new}
use Rattle.disk_memory.proofs.disk.MemoryDisk.new.Goals as goal

pub invariant_of-result : goal.invariant_of-result
invariant_of-result c =
    let same : told_of (history_of c.in_ok-from_slice.field-0.items c.new.result.items 0) ≡ fresh_disk c.args.bytes.now =
    ap (λ (l : List ℕ). told_of (history_of l c.new.result.items 0)) c.in_ok-from_slice.ensures.items ∙ ap (λ (l : List Call). told_of (history_of c.args.bytes.now l 0)) c.new.ensures.items ∙ told-new c.args.bytes.now in
    record {
      holds = c.in_ok-from_slice-2.ensures.items ∙ sym (ap (λ (u : Told). u.bytes) same);
      time = ap moment_of same;
      few = omega arith;
      sound = subst IsSound (sym same) (fresh-sound c.args.bytes.now);
    }

pub returns-clause-tells : goal.returns-clause-tells
returns-clause-tells c = ap (λ (l : List ℕ). told_of (history_of l c.new.result.items 0)) c.in_ok-from_slice.ensures.items ∙ ap (λ (l : List Call). told_of (history_of c.args.bytes.now l 0)) c.new.ensures.items ∙ told-new c.args.bytes.now
