use Rattle.std.proofs.Common.{◌≡◌, ap, ◌∙◌, sym, arith, List, Vec, ℕ}
use Rattle.std.specs.declared.alloc.Global.{Global}
use Rattle.link_memory.specs.Over.{coming_of}
use Rattle.link_memory.proofs.Over.{next-frame}
use Rattle.link_memory.proofs.coming.move_on.Goals as goal

pub frames-preserved : goal.frames-preserved
frames-preserved c =
    let inv = c.frames.invariant in
    record {
      within = omega arith;
      same = next-frame c.frames.at c.frames.first.items c.in-Some.frame c.pop_front.new.self.items (omega arith)
          ∙ ap (λ (l : List (Vec ℕ Global)). coming_of c.frames.at c.frames.first.items l) (sym c.in-Some.ensures.items) ∙ inv.same;
    }
