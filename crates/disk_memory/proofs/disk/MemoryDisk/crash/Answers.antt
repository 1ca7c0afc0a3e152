use Rattle.std.proofs.Common.{ℕ, List, sym, ◌∙◌, ap, subst}
use Rattle.disk_trait.specs.Images.{Told, fresh_disk}
use Rattle.disk_memory.specs.Scenes.{scene_at}
use Rattle.disk_memory.specs.Tells.{history, tells}
use Rattle.disk_memory.specs.Chosen.{IsChosen}
use Rattle.disk_memory.proofs.Covering.{left-chosen, if_ok}
use Rattle.disk_memory.proofs.disk.MemoryDisk.crash.Goals as goal

pub returns-clause-chosen : goal.returns-clause-chosen
returns-clause-chosen c = if_ok c.new.result _ _ (λ disk told.
    subst (λ (l : List ℕ). IsChosen (scene_at (history c.args.self.now) c.args.choice.now.moment) c.args.choice.now.fill c.args.choice.now.size l) (sym (ap (λ (t : Told). t.bytes) told ∙ c.deref.ensures.value)) c.in_ok-image.ensures) c.new.ensures.tells

pub returns-clause-left : goal.returns-clause-left
returns-clause-left c = if_ok c.new.result _ _ (λ disk told.
    left-chosen (history c.args.self.now) c.args.choice.now.moment c.args.choice.now.fill c.args.choice.now.size (tells disk).bytes
    (subst (λ (l : List ℕ). IsChosen (scene_at (history c.args.self.now) c.args.choice.now.moment) c.args.choice.now.fill c.args.choice.now.size l) (sym (ap (λ (t : Told). t.bytes) told ∙ c.deref.ensures.value)) c.in_ok-image.ensures)) c.new.ensures.tells

pub returns-clause-fresh : goal.returns-clause-fresh
returns-clause-fresh c = if_ok c.new.result _ _ (λ disk told. told ∙ ap fresh_disk (sym (ap (λ (t : Told). t.bytes) told))) c.new.ensures.tells
