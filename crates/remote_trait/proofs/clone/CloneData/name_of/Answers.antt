use Rattle.std.proofs.Common.{◌∙◌, sym, subst, ap}
use Rattle.remote_rules.specs.CloneData.{CloneData}
use Rattle.remote_trait.specs.Broken.{AscendFrom}
use Rattle.remote_trait.proofs.Items.{ascend-unbroken}
use Rattle.remote_trait.proofs.clone.CloneData.name_of.Goals as goal

pub name_of-requires : goal.name_of-requires
name_of-requires c = subst (AscendFrom 0) (sym (c.as_slice.ensures.items ∙ ap (λ (t : CloneData). t.names) c.self.view_is)) (ascend-unbroken c.args.self.now c.requires)
