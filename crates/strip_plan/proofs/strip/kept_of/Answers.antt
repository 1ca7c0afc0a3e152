use Rattle.std.proofs.Common.{◌∙◌, sym, subst}
use Rattle.assign_ids.specs.Numbers.{AreBelow}
use Rattle.strip_plan.proofs.Spreading.{places-below}
use Rattle.strip_plan.proofs.strip.kept_of.Goals as goal

pub marks_of-requires : goal.marks_of-requires
marks_of-requires c = subst (AreBelow c.args.n) (sym (c.deref.ensures.value ∙ c.in_ok-numbers.ensures)) (places-below c.args.n c.args.ids.now c.requires.ids)
