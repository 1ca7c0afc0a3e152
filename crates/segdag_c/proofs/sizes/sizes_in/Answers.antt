use Rattle.std.proofs.Common.{refl}
use Rattle.step_rules.specs.Verb.{Status}
use Rattle.step_rules.specs.Reply.{Sizes}
use Rattle.segdag_c.proofs.Beside.{none-asked, tells}
use Rattle.segdag_c.proofs.sizes.sizes_in.Goals as goal

pub returns : goal.returns
returns c = λ mirrors.
    tells mirrors c.args.store.now c.args.session Status (Sizes c.status.result.master c.status.result.others c.status.result.pending) refl (λ began st stands. none-asked _ _ mirrors) c.status.ensures
