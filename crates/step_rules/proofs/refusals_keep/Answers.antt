use Rattle.std.proofs.Common.{refl}
use Rattle.step_rules.specs.Reply.{Refused}
use Rattle.step_rules.proofs.Refused.{refused-kept}
use Rattle.step_rules.proofs.refusals_keep.Goals as goal

pub returns : goal.returns
returns c = λ limits st st' s verb refusal step. refused-kept limits st s (Refused refusal) refl verb st' step
