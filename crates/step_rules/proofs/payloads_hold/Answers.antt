use Rattle.step_rules.proofs.Held.{step-held}
use Rattle.step_rules.proofs.payloads_hold.Goals as goal

pub returns : goal.returns
returns c = λ limits st st' s verb reply fair state h step. step-held limits fair st s state h verb reply st' step
