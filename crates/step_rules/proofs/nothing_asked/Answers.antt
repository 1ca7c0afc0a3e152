use Rattle.step_rules.proofs.Plain.{command-from, command-back}
use Rattle.step_rules.proofs.nothing_asked.Goals as goal

pub returns-clause-from : goal.returns-clause-from
returns-clause-from c = λ limits st now s verb reply i h. command-from limits st s h verb reply now i

pub returns-clause-back : goal.returns-clause-back
returns-clause-back c = λ limits st st' s verb reply i h. command-back limits st s h verb reply st' i
