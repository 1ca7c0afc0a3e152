use Rattle.std.proofs.Common.{le_refl}
use Rattle.step_rules.proofs.Matched.{IsLater}
use Rattle.step_rules.proofs.Whences.{was-self}
use Rattle.run_rules.proofs.Matched.{run-matched}
use Rattle.run_rules.proofs.run_failures_matched.Goals as goal

pub returns : goal.returns
returns c = λ limits st st' lines replies n run i. (run-matched limits lines st st' replies run st.outside.mirrors (was-self IsLater (λ m. le_refl m.faults) st.outside.mirrors)).1 n i
