use Rattle.std.proofs.Common.{refl}
use Rattle.dag_run.proofs.laws.words_spelled_out.Goals as goal

pub returns-clause-parts : goal.returns-clause-parts
returns-clause-parts c = refl

pub returns-clause-second : goal.returns-clause-second
returns-clause-second c = refl

pub returns-clause-first : goal.returns-clause-first
returns-clause-first c = refl
