use Rattle.lazy_names.proofs.Tellings.{runs-front, ahead-zero, ahead-join, ahead-runs, ahead-names}
use Rattle.lazy_names.proofs.Once.{once-all}
use Rattle.lazy_names.proofs.laws.tellings_are_asked.Goals as goal

pub returns-clause-front : goal.returns-clause-front
returns-clause-front c = λ flats known entries ids told asked lawful once h g le. runs-front flats known entries ids told asked lawful once h g le

pub returns-clause-runs : goal.returns-clause-runs
returns-clause-runs c = λ flats known entries ids runs count lawful h. ahead-runs flats known entries ids runs count lawful h

pub returns-clause-names : goal.returns-clause-names
returns-clause-names c = λ flats known entries ids runs count h. ahead-names flats known entries ids runs count h

pub returns-clause-once : goal.returns-clause-once
returns-clause-once c = λ map added is. once-all 0 added is.follow

pub returns-clause-nothing : goal.returns-clause-nothing
returns-clause-nothing c = λ flats known entries ids runs h. ahead-zero flats known entries ids runs h

pub returns-clause-joined : goal.returns-clause-joined
returns-clause-joined c = λ flats known entries ids asked told count h g. ahead-join flats known entries ids asked told count h g
