use Rattle.lazy_names.proofs.Ruled.{find-ruled, fetch-ruled, whole-ruled, no-remote-ruled, all-failed-ruled}
use Rattle.lazy_names.proofs.laws.asks_are_ruled.Goals as goal

pub returns-clause-find : goal.returns-clause-find
returns-clause-find c = find-ruled

pub returns-clause-fetch : goal.returns-clause-fetch
returns-clause-fetch c = λ all gained before now fault h. fetch-ruled all gained before now fault h

pub returns-clause-whole : goal.returns-clause-whole
returns-clause-whole c = λ all gained before now h. whole-ruled all gained before now h

pub returns-clause-no_remote : goal.returns-clause-no_remote
returns-clause-no_remote c = λ all gained before now le h. no-remote-ruled all gained before now le h

pub returns-clause-all_failed : goal.returns-clause-all_failed
returns-clause-all_failed c = all-failed-ruled
