use Rattle.mirror_set.proofs.Ruled.{ask-ruled, turns-ruled, clone-ruled}
use Rattle.mirror_set.proofs.Pulled.{fresh-ruled}
use Rattle.mirror_set.proofs.laws.asks_are_ruled.Goals as goal

pub returns-clause-names : goal.returns-clause-names
returns-clause-names c = ask-ruled

pub returns-clause-turns : goal.returns-clause-turns
returns-clause-turns c = turns-ruled

pub returns-clause-clone : goal.returns-clause-clone
returns-clause-clone c = clone-ruled

pub returns-clause-pull : goal.returns-clause-pull
returns-clause-pull c = fresh-ruled
