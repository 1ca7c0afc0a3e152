use Rattle.remote_trait.proofs.Ruled.{names-ruled, serves-ruled}
use Rattle.remote_trait.proofs.laws.answers_are_ruled.Goals as goal

pub returns-clause-names : goal.returns-clause-names
returns-clause-names c = names-ruled

pub returns-clause-serves : goal.returns-clause-serves
returns-clause-serves c = serves-ruled
