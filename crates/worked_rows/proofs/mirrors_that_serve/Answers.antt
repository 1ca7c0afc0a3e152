use Rattle.worked_rows.proofs.Serving.{serves-fresh, serve-ten, begins-twelve, begin-cloned}
use Rattle.worked_rows.proofs.mirrors_that_serve.Goals as goal

pub returns-clause-fresh : goal.returns-clause-fresh
returns-clause-fresh c = serves-fresh

pub returns-clause-two : goal.returns-clause-two
returns-clause-two c = serve-ten

pub returns-clause-pulled : goal.returns-clause-pulled
returns-clause-pulled c = begins-twelve

pub returns-clause-cloned : goal.returns-clause-cloned
returns-clause-cloned c = begin-cloned
