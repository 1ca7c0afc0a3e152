use Rattle.std.proofs.Common.{sym, ◌∙◌}
use Rattle.store_queries.specs.Names.{names_left}
use Rattle.segdag_c.proofs.calls.join_found.Goals as goal

pub returns-in-Ok-clause-names : goal.returns-in-Ok-clause-names
returns-in-Ok-clause-names c = (names_left c.names.result, sym c.in-Ok.ensures, λ began st names stands are. c.names.ensures began st names stands are)
