use Rattle.std.proofs.Common.{sym, subst}
use Rattle.payload_tables.specs.Kept.{AreTablesOf}
use Rattle.dag_store.proofs.loading.boxed_tables.Goals as goal

pub returns-clause-ok : goal.returns-clause-ok
returns-clause-ok c =
    let read = c.in_ok-tables.ensures.ok in
    (read.0, subst (λ t. AreTablesOf t read.0) (sym c.in_ok-boxed.ensures.ok) read.1, read.2, read.3, read.4)
