use Rattle.std.proofs.Common.{subst}
use Rattle.payload_tables.specs.Pending.{FindsRow}
use Rattle.payload_tables.proofs.Naming.{held-row}
use Rattle.payload_tables.proofs.pending.PendingRows.push.Goals as goal

pub returns-clause-pushed : goal.returns-clause-pushed
returns-clause-pushed c = λ rows h.
    c.push_row.ensures.pushed rows h
    (held-row rows c.args.name.now c.find.result c.is_some-is_held.result (subst (λ x. FindsRow rows x c.find.result) c.lend.ensures (c.find.ensures rows h)) c.is_some-is_held.ensures)
