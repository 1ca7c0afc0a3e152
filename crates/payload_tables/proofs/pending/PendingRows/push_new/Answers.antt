use Rattle.std.proofs.Common.{sym, true≢false}
use Rattle.payload_tables.proofs.pending.PendingRows.push_new.Goals as goal

pub returns-clause-pushed : goal.returns-clause-pushed
returns-clause-pushed c = λ rows h fresh. c.push_row.ensures.pushed rows h (λ t. absurd (true≢false (sym t)), λ i. absurd (fresh i))
