use Rattle.std.proofs.Common.{length}
use Rattle.query_rows.proofs.tables.+are_held.Given as goal

abbrev pub decreases-are_held : goal.decreases-are_held
decreases-are_held g l = length l.ids.now
