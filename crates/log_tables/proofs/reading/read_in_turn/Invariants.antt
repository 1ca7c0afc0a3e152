use Rattle.gated_log.specs.Held.{log_bytes}
use Rattle.payload_tables.specs.Kept.{AreTablesOf}
use Rattle.log_tables.proofs.Loads.{ReadSoFar}
use Rattle.log_tables.proofs.reading.read_in_turn.Given as goal

abbrev pub invariant-batches : goal.invariant-batches
invariant-batches l = ReadSoFar (AreTablesOf l.tables) l.fn.log.payloads (log_bytes l.fn.log) l.k l.end
