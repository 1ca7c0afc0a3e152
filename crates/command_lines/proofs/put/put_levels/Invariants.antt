use Rattle.std.proofs.Common.{◌≤◌}
use Rattle.outside.specs.Told.{WhereTold}
use Rattle.command_lines.specs.Sending.{Sends}
use Rattle.command_lines.proofs.PutLemmas.{levels_front}
use Rattle.command_lines.proofs.put.put_levels.Given as goal

abbrev pub invariant-loop-k : goal.invariant-loop-k
invariant-loop-k g l = record {
  told : WhereTold (g.O.Sink.taken l.fn.output) (g.O.Sink.taken l.output) (Sends (levels_front l.counts l.k) l.block.items);
  later : g.O.Sink.faults l.fn.output ≤ g.O.Sink.faults l.output;
}
