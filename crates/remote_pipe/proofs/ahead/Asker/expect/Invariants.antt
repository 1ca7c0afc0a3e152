use Rattle.std.proofs.Common.{◌≡◌, ◌≤◌, ◌++◌, length, take}
use Rattle.remote_pipe.specs.Ahead.{most_ahead, AsksBehind}
use Rattle.remote_pipe.proofs.ahead.Asker.expect.Given as goal

abbrev pub invariant-runs : goal.invariant-runs
invariant-runs g l = record {
  asks : AsksBehind (take l.run-index l.runs) l.fn.self.line l.self.line;
  queue : l.self.queue.items ≡ l.fn.self.queue.items ++ take l.run-index l.runs;
  few : length l.fn.self.queue.items ≤ most_ahead → length l.self.queue.items ≤ most_ahead;
}
