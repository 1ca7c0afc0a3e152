use Rattle.std.proofs.Common.{List}
use Rattle.std.specs.declared.result.Result.{Result}
use Rattle.remote_trait.specs.Runs.{Run}
use Rattle.remote_trait.specs.declared.fault.RemoteFault.{RemoteFault}
use Rattle.remote_pipe.specs.Line.{PlainLine}
use Rattle.remote_pipe.specs.Ahead.{PassesTo, Done}
use Rattle.remote_pipe.proofs.ahead.Asker.pass_all.Given as goal

abbrev pub invariant-passes : goal.invariant-passes
invariant-passes g l = (later : List Run) (now : PlainLine) (result : Result Unit RemoteFault) → PassesTo Done l.self.queue.items l.self.line later now result
    → PassesTo Done l.fn.self.queue.items l.fn.self.line later now result

abbrev pub decreases-passes : goal.decreases-passes
decreases-passes g l = l.self.queue.len
