use Rattle.remote_pipe.specs.Line.{served_by}
use Rattle.remote_pipe.proofs.Awaited.{all-asked, stands-shown}
use Rattle.remote_pipe.proofs.remote.PipeRemoteRemote.expect.Goals as goal

pub invariant_of-self : goal.invariant_of-self
invariant_of-self g c = (all-asked c.args.runs.now c.self.inside.asker.queue.items c.expect.new.self.queue.items c.self.inside.asker.line c.expect.new.self.line c.self.invariant c.expect.ensures.puts).awaits

pub returns-clause-shown : goal.returns-clause-shown
returns-clause-shown g c =
    let now = c.expect.new.self.line in
    let before = c.self.inside.asker.line in
    let a = all-asked c.args.runs.now c.self.inside.asker.queue.items c.expect.new.self.queue.items before now c.self.invariant c.expect.ensures.puts in
    rw (← c.self.view_is) (stands-shown (served_by before.peer) (served_by now.peer) before.faults now.faults c.self.inside.asked a.stands a.faults)
