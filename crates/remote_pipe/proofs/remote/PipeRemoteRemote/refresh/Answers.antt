use Rattle.remote_serve.specs.Requests.{ToRefresh}
use Rattle.remote_serve.specs.Answers.{Refreshed}
use Rattle.remote_pipe.specs.Line.{Asks}
use Rattle.remote_pipe.proofs.Mirrors.{asks-quiet}
use Rattle.remote_pipe.proofs.AheadCalls.{passed, quiet-so, ahead-failed, ahead-refreshes}
use Rattle.remote_pipe.proofs.remote.PipeRemoteRemote.refresh.Goals as goal

pub invariant_of-self : goal.invariant_of-self
invariant_of-self g c =
    quiet-so {T = Unit} (Asks {T = Unit} ToRefresh (λ _. Refreshed)) c.self.inside.asker.line c.refresh.new.self.queue.items c.refresh.new.self.line c.refresh.result (λ mid q a. asks-quiet {T = Unit} ToRefresh (λ _. Refreshed) mid c.refresh.new.self.line c.refresh.result q a)
    (passed {T = Unit} (Asks {T = Unit} ToRefresh (λ _. Refreshed)) c.self.inside.asker.queue.items c.self.inside.asker.line c.refresh.new.self.queue.items c.refresh.new.self.line c.refresh.result c.self.invariant c.refresh.ensures)

pub returns-clause-left : goal.returns-clause-left
returns-clause-left g c = rw (← c.self.view_is) (ahead-refreshes c.self.inside.asker.line c.refresh.new.self.queue.items c.refresh.new.self.line c.self.inside.asked c.refresh.result (passed {T = Unit} (Asks {T = Unit} ToRefresh (λ _. Refreshed)) c.self.inside.asker.queue.items c.self.inside.asker.line c.refresh.new.self.queue.items c.refresh.new.self.line c.refresh.result c.self.invariant c.refresh.ensures))

pub returns-clause-failed : goal.returns-clause-failed
returns-clause-failed g c = rw (← c.self.view_is) (ahead-failed {T = Unit} ToRefresh (λ _. Refreshed) c.self.inside.asker.line c.refresh.new.self.queue.items c.refresh.new.self.line c.self.inside.asked c.self.inside.asked c.refresh.result (passed {T = Unit} (Asks {T = Unit} ToRefresh (λ _. Refreshed)) c.self.inside.asker.queue.items c.self.inside.asker.line c.refresh.new.self.queue.items c.refresh.new.self.line c.refresh.result c.self.invariant c.refresh.ensures))
