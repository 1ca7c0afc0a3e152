use Rattle.remote_serve.specs.Requests.{ToClone}
use Rattle.remote_serve.specs.Answers.{Cloned}
use Rattle.remote_pipe.specs.Line.{Asks}
use Rattle.remote_pipe.proofs.Mirrors.{asks-quiet}
use Rattle.remote_pipe.proofs.AheadCalls.{passed, quiet-so, ahead-failed, ahead-clone-left, ahead-clone-told, ahead-clone-honest}
use Rattle.remote_pipe.proofs.remote.PipeRemoteRemote.clone_data.Goals as goal

pub invariant_of-self : goal.invariant_of-self
invariant_of-self g c =
    quiet-so (Asks ToClone (λ told. Cloned told)) c.self.inside.asker.line c.clone_data.new.self.queue.items c.clone_data.new.self.line c.clone_data.result (λ mid q a. asks-quiet ToClone (λ told. Cloned told) mid c.clone_data.new.self.line c.clone_data.result q a)
    (passed (Asks ToClone (λ told. Cloned told)) c.self.inside.asker.queue.items c.self.inside.asker.line c.clone_data.new.self.queue.items c.clone_data.new.self.line c.clone_data.result c.self.invariant c.clone_data.ensures)

pub returns-clause-left : goal.returns-clause-left
returns-clause-left g c = rw (← c.self.view_is) (ahead-clone-left c.self.inside.asker.line c.clone_data.new.self.queue.items c.clone_data.new.self.line c.self.inside.asked c.clone_data.result (passed (Asks ToClone (λ told. Cloned told)) c.self.inside.asker.queue.items c.self.inside.asker.line c.clone_data.new.self.queue.items c.clone_data.new.self.line c.clone_data.result c.self.invariant c.clone_data.ensures))

pub returns-clause-told : goal.returns-clause-told
returns-clause-told g c = rw (← c.self.view_is) (ahead-clone-told c.self.inside.asker.line c.clone_data.new.self.queue.items c.clone_data.new.self.line c.self.inside.asked c.clone_data.result (passed (Asks ToClone (λ told. Cloned told)) c.self.inside.asker.queue.items c.self.inside.asker.line c.clone_data.new.self.queue.items c.clone_data.new.self.line c.clone_data.result c.self.invariant c.clone_data.ensures))

pub returns-clause-honest : goal.returns-clause-honest
returns-clause-honest g c = rw (← c.self.view_is) (ahead-clone-honest c.self.inside.asker.line c.clone_data.new.self.queue.items c.clone_data.new.self.line c.self.inside.asked c.clone_data.result (passed (Asks ToClone (λ told. Cloned told)) c.self.inside.asker.queue.items c.self.inside.asker.line c.clone_data.new.self.queue.items c.clone_data.new.self.line c.clone_data.result c.self.invariant c.clone_data.ensures))

pub returns-clause-failed : goal.returns-clause-failed
returns-clause-failed g c = rw (← c.self.view_is) (ahead-failed ToClone (λ told. Cloned told) c.self.inside.asker.line c.clone_data.new.self.queue.items c.clone_data.new.self.line c.self.inside.asked c.self.inside.asked c.clone_data.result (passed (Asks ToClone (λ told. Cloned told)) c.self.inside.asker.queue.items c.self.inside.asker.line c.clone_data.new.self.queue.items c.clone_data.new.self.line c.clone_data.result c.self.invariant c.clone_data.ensures))
