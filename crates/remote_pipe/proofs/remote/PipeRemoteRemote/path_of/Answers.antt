use Rattle.std.proofs.Common.{◌≤◌, arith}
use Rattle.remote_serve.specs.Requests.{ToPath}
use Rattle.remote_serve.specs.Answers.{Led}
use Rattle.remote_pipe.specs.Line.{Asks}
use Rattle.remote_pipe.proofs.Mirrors.{asks-quiet}
use Rattle.remote_pipe.proofs.AheadCalls.{passed, quiet-so, ahead-failed, ahead-path-left, ahead-path-honest}
use Rattle.remote_pipe.proofs.remote.PipeRemoteRemote.path_of.Goals as goal

pub invariant_of-self : goal.invariant_of-self
invariant_of-self g c =
    quiet-so (Asks (ToPath c.args.heads.now c.args.name.now) Led) c.self.inside.asker.line c.path.new.self.queue.items c.path.new.self.line c.path.result (λ mid q a. asks-quiet (ToPath c.args.heads.now c.args.name.now) Led mid c.path.new.self.line c.path.result q a)
    (passed (Asks (ToPath c.args.heads.now c.args.name.now) Led) c.self.inside.asker.queue.items c.self.inside.asker.line c.path.new.self.queue.items c.path.new.self.line c.path.result c.self.invariant c.path.ensures)

pub returns-clause-left : goal.returns-clause-left
returns-clause-left g c =
    let n = c.saturating_add-self-inside.result in
    let e = c.saturating_add-self-inside.ensures in
    let lt = c.self.ranges.1.0.1 in
    let le : c.self.inside.asked ≤ n = omega (arith, e, lt) in
    rw (← c.self.view_is) (ahead-path-left c.args.heads.now c.args.name.now c.self.inside.asker.line c.path.new.self.queue.items c.path.new.self.line c.self.inside.asked n c.path.result (passed (Asks (ToPath c.args.heads.now c.args.name.now) Led) c.self.inside.asker.queue.items c.self.inside.asker.line c.path.new.self.queue.items c.path.new.self.line c.path.result c.self.invariant c.path.ensures) e le)

pub returns-clause-honest : goal.returns-clause-honest
returns-clause-honest g c = rw (← c.self.view_is) (ahead-path-honest c.args.heads.now c.args.name.now c.self.inside.asker.line c.path.new.self.queue.items c.path.new.self.line c.self.inside.asked c.path.result (passed (Asks (ToPath c.args.heads.now c.args.name.now) Led) c.self.inside.asker.queue.items c.self.inside.asker.line c.path.new.self.queue.items c.path.new.self.line c.path.result c.self.invariant c.path.ensures))

pub returns-clause-failed : goal.returns-clause-failed
returns-clause-failed g c = rw (← c.self.view_is) (ahead-failed (ToPath c.args.heads.now c.args.name.now) Led c.self.inside.asker.line c.path.new.self.queue.items c.path.new.self.line c.self.inside.asked _ c.path.result (passed (Asks (ToPath c.args.heads.now c.args.name.now) Led) c.self.inside.asker.queue.items c.self.inside.asker.line c.path.new.self.queue.items c.path.new.self.line c.path.result c.self.invariant c.path.ensures))
