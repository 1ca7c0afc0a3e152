use Rattle.std.proofs.Common.{◌≤◌, arith, length}
use Rattle.remote_pipe.proofs.AheadCalls.{names-so, ahead-names-quiet, ahead-names-leaves, ahead-names-failed, ahead-names-honest}
use Rattle.remote_pipe.proofs.remote.PipeRemoteRemote.names_of.Goals as goal

pub invariant_of-self : goal.invariant_of-self
invariant_of-self g c = ahead-names-quiet c.args.x.now c.args.back (length c.args.out.now) c.self.inside.asker.queue.items c.self.inside.asker.line c.names.new.self.queue.items c.names.new.self.line c.names.result c.names.new.out c.self.invariant (names-so c.args.x.now c.args.back (length c.args.out.now) c.self.inside.asker.queue.items c.self.inside.asker.line c.names.new.self.queue.items c.names.new.self.line c.names.result c.names.new.out c.self.invariant c.names.ensures.asks)

pub returns-clause-left : goal.returns-clause-left
returns-clause-left g c =
    let n = c.saturating_add-self-inside.result in
    let e = c.saturating_add-self-inside.ensures in
    let lt = c.self.ranges.1.0.1 in
    let le : c.self.inside.asked ≤ n = omega (arith, e, lt) in
    rw (← c.self.view_is) (ahead-names-leaves c.args.x.now c.args.back (length c.args.out.now) c.self.inside.asker.queue.items c.self.inside.asker.line c.names.new.self.queue.items c.names.new.self.line c.self.inside.asked n c.names.result c.names.new.out (names-so c.args.x.now c.args.back (length c.args.out.now) c.self.inside.asker.queue.items c.self.inside.asker.line c.names.new.self.queue.items c.names.new.self.line c.names.result c.names.new.out c.self.invariant c.names.ensures.asks) e le)

pub returns-clause-failed : goal.returns-clause-failed
returns-clause-failed g c = rw (← c.self.view_is) (ahead-names-failed c.args.x.now c.args.back (length c.args.out.now) c.self.inside.asker.queue.items c.self.inside.asker.line c.names.new.self.queue.items c.names.new.self.line c.self.inside.asked _ c.names.result c.names.new.out (names-so c.args.x.now c.args.back (length c.args.out.now) c.self.inside.asker.queue.items c.self.inside.asker.line c.names.new.self.queue.items c.names.new.self.line c.names.result c.names.new.out c.self.invariant c.names.ensures.asks))

pub returns-clause-honest : goal.returns-clause-honest
returns-clause-honest g c = rw (← c.self.view_is) (ahead-names-honest c.args.x.now c.args.back (length c.args.out.now) c.self.inside.asker.queue.items c.self.inside.asker.line c.names.new.self.queue.items c.names.new.self.line c.self.inside.asked c.names.result c.names.new.out c.self.invariant (names-so c.args.x.now c.args.back (length c.args.out.now) c.self.inside.asker.queue.items c.self.inside.asker.line c.names.new.self.queue.items c.names.new.self.line c.names.result c.names.new.out c.self.invariant c.names.ensures.asks))
