use Rattle.std.proofs.Common.{ℕ, length}
use Rattle.remote_pipe.specs.Remote.{AsksNames}
use Rattle.remote_pipe.proofs.Passing.{passed-then, passed-err}
use Rattle.remote_pipe.proofs.ahead.Asker.ask_names.Goals as goal

pub returns-in-Ok-clause-asks : goal.returns-in-Ok-clause-asks
returns-in-Ok-clause-asks g c =
    passed-then {T = ℕ} (λ before now told. AsksNames c.args.x.now c.args.back (length c.args.out.now) before now told c.names.new.out) c.args.self.now.queue.items c.args.self.now.line c.pass_all.new.self.queue.items
    c.pass_all.new.self.line c.names.new.self c.names.result c.in-Ok.field-0 c.in-Ok.ensures c.names.ensures.asks

pub returns-in-Err-clause-asks : goal.returns-in-Err-clause-asks
returns-in-Err-clause-asks g c =
    passed-err {T = ℕ} (λ before now told. AsksNames c.args.x.now c.args.back (length c.args.out.now) before now told c.args.out.now) c.args.self.now.queue.items c.args.self.now.line c.pass_all.new.self.queue.items
    c.pass_all.new.self.line c.in-Err.fault c.in-Err.ensures
