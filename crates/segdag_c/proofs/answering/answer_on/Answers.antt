use Rattle.std.proofs.Common.{sym, ◌∙◌, ap}
use Rattle.call_disk.specs.Awaited.{awaited, tape_of}
use Rattle.call_disk.proofs.Replaying.{calls-are}
use Rattle.segdag_c.specs.Mirrors.{shown_all}
use Rattle.segdag_c.proofs.Storing.{begins-on, line-does-on}
use Rattle.segdag_c.proofs.answering.answer_on.Goals as goal

pub execute-answered-requires : goal.execute-answered-requires
execute-answered-requires g c = begins-on g.B.Beneath.disk c.args.store.log (tape_of c.new-log.result.noted) c.new-log.ensures c.requires.on_disk

pub returns-clause-does : goal.returns-clause-does
returns-clause-does g c =
    let step = c.execute-answered.ensures in
    let noted = c.into_noted.result in
    let last = tape_of c.execute-answered.new.reach.0.noted in
    line-does-on (shown_all c.args.mirrors.now.list.items) (shown_all c.execute-answered.new.reach.1.0.list.items) c.args.reply.now.faults c.args.store c.args.line.now step.payload step.clock c.execute-answered.result c.args.reply.now.taken c.execute-answered.new.output
    g.B.Beneath.disk (tape_of c.new-log.result.noted) last (awaited noted)
    (step.tells c.args.line.now c.kind_of-kind.ensures) step.leaves c.new-log.ensures c.execute-answered.new.reach.0.fit c.requires.on_disk
    (calls-are c.execute-answered.new.reach.0.noted.noted.items ∙ ap awaited (sym c.into_noted.ensures.noted))
