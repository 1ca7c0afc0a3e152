use Rattle.std.proofs.Common.{Err, refl, subst}
use Rattle.call_disk.specs.Awaited.{awaited}
use Rattle.segdag_c.specs.Line.{LineDoesOn}
use Rattle.segdag_c.specs.Mirrors.{shown_all}
use Rattle.segdag_c.proofs.Storing.{chosen, chosen-has, line-does, line-notes}
use Rattle.segdag_c.proofs.answering.answer_over.Goals as goal

pub answer_on-answered-requires-clause-on_disk : goal.answer_on-answered-requires-clause-on_disk
answer_on-answered-requires-clause-on_disk g c = chosen-has c.args.store.log g.disk

pub returns-in-Ok-clause-does : goal.returns-in-Ok-clause-does
returns-in-Ok-clause-does g c =
    let answered = c.answer_on-answered in
    let first = shown_all c.args.mirrors.now.list.items in
    let left = shown_all answered.new.mirrors.list.items in
    let faults = c.args.reply.now.faults in
    let before = c.args.reply.now.taken in
    line-notes first left faults c.args.store c.args.line.now c.in-Ok.next c.note_behind.result before answered.new.reply (awaited c.args.log.now) (awaited c.note_behind.new.log) (awaited answered.result.1) g.disk
    c.note_behind.ensures.store c.note_behind.ensures.stop c.note_behind.ensures.calls c.note_behind.ensures.none c.note_behind.ensures.some
    (subst (λ r. LineDoesOn first c.args.store c.args.line.now left faults before answered.new.reply (awaited answered.result.1) (chosen c.args.store.log g.disk) r) c.in-Ok.is answered.ensures.does)

pub returns-in-Err-clause-does : goal.returns-in-Err-clause-does
returns-in-Err-clause-does g c =
    let answered = c.answer_on-answered in
    let first = shown_all c.args.mirrors.now.list.items in
    let left = shown_all answered.new.mirrors.list.items in
    let faults = c.args.reply.now.faults in
    let before = c.args.reply.now.taken in
    let calls = awaited answered.result.1 in (
      refl,
      calls,
      Err c.in-Err.stop,
      refl,
      line-does first left faults c.args.store c.args.line.now before answered.new.reply calls g.disk (Err c.in-Err.stop)
          (subst (λ r. LineDoesOn first c.args.store c.args.line.now left faults before answered.new.reply calls (chosen c.args.store.log g.disk) r) c.in-Err.is answered.ensures.does),
    )
