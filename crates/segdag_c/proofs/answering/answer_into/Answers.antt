use Rattle.std.proofs.Common.{Ok, Err, sym, ◌∙◌, ap, subst}
use Rattle.outside.specs.Counts.{Rose}
use Rattle.line_io.specs.Memory.{MemoryOutput}
use Rattle.call_disk.specs.Awaited.{awaited}
use Rattle.segdag_c.specs.Mirrors.{shown_all}
use Rattle.segdag_c.proofs.Noting.{held-notes, line-answered, line-stopped}
use Rattle.segdag_c.proofs.answering.answer_into.Goals as goal

pub returns-in-Ok : goal.returns-in-Ok
returns-in-Ok g c =
    let old = c.in-Some.store in
    let line = c.args.line.now in
    let held = c.keep.new.held in
    let taken = c.take_store.new.held in
    line-answered c.args.held.now held old c.in-Ok.next line g.disk.told _ (sym c.take_store.ensures.store ∙ c.in-Some.is) c.keep.ensures.store
    (held-notes c.args.held.now held old line g.disk.told (Ok c.in-Ok.next) _ _ _ _ _ _ c.answer_over.new.reply
    (ap (λ ms. shown_all ms.list.items) c.take_store.ensures.mirrors) (ap awaited c.take_store.ensures.log)
    (sym (ap (λ ms. shown_all ms.list.items) c.keep.ensures.mirrors)) (sym (ap awaited c.keep.ensures.log)) (sym c.keep.ensures.reply)
    c.requires.0 c.requires.1 (c.keep.ensures.names ∙ c.take_store.ensures.names) c.in-Ok.ensures.does)

pub returns-in-Err : goal.returns-in-Err
returns-in-Err g c =
    let old = c.in-Some.store in
    let line = c.args.line.now in
    let held = c.keep_reply.new.held in
    line-stopped c.args.held.now held old line g.disk.told c.in-Err.stop c.failure_of.result c.failure_of.ensures c.in-Err.ensures.stop (sym c.take_store.ensures.store ∙ c.in-Some.is)
    (c.keep_reply.ensures.store ∙ c.take_store.ensures.none)
    (held-notes c.args.held.now held old line g.disk.told (Err c.in-Err.stop) _ _ _ _ _ _ c.answer_over.new.reply
    (ap (λ ms. shown_all ms.list.items) c.take_store.ensures.mirrors) (ap awaited c.take_store.ensures.log)
    (sym (ap (λ ms. shown_all ms.list.items) c.keep_reply.ensures.mirrors)) (sym (ap awaited c.keep_reply.ensures.log)) (sym c.keep_reply.ensures.reply)
    c.requires.0 c.requires.1 (c.keep_reply.ensures.names ∙ c.take_store.ensures.names) c.in-Err.ensures.does)
    (λ is. subst (λ n. Rose n held.reply.faults) c.requires.0 (subst (λ (o : MemoryOutput). Rose c.args.reply.faults o.faults) (sym c.keep_reply.ensures.reply) (c.in-Err.ensures.sink (ap Err is))))
