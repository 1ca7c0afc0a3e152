use Rattle.std.proofs.Common.{sym, ◌∙◌, ap}
use Rattle.call_disk.specs.Awaited.{awaited}
use Rattle.dag_store.specs.Asks.{verb_of}
use Rattle.segdag_c.specs.Mirrors.{shown_all}
use Rattle.segdag_c.proofs.NotedChanges.{came, changed-of}
use Rattle.segdag_c.proofs.changing.change.Goals as goal

pub returns : goal.returns
returns g c =
    let before = c.args.held.now in
    let after = c.keep_changed.new.held in
    let old = c.in-Some.store in
    let verb = verb_of c.args.ask in
    let done = c.change_over-changed in
    let answer = c.keep_changed.result in
    came before after old c.args.session verb g.disk.told (sym c.take_store.ensures.store ∙ c.in-Some.is) answer
    (changed-of before after old c.args.session verb g.disk.told answer _ (shown_all done.new.mirrors.list.items) _ (awaited done.result.1) done.result.0
    (ap (λ ms. shown_all ms.list.items) c.take_store.ensures.mirrors) (sym (ap (λ ms. shown_all ms.list.items) c.keep_changed.ensures.mirrors)) (ap awaited c.take_store.ensures.log) done.ensures.changes c.keep_changed.ensures.keeps
    (record { reply = c.keep_changed.ensures.told.reply ∙ c.take_store.ensures.reply; names = c.keep_changed.ensures.told.names ∙ c.take_store.ensures.names }))
