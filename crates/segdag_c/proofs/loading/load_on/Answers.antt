use Rattle.std.proofs.Common.{Ok, Err, sym, ◌∙◌, ap, subst}
use Rattle.call_disk.specs.Awaited.{awaited, tape_of}
use Rattle.call_disk.specs.Lent.{lent_over}
use Rattle.call_disk.proofs.Replaying.{calls-are}
use Rattle.segdag_c.specs.Loads.{IsRightly}
use Rattle.segdag_c.proofs.Opening.{is-opened, is-rightly, lent-answers, lent-opens, lent-lawful}
use Rattle.segdag_c.proofs.Settling.{lent-first, settles-on}
use Rattle.segdag_c.proofs.loading.load_on.Goals as goal

pub returns-in-Ok-clause-opened : goal.returns-in-Ok-clause-opened
returns-in-Ok-clause-opened g c =
    let limits = c.standard.result in
    let new = c.new-disk.result in
    let disk = g.B.Beneath.disk in
    let tape = tape_of new.noted in
    let lent = lent_over disk new.bytes.now tape in
    let bytes = c.args.bytes.now in
    let are = lent-first disk new.bytes.now bytes tape new.lends c.new-disk.ensures.noted c.new-disk.ensures.bytes in
    let r = Ok c.in-Ok.store in
    is-opened bytes c.args.cache c.in-Ok.store (lent-answers limits lent bytes r c.standard.ensures are c.in-Ok.ensures.answers)
    (lent-opens limits lent bytes r c.standard.ensures are c.in-Ok.ensures.opens) c.in-Ok.ensures.cache
    (lent-lawful limits lent bytes c.standard.ensures are c.in-Ok.ensures.lawful)

pub returns-in-Ok-clause-notes : goal.returns-in-Ok-clause-notes
returns-in-Ok-clause-notes g c =
    let lent = c.load.new.disk in
    settles-on g.B.Beneath.disk c.in-Ok.store (tape_of c.new-disk.result.noted) (tape_of lent.noted) (awaited c.into_noted.result) c.new-disk.ensures.noted lent.fit c.in-Ok.ensures.loaded c.in-Ok.ensures.done
    (calls-are lent.noted.noted.items ∙ ap awaited (sym c.into_noted.ensures.noted))

pub returns-in-Err-clause-rightly : goal.returns-in-Err-clause-rightly
returns-in-Err-clause-rightly g c =
    let limits = c.standard.result in
    let new = c.new-disk.result in
    let disk = g.B.Beneath.disk in
    let tape = tape_of new.noted in
    let lent = lent_over disk new.bytes.now tape in
    let bytes = c.args.bytes.now in
    let are = lent-first disk new.bytes.now bytes tape new.lends c.new-disk.ensures.noted c.new-disk.ensures.bytes in
    let fault = c.in-Err.fault in
    let r = Err fault in
    subst (IsRightly bytes) (sym c.failure_of.ensures)
    (is-rightly bytes fault (lent-answers limits lent bytes r c.standard.ensures are c.in-Err.ensures.answers)
    (lent-opens limits lent bytes r c.standard.ensures are c.in-Err.ensures.opens))
