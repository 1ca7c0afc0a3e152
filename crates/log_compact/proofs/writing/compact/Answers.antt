use Rattle.std.proofs.Common.{Ok, Err}
use Rattle.disk_trait.specs.Calls.{Goes}
use Rattle.change_rules.specs.Holding.{HoldAs}
use Rattle.log_compact.specs.Compacts.{ReadsWhole, IsReadAs, Shrinks, KeepsNoneOrWhole, HasWhole}
use Rattle.log_compact.proofs.FromLog.{if-some}
use Rattle.log_compact.proofs.Both.{reads-ok, shrinks-ok, shrinks-err, moments-ok, moments-same, done-ok}
use Rattle.log_compact.proofs.writing.compact.Goals as goal

pub returns-in-Ok-clause-reads : goal.returns-in-Ok-clause-reads
returns-in-Ok-clause-reads g c =
    if-some (λ bytes. ReadsWhole c.args.limit bytes (Ok c.in-Ok.whole)) (λ bytes. IsReadAs c.args.limit bytes c.write_whole.result) (g.D.Disk.bytes c.args.from.now)
    (λ bytes m. reads-ok c.args.limit bytes c.in-Ok.whole c.write_whole.result m c.write_whole.ensures.answers) c.in-Ok.ensures.answers

pub returns-in-Ok-clause-shrinks : goal.returns-in-Ok-clause-shrinks
returns-in-Ok-clause-shrinks g c = λ payloads w.
    if-some (λ bytes. ReadsWhole c.args.limit bytes (Ok c.in-Ok.whole)) (λ bytes. HoldAs c.args.limit bytes payloads w → Shrinks c.args.limit payloads w c.write_whole.result) (g.D.Disk.bytes c.args.from.now)
    (λ bytes m hold. shrinks-ok c.args.limit bytes c.in-Ok.whole m payloads w hold c.write_whole.result c.write_whole.ensures.answers) c.in-Ok.ensures.answers

pub returns-in-Ok-clause-moments : goal.returns-in-Ok-clause-moments
returns-in-Ok-clause-moments g c = λ payloads w.
    let a = g.D.Disk.told c.args.to.now in let b = g.D.Disk.told c.write_whole.new.to in
    if-some (λ bytes. ReadsWhole c.args.limit bytes (Ok c.in-Ok.whole)) (λ bytes. HoldAs c.args.limit bytes payloads w → Goes (KeepsNoneOrWhole c.args.limit payloads w) a b) (g.D.Disk.bytes c.args.from.now)
    (λ bytes m hold. moments-ok c.args.limit bytes c.in-Ok.whole m payloads w hold a b c.write_whole.ensures.moments) c.in-Ok.ensures.answers

pub returns-in-Ok-clause-done : goal.returns-in-Ok-clause-done
returns-in-Ok-clause-done g c = λ payloads w shrunk e.
    let a = g.D.Disk.told c.args.to.now in let b = g.D.Disk.told c.write_whole.new.to in
    if-some (λ bytes. ReadsWhole c.args.limit bytes (Ok c.in-Ok.whole)) (λ bytes. HoldAs c.args.limit bytes payloads w → Goes (HasWhole c.args.limit payloads w) a b) (g.D.Disk.bytes c.args.from.now)
    (λ bytes m hold. done-ok c.args.limit bytes c.in-Ok.whole m payloads w hold a b (c.write_whole.ensures.done shrunk e)) c.in-Ok.ensures.answers

pub returns-in-Err-clause-shrinks : goal.returns-in-Err-clause-shrinks
returns-in-Err-clause-shrinks g c = λ payloads w.
    if-some (λ bytes. ReadsWhole c.args.limit bytes (Err c.in-Err.answer)) (λ bytes. HoldAs c.args.limit bytes payloads w → Shrinks c.args.limit payloads w c.in-Err.answer) (g.D.Disk.bytes c.args.from.now)
    (λ bytes h hold. shrinks-err c.args.limit bytes payloads w c.in-Err.answer h hold) c.in-Err.ensures.answers

pub returns-in-Err-clause-moments : goal.returns-in-Err-clause-moments
returns-in-Err-clause-moments g c = λ payloads w.
    let a = g.D.Disk.told c.args.to.now in
    if-some (λ bytes. ReadsWhole c.args.limit bytes (Err c.in-Err.answer)) (λ bytes. HoldAs c.args.limit bytes payloads w → Goes (KeepsNoneOrWhole c.args.limit payloads w) a a) (g.D.Disk.bytes c.args.from.now)
    (λ bytes h hold. moments-same c.args.limit payloads w a) c.in-Err.ensures.answers
