use Rattle.std.proofs.Common.{◌≡◌, ◌≢◌, ◌⊎◌, [], Err, IfSome, sym, subst}
use Rattle.disk_trait.specs.Calls.{Goes}
use Rattle.gated_log.specs.Load.{Loads, IsLogOf}
use Rattle.log_compact.specs.declared.answer.Compacted.TheVariants.{NotFresh}
use Rattle.log_compact.specs.Compacts.{StoresWhole, WritesWhole, KeepsNoneOrNew, HasText, to_answer}
use Rattle.log_compact.proofs.FromLog.{if-some}
use Rattle.log_compact.proofs.ToDisk.{fresh-or-taken, fault-writes, then-moments, then-text, load-moments}
use Rattle.log_compact.proofs.writing.write_whole.Goals as goal

pub returns-in-Ok-clause-writes : goal.returns-in-Ok-clause-writes
returns-in-Ok-clause-writes g c =
    if-some (λ bytes. IsLogOf c.args.limit bytes c.in-Ok.log) (λ bytes. WritesWhole c.args.limit bytes c.args.whole.now c.store_fresh.result) (g.D.Disk.bytes c.args.to.now)
    (λ bytes l. fresh-or-taken c.args.limit bytes c.in-Ok.log c.args.whole.now c.store_fresh.result l
    (subst (λ n. ((c.in-Ok.log.payloads ≢ []) × (c.store_fresh.result ≡ NotFresh)) ⊎ ((c.in-Ok.log.payloads ≡ []) × StoresWhole n c.args.whole.now c.store_fresh.result)) c.in-Ok.ensures.limit c.store_fresh.ensures.answers))
    c.in-Ok.ensures.answers

pub returns-in-Ok-clause-moments : goal.returns-in-Ok-clause-moments
returns-in-Ok-clause-moments g c =
    let text = c.args.whole.now.text in
    then-moments c.args.limit text (g.D.Disk.told c.args.to.now) (g.D.Disk.told c.load.new.disk) (g.D.Disk.told c.store_fresh.new.to) (c.load.ensures.moments [])
    (subst (λ n. Goes (KeepsNoneOrNew n text) (g.D.Disk.told c.load.new.disk) (g.D.Disk.told c.store_fresh.new.to)) c.in-Ok.ensures.limit c.store_fresh.ensures.moments)

pub returns-in-Ok-clause-done : goal.returns-in-Ok-clause-done
returns-in-Ok-clause-done g c = λ shrunk e.
    let text = c.args.whole.now.text in
    then-text c.args.limit text (g.D.Disk.told c.args.to.now) (g.D.Disk.told c.load.new.disk) (g.D.Disk.told c.store_fresh.new.to) (c.load.ensures.moments [])
    (subst (λ n. Goes (HasText n text) (g.D.Disk.told c.load.new.disk) (g.D.Disk.told c.store_fresh.new.to)) c.in-Ok.ensures.limit (c.store_fresh.ensures.done shrunk e))

pub returns-in-Err-clause-writes : goal.returns-in-Err-clause-writes
returns-in-Err-clause-writes g c =
    subst (λ a. IfSome (g.D.Disk.bytes c.args.to.now) (λ bytes. WritesWhole c.args.limit bytes c.args.whole.now a)) (sym c.to_fault.ensures)
    (if-some (λ bytes. Loads c.args.limit bytes (Err c.in-Err.fault)) (λ bytes. WritesWhole c.args.limit bytes c.args.whole.now (to_answer c.in-Err.fault)) (g.D.Disk.bytes c.args.to.now)
    (λ bytes h. fault-writes c.args.limit bytes c.args.whole.now c.in-Err.fault h) c.in-Err.ensures.answers)

pub returns-in-Err-clause-moments : goal.returns-in-Err-clause-moments
returns-in-Err-clause-moments g c = load-moments c.args.limit c.args.whole.now.text (g.D.Disk.told c.args.to.now) (g.D.Disk.told c.load.new.disk) (c.load.ensures.moments [])
