use Rattle.std.proofs.Common.{Ok, Err, refl, ap, sym, subst, arith}
use Rattle.std.proofs.lemmas.Result.{err_from_is_err_and}
use Rattle.gated_log.specs.Load.{Loads, IsLogOf}
use Rattle.change_rules.specs.Holding.{HoldAs}
use Rattle.payload_tables.specs.Kept.{AreTablesOf}
use Rattle.dag_store.specs.Kept.{PlainStore}
use Rattle.dag_store.specs.Loading.{Opens, fault_of}
use Rattle.dag_store.proofs.Opening.{loaded-kept, opened, refused, log-refused, tables-refused, if-some, load-keeps, load-done}
use Rattle.disk_trait.proofs.Telling.{of_told}
use Rattle.name_map.specs.Added.{payloads_of}
use Rattle.change_rules.specs.Unlawful.{IsNoLog}
use Rattle.dag_store.proofs.Lawful.{lawful-log, log-untouched, tables-untouched}
use Rattle.dag_store.proofs.store.Store.load.Goals as goal

pub returns-in_err-log-clause-images : goal.returns-in_err-log-clause-images
returns-in_err-log-clause-images g c = λ w. load-keeps c.args.limits w (g.D.Disk.told c.args.disk.now) (g.D.Disk.told c.load.new.disk) c.requires.limits (g.met.D.Disk.sound c.args.disk.now) c.in_err-log.ensures.fresh

pub returns-in_err-tables-clause-images : goal.returns-in_err-tables-clause-images
returns-in_err-tables-clause-images g c = λ w. load-keeps c.args.limits w (g.D.Disk.told c.args.disk.now) (g.D.Disk.told c.load.new.disk) c.requires.limits (g.met.D.Disk.sound c.args.disk.now) c.in_ok-log.ensures.fresh

pub returns-in_err-parts-clause-images : goal.returns-in_err-parts-clause-images
returns-in_err-parts-clause-images g c = λ w. load-keeps c.args.limits w (g.D.Disk.told c.args.disk.now) (g.D.Disk.told c.load.new.disk) c.requires.limits (g.met.D.Disk.sound c.args.disk.now) c.in_ok-log.ensures.fresh

pub returns-clause-images : goal.returns-clause-images
returns-clause-images g c = λ w. load-keeps c.args.limits w (g.D.Disk.told c.args.disk.now) (g.D.Disk.told c.load.new.disk) c.requires.limits (g.met.D.Disk.sound c.args.disk.now) c.in_ok-log.ensures.fresh

pub returns-in_err-log-clause-opens : goal.returns-in_err-log-clause-opens
returns-in_err-log-clause-opens g c = λ payloads w.
    let p = err_from_is_err_and c.from_residual.result c.from_residual.ensures.1 in
    let fault = c.in_err-log.field-0.0 in
    rw (p.1, p.2) (if-some (λ bytes. Loads c.args.limits.log bytes (Err fault)) (λ bytes. HoldAs c.args.limits.log bytes payloads w → Opens c.args.limits payloads w (Err (fault_of fault))) (g.D.Disk.bytes c.args.disk.now)
    (λ bytes answers hold. refused c.args.limits payloads w bytes (fault_of fault) (log-refused c.args.limits bytes fault answers) hold) c.in_err-log.ensures.answers)

pub returns-in_err-tables-clause-opens : goal.returns-in_err-tables-clause-opens
returns-in_err-tables-clause-opens g c = λ payloads w.
    let p = err_from_is_err_and c.from_residual-in_err-tables.result c.from_residual-in_err-tables.ensures.1 in
    let fault = c.in_err-tables.field-0.0 in
    rw (p.1, p.2) (if-some (λ bytes. IsLogOf c.args.limits.log bytes c.in_ok-log.log) (λ bytes. HoldAs c.args.limits.log bytes payloads w → Opens c.args.limits payloads w (Err fault)) (g.D.Disk.bytes c.args.disk.now)
    (λ bytes log hold. refused c.args.limits payloads w bytes fault (tables-refused c.args.limits bytes c.in_ok-log.log fault log c.in_err-tables.ensures.err) hold) c.in_ok-log.ensures.answers)

pub invariant_of-result : goal.invariant_of-result
invariant_of-result g c =
    let read = c.in_ok-tables.ensures.ok in
    let lent = subst (λ t. AreTablesOf t read.0) (sym c.deref.ensures) read.1 in
    loaded-kept c.in_ok-log.log c.in_ok-tables.tables.value c.in_ok-parts.parts.0.items c.args.limits read.0 read.1 read.2 read.3 read.4 c.in_ok-parts.ensures.count
    (λ s small. c.in_ok-parts.ensures.each read.0 s lent read.3 small) c.requires.limits c.in_ok-log.ensures.limit

pub returns-clause-opens : goal.returns-clause-opens
returns-clause-opens g c = λ payloads w.
    let store : PlainStore = record { log = c.in_ok-log.log; sessions = c.in_ok-parts.parts.0.items; limits = c.args.limits; cache = c.in_ok-parts.parts.1 } in
    let read = c.in_ok-tables.ensures.ok in
    let lent = subst (λ t. AreTablesOf t read.0) (sym c.deref.ensures) read.1 in
    if-some (λ bytes. IsLogOf c.args.limits.log bytes c.in_ok-log.log) (λ bytes. HoldAs c.args.limits.log bytes payloads w → Opens c.args.limits payloads w (Ok store)) (g.D.Disk.bytes c.args.disk.now)
    (λ bytes log hold. opened c.args.limits store c.in_ok-tables.tables.value read.0 payloads w bytes log read.1 read.3 (λ s small. c.in_ok-parts.ensures.each read.0 s lent read.3 small) hold) c.in_ok-log.ensures.answers

pub returns-clause-done : goal.returns-clause-done
returns-clause-done g c =
    load-done c.args.limits (record { log = c.in_ok-log.log; sessions = c.in_ok-parts.parts.0.items; limits = c.args.limits; cache = c.in_ok-parts.parts.1 }) (g.D.Disk.told c.args.disk.now) (g.D.Disk.told c.load.new.disk) refl c.in_ok-log.ensures.limit c.in_ok-log.ensures.done

pub returns-in_err-log-clause-unwritten : goal.returns-in_err-log-clause-unwritten
returns-in_err-log-clause-unwritten g c =
    let p = err_from_is_err_and c.from_residual.result c.from_residual.ensures.1 in
    let fault = c.in_err-log.field-0.0 in
    let fair = c.requires.limits.log.0 in
    rw (p.1, p.2) (log-untouched c.args.limits.log fault (g.D.Disk.told c.args.disk.now) (g.D.Disk.told c.load.new.disk) (omega (arith, fair))
    (of_told (λ bytes. Loads c.args.limits.log bytes (Err fault)) (g.D.Disk.bytes c.args.disk.now) (g.D.Disk.told c.args.disk.now) (g.met.D.Disk.tells c.args.disk.now) c.in_err-log.ensures.answers)
    c.in_err-log.ensures.images (λ size e. c.in_err-log.ensures.too_large size (ap Err e)) (λ at e. c.in_err-log.ensures.damaged at (ap Err e)))

pub returns-in_err-tables-clause-unwritten : goal.returns-in_err-tables-clause-unwritten
returns-in_err-tables-clause-unwritten g c =
    let p = err_from_is_err_and c.from_residual-in_err-tables.result c.from_residual-in_err-tables.ensures.1 in
    let fault = c.in_err-tables.field-0.0 in
    let log = c.in_ok-log.log in
    rw (p.1, p.2) (tables-untouched c.args.limits.log log fault (g.D.Disk.told c.args.disk.now) (g.D.Disk.told c.load.new.disk) c.in_err-tables.ensures.err
    (of_told (λ bytes. IsLogOf c.args.limits.log bytes log) (g.D.Disk.bytes c.args.disk.now) (g.D.Disk.told c.args.disk.now) (g.met.D.Disk.tells c.args.disk.now) c.in_ok-log.ensures.answers) c.in_ok-log.ensures.images c.in_ok-log.ensures.unwritten)

pub returns-clause-lawful : goal.returns-clause-lawful
returns-clause-lawful g c =
    let read = c.in_ok-tables.ensures.ok in
    if-some (λ bytes. IsLogOf c.args.limits.log bytes c.in_ok-log.log) (λ bytes. IsNoLog c.args.limits.log bytes → ⊥) (g.D.Disk.bytes c.args.disk.now)
    (λ bytes log. lawful-log c.args.limits.log bytes c.in_ok-log.log (payloads_of read.0) log read.1.lawful read.3) c.in_ok-log.ensures.answers
