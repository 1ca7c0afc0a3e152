use Rattle.std.proofs.Common.{◌≡◌, Some, Err, sym, subst, ap}
use Rattle.std.proofs.lemmas.Result.{err_from_is_err_and}
use Rattle.gated_log.specs.Load.{IsLogOf}
use Rattle.remote_store.specs.Told.{texts_within}
use Rattle.remote_store.specs.Fit.{IsUnfit}
use Rattle.remote_store.proofs.Texts.{within-texts}
use Rattle.remote_store.proofs.Fitting.{fit-log}
use Rattle.remote_store.proofs.Growing.{grown-refused, grown-unfit, grown-texts, grown-handed}
use Rattle.remote_store.proofs.Mirroring.{if-map}
use Rattle.remote_store.proofs.loaded.Loaded.peek.Goals as goal

pub returns-clause-answers : goal.returns-clause-answers
returns-clause-answers g c =
    let log = c.in_ok-log.log in
    if-map (g.D.Disk.bytes c.args.disk.now) (λ bytes. IsLogOf c.args.limit bytes log) (λ bytes. (texts_within c.args.limit bytes ≡ Some c.in_ok-loaded.loaded) × (IsUnfit c.args.limit bytes → ⊥))
    (λ bytes h. (subst (λ texts. texts_within c.args.limit bytes ≡ Some texts) (sym c.in_ok-loaded.ensures.texts) (within-texts c.args.limit bytes log.payloads h.fits h.is_log), fit-log c.args.limit bytes log h c.in_ok-loaded.ensures.fit))
    c.in_ok-log.ensures.answers

pub returns-in_err-log-clause-grown : goal.returns-in_err-log-clause-grown
returns-in_err-log-clause-grown g c payloads =
    let p = err_from_is_err_and c.from_residual.result c.from_residual.ensures.1 in
    grown-handed c.args.limit payloads (g.D.Disk.faults c.args.disk.now) (g.D.Disk.faults c.peek_log.new.disk) (g.D.Disk.meanwhile c.args.disk.now) (g.D.Disk.meanwhile c.peek_log.new.disk) c.from_residual.result p.0 c.in_err-log.field-0.0 p.1 p.2
    (grown-refused c.args.limit payloads (g.D.Disk.faults c.args.disk.now) (g.D.Disk.faults c.peek_log.new.disk) (g.D.Disk.meanwhile c.args.disk.now) (g.D.Disk.meanwhile c.peek_log.new.disk) c.in_err-log.field-0.0 (c.in_err-log.ensures.grown payloads))

pub returns-in_err-loaded-clause-grown : goal.returns-in_err-loaded-clause-grown
returns-in_err-loaded-clause-grown g c payloads =
    let p = err_from_is_err_and c.from_residual-in_err-loaded.result c.from_residual-in_err-loaded.ensures.1 in
    grown-handed c.args.limit payloads (g.D.Disk.faults c.args.disk.now) (g.D.Disk.faults c.peek_log.new.disk) (g.D.Disk.meanwhile c.args.disk.now) (g.D.Disk.meanwhile c.peek_log.new.disk) c.from_residual-in_err-loaded.result p.0 c.in_err-loaded.field-0.0 p.1 p.2
    (grown-unfit c.args.limit payloads (g.D.Disk.faults c.args.disk.now) (g.D.Disk.faults c.peek_log.new.disk) (g.D.Disk.meanwhile c.args.disk.now) (g.D.Disk.meanwhile c.peek_log.new.disk) c.in_ok-log.log c.in_err-loaded.field-0.0 (λ e. c.in_err-loaded.ensures.failed (ap Err e)) (c.in_ok-log.ensures.grown payloads))

pub returns-clause-grown : goal.returns-clause-grown
returns-clause-grown g c payloads =
    grown-texts c.args.limit payloads (g.D.Disk.faults c.args.disk.now) (g.D.Disk.faults c.peek_log.new.disk) (g.D.Disk.meanwhile c.args.disk.now) (g.D.Disk.meanwhile c.peek_log.new.disk) c.in_ok-log.log c.in_ok-loaded.loaded c.in_ok-loaded.ensures.texts (c.in_ok-log.ensures.grown payloads)
