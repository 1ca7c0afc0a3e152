use Rattle.std.proofs.Common.{Option, IfSome, subst}
use Rattle.remote_rules.specs.Known.{Path}
use Rattle.std.proofs.lemmas.Result.{err_from_is_err_and}
use Rattle.remote_store.specs.Fit.{IsUnfit}
use Rattle.remote_store.specs.Remote.{PlainRemote, ReadsWhereLacking, bytes_in}
use Rattle.remote_store.proofs.Readings.{lacking-asked, lacking-handed}
use Rattle.remote_store.proofs.remote.StoreRemoteRemote.path_of.Goals as goal

pub returns-in_err-keep-clause-log : goal.returns-in_err-keep-clause-log
returns-in_err-keep-clause-log g c =
    let p = err_from_is_err_and c.from_residual.result c.from_residual.ensures.1 in
    let d = c.self.inside.disk in
    subst (λ (old : PlainRemote g.row.D.Denot). ReadsWhereLacking g.D.Disk.meanwhile old c.keep.new.self c.from_residual.result) c.self.view_is
    (lacking-handed g.D.Disk.meanwhile _ c.keep.new.self c.from_residual.result p.0 c.in_err-keep.field-0.0 p.1 p.2
    (lacking-asked g.D.Disk.meanwhile c.self.inside.limits.log (g.D.Disk.told d) (g.D.Disk.faults d) c.self.inside.faults d Unit (Option Path) c.self.inside.asked c.saturating_add-self-inside.result c.self.inside.kept c.keep.new.self c.in_err-keep.field-0.0
    c.in_err-keep.ensures.log))

pub returns-in-Ok-clause-cause : goal.returns-in-Ok-clause-cause
returns-in-Ok-clause-cause g c =
    subst (λ (old : PlainRemote g.row.D.Denot). IfSome (bytes_in old.log.told) (λ bytes. IsUnfit old.log.limit bytes → ⊥)) c.self.view_is c.in_ok-keep.ensures.left.2
