use Rattle.std.proofs.Common.{ℕ, subst}
use Rattle.std.proofs.lemmas.Result.{err_from_is_err_and}
use Rattle.remote_store.specs.Remote.{PlainRemote, ReadsWhereLacking}
use Rattle.remote_store.proofs.Readings.{lacking-asked, lacking-handed}
use Rattle.remote_store.proofs.remote.StoreRemoteRemote.names_of.Goals as goal

pub returns-in_err-keep-clause-log : goal.returns-in_err-keep-clause-log
returns-in_err-keep-clause-log g c =
    let p = err_from_is_err_and c.from_residual.result c.from_residual.ensures.1 in
    let d = c.self.inside.disk in
    subst (λ (old : PlainRemote g.row.D.Denot). ReadsWhereLacking g.D.Disk.meanwhile old c.keep.new.self c.from_residual.result) c.self.view_is
    (lacking-handed g.D.Disk.meanwhile _ c.keep.new.self c.from_residual.result p.0 c.in_err-keep.field-0.0 p.1 p.2
    (lacking-asked g.D.Disk.meanwhile c.self.inside.limits.log (g.D.Disk.told d) (g.D.Disk.faults d) c.self.inside.faults d Unit ℕ c.self.inside.asked c.saturating_add-self-inside.result c.self.inside.kept c.keep.new.self c.in_err-keep.field-0.0
    c.in_err-keep.ensures.log))
