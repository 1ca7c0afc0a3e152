use Rattle.std.proofs.Common.{None, subst}
use Rattle.remote_store.specs.Remote.{PlainStore, PlainRemote, KeepsStore, ReadsAnew}
use Rattle.remote_store.proofs.Mirroring.{kept-reads, reads-refresh}
use Rattle.remote_store.proofs.Readings.{anew-kept}
use Rattle.remote_store.proofs.remote.StoreRemoteRemote.refresh.Goals as goal

pub returns-clause-left : goal.returns-clause-left
returns-clause-left g c =
    let old = c.args.self.now.log in
    let before : PlainStore = record { limit = old.limit; told = old.told; disk_faults = old.disk_faults; faults = old.faults; asked = old.asked; kept = None } in
    let now = c.peek.new.self.log in
    let r = kept-reads before now c.peek.result (subst (λ (b : PlainRemote g.row.D.Denot). KeepsStore b.log now c.peek.result) c.let_go.ensures c.peek.ensures.left) in
    reads-refresh before now r.0.limit r.0.told r.1 r.0.asked

pub returns-clause-anew : goal.returns-clause-anew
returns-clause-anew g c =
    let old = c.args.self.now in
    anew-kept g.D.Disk.meanwhile old.log.limit old.log.told old.log.disk_faults old.log.faults old.disk old.log.asked old.log.kept c.peek.new.self c.peek.result
    (subst (λ (b : PlainRemote g.row.D.Denot). ReadsAnew g.D.Disk.meanwhile b c.peek.new.self c.peek.result) c.let_go.ensures c.peek.ensures.anew)
