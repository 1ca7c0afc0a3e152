use Rattle.std.proofs.Common.{[], Ok}
use Rattle.commit_graph.specs.World.{empty_world}
use Rattle.disk_trait.proofs.Telling.{goes-new, of_told}
use Rattle.gated_log.specs.Holding.{IsOnDisk}
use Rattle.change_rules.specs.Standard.{standard}
use Rattle.change_rules.specs.Holding.{HoldAs}
use Rattle.dag_store.specs.Loading.{IsLoadedStore, Opens}
use Rattle.dag_run.proofs.Leading.{opened}
use Rattle.dag_run.proofs.demo.new_store.Goals as goal

pub returns-in-Ok-clause-ready : goal.returns-in-Ok-clause-ready
returns-in-Ok-clause-ready g c =
    let store = c.in-Ok.store in (
      rw c.standard.ensures at c.in-Ok.ensures.limits,
      goes-new (IsLoadedStore store) (IsOnDisk store.log) (g.D.Disk.told c.args.log.now) (g.D.Disk.told c.load.new.disk) (λ x y r. r.on_disk) c.in-Ok.ensures.done,
    )

pub returns-in-Ok-clause-begins : goal.returns-in-Ok-clause-begins
returns-in-Ok-clause-begins g c =
    let store = c.in-Ok.store in
    let d = g.D.Disk.told c.args.log.now in
    let opens = rw c.standard.ensures at c.in-Ok.ensures.opens [] empty_world in
    opened store d c.in-Ok.ensures.cache c.requires (of_told (λ bytes. HoldAs standard.log bytes [] empty_world → Opens standard [] empty_world (Ok store)) (g.D.Disk.bytes c.args.log.now) d (g.met.D.Disk.tells c.args.log.now) opens)
