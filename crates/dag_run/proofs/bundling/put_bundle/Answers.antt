use Rattle.outside.specs.Told.{WhereTold}
use Rattle.change_rules.specs.Holding.{HoldAs}
use Rattle.dag_run.specs.Bundling.{BundleMeans}
use Rattle.dag_run.specs.Ends.{StatusRefuses}
use Rattle.dag_run.proofs.Bundled.{if-map, bundle-put, bundle-refuses, none-put, none-refuses}
use Rattle.dag_run.proofs.bundling.put_bundle.Goals as goal

pub returns-in-Ok-clause-means : goal.returns-in-Ok-clause-means
returns-in-Ok-clause-means g c = λ payloads w.
    let before = g.O.Sink.taken c.args.output.now in let now = g.O.Sink.taken c.put_whole.new.output in
    if-map _ (λ bytes. HoldAs c.args.limits.log bytes payloads w → WhereTold before now (BundleMeans payloads w c.put_whole.result)) (g.D.Disk.bytes c.args.log.now)
    (λ bytes made hold. bundle-put payloads w c.in-Ok.bundle c.put_whole.result before now c.put_whole.ensures.puts (made hold)) (c.in-Ok.ensures.bundles payloads w)

pub returns-in-Ok-clause-refuses : goal.returns-in-Ok-clause-refuses
returns-in-Ok-clause-refuses g c =
    if-map _ (λ bytes. StatusRefuses c.args.limits.log bytes c.put_whole.result) (g.D.Disk.bytes c.args.log.now)
    (λ bytes made. bundle-refuses c.args.limits.log bytes c.in-Ok.bundle c.put_whole.result c.put_whole.ensures.has made) c.in-Ok.ensures.refuses

pub returns-in-Err-clause-means : goal.returns-in-Err-clause-means
returns-in-Err-clause-means g c = λ payloads w.
    let before = g.O.Sink.taken c.args.output.now in
    if-map _ (λ bytes. HoldAs c.args.limits.log bytes payloads w → WhereTold before before (BundleMeans payloads w c.status.result)) (g.D.Disk.bytes c.args.log.now)
    (λ bytes none hold. none-put payloads w c.in-Err.fault c.status.result before c.status.ensures (none hold)) (c.in-Err.ensures.bundles payloads w)

pub returns-in-Err-clause-refuses : goal.returns-in-Err-clause-refuses
returns-in-Err-clause-refuses g c =
    if-map _ (λ bytes. StatusRefuses c.args.limits.log bytes c.status.result) (g.D.Disk.bytes c.args.log.now)
    (λ bytes none. none-refuses c.args.limits.log bytes c.in-Err.fault c.status.result c.status.ensures none) c.in-Err.ensures.refuses
