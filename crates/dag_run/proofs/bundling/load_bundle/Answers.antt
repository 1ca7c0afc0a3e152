use Rattle.std.proofs.Common.{Err, IfSome, sym, subst}
use Rattle.change_rules.specs.Holding.{HoldAs}
use Rattle.dag_run.specs.Bundling.{Bundles, BundleRefuses, unbundled_of}
use Rattle.dag_run.proofs.Bundled.{if-map, none-opens, none-answers, store-refuses}
use Rattle.dag_run.proofs.bundling.load_bundle.Goals as goal

pub returns-in-Ok-clause-bundles : goal.returns-in-Ok-clause-bundles
returns-in-Ok-clause-bundles g c = λ payloads w.
    if-map _ (λ bytes. HoldAs c.args.limits.log bytes payloads w → Bundles payloads w c.bundle_of_loaded.result) (g.D.Disk.bytes c.args.log.now)
    (λ bytes opens hold. c.bundle_of_loaded.ensures.bundles payloads w (opens hold)) (c.in-Ok.ensures.opens payloads w)

pub returns-in-Ok-clause-refuses : goal.returns-in-Ok-clause-refuses
returns-in-Ok-clause-refuses g c =
    if-map _ (λ bytes. BundleRefuses c.args.limits.log bytes c.bundle_of_loaded.result) (g.D.Disk.bytes c.args.log.now)
    (λ bytes lawful. store-refuses c.args.limits.log bytes c.bundle_of_loaded.result c.bundle_of_loaded.ensures.err lawful) c.in-Ok.ensures.lawful

pub returns-in-Err-clause-bundles : goal.returns-in-Err-clause-bundles
returns-in-Err-clause-bundles g c = λ payloads w.
    subst (λ e. IfSome (g.D.Disk.bytes c.args.log.now) (λ bytes. HoldAs c.args.limits.log bytes payloads w → Bundles payloads w (Err e))) (sym c.not_loaded.ensures)
    (if-map _ (λ bytes. HoldAs c.args.limits.log bytes payloads w → Bundles payloads w (Err (unbundled_of c.in-Err.fault))) (g.D.Disk.bytes c.args.log.now)
    (λ bytes opens hold. none-opens c.args.limits payloads w c.in-Err.fault (opens hold)) (c.in-Err.ensures.opens payloads w))

pub returns-in-Err-clause-refuses : goal.returns-in-Err-clause-refuses
returns-in-Err-clause-refuses g c =
    subst (λ e. IfSome (g.D.Disk.bytes c.args.log.now) (λ bytes. BundleRefuses c.args.limits.log bytes (Err e))) (sym c.not_loaded.ensures)
    (if-map _ (λ bytes. BundleRefuses c.args.limits.log bytes (Err (unbundled_of c.in-Err.fault))) (g.D.Disk.bytes c.args.log.now)
    (λ bytes none. none-answers c.args.limits bytes c.in-Err.fault none) c.in-Err.ensures.answers)
