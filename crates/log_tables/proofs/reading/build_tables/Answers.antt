use Rattle.std.proofs.Common.{◌+◌, ℕ, List, refl, sym, subst, ◌<◌, ◌≤◌, length, arith}
use Rattle.name_map.specs.Added.{AllStand}
use Rattle.gated_log.specs.Held.{log_bytes}
use Rattle.payload_tables.specs.Build.{IsBuildOf}
use Rattle.log_tables.proofs.Loads.{read-next, read-all}
use Rattle.log_tables.proofs.reading.build_tables.Goals as goal

pub batches-preserved : goal.batches-preserved
batches-preserved c =
    let n = c.batch_count-k-end.ensures in
    let t = c.batches-test.true in
    let r = c.batches.invariant in
    let lt : c.batches.k < length c.args.log.now.payloads = omega (arith, n, t) in
    let stand = subst (λ (l : List ℕ). AllStand l r.added) (sym c.bytes-bytes.ensures.bytes) r.stand in
    let more = c.in_ok-build_batch.ensures r.added r.are stand in
    read-next (IsBuildOf c.batches.build) (IsBuildOf c.build_batch.new.build) c.args.log.now.payloads _ c.batches.k c.batches.end (c.batches.end + 9) _ r c.batch-payload.result.now more.0 lt c.batch-payload.ensures refl refl more.1 more.2

pub returns : goal.returns
returns c =
    let n = c.batch_count-k-end.ensures in
    let t = c.batches-test.false in
    let le : length c.args.log.now.payloads ≤ c.batches.k = omega (arith, n, t) in
    let all = read-all (IsBuildOf c.batches.build) c.args.log.now.payloads (log_bytes c.args.log.now) c.batches.k c.batches.end c.batches.invariant le in
    let stand = subst (λ (l : List ℕ). AllStand l all.0) (sym c.bytes-bytes.ensures.bytes) all.2 in
    (all.0, c.in_ok-tables.ensures.tables all.0 all.1 stand, all.2, all.3, all.4)
