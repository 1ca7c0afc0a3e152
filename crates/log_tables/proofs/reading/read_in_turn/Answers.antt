use Rattle.std.proofs.Common.{◌+◌, ℕ, List, refl, sym, subst, ◌<◌, ◌≤◌, length, inl, inr, ⊎_elim, arith}
use Rattle.std.proofs.lemmas.Result.{err_from_is_err_and}
use Rattle.name_map.specs.Added.{AllStand}
use Rattle.gated_log.specs.Held.{log_bytes}
use Rattle.payload_tables.specs.Kept.{AreTablesOf}
use Rattle.log_tables.proofs.Loads.{read-next, read-unlawful, read-all}
use Rattle.log_tables.proofs.reading.read_in_turn.Goals as goal

pub returns-in_err-read_batch-clause-err : goal.returns-in_err-read_batch-clause-err
returns-in_err-read_batch-clause-err c =
    let n = c.batch_count-k-end.ensures in
    let t = c.batches-test.true in
    let r = c.batches.invariant in
    let lt : c.batches.k < length c.args.log.now.payloads = omega (arith, n, t) in
    let p = err_from_is_err_and c.from_residual.result c.from_residual.ensures.1 in
    let stand = subst (λ (l : List ℕ). AllStand l r.added) (sym c.bytes-bytes.ensures.bytes) r.stand in
    rw (p.1, p.2) (⊎_elim (λ e. inl e)
    (λ b. inr (c.batches.k, b.0, read-unlawful c.batches.tables c.args.log.now.payloads _ c.batches.k c.batches.end r c.batch-payload.result.now lt c.batch-payload.ensures b.1))
    (c.in_err-read_batch.ensures.err r.added r.are stand))

pub batches-preserved : goal.batches-preserved
batches-preserved c =
    let n = c.batch_count-k-end.ensures in
    let t = c.batches-test.true in
    let r = c.batches.invariant in
    let lt : c.batches.k < length c.args.log.now.payloads = omega (arith, n, t) in
    let stand = subst (λ (l : List ℕ). AllStand l r.added) (sym c.bytes-bytes.ensures.bytes) r.stand in
    let more = c.in_ok-read_batch.ensures.added r.added r.are stand in
    read-next (AreTablesOf c.batches.tables) (AreTablesOf c.read_batch.new.tables) c.args.log.now.payloads _ c.batches.k c.batches.end (c.batches.end + 9) _ r c.batch-payload.result.now more.0 lt c.batch-payload.ensures refl refl more.1 more.2

pub returns-clause-ok : goal.returns-clause-ok
returns-clause-ok c =
    let n = c.batch_count-k-end.ensures in
    let t = c.batches-test.false in
    let le : length c.args.log.now.payloads ≤ c.batches.k = omega (arith, n, t) in
    read-all (AreTablesOf c.batches.tables) c.args.log.now.payloads (log_bytes c.args.log.now) c.batches.k c.batches.end c.batches.invariant le
