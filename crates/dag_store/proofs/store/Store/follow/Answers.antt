use Rattle.std.proofs.Common.{◌<◌, ◌≤◌, length, arith}
use Rattle.dag_store.proofs.Followers.{follow-end-stands, follow-next, refused-stands}
use Rattle.dag_store.proofs.store.Store.follow.Goals as goal

pub returns-in-Refused-clause-stands : goal.returns-in-Refused-clause-stands
returns-in-Refused-clause-stands c =
    let n = c.batch_count-k-end.ensures in
    let t = c.batches-test.true in
    let lt : c.batches.k < length c.args.more.now.payloads = omega (arith, n, t) in
    let e = c.in-Refused.ensures in
    refused-stands c.args.more.now.payloads c.batches.k c.batch.result.now lt c.batch.ensures c.args.self c.batches.store c.in-Refused.same c.in-Refused.fault c.batches.invariant e.takes.0 e.takes.1 e.stands

pub batches-preserved : goal.batches-preserved
batches-preserved c =
    let n = c.batch_count-k-end.ensures in
    let t = c.batches-test.true in
    let lt : c.batches.k < length c.args.more.now.payloads = omega (arith, n, t) in
    let e = c.in-Done.ensures in
    follow-next c.args.more.now.payloads c.batches.k c.batch.result.now lt c.batch.ensures c.args.self c.batches.store c.in-Done.next c.batches.invariant e.takes e.stands

pub returns-clause-stands : goal.returns-clause-stands
returns-clause-stands c =
    let n = c.batch_count-k-end.ensures in
    let t = c.batches-test.false in
    let le : length c.args.more.now.payloads ≤ c.batches.k = omega (arith, n, t) in
    follow-end-stands c.args.self c.batches.store c.args.more.now.payloads c.batches.k c.batches.invariant le
