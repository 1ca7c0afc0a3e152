use Rattle.std.proofs.Common.{ap, arith}
use Rattle.flat_segments.specs.Entries.{PlainEntry}
use Rattle.flat_segments.proofs.Searching.{back-from, above}
use Rattle.flat_segments.proofs.search.count_by_search.Goals as goal

pub count_near-requires-clause-back : goal.count_near-requires-clause-back
count_near-requires-clause-back c =
    let more = above c.begins_above.ensures c.if-begins_above.true in
    let same = ap (λ (e : PlainEntry). e.low) c.index-entries-near.is in
    back-from c.requires.rise.0 c.args.id c.args.entries.now c.args.near c.index-entries-near.result c.requires.rise.1 c.if-near-entries.true (omega (arith, more, same))
