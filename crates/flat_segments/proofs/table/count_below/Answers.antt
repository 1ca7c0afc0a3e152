use Rattle.std.proofs.Common.{rules}
use Rattle.std.specs.Prelude.{nat_lt}
use Rattle.std.proofs.lemmas.List.Sorted.{IsPartitionPoint-from_clause}
use Rattle.flat_segments.specs.Entries.{PlainEntry}
use Rattle.flat_segments.proofs.Cutting.{below-parted, below-front}
use Rattle.flat_segments.proofs.table.count_below.Goals as goal

pub returns-clause-below : goal.returns-clause-below
returns-clause-below c =
    let point = IsPartitionPoint-from_clause (λ (e : PlainEntry). nat_lt e.low c.args.below) _ _ c.partition_point.ensures.partitioned
    (below-parted c.requires.0 c.args.below c.args.entries.now c.requires.1) (λ a r q k. search rules) in
    below-front c.args.below c.args.entries.now c.partition_point.result point.0 point.1
