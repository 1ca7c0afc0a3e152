use Rattle.std.proofs.Common.{rules}
use Rattle.std.specs.Prelude.{nat_le}
use Rattle.std.proofs.lemmas.List.Sorted.{IsPartitionPoint-from_clause}
use Rattle.segment_levels.specs.Kept.{PlainGroup}
use Rattle.high_segments.proofs.Finding.{lows-parted}
use Rattle.high_segments.proofs.kept.count_by_halves.Goals as goal

pub returns-clause-front : goal.returns-clause-front
returns-clause-front c =
    (IsPartitionPoint-from_clause (λ (g : PlainGroup). nat_le g.low c.args.id) _ _ c.partition_point.ensures.partitioned (lows-parted c.requires.0 c.requires.1 c.requires.3 c.requires.2 c.args.id c.args.groups.now c.requires.4) (λ a r q k. search rules)).0

pub returns-clause-back : goal.returns-clause-back
returns-clause-back c =
    (IsPartitionPoint-from_clause (λ (g : PlainGroup). nat_le g.low c.args.id) _ _ c.partition_point.ensures.partitioned (lows-parted c.requires.0 c.requires.1 c.requires.3 c.requires.2 c.args.id c.args.groups.now c.requires.4) (λ a r q k. search rules)).1
