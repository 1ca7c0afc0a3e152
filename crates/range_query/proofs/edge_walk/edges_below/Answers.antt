use Rattle.std.proofs.Common.{rules, ℕ, ◌/◌, ◌^◌}
use Rattle.std.specs.Prelude.{nat_lt}
use Rattle.std.proofs.lemmas.List.Sorted.{IsPartitionPoint-from_clause}
use Rattle.range_query.proofs.EdgeLemmas.{edges-parted}
use Rattle.range_query.proofs.edge_walk.edges_below.Goals as goal

pub returns-clause-front : goal.returns-clause-front
returns-clause-front c =
    (IsPartitionPoint-from_clause (λ (e : ℕ). nat_lt (e / 2 ^ 32) c.args.id) _ _ c.partition_point.ensures.partitioned (edges-parted c.args.id c.args.edges.now c.requires) (λ a r q k. search rules)).0

pub returns-clause-back : goal.returns-clause-back
returns-clause-back c =
    (IsPartitionPoint-from_clause (λ (e : ℕ). nat_lt (e / 2 ^ 32) c.args.id) _ _ c.partition_point.ensures.partitioned (edges-parted c.args.id c.args.edges.now c.requires) (λ a r q k. search rules)).1
