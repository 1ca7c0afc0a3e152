use Rattle.std.proofs.Common.{ℕ, rules}
use Rattle.std.specs.Prelude.{nat_lt}
use Rattle.std.proofs.lemmas.List.Sorted.{IsPartitionPoint-from_clause}
use Rattle.name_map.proofs.Ids.{ids-parted, less-point, rest-point}
use Rattle.name_map.proofs.part.count_less.Goals as goal

pub returns-clause-less : goal.returns-clause-less
returns-clause-less c =
    let n = c.args.number in
    let point = IsPartitionPoint-from_clause (λ (id : ℕ). nat_lt id n) _ _ c.partition_point.ensures.partitioned (ids-parted n _ _ _ c.requires) (λ a r q k. search rules) in
    less-point n _ _ point.0

pub returns-clause-rest : goal.returns-clause-rest
returns-clause-rest c =
    let n = c.args.number in
    let point = IsPartitionPoint-from_clause (λ (id : ℕ). nat_lt id n) _ _ c.partition_point.ensures.partitioned (ids-parted n _ _ _ c.requires) (λ a r q k. search rules) in
    rest-point n _ _ point.1
