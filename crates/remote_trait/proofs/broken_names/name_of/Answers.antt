use Rattle.std.proofs.Common.{◌∙◌, rules, sym, ap}
use Rattle.std.specs.Prelude.{nat_lt}
use Rattle.std.proofs.lemmas.List.Sorted.{IsPartitionPoint-from_clause}
use Rattle.remote_rules.specs.CloneData.{KnownName}
use Rattle.remote_trait.proofs.Items.{named-found, named-nowhere, parted, no-place, other-place}
use Rattle.remote_trait.proofs.broken_names.name_of.Goals as goal

pub returns-then-known-id : goal.returns-then-known-id
returns-then-known-id c =
    named-found c.args.names.now c.requires c.partition_point-place.result c.index-names-place.result c.if-names-place.false c.index-names-place.is c.args.id c.known.inside.name
    (sym c.if-known-id.true ∙ ap (λ (k : KnownName). k.id) c.known.view_is) (ap (λ (k : KnownName). k.name) c.known.view_is)

pub returns-then-names-place : goal.returns-then-names-place
returns-then-names-place c =
    let point = IsPartitionPoint-from_clause (λ (k : KnownName). nat_lt k.id c.args.id) _ _ c.partition_point-place.ensures.partitioned (parted c.args.names.now c.requires c.args.id) (λ a r q k. search rules) in
    named-nowhere c.args.names.now c.requires c.args.id c.partition_point-place.result point
    (λ k e _. no-place c.args.names.now c.partition_point-place.result k c.if-names-place.true e)

pub returns-else-known-id : goal.returns-else-known-id
returns-else-known-id c =
    let point = IsPartitionPoint-from_clause (λ (k : KnownName). nat_lt k.id c.args.id) _ _ c.partition_point-place.ensures.partitioned (parted c.args.names.now c.requires c.args.id) (λ a r q k. search rules) in
    named-nowhere c.args.names.now c.requires c.args.id c.partition_point-place.result point
    (other-place c.args.names.now c.partition_point-place.result c.index-names-place.result c.if-names-place.false c.index-names-place.is c.args.id c.known.inside.id
    (ap (λ (k : KnownName). k.id) c.known.view_is) c.if-known-id.false)
