use Rattle.std.proofs.Common.{◌≡◌, drop, nat_eq}
use Rattle.id_groups.specs.Lists.{is_in}
use Rattle.store_queries.proofs.adding.has_id.Given as goal

abbrev pub invariant-loop-known : goal.invariant-loop-known
invariant-loop-known l = is_in nat_eq l.id l.ids ≡ is_in nat_eq l.id (drop l.known-index l.ids)
