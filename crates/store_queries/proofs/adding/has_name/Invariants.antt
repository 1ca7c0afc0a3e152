use Rattle.std.proofs.Common.{◌≡◌, drop}
use Rattle.id_groups.specs.Lists.{is_in}
use Rattle.id_groups.specs.Name.{same_name}
use Rattle.store_queries.proofs.adding.has_name.Given as goal

abbrev pub invariant-loop-known : goal.invariant-loop-known
invariant-loop-known l = is_in same_name l.name l.names ≡ is_in same_name l.name (drop l.known-index l.names)
