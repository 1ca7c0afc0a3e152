use Rattle.std.proofs.Common.{◌≡◌, drop}
use Rattle.std.specs.List.{list_all}
use Rattle.remote_trait.specs.Marked.{has}
use Rattle.remote_trait.proofs.broken_heads.are_named.Given as goal

abbrev pub invariant-ids : goal.invariant-ids
invariant-ids l = list_all (has l.named) l.ids ≡ list_all (has l.named) (drop l.k l.ids)
