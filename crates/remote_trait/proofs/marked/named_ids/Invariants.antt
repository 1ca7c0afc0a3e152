use Rattle.std.proofs.Common.{◌≡◌, ℕ, map, take, nat_eq}
use Rattle.id_groups.specs.Lists.{is_in}
use Rattle.remote_rules.specs.CloneData.{KnownName}
use Rattle.remote_trait.specs.Marked.{has}
use Rattle.remote_trait.proofs.marked.named_ids.Given as goal

abbrev pub invariant-names : goal.invariant-names
invariant-names l = (q : ℕ) → has l.ids q ≡ is_in nat_eq q (map (λ (k : KnownName). k.id) (take l.k l.names))
