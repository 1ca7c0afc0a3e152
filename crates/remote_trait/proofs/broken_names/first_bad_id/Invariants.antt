use Rattle.std.proofs.Common.{◌≡◌, ◌+◌, ℕ, [], take, drop, nat_lt, nat_le}
use Rattle.std.specs.List.{list_all}
use Rattle.remote_rules.specs.CloneData.{KnownName, first_false, names_fit}
use Rattle.remote_trait.proofs.broken_names.first_bad_id.Given as goal

abbrev pub invariant-names : goal.invariant-names
invariant-names l =
    ((q : ℕ) → list_all (λ (b : KnownName). nat_lt b.id q) (take l.k l.names) ≡ nat_le l.next q)
    × (first_false l.first (names_fit l.end [] l.names) ≡ first_false (l.first + l.k) (names_fit l.end (take l.k l.names) (drop l.k l.names)))
