use Rattle.std.proofs.Common.{◌≡◌, ◌+◌, [], take, drop}
use Rattle.remote_rules.specs.CloneData.{first_false, names_fit}
use Rattle.remote_trait.specs.Broken.{HasSeen}
use Rattle.remote_trait.proofs.broken_names.first_bad_of_any.Given as goal

abbrev pub invariant-names : goal.invariant-names
invariant-names l =
    HasSeen (take l.k l.names) l.seen.names l.seen.next
    × (first_false l.first (names_fit l.end [] l.names) ≡ first_false (l.first + l.k) (names_fit l.end (take l.k l.names) (drop l.k l.names)))
