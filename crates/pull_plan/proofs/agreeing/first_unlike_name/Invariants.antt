use Rattle.std.proofs.Common.{◌≡◌, ◌+◌, List, drop}
use Rattle.name_map.specs.Added.{Placed, payloads_of, AllStand}
use Rattle.remote_rules.specs.CloneData.{first_false}
use Rattle.change_rules.specs.Tables.{known_in}
use Rattle.payload_tables.specs.Kept.{AreTablesOf}
use Rattle.pull_plan.specs.Pulling.{unlike_name}
use Rattle.pull_plan.proofs.StoredBeside.{name_tests}
use Rattle.pull_plan.proofs.agreeing.first_unlike_name.Given as goal

abbrev pub invariant-names : goal.invariant-names
invariant-names l = (added : List Placed) → AreTablesOf l.tables added → AllStand l.bytes added
    → unlike_name l.told.names (known_in (payloads_of added)) l.below l.first ≡ first_false (l.first + l.i) (name_tests (known_in (payloads_of added)) l.below (drop l.i l.told.names))
