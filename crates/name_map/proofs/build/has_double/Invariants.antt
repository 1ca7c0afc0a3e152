use Rattle.std.proofs.Common.{◌≡◌, List, map, take}
use Rattle.std.specs.List.{AllByRecursion}
use Rattle.name_map.specs.Added.{Placed, AllStand, known_of}
use Rattle.name_map.specs.Map.{IsMapOf}
use Rattle.name_map.specs.Build.{AreUnknown, others_of}
use Rattle.name_map.proofs.build.has_double.Given as goal

abbrev pub invariant-payloads : goal.invariant-payloads
invariant-payloads l = (added : List Placed) → IsMapOf l.names added → AllStand l.bytes added → l.others ≡ map others_of added
    → AllByRecursion (AreUnknown (known_of added)) (take l.other-index added)
