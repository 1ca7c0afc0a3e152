use Rattle.std.proofs.Common.{List, length, ◌-◌, ◌≤◌}
use Rattle.name_map.specs.Added.{Placed, AllStand, known_of}
use Rattle.name_map.specs.Map.{IsMapOf}
use Rattle.lazy_names.specs.Ahead.{AreAhead, most_told}
use Rattle.lazy_names.proofs.lazy.LazyNames.runs_ahead.Given as goal

abbrev pub invariant-runs : goal.invariant-runs
invariant-runs g l =
    (l.at ≤ length l.ids) × (length l.runs.items ≤ most_told)
    × ((added : List Placed) → IsMapOf l.stored.known.now added → AllStand l.stored.bytes.now added
    → AreAhead (g.T.SegmentTable.flats l.stored.table.now) (known_of added) l.self.entries l.ids l.runs.items l.at)

abbrev pub decreases-runs : goal.decreases-runs
decreases-runs g l = length l.ids - l.at
