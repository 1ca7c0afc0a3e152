use Rattle.std.proofs.Common.{◌≡◌, ℕ, List, length, map}
use Rattle.name_index.specs.Filter.{PassAll}
use Rattle.name_index.specs.Moved.{AreMoves}
use Rattle.name_index.specs.Named.{NamedPlace, StandFrom}
use Rattle.name_index.specs.Runs.{entry_of}
use Rattle.name_index.proofs.Thinning.{Thinning}
use Rattle.name_index.proofs.moved.moved_entries.Given as goal

abbrev pub invariant-each : goal.invariant-each
invariant-each l = ((old new : List ℕ) (held : List NamedPlace) → AreMoves old new 0 l.moves → l.entries ≡ map entry_of held → StandFrom l.from old held → Thinning l.from l.to old new held l.rest l.out.items)
    × ((words : List ℕ) → PassAll words l.entries → PassAll words l.rest × PassAll words l.out.items)

abbrev pub decreases-each : goal.decreases-each
decreases-each l = length l.rest
