use Rattle.std.proofs.Common.{◌≡◌, List, length, map}
use Rattle.std.specs.List.{AllByRecursion}
use Rattle.name_index.specs.Runs.{entry_of, AreRuns, joined}
use Rattle.name_index.proofs.Indexes.{Looked}
use Rattle.name_index.proofs.index.has_held.Given as goal
use Rattle.name_index.specs.Named.{NamedPlace, StandFrom, names_in}

abbrev pub invariant-each : goal.invariant-each
invariant-each l = (held : List (List NamedPlace)) (named : List NamedPlace) → AreRuns l.runs held → AllByRecursion (StandFrom l.old.at l.old.bytes.now) held
    → l.fn.entries ≡ map entry_of named → StandFrom l.new.at l.new.bytes.now named
    → Looked l.new.at l.new.bytes.now l.rest (names_in (joined held)) named

abbrev pub decreases-each : goal.decreases-each
decreases-each l = length l.rest
