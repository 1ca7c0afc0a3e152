use Rattle.std.proofs.Common.{◌≡◌, ◌+◌, ◌*◌, ◌++◌, ℕ, map, length}
use Rattle.name_index.specs.Named.{named_in}
use Rattle.name_index.specs.Runs.{entry_of}
use Rattle.name_index.proofs.run.entries_of.Given as goal

abbrev pub invariant-names : goal.invariant-names
invariant-names l = (l.place + length l.rest ≡ l.stretch.at + length l.stretch.bytes.now)
    × ((n : ℕ) → length l.stretch.bytes.now ≡ 20 * n → (k : ℕ) × (length l.rest ≡ 20 * k) × (l.entries.items ++ map entry_of (named_in k l.place l.rest) ≡ map entry_of (named_in n l.stretch.at l.stretch.bytes.now)))

abbrev pub decreases-names : goal.decreases-names
decreases-names l = length l.rest
