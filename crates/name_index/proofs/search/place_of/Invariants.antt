use Rattle.std.proofs.Common.{◌-◌, ◌∷◌}
use Rattle.std.specs.Ordering.{nat_cmp}
use Rattle.std.specs.Cmp.Lexicographic.{slice_cmp}
use Rattle.name_index.specs.Runs.{key_in}
use Rattle.name_index.specs.declared.entry.Entry.{Entry as PlainEntry}
use Rattle.name_index.proofs.Searching.{Between}
use Rattle.name_index.proofs.search.place_of.Given as goal

abbrev pub invariant-search : goal.invariant-search
invariant-search l = Between (λ (e : PlainEntry). slice_cmp nat_cmp (key_in l.stretch.bytes.now l.stretch.at e) (l.front ∷ l.name)) l.entries l.low l.high

abbrev pub decreases-search : goal.decreases-search
decreases-search l = l.high - l.low
