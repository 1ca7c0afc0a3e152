-- Ids that are asked for together: neighbours in one flat segment that have no name in the cache.
use Rattle.std.specs.Prelude.{ℕ, ◌+◌, ◌&&◌, Bool, false, not, List, [], ◌∷◌, Option, Some, None, nat_eq, nat_le, if◌then◌else◌}
use Rattle.segment_codec.specs.Record.{Segment}
use Rattle.segment_codec.specs.Table.{segment_at}
use Rattle.lazy_names.specs.Cache.{Entry}
use Rattle.lazy_names.specs.Fetching.{is_uncached}

-- where a segment begins, and the id itself where there is none
abbrev pub low_in : Option Segment → ℕ → ℕ
low_in None id = id
low_in (Some s) id = s.low

-- where the flat segment of the id begins
abbrev pub low_of : List Segment → ℕ → ℕ
low_of flats id = low_in (segment_at flats id) id

-- whether the first of these ids lies one below this one in its flat segment, without a name in the cache
abbrev pub goes_down : List Segment → List Entry → ℕ → List ℕ → Bool
goes_down flats entries id [] = false
goes_down flats entries id (next ∷ more) = nat_eq (next + 1) id && nat_le (low_of flats id) next && is_uncached entries next

-- How many runs the ids without a name in the cache are, where a run goes down one by one within a flat segment: each has a last
-- one, from which the next id doesn't go on.
abbrev pub count_runs : List Segment → List Entry → List ℕ → ℕ
count_runs flats entries [] = 0
count_runs flats entries (id ∷ more) =
    let rest = count_runs flats entries more in
    if is_uncached entries id && not (goes_down flats entries id more) then 1 + rest else rest
