-- The parents of numbers, by the segments of a table.
use Rattle.std.specs.Prelude.{◌<◌, ◌+◌, ◌-◌, ◌^◌, ℕ, List, map}
use Rattle.std.specs.List.{AllByRecursion}
use Rattle.id_groups.specs.Id.{other_id}
use Rattle.segment_codec.specs.Record.{Segment}
use Rattle.segment_codec.specs.Table.{parents_at}
use Rattle.name_map.specs.Part.{upward}

-- the parents of the numbers below n, by the segments of a table
abbrev pub table_rows : List Segment → ℕ → List (List ℕ)
table_rows flats n = map (λ k. parents_at flats (other_id k)) (upward 0 n)

-- each of these is a master id, or the other id of a number of 32 bits
abbrev pub AreSmall : List ℕ → Type 0
AreSmall ids = AllByRecursion (λ id. id < 2 ^ 56 + 2 ^ 32) ids

-- each parent is a master id, or the other id of a number below n
abbrev pub AreRowsBelow : ℕ → List (List ℕ) → Type 0
AreRowsBelow n rows = AllByRecursion (λ row. AllByRecursion (λ p. p < 2 ^ 56 + n) row) rows
