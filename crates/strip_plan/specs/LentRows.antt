-- The parents of numbers, as they are lent.
use Rattle.std.specs.Prelude.{◌≡◌, ◌+◌, ◌-◌, ℕ, List, [], ◌∷◌, length}
use Rattle.id_groups.specs.Id.{other_id}
use Rattle.segment_codec.specs.Record.{Segment}
use Rattle.segment_codec.specs.Lent.{parents_left}
use Rattle.strip_plan.specs.declared.lent.Row.{Row}
use Rattle.strip_plan.specs.declared.lent.Row.TheVariants.{Root, Follows, Begins}
use Rattle.change_parts.specs.Rows.{table_rows}

-- the parents of the number k by its row
abbrev pub lent_row : ℕ → Row → List ℕ
lent_row k Root = []
lent_row k Follows = (other_id k - 1) ∷ []
lent_row k (Begins parents) = parents_left parents

-- those of the numbers from k on
abbrev pub lent_rows : ℕ → List Row → List (List ℕ)
lent_rows k [] = []
lent_rows k (row ∷ rows) = lent_row k row ∷ lent_rows (k + 1) rows

-- the rows are those of the numbers below n, by the segments of a table
pub record AreLent (flats : List Segment) (rows : List Row) (n : ℕ) : Type 0 where
  pub long : length rows ≡ n
  pub rows_are : lent_rows 0 rows ≡ table_rows flats n
