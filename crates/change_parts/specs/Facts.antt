-- What a plan knows once its numbers are read.
use Rattle.std.specs.Prelude.{◌≡◌, ◌≤◌, ◌++◌, ℕ, List, length}
use Rattle.std.specs.List.{AllByRecursion}
use Rattle.id_groups.specs.Name.{Name, IsName}
use Rattle.commit_graph.specs.World.{Row, World, names_of, with_pending}
use Rattle.segment_codec.specs.Record.{Segment}
use Rattle.batch_codec.specs.Payload.{names_bytes}
use Rattle.payload_tables.specs.Kept.{PlainTables}
use Rattle.payload_tables.specs.Pending.{PlainPending}
use Rattle.payload_tables.specs.Bases.{AreSegmentsOf}
use Rattle.change_parts.specs.Plans.{MayMove}

-- What is flushed, and what was read of it: the segments of the view, the names of the n numbers, and how many master ids
-- there are before.
pub record MoveFacts (tables : PlainTables) (bytes : List ℕ) (pending : PlainPending) (numbers : List ℕ) (flats : List Segment) (names : List ℕ) (n before : ℕ) (w : World Name) (rows : List (Row Name)) (heads : List Name) : Type 0 where
  pub may : MayMove tables bytes pending numbers w rows heads
  pub segments : AreSegmentsOf (with_pending w rows) flats
  pub names_are : names ≡ names_bytes (names_of (w.others ++ rows))
  pub n_is : n ≡ length (w.others ++ rows)
  pub before_is : before ≡ length w.master
  pub small : length w.master ≤ 16777216
  pub names_whole : AllByRecursion IsName (names_of (w.others ++ rows))
  pub few : length (w.others ++ rows) ≤ 16842752
