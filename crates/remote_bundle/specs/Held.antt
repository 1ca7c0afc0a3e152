-- What is kept of a bundle that was read.
use Rattle.std.specs.Prelude.{◌≡◌, ◌<◌, ◌⊎◌, ℕ, List, Option, None, length, Result, Ok, Err}
use Rattle.std.specs.Option.{option_map}
use Rattle.id_groups.specs.Name.{Name}
use Rattle.outside.specs.Counts.{Rose}
use Rattle.commit_graph.specs.World.{Row}
use Rattle.flat_segments.specs.Kept.{KeptFlats, IsTableOf}
use Rattle.flat_segments.specs.Placed.{placed_segments}
use Rattle.name_index.specs.Index.{IsIndexOf}
use Rattle.name_index.specs.declared.entry.Entry.{Entry}
use Rattle.bundle_codec.specs.Bundle.{Contents, IsBundle, bundle_bytes, rows_of}
use Rattle.bundle_codec.specs.Places.{records_start, names_start, named_from}
use Rattle.bundle_codec.specs.Reading.{bundle_at, rows_within}
use Rattle.remote_trait.specs.declared.fault.RemoteFault.{RemoteFault}
use Rattle.remote_trait.specs.declared.fault.RemoteFault.TheVariants.{Failed, Memory}
use Rattle.remote_answers.specs.Paths.{IsReachedBy}
use Rattle.remote_answers.specs.declared.reached.Reached.{Reached}

pub record PlainRead : Type 0 where
  pub bytes : List ℕ
  -- where the names stand
  pub start : ℕ
  pub table : KeptFlats
  pub index : List (List Entry)

-- the bytes are the bundle of these contents, and the table and the index are those of its records and names
pub record IsReadOf (read : PlainRead) (c : Contents) : Type 0 where
  pub bundle : IsBundle c
  pub spelled : read.bytes ≡ bundle_bytes c
  pub start : read.start ≡ names_start c
  pub table : IsTableOf read.table (placed_segments records_start c.segments)
  pub index : IsIndexOf read.index (named_from (names_start c) c.names)

-- a bundle was read, and what is reached is so in its rows
abbrev pub IsHeld : PlainRead → Reached → Type 0
IsHeld read reached = (c : Contents) × IsReadOf read c × IsReachedBy c.segments (rows_of c) reached

-- the rows of the bundle that the bytes are
abbrev pub rows_in : List ℕ → Option (List (Row Name))
rows_in bytes = option_map rows_of (bundle_at bytes)

-- the bytes are too many, or no bundle
abbrev pub IsUnfit : ℕ → List ℕ → Type 0
IsUnfit limit bytes = rows_within limit bytes ≡ None

-- what reading answers over these bytes: they are kept; or a failure, since they are unfit or the count of the disk's faults rose; or that
-- memory was wanting, which isn't so of too many bytes
abbrev pub Peeks : ℕ → List ℕ → ℕ → ℕ → Result (List ℕ) RemoteFault → Type 0
Peeks limit bytes before now (Ok held) = (held ≡ bytes) × (IsUnfit limit bytes → ⊥)
Peeks limit bytes before now (Err Failed) = Rose before now ⊎ IsUnfit limit bytes
Peeks limit bytes before now (Err Memory) = limit < length bytes → ⊥
