-- A disk, a source and a sink, where all three tell.
use Rattle.std.specs.Prelude.{ℕ, List, Option, Some, None}
use Rattle.line_io.specs.Streams.{Streams}
use Rattle.disk_trait.specs.Images.{Told}

pub record Seen : Type 0 where
  pub disk : Told
  -- the bytes that the source has left
  pub left : List ℕ
  -- the bytes that the sink has taken
  pub taken : List ℕ

abbrev pub seen : Option Told → Option (List ℕ) → Option (List ℕ) → Option Seen
seen (Some disk) (Some left) (Some taken) = Some (record { disk = disk; left = left; taken = taken })
seen (Some disk) (Some left) None = None
seen (Some disk) None taken = None
seen None left taken = None

-- what was read and written from one to the other
abbrev pub streams : Seen → Seen → Streams
streams before after = record { input = before.left; left = after.left; taken = before.taken; now = after.taken }
