-- What can be told: which numbers, names and lists have a spelling.
use Rattle.std.specs.Prelude.{◌≡◌, ◌<◌, ◌≤◌, ◌^◌, ℕ, List, length, Option, Some, None, ⊤}
use Rattle.std.specs.List.{AllByRecursion}
use Rattle.id_groups.specs.Name.{IsName}
use Rattle.segment_codec.specs.Record.{Segment}
use Rattle.remote_rules.specs.CloneData.{CloneData, KnownName}
use Rattle.remote_rules.specs.Known.{Path}

-- a flat segment that can be told: its numbers have eight bytes, and it has at most 8 parents
pub record IsTold (s : Segment) : Type 0 where
  pub flat : s.level ≡ 0
  pub low : s.low < 2 ^ 64
  pub high : s.high < 2 ^ 64
  pub few : length s.parents ≤ 8
  pub parents : AllByRecursion (λ p. p < 2 ^ 64) s.parents

-- an id with its name that can be told
abbrev pub IsToldName : KnownName → Type 0
IsToldName k = (k.id < 2 ^ 64) × IsName k.name

-- clone data that can be told
pub record IsToldClone (told : CloneData) : Type 0 where
  pub few_segments : length told.segments < 2 ^ 32
  pub segments : AllByRecursion IsTold told.segments
  pub few_names : length told.names < 2 ^ 32
  pub names : AllByRecursion IsToldName told.names
  pub few_heads : length told.heads < 2 ^ 32
  pub heads : AllByRecursion IsName told.heads

abbrev pub IsToldPath : Option Path → Type 0
IsToldPath None = ⊤
IsToldPath (Some path) = IsName path.from × (path.back < 2 ^ 64)
