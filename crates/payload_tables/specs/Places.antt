-- Which payload is in its place behind others, as far as they were counted.
use Rattle.std.specs.Prelude.{◌≡◌, ◌≢◌, ◌≤◌, ℕ, List, IsTrue, flat_map}
use Rattle.segment_codec.specs.Record.{segment_bytes}
use Rattle.name_map.specs.Added.{Placed, AllStand}
use Rattle.batch_codec.specs.Grammar.{IsPayload}
use Rattle.flat_segments.specs.Kept.{KeptFlats}
use Rattle.segment_levels.specs.Kept.{KeptLevels}
use Rattle.payload_tables.specs.Kept.{HaveMasters}
use Rattle.batch_codec.specs.Payload.{Payload}
use Rattle.batch_codec.specs.Grammar.{cloned_head_names}
use Rattle.payload_tables.specs.declared.heads.Before.{Before}

-- It begins where those before it end, in no earlier version; a clone or a whole store is the first, and has the heads of its cloned
-- ids by its segments.
pub record IsPlaced (before : Before) (p : Payload) : Type 0 where
  pub count : p.before ≡ before.masters
  pub version : before.version ≤ p.version
  pub first : p.kind ≢ 1 → IsTrue before.is_none
  pub heads : p.kind ≢ 1 → p.heads ≡ cloned_head_names p

-- These are the master records of a payload that begins behind those that were added, whose master ids a table and its levels have.
pub record BringsMasters (table : KeptFlats) (levels : KeptLevels) (bytes records : List ℕ) (added : List Placed) (p : Payload) : Type 0 where
  pub have : HaveMasters table levels added
  pub stand : AllStand bytes added
  pub payload : IsPayload p
  pub begins : p.before ≡ table.end
  pub records_are : records ≡ flat_map segment_bytes p.master
