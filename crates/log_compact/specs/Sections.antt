-- The sections of the payload of a whole store, as they are read of the tables of a log.
use Rattle.std.specs.Prelude.{◌≡◌, ◌≢◌, ◌<◌, ◌≤◌, ◌+◌, ◌^◌, ℕ, List, [], ◌∷◌, ⊤, not, filter, nat_lt}
use Rattle.id_groups.specs.Lists.{IsIn}
use Rattle.id_groups.specs.Name.{Name}
use Rattle.commit_graph.specs.World.{World}
use Rattle.segment_codec.specs.Record.{Segment}
use Rattle.batch_codec.specs.Payload.{Known}
use Rattle.name_map.specs.Added.{Placed, payloads_of, AllStand}
use Rattle.change_rules.specs.Holding.{HoldPayloads}
use Rattle.payload_tables.specs.Kept.{PlainTables, AreTablesOf}

-- the segments of master ids, and those of other ids
abbrev pub masters_in : List Segment → List Segment
masters_in segments = filter (λ s. nat_lt s.low (2 ^ 56)) segments

abbrev pub others_in : List Segment → List Segment
others_in segments = filter (λ s. not (nat_lt s.low (2 ^ 56))) segments

-- the known names of the ids below the number
abbrev pub known_below : ℕ → List Known → List Known
known_below number known = filter (λ k. nat_lt k.id number) known

-- what is known of the id: one name, or none
abbrev pub IsKnownOf : List Known → ℕ → List Known → Type 0
IsKnownOf known id [] = (k : Known) → IsIn k known → k.id ≡ id → ⊥
IsKnownOf known id (k ∷ more) = (more ≡ []) × (k.id ≡ id) × IsIn k known

-- the ids ascend from the least one on, and lie below the end
abbrev pub AscendWithin : ℕ → ℕ → List Known → Type 0
AscendWithin least end [] = ⊤
AscendWithin least end (k ∷ more) = (least ≤ k.id) × (k.id < end) × AscendWithin (k.id + 1) end more

-- the tables are those of payloads that hold the world; these stand in the bytes, and there is one
pub record StandsWhole (tables : PlainTables) (bytes : List ℕ) (added : List Placed) (w : World Name) : Type 0 where
  pub tables_of : AreTablesOf tables added
  pub stand : AllStand bytes added
  pub hold : HoldPayloads (payloads_of added) w
  pub some : payloads_of added ≢ []
