-- Payloads of a log, and their bytes.
use Rattle.std.specs.Prelude.{ℕ, ◌+◌, ◌*◌, List, [], ◌∷◌, ◌++◌, length, map, flat_map, nat_eq, if◌then◌else◌}
use Rattle.std.specs.Int.{w16, w32, w64, to_be_bytes}
use Rattle.id_groups.specs.Name.{Name}
use Rattle.segment_codec.specs.Record.{Segment, segment_bytes}

-- an id and its name
pub record Known : Type 0 where
  pub id : ℕ
  pub name : Name

-- A payload of either version. One of version 1 spells no cloned count and has no segments of levels.
pub record Payload : Type 0 where
  -- that of its format: 1 or 2
  pub version : ℕ
  -- 1 is a flush, 2 a clone, 3 a whole store
  pub kind : ℕ
  -- the sizes of the master group before and after
  pub before : ℕ
  pub after : ℕ
  -- how many of the master ids were cloned
  pub cloned : ℕ
  pub master : List Segment
  -- the new segments of the levels above the flat ones
  pub levels : List Segment
  pub known : List Known
  pub heads : List Name
  pub others : List Segment
  pub other_names : List Name

abbrev pub known_ids : Payload → List ℕ
known_ids p = map (λ k. k.id) p.known

abbrev pub known_names : Payload → List Name
known_names p = map (λ k. k.name) p.known

abbrev pub known_bytes : Known → List ℕ
known_bytes k = to_be_bytes w64 k.id ++ k.name

-- names one after another
abbrev pub names_bytes : List Name → List ℕ
names_bytes names = flat_map (λ name. name) names

-- the cloned count, which version 1 leaves out
abbrev pub cloned_bytes : ℕ → ℕ → List ℕ
cloned_bytes version cloned = if nat_eq version 1 then [] else to_be_bytes w64 cloned

-- the section of the levels, which version 1 leaves out
abbrev pub levels_bytes : ℕ → List Segment → List ℕ
levels_bytes version levels = if nat_eq version 1 then [] else to_be_bytes w32 (length levels) ++ flat_map segment_bytes levels

-- the one spelling of a payload
unfoldable pub payload_bytes : Payload → List ℕ
payload_bytes p =
    p.version ∷ p.kind ∷ to_be_bytes w64 p.before ++ (to_be_bytes w64 p.after ++ (cloned_bytes p.version p.cloned
    ++ (to_be_bytes w32 (length p.master) ++ (flat_map segment_bytes p.master
    ++ (levels_bytes p.version p.levels
    ++ (to_be_bytes w32 (length p.known) ++ (flat_map known_bytes p.known
    ++ (to_be_bytes w16 (length p.heads) ++ (names_bytes p.heads
    ++ (to_be_bytes w32 (length p.other_names) ++ (to_be_bytes w32 (length p.others) ++ (flat_map segment_bytes p.others
    ++ names_bytes p.other_names))))))))))))

-- how many bytes a part of so many takes that version 1 leaves out
abbrev pub size_since_second : ℕ → ℕ → ℕ
size_since_second version n = if nat_eq version 1 then 0 else n

-- The places at which the first item of each section stands, or would stand. In version 1 no count stands before the levels.
abbrev pub master_start : Payload → ℕ
master_start p = 22 + size_since_second p.version 8

abbrev pub levels_start : Payload → ℕ
levels_start p = master_start p + length (flat_map segment_bytes p.master) + size_since_second p.version 4

abbrev pub known_start : Payload → ℕ
known_start p = levels_start p + length (flat_map segment_bytes p.levels) + 4

abbrev pub heads_start : Payload → ℕ
heads_start p = known_start p + 28 * length p.known + 2

abbrev pub others_start : Payload → ℕ
others_start p = heads_start p + 20 * length p.heads + 8

abbrev pub names_start : Payload → ℕ
names_start p = others_start p + length (flat_map segment_bytes p.others)
