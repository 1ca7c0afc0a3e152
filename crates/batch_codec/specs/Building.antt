-- A payload that is being built: the bytes of its parts so far.
use Rattle.std.specs.Prelude.{◌≡◌, ℕ, List, [], ◌∷◌, ◌++◌, ◌/◌, length, flat_map}
use Rattle.std.specs.Int.{w16, w32, w64, to_be_bytes}
use Rattle.id_groups.specs.Name.{Name}
use Rattle.segment_codec.specs.Record.{Segment, segment_bytes}
use Rattle.batch_codec.specs.Payload.{Known, Payload, known_bytes, names_bytes}

pub record Building : Type 0 where
  -- the version, the kind, the master counts and the cloned count
  pub front : List ℕ
  pub master : List ℕ
  pub master_count : ℕ
  pub levels : List ℕ
  pub levels_count : ℕ
  pub known : List ℕ
  pub heads : List ℕ
  -- how many other ids there are to be
  pub other_count : ℕ
  pub others : List ℕ
  pub others_count : ℕ
  pub other_names : List ℕ

-- the parts so far are those of this payload, which is of version 2
pub record IsBuilt (b : Building) (p : Payload) : Type 0 where
  pub version : p.version ≡ 2
  pub front : b.front ≡ 2 ∷ p.kind ∷ to_be_bytes w64 p.before ++ to_be_bytes w64 p.after ++ to_be_bytes w64 p.cloned
  pub master : b.master ≡ flat_map segment_bytes p.master
  pub master_count : b.master_count ≡ length p.master
  pub levels : b.levels ≡ flat_map segment_bytes p.levels
  pub levels_count : b.levels_count ≡ length p.levels
  pub known : b.known ≡ flat_map known_bytes p.known
  pub heads : b.heads ≡ names_bytes p.heads
  pub others : b.others ≡ flat_map segment_bytes p.others
  pub others_count : b.others_count ≡ length p.others
  pub other_names : b.other_names ≡ names_bytes p.other_names

-- a payload without sections
abbrev pub empty_payload : ℕ → ℕ → ℕ → ℕ → Payload
empty_payload kind before after cloned = record {
  version = 2;
  kind = kind;
  before = before;
  after = after;
  cloned = cloned;
  master = [];
  levels = [];
  known = [];
  heads = [];
  others = [];
  other_names = [];
}

abbrev pub with_segment : Payload → Segment → Payload
with_segment p s = record p { master = p.master ++ s ∷ [] }

abbrev pub with_level_segment : Payload → Segment → Payload
with_level_segment p s = record p { levels = p.levels ++ s ∷ [] }

abbrev pub with_known : Payload → Known → Payload
with_known p k = record p { known = p.known ++ k ∷ [] }

abbrev pub with_head : Payload → Name → Payload
with_head p name = record p { heads = p.heads ++ name ∷ [] }

abbrev pub with_other_segment : Payload → Segment → Payload
with_other_segment p s = record p { others = p.others ++ s ∷ [] }

abbrev pub with_other_name : Payload → Name → Payload
with_other_name p name = record p { other_names = p.other_names ++ name ∷ [] }

-- the sections are put behind the front while a payload is finished
abbrev pub with_front : Building → List ℕ → Building
with_front b bytes = record b { front = bytes }

-- the sections up to the heads behind these bytes
abbrev pub masters_behind : Building → List ℕ → List ℕ
masters_behind b bytes = bytes ++ (to_be_bytes w32 b.master_count ++ b.master) ++ (to_be_bytes w32 b.levels_count ++ b.levels)
    ++ (to_be_bytes w32 (length b.known / 28) ++ b.known)
    ++ (to_be_bytes w16 (length b.heads / 20) ++ b.heads)

-- the sections of the other ids behind these bytes
abbrev pub others_behind : Building → List ℕ → List ℕ
others_behind b bytes = bytes ++ to_be_bytes w32 b.other_count ++ (to_be_bytes w32 b.others_count ++ b.others) ++ b.other_names
