-- The payload by which a log goes from a world to the next.
use Rattle.std.specs.Prelude.{◌≡◌, ◌≤◌, ℕ, ◌+◌, ◌^◌, List, [], ◌∷◌, map, length, drop}
use Rattle.std.specs.List.{AllByRecursion}
use Rattle.id_groups.specs.Name.{Name, IsName, same_name}
use Rattle.commit_graph.specs.World.{World, names_of}
use Rattle.commit_graph.specs.Ids.{parent_ids}
use Rattle.segment_codec.specs.Record.{Segment}
use Rattle.segment_codec.specs.Turns.{place_behind}
use Rattle.segment_rules.specs.Flat.{flat_segments_of}
use Rattle.segment_rules.specs.NewLevels.{new_levels, high_levels}
use Rattle.batch_codec.specs.Payload.{Payload, Known, payload_bytes}
use Rattle.remote_rules.specs.CloneData.{CloneData, KnownName}
use Rattle.remote_rules.specs.Honest.{clone_data_of}

-- names with their ids, from this id on
abbrev pub known_from : ℕ → List Name → List Known
known_from id [] = []
known_from id (name ∷ names) = record { id = id; name = name } ∷ known_from (id + 1) names

-- the change that a flush, a strip or a pull makes: the new master rows with all their names, the segments of levels that come with
-- them, and all others
abbrev pub flush_change : World Name → World Name → Payload
flush_change old new = record {
  version = 2;
  kind = 1;
  before = length old.master;
  after = length new.master;
  cloned = 0;
  levels = new_levels (flat_segments_of 0 (parent_ids same_name old old.master)) (flat_segments_of 0 (parent_ids same_name new new.master));
  master = flat_segments_of (length old.master) (parent_ids same_name new (drop (length old.master) new.master));
  known = known_from (length old.master) (names_of (drop (length old.master) new.master));
  heads = [];
  others = flat_segments_of (2 ^ 56) (parent_ids same_name new new.others);
  other_names = names_of new.others;
}

-- the change that a clone makes: the segments, names and heads that the remote tells, and the levels of the segments
abbrev pub clone_change : World Name → Payload
clone_change new = let told = clone_data_of new in record {
  version = 2;
  kind = 2;
  before = 0;
  after = length new.master;
  cloned = length new.master;
  levels = high_levels told.segments;
  master = told.segments;
  known = map (λ k. record { id = k.id; name = k.name }) told.names;
  heads = told.heads;
  others = [];
  other_names = [];
}

-- What clone data are by their types: flat segments of at most 8 parents, and names of 20 bytes.
pub record AreFormed (told : CloneData) : Type 0 where
  pub segments : AllByRecursion (λ (s : Segment). (s.level ≡ 0) × (length s.parents ≤ 8)) told.segments
  pub names : AllByRecursion (λ (k : KnownName). IsName k.name) told.names
  pub heads : AllByRecursion IsName told.heads

-- the payload of what a remote told, whoever it is
abbrev pub told_change : CloneData → Payload
told_change told = record {
  version = 2;
  kind = 2;
  before = 0;
  after = place_behind 0 told.segments;
  cloned = place_behind 0 told.segments;
  levels = high_levels told.segments;
  master = told.segments;
  known = map (λ k. record { id = k.id; name = k.name }) told.names;
  heads = told.heads;
  others = [];
  other_names = [];
}

-- the bytes of a payload, in the version that is written
abbrev pub text_of : Payload → List ℕ
text_of p = payload_bytes p
