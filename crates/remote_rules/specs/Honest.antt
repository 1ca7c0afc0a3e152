-- What an honest remote tells of its world to who clones it.
use Rattle.std.specs.Prelude.{◌≡◌, ℕ, ◌||◌, List, Option, map, filter, filter_map, flat_map, length, slice_get, nat_eq, ⊤, MatchOption}
use Rattle.std.specs.Option.{option_map}
use Rattle.std.specs.List.{range_with_len}
use Rattle.id_groups.specs.Lists.{is_in}
use Rattle.id_groups.specs.Name.{Name, same_name}
use Rattle.commit_graph.specs.World.{Row, World, IsNamedWorld}
use Rattle.commit_graph.specs.Ids.{parent_ids}
use Rattle.segment_codec.specs.Record.{Segment}
use Rattle.segment_rules.specs.Flat.{flat_segments_of}
use Rattle.remote_rules.specs.CloneData.{CloneData, KnownName, head_ids, merge_parents}
use Rattle.remote_rules.specs.Mirror.{Mirror}
use Rattle.remote_rules.specs.Known.{master_alone, master_world}

-- the flat segments of the master group
abbrev pub master_segments : World Name → List Segment
master_segments r = flat_segments_of 0 (parent_ids same_name (master_alone r) r.master)

-- the names of these ids of the master group, with them
abbrev pub named_ids : World Name → List ℕ → List KnownName
named_ids r ids = filter_map (λ id. option_map (λ (row : Row Name). record { id = id; name = row.name }) (slice_get r.master id)) ids

-- The ids whose names a clone stores, ascending: the highest of each segment, the heads among them, and the parents of
-- merges.
abbrev pub stored_ids : World Name → List ℕ
stored_ids r =
    let segments = master_segments r in
    let highest = map (λ (s : Segment). s.high) segments in
    let merged = flat_map (λ (s : Segment). merge_parents s.parents) segments in
    filter (λ id. is_in nat_eq id highest || is_in nat_eq id merged) (range_with_len 0 (length r.master))

-- the heads of the master group: the names of the ids that are no parent
abbrev pub heads_of : World Name → List Name
heads_of r = map (λ k. k.name) (named_ids r (head_ids (master_segments r)))

-- what an honest remote with this world answers to who clones it
abbrev pub clone_data_of : World Name → CloneData
clone_data_of r = record { segments = master_segments r; names = named_ids r (stored_ids r); heads = heads_of r }

-- what holds of a remote that tells these master rows: they are a world, and the clone data that it tells are those of the world
pub record IsHonest (cloned : Option CloneData) (rows : List (Row Name)) : Type 0 where
  pub world : IsNamedWorld (master_world rows)
  pub clone : MatchOption cloned ⊤ (λ told. told ≡ clone_data_of (master_world rows))

-- what holds of each remote between two calls: where it tells its master it is honest
abbrev pub IsSoundMirror : Mirror → Type 0
IsSoundMirror m = MatchOption m.master ⊤ (IsHonest m.cloned)
