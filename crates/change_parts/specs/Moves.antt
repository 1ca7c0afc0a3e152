-- A flush by numbers: the other ids, pending ones included, are numbered in order.
use Rattle.std.specs.Prelude.{ℕ, ◌+◌, ◌-◌, ◌*◌, ◌^◌, not, take, drop, List, [], ◌∷◌, ◌++◌, length, slice_index, map, filter, nat_eq, if◌then◌else◌}
use Rattle.std.specs.Cmp.Lexicographic.{pointwise}
use Rattle.std.specs.List.{range_with_len}
use Rattle.id_groups.specs.Lists.{is_in}
use Rattle.id_groups.specs.Name.{Name}
use Rattle.id_groups.specs.Id.{is_master_id, other_id}
use Rattle.commit_graph.specs.Ids.{place_of}
use Rattle.assign_ids.specs.declared.graph.Node.{Node}
use Rattle.assign_ids.specs.declared.graph.Node.TheVariants.{Placed, Other}
use Rattle.name_map.specs.Part.{upward}
use Rattle.segment_codec.specs.Record.{Segment}
use Rattle.segment_codec.specs.Table.{parents_at}
use Rattle.segment_rules.specs.Flat.{flat_segments_of}
use Rattle.segment_rules.specs.NewLevels.{new_levels}
use Rattle.batch_codec.specs.Payload.{Payload}
use Rattle.change_parts.specs.Flat.{Span, single_span, flat_segments}
use Rattle.change_rules.specs.Change.{known_from}

-- the record of a segment
abbrev pub flat_record : Span → Segment
flat_record s = record { low = s.low; high = s.high; level = 0; parents = s.parents }

-- a parent, by its id: those in master are placed already
abbrev pub node_of : ℕ → Node
node_of id = if is_master_id id then Placed else Other (id - 2 ^ 56)

-- the numbers below n that don't move
abbrev pub rest_of : ℕ → List ℕ → List ℕ
rest_of n order = filter (λ k. not (is_in nat_eq k order)) (upward 0 n)

-- the new id of an id, where the numbers of the order move behind so many master ids
abbrev pub moved_id : ℕ → ℕ → List ℕ → ℕ → ℕ
moved_id before n order id =
    if is_master_id id then id
    else if is_in nat_eq (id - 2 ^ 56) order then before + place_of nat_eq (id - 2 ^ 56) order
    else other_id (place_of nat_eq (id - 2 ^ 56) (rest_of n order))

-- the new parents of each of these numbers
abbrev pub moved_parents : ℕ → ℕ → List ℕ → (ℕ → List ℕ) → List ℕ → List (List ℕ)
moved_parents before n order parents numbers = map (λ k. map (moved_id before n order) (parents k)) numbers

-- the change in which the numbers of the order move; the master ids before have these parents
abbrev pub moved_change : ℕ → ℕ → List (List ℕ) → (ℕ → List ℕ) → (ℕ → Name) → List ℕ → Payload
moved_change before n masters parents name order = record {
  version = 2;
  kind = 1;
  before = before;
  after = before + length order;
  cloned = 0;
  levels = new_levels (flat_segments_of 0 masters) (flat_segments_of 0 (masters ++ moved_parents before n order parents order));
  master = map flat_record (flat_segments before (moved_parents before n order parents order));
  known = known_from before (map name order);
  heads = [];
  others = map flat_record (flat_segments (2 ^ 56) (moved_parents before n order parents (rest_of n order)));
  other_names = map name (rest_of n order);
}

-- the parents of the other ids of segments, by numbers
abbrev pub nodes_in : List Segment → ℕ → List (List Node)
nodes_in flats n = map (λ k. map node_of (parents_at flats (other_id k))) (upward 0 n)

-- an id by the new ids of the numbers
abbrev pub new_id : List ℕ → ℕ → ℕ
new_id ids id = if is_master_id id then id else slice_index ids (id - 2 ^ 56)

-- the segments with one id more behind them
abbrev pub grown : List Span → ℕ → List ℕ → List Span
grown [] id parents = single_span id parents ∷ []
grown (s ∷ []) id parents = if pointwise nat_eq parents (s.high ∷ []) then record s { high = id } ∷ [] else s ∷ single_span id parents ∷ []
grown (s ∷ t ∷ more) id parents = s ∷ grown (t ∷ more) id parents

-- the name of a number, in bytes with a name for each
abbrev pub name_at : List ℕ → ℕ → Name
name_at bytes k = take 20 (drop (20 * k) bytes)

-- the change in which the numbers of the order move, over segments and the bytes of the names
abbrev pub change_in : List Segment → List ℕ → ℕ → ℕ → List ℕ → Payload
change_in flats names before n order = moved_change before n (map (parents_at flats) (range_with_len 0 before)) (λ k. parents_at flats (other_id k)) (name_at names) order
