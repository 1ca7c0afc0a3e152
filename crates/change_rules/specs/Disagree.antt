-- Answers of a remote that disagree with what the log says. An honest remote that serves the log's world never gives one.
use Rattle.std.specs.Prelude.{◌≡◌, ◌≢◌, ◌<◌, ◌⊎◌, ℕ, ◌+◌, Bool, false, not, ◌&&◌, ◌||◌, List, [], ◌∷◌, ◌++◌, Option, Some, None, length, map, filter, flat_map, nat_eq, nat_lt, nat_le}
use Rattle.std.specs.Cmp.Lexicographic.{pointwise}
use Rattle.std.specs.List.{list_all}
use Rattle.id_groups.specs.Lists.{IsIn, is_in}
use Rattle.id_groups.specs.Name.{Name, same_name}
use Rattle.id_groups.specs.Id.{is_master_id}
use Rattle.commit_graph.specs.Graph.{Graph, first_ancestor}
use Rattle.segment_codec.specs.Record.{Segment}
use Rattle.segment_codec.specs.Table.{parents_at}
use Rattle.segment_rules.specs.Flat.{flat_segments_of, parents_listed}
use Rattle.batch_codec.specs.Payload.{Payload, Known}
use Rattle.batch_codec.specs.Grammar.{cut_below}
use Rattle.remote_rules.specs.CloneData.{CloneData, KnownName, first_false, first_some}
use Rattle.change_rules.specs.Tables.{known_in}

-- the master group as the log has it, by its ids: only the parents matter here
abbrev pub id_graph : List Payload → Graph ℕ
id_graph payloads = record { down = []; parents = parents_at (flat_map (λ p. p.master) payloads); is_master = is_master_id }

-- an id of the master group looked at, below this count, has this name in the log
abbrev pub IsStored : List Payload → ℕ → ℕ → Name → Type 0
IsStored payloads below id name = (k : Known) × IsIn k (known_in payloads) × (k.id ≡ id) × (id < below) × (k.name ≡ name)

-- A path for a name: what it begins with isn't stored there, or doesn't lead so far back, or leads to a commit that is stored by
-- another name.
abbrev pub IsBadPath : List Payload → ℕ → Name → Name → ℕ → Type 0
IsBadPath payloads below name from back =
    ((id : ℕ) → IsStored payloads below id from → ⊥)
    ⊎ ((id : ℕ) × IsStored payloads below id from
    × ((first_ancestor (id_graph payloads) back id ≡ None)
    ⊎ ((end : ℕ) × (other : Name) × (first_ancestor (id_graph payloads) back id ≡ Some end) × IsStored payloads below end other × (other ≢ name))))

-- whether two segments have the same ids and parents
abbrev pub same_segment : Segment → Segment → Bool
same_segment a b = nat_eq a.low b.low && nat_eq a.high b.high && pointwise nat_eq a.parents b.parents

-- of each of these segments, whether it is the stored one of its place; and then whether none is missing
abbrev pub segments_agree : List Segment → List Segment → List Bool
segments_agree [] stored = []
segments_agree (s ∷ more) [] = false ∷ segments_agree more []
segments_agree (s ∷ more) (t ∷ stored) = same_segment s t ∷ segments_agree more stored

-- whether an id has no other name in the log
abbrev pub name_agrees : List Known → KnownName → Bool
name_agrees known k = list_all (λ s. not (nat_eq s.id k.id) || same_name s.name k.name) known

-- The number of the first item of clone data that a pull refuses, which break no rule of their own: the segments below the
-- cloned count are the stored ones, and the names there are those that are stored.
abbrev pub first_unlike : List Payload → ℕ → CloneData → Option ℕ
first_unlike payloads cloned told =
    let stored = cut_below cloned (flat_segments_of 0 (parents_listed (flat_map (λ p. p.master) payloads))) in
    let theirs = cut_below cloned told.segments in
    let items = length told.segments + length told.names + length told.heads in
    first_some (first_false 0 (segments_agree theirs stored))
    (first_some (first_false items (nat_le (length stored) (length theirs) ∷ []))
    (first_false (length told.segments) (map (λ k. not (nat_lt k.id cloned) || name_agrees (known_in payloads) k) told.names)))

-- of each fetched name, the first of this id, whether it may be that of a new row: it is no earlier one, none that is stored
-- below the cloned count, and the clone data give the id no other name
abbrev pub rows_fit : List Name → List Name → CloneData → ℕ → List Name → List Bool
rows_fit stored before told id [] = []
rows_fit stored before told id (name ∷ more) =
    (not (is_in same_name name before) && not (is_in same_name name stored) && list_all (λ k. not (nat_eq k.id id) || same_name k.name name) told.names)
    ∷ rows_fit stored (before ++ name ∷ []) told (id + 1) more

-- the first id whose fetched name can't be that of a new row
abbrev pub first_bad_row : List Payload → ℕ → CloneData → List Name → Option ℕ
first_bad_row payloads cloned told fetched =
    first_false cloned (rows_fit (map (λ k. k.name) (filter (λ k. nat_lt k.id cloned) (known_in payloads))) [] told cloned fetched)
