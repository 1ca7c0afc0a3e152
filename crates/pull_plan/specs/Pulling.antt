-- What a pull is planned from, and what the plan answers.
use Rattle.std.specs.Prelude.{◌≡◌, ◌-◌, ℕ, List, [], ◌∷◌, ◌++◌, Option, Some, None, length, map, take, filter_map, nat_eq, nat_lt, nat_le, not, Bool, filter, min, ◌||◌, slice_get}
use Rattle.std.specs.List.{list_all}
use Rattle.std.specs.Ordering.{nat_cmp}
use Rattle.std.specs.Cmp.Lexicographic.{slice_cmp}
use Rattle.std.specs.BTreeSet.{BTreeSet, contains}
use Rattle.change_parts.specs.Plans.{clone_fault, over, first_fault, length_with, conflict_fault}
use Rattle.id_groups.specs.Lists.{is_in}
use Rattle.id_groups.specs.Name.{Name, same_name}
use Rattle.commit_graph.specs.World.{Row, World, IsNamedWorld, names_of}
use Rattle.segment_codec.specs.Record.{Segment}
use Rattle.batch_codec.specs.Payload.{Known, Payload}
use Rattle.batch_codec.specs.Grammar.{cut_below}
use Rattle.remote_rules.specs.CloneData.{CloneData, KnownName, first_broken, first_false, first_some}
use Rattle.remote_rules.specs.Known.{master_world}
use Rattle.segment_rules.specs.Flat.{parents_listed}
use Rattle.mirror_set.specs.Fresh.{PlainFresh, count_from}
use Rattle.name_map.specs.Added.{Placed, payloads_of, AllStand}
use Rattle.change_rules.specs.declared.Limits.{Limits}
use Rattle.change_rules.specs.declared.Limit.TheVariants.{Master, Log}
use Rattle.change_rules.specs.Tables.{StandFor, known_in, cloned_count}
use Rattle.change_rules.specs.Rebase.{first_conflict}
use Rattle.change_rules.specs.Disagree.{first_unlike, first_bad_row, segments_agree, name_agrees}
use Rattle.payload_tables.specs.Kept.{PlainTables, AreTablesOf}
use Rattle.change_parts.specs.declared.fault.PlanFault.{PlanFault}
use Rattle.change_parts.specs.declared.fault.PlanFault.TheVariants.{BadRow}

-- The names of a remote's ids, where the first are those of the world's master rows, so many, and the others were fetched.
abbrev pub told_names : World Name → ℕ → List Name → List Name
told_names w cloned fetched = take cloned (names_of w.master) ++ fetched

-- the names at these places, of those that are there
abbrev pub names_at_all : List Name → List ℕ → List Name
names_at_all names ids = filter_map (λ id. slice_get names id) ids

-- rows with these names, whose parents are at these places among all names
abbrev pub rows_with : List Name → List Name → List (List ℕ) → List (Row Name)
rows_with all [] parents = []
rows_with all (name ∷ names) [] = []
rows_with all (name ∷ names) (ids ∷ parents) = record { name = name; parents = names_at_all all ids } ∷ rows_with all names parents

-- The master rows that a remote told by its segments and by the names that were fetched: the cloned rows are those of the world.
abbrev pub told_rows : World Name → ℕ → PlainFresh → List (Row Name)
told_rows w cloned fresh =
    let names = told_names w cloned fresh.names in
    rows_with names names (parents_listed fresh.cloned.segments)

-- What a plan of a pull is asked over: tables of payloads that stand in the log, and what was taken from a mirror, which breaks no
-- rule and has a name for each id from the cloned count on.
pub record MayPullOn (tables : PlainTables) (bytes : List ℕ) (fresh : PlainFresh) (added : List Placed) : Type 0 where
  pub tables_of : AreTablesOf tables added
  pub stand : AllStand bytes added
  pub unbroken : first_broken fresh.cloned ≡ None
  pub count : length fresh.names ≡ count_from (cloned_count (payloads_of added)) fresh.cloned

-- The payloads stand for the world, and what was taken tells the master of a world with these rows.
pub record MayPull (tables : PlainTables) (bytes : List ℕ) (fresh : PlainFresh) (w : World Name) (rows : List (Row Name)) : Type 0 where
  pub added : List Placed
  pub may : MayPullOn tables bytes fresh added
  pub stand_for : StandFor (payloads_of added) w
  pub world : IsNamedWorld w
  pub rows_are : rows ≡ told_rows w (cloned_count (payloads_of added)) fresh
  pub theirs : IsNamedWorld (master_world rows)

abbrev pub row_fault : Option ℕ → Option PlanFault
row_fault None = None
row_fault (Some id) = Some (BadRow id)

-- why what was taken is refused, whatever world it is: an item that is unlike what is stored, or a fetched name that can't be a new
-- row's
abbrev pub mismatch : List Placed → PlainFresh → Option PlanFault
mismatch added fresh =
    let payloads = payloads_of added in
    let cloned = cloned_count payloads in
    first_fault (clone_fault (first_unlike payloads cloned fresh.cloned)) (row_fault (first_bad_row payloads cloned fresh.cloned fresh.names))

-- why a pull is refused: a mismatch, a row that the world has with other parents, or a size
abbrev pub pull_refusal : Limits → ℕ → List Placed → PlainFresh → World Name → List (Row Name) → World Name → List ℕ → Option PlanFault
pull_refusal limits log added fresh w rows new payload =
    first_fault (mismatch added fresh)
    (first_fault (conflict_fault (first_conflict same_name w rows))
    (first_fault (over limits.master (length new.master) Master)
    (over limits.log (length_with log payload) Log)))

-- the first segment that isn't the stored one of its place, below an id; or how many items there are, where one is missing
abbrev pub unlike_segment : List Segment → List Segment → ℕ → ℕ → Option ℕ
unlike_segment told stored below items =
    first_some (first_false 0 (segments_agree (cut_below below told) (cut_below below stored)))
    (first_false items (nat_le (length (cut_below below stored)) (length (cut_below below told)) ∷ []))

-- the first name below an id that isn't the stored one of its id; they are numbered from this number on
abbrev pub unlike_name : List KnownName → List Known → ℕ → ℕ → Option ℕ
unlike_name told known below first = first_false first (map (λ k. not (nat_lt k.id below) || name_agrees known k) told)

-- a segment, cut below an id
abbrev pub cut_at : ℕ → Segment → Segment
cut_at below s = record s { high = min s.high (below - 1) }

-- the names that are stored of ids below the cloned count
abbrev pub cloned_names : ℕ → List Payload → List Name
cloned_names cloned payloads = map (λ k. k.name) (filter (λ k. nat_lt k.id cloned) (known_in payloads))

-- whether clone data give the id no other name
abbrev pub is_told : CloneData → ℕ → Name → Bool
is_told told id name = list_all (λ k. not (nat_eq k.id id) || same_name k.name name) told.names

-- the set has these names
abbrev pub HasSeen : List Name → BTreeSet Name → Type 0
HasSeen before seen = (q : Name) → contains (slice_cmp nat_cmp) seen q ≡ is_in same_name q before
