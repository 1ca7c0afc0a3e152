-- The rows of a remote beside a world, as a pull goes over them from the cloned ones on.
use Rattle.std.specs.Prelude.{◌≡◌, ◌≤◌, ◌+◌, ◌-◌, ◌⊎◌, ◌++◌, ◌∷◌, true, false, ℕ, List, Option, Some, None, length, map, take, drop, slice_get, slice_index, nat_eq, nat_lt, if◌then◌else◌}
use Rattle.std.specs.Cmp.Lexicographic.{pointwise}
use Rattle.std.specs.List.{AllZip}
use Rattle.id_groups.specs.Lists.{IsIn}
use Rattle.id_groups.specs.Name.{Name, same_name}
use Rattle.commit_graph.specs.World.{Row, World, IsWorld, IsNamedWorld, names_of, rows_of, with_pending}
use Rattle.commit_graph.specs.Ids.{id_in}
use Rattle.segment_codec.specs.Record.{Segment}
use Rattle.segment_codec.specs.Table.{parents_at}
use Rattle.batch_codec.specs.Payload.{Known}
use Rattle.name_map.specs.Added.{Placed, payloads_of, AllStand}
use Rattle.remote_rules.specs.CloneData.{first_broken}
use Rattle.remote_rules.specs.Known.{master_world}
use Rattle.change_rules.specs.Tables.{StandFor, cloned_count}
use Rattle.change_rules.specs.declared.Limits.{Limits}
use Rattle.change_rules.specs.declared.Limit.TheVariants.{Master, Log}
use Rattle.change_rules.specs.Rebase.{first_conflict, first_lost, left_of}
use Rattle.mirror_set.specs.Fresh.{PlainFresh, count_from}
use Rattle.payload_tables.specs.declared.base.BaseRef.{BaseRef}
use Rattle.payload_tables.specs.Kept.{PlainTables, AreTablesOf}
use Rattle.payload_tables.specs.Pending.{PlainPending, HoldsRows}
use Rattle.payload_tables.specs.Bases.{IsBaseOf, AreSegmentsOf, held_row, stored_in}
use Rattle.change_parts.specs.declared.fault.PlanFault.{PlanFault}
use Rattle.change_parts.specs.declared.fault.PlanFault.TheVariants.{Conflict}
use Rattle.change_parts.specs.Asked.{IsStored}
use Rattle.change_parts.specs.Plans.{over, first_fault, length_with}
use Rattle.pull_plan.specs.Pulling.{MayPullOn, told_rows}
use Rattle.rebase_pending.specs.Rebasing.{IsKept}

-- the id beside a world of one of a remote's ids: the cloned ones stay, and the others have these
abbrev pub beside : ℕ → List ℕ → ℕ → ℕ
beside cloned ids n = if nat_lt n cloned then n else slice_index ids (n - cloned)

-- What was found of a row with a name and these parents, whatever world it is: it is stored at the id with just these, or it isn't
-- stored and was put behind those that are left.
abbrev pub IsBeside : List Placed → List Segment → Name → List ℕ → PlainPending → PlainPending → ℕ → Type 0
IsBeside added flats name parents old new id =
    (IsIn {X = Known} (record { id = id; name = name }) (stored_in added) × (pointwise nat_eq (parents_at flats id) parents ≡ true) × (new ≡ old))
    ⊎ ((IsStored added name → ⊥) × IsKept old new name parents id)

-- it is stored with other parents
abbrev pub IsOther : List Placed → List Segment → Name → List ℕ → PlanFault → Type 0
IsOther added flats name parents fault =
    (fault ≡ Conflict name) × (id : ℕ) × IsIn {X = Known} (record { id = id; name = name }) (stored_in added) × (pointwise nat_eq (parents_at flats id) parents ≡ false)

-- The first rows of a remote beside a world: none of them conflicts or loses a parent; these are the ids of those from the cloned
-- ones on, where what is left of them stands behind the world's others, and that is left.
pub record AreTaken (w : World Name) (cloned : ℕ) (front : List (Row Name)) (ids : List ℕ) (left : PlainPending) : Type 0 where
  pub calm : first_conflict same_name w front ≡ None
  pub lossless : first_lost same_name w front ≡ None
  pub ids_are : ids ≡ map (id_in same_name (with_pending w (left_of same_name w front))) (names_of (drop cloned front))
  pub first : left.first ≡ length w.others
  pub held : HoldsRows left (map (held_row (with_pending w (left_of same_name w front))) (left_of same_name w front))

-- The base is that of the world, whose segments these are. The remote's cloned rows are the world's, and each other name of its that
-- the world has is stored.
pub record Beside (newest : BaseRef) (flats : List Segment) (cloned : ℕ) (w : World Name) (rows : List (Row Name)) : Type 0 where
  pub added : List Placed
  pub base_of : IsBaseOf newest added
  pub stand_for : StandFor (payloads_of added) w
  pub world : IsWorld w
  pub segments : AreSegmentsOf w flats
  pub small : length w.master ≤ 16777216
  pub theirs : IsWorld (master_world rows)
  pub cloned_few : cloned ≤ length w.master
  pub cloned_rows : take cloned rows ≡ take cloned w.master
  pub stored : (name : Name) → IsIn name (names_of (drop cloned rows)) → IsIn name (names_of (rows_of w)) → IsStored added name

-- a row with this name and the parents with these numbers comes next
pub record MayAdd (newest : BaseRef) (flats : List Segment) (cloned : ℕ) (ids : List ℕ) (left : PlainPending) (name : Name) (numbers : List ℕ)
    (w : World Name) (rows front rest : List (Row Name)) (row : Row Name) : Type 0 where
  pub beside : Beside newest flats cloned w rows
  pub parts : rows ≡ front ++ row ∷ rest
  pub behind : cloned ≤ length front
  pub taken : AreTaken w cloned front ids left
  pub name_is : row.name ≡ name
  pub parents_are : AllZip (λ n p. slice_get (names_of front) n ≡ Some p) numbers row.parents

-- the rows are those that the remote told
pub record MayWalk (newest : BaseRef) (flats : List Segment) (cloned : ℕ) (fresh : PlainFresh) (w : World Name) (rows : List (Row Name)) : Type 0 where
  pub beside : Beside newest flats cloned w rows
  pub rows_are : rows ≡ told_rows w cloned fresh
  pub unbroken : first_broken fresh.cloned ≡ None
  pub count : length fresh.names ≡ count_from cloned fresh.cloned

-- What a pull is asked for beside a world, whatever names the remote's rows have.
pub record MayTake (tables : PlainTables) (bytes : List ℕ) (fresh : PlainFresh) (w : World Name) (rows : List (Row Name)) : Type 0 where
  pub added : List Placed
  pub may : MayPullOn tables bytes fresh added
  pub stand_for : StandFor (payloads_of added) w
  pub world : IsNamedWorld w
  pub rows_are : rows ≡ told_rows w (cloned_count (payloads_of added)) fresh
  pub theirs : IsWorld (master_world rows)

-- What was taken of a remote, by numbers and rows alone: the payloads stand for the world, beside which these are the ids and the
-- rows that are left.
pub record MayPut (tables : PlainTables) (bytes : List ℕ) (ids : List ℕ) (left : PlainPending) (w : World Name) (rows : List (Row Name)) : Type 0 where
  pub added : List Placed
  pub tables_of : AreTablesOf tables added
  pub stand : AllStand bytes added
  pub stand_for : StandFor (payloads_of added) w
  pub world : IsNamedWorld w
  pub theirs : IsWorld (master_world rows)
  pub cloned_rows : take (cloned_count (payloads_of added)) rows ≡ take (cloned_count (payloads_of added)) w.master
  pub taken : AreTaken w (cloned_count (payloads_of added)) rows ids left

-- why a pull is refused for its sizes: the first of these numbers that is above its limit; others don't become more
abbrev pub pull_sizes : Limits → ℕ → World Name → List ℕ → Option PlanFault
pull_sizes limits log new payload = first_fault (over limits.master (length new.master) Master) (over limits.log (length_with log payload) Log)

-- the limits of a run, but for that of others, which is the most that a payload has room for
abbrev pub any_others : Limits → Limits
any_others limits = record limits { others = 65536 }
