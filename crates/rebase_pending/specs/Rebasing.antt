-- One pending row on a newer base, by its parents' ids.
use Rattle.std.specs.Prelude.{◌≡◌, ◌<◌, ◌≤◌, ◌+◌, ◌^◌, ◌⊎◌, ◌++◌, ◌∷◌, [], ℕ, Bool, true, false, List, Option, Some, None, length, take, slice_get, nat_eq}
use Rattle.std.specs.Cmp.Lexicographic.{pointwise}
use Rattle.std.specs.List.{AllByRecursion, AllZip}
use Rattle.id_groups.specs.Lists.{IsIn, AreDistinct}
use Rattle.id_groups.specs.Name.{Name}
use Rattle.commit_graph.specs.World.{Row, World}
use Rattle.id_groups.specs.Id.{other_id}
use Rattle.segment_codec.specs.Record.{Segment}
use Rattle.segment_codec.specs.Table.{parents_at}
use Rattle.batch_codec.specs.Payload.{Known}
use Rattle.batch_codec.specs.Grammar.{count_after}
use Rattle.name_map.specs.Added.{Placed, payloads_of}
use Rattle.change_rules.specs.Tables.{newest, other_names_in}
use Rattle.payload_tables.specs.Pending.{PlainPending, HeldRow, HoldsRows, row_names}
use Rattle.payload_tables.specs.Bases.{stored_in}
use Rattle.change_parts.specs.declared.fault.PlanFault.{PlanFault}
use Rattle.change_parts.specs.declared.fault.PlanFault.TheVariants.{Lost, Conflict}
use Rattle.change_parts.specs.Asked.{others_count, IsStored, HaveParents}
use Rattle.rebase_pending.specs.declared.rebasing.Reads.{Reads}
use Rattle.rebase_pending.specs.Rebases.{MayRebase, MayRebaseOn}

-- what a rebase reads, for these worlds and whatever world it is
abbrev pub ReadsFor : Reads → World Name → World Name → List (Row Name) → Type 0
ReadsFor reads = MayRebase reads.tables.now reads.bytes.now reads.base reads.pending.now reads.found.now

abbrev pub ReadsOn : Reads → List Placed → List Placed → Type 0
ReadsOn reads = MayRebaseOn reads.tables.now reads.bytes.now reads.base reads.pending.now reads.found.now

-- the name of an other id of the base
abbrev pub IsOtherName : List Placed → ℕ → Name → Type 0
IsOtherName before k name = slice_get (other_names_in (newest (payloads_of before))) k ≡ Some name

-- The id in a newer base of a parent: master ids stay, the other ids of the older base go by their names, and the pending rows
-- before are given, the first of them behind so many other ids.
pub record IsMoved (before added : List Placed) (first : ℕ) (ids : List ℕ) (parent new : ℕ) : Type 0 where
  pub master : parent < 2 ^ 56 → new ≡ parent
  pub stored : (k : ℕ) (name : Name) → parent ≡ other_id k → IsOtherName before k name → IsIn {X = Known} (record { id = new; name = name }) (stored_in added)
  pub pending : (k : ℕ) (id : ℕ) → parent ≡ other_id (first + k) → slice_get ids k ≡ Some id → new ≡ id

-- the newer base doesn't store the parent's name, which is this one
pub record IsLost (before added : List Placed) (parent : ℕ) (name : Name) : Type 0 where
  pub place : ℕ
  pub parent_is : parent ≡ other_id place
  pub named : IsOtherName before place name
  pub lost : IsStored added name → ⊥

-- the fault names the parent, which the newer base doesn't store
abbrev pub IsLostBy : List Placed → List Placed → ℕ → PlanFault → Type 0
IsLostBy before added parent fault = (name : Name) × (fault ≡ Lost name) × IsLost before added parent name

-- the fault names the first of the parents that the newer base doesn't store; those before it have their ids in it
pub record LosesFirst (before added : List Placed) (first : ℕ) (ids parents : List ℕ) (fault : PlanFault) : Type 0 where
  pub k : ℕ
  pub parent : ℕ
  pub moved : List ℕ
  pub parent_at : slice_get parents k ≡ Some parent
  pub front : AllZip (IsMoved before added first ids) (take k parents) moved
  pub lost : IsLostBy before added parent fault

-- The id of a parent in a newer base, where these were found of the pending rows.
pub record IsAt (before added : List Placed) (first : ℕ) (found : List (Option ℕ)) (parent new : ℕ) : Type 0 where
  pub master : parent < 2 ^ 56 → new ≡ parent
  pub stored : (k : ℕ) (name : Name) → parent ≡ other_id k → IsOtherName before k name → IsIn {X = Known} (record { id = new; name = name }) (stored_in added)
  pub pending : (k : ℕ) (o : Option ℕ) → parent ≡ other_id (first + k) → slice_get found k ≡ Some o → o ≡ Some new

-- the newer base hasn't the parent: it doesn't store its name, or it is a pending row that wasn't found
abbrev pub IsNowhere : List Placed → List Placed → ℕ → List (Option ℕ) → ℕ → Type 0
IsNowhere before added first found parent =
    ((name : Name) × IsLost before added parent name)
    ⊎ ((k : ℕ) × (parent ≡ other_id (first + k)) × (slice_get found k ≡ Some None))

-- whether these are the parents in the newer base, in order
abbrev pub AreStoredAs : List Placed → List Placed → ℕ → List (Option ℕ) → List ℕ → List ℕ → Bool → Type 0
AreStoredAs before added first found stored parents same =
    ((same ≡ false) × ((p : ℕ) × IsIn p parents × IsNowhere before added first found p))
    ⊎ ((ids : List ℕ) × AllZip (IsAt before added first found) parents ids × (same ≡ pointwise nat_eq stored ids))

-- the same of a row that was found at an id of these segments; one that wasn't found is stored with no others
abbrev pub AreStoredWhere : List Placed → List Placed → ℕ → List (Option ℕ) → List Segment → Option ℕ → List ℕ → Bool → Type 0
AreStoredWhere before added first found flats None parents same = same ≡ true
AreStoredWhere before added first found flats (Some id) parents same = AreStoredAs before added first found (parents_at flats id) parents same

-- a row with these parents is put behind the rows that are left, and has this id
pub record IsKept (old new : PlainPending) (name : Name) (parents : List ℕ) (id : ℕ) : Type 0 where
  pub id_is : id ≡ other_id (old.first + length old.places)
  pub first : new.first ≡ old.first
  pub rows : (rows : List HeldRow) → HoldsRows old rows → HoldsRows new (rows ++ record { name = name; parents = parents } ∷ [])

-- a row that was found stays where it is, and is left no more; or it is put behind the rows that are left, with its new parents
abbrev pub IsRebased : List Placed → List Placed → ℕ → List ℕ → Option ℕ → PlainPending → PlainPending → HeldRow → ℕ → Type 0
IsRebased before added first ids (Some stored) old new row id = (id ≡ stored) × (new ≡ old)
IsRebased before added first ids None old new row id =
    (moved : List ℕ) × AllZip (IsMoved before added first ids) row.parents moved × AreDistinct moved × IsKept old new row.name moved id

-- why a row that wasn't found can't be left: a parent is lost, or two of them are at one id
abbrev pub IsNotLeft : List Placed → List Placed → ℕ → List ℕ → Option ℕ → HeldRow → PlanFault → Type 0
IsNotLeft before added first ids (Some stored) row fault = ⊥
IsNotLeft before added first ids None row fault =
    LosesFirst before added first ids row.parents fault
    ⊎ ((fault ≡ Conflict row.name) × (moved : List ℕ) × AllZip (IsMoved before added first ids) row.parents moved × (AreDistinct moved → ⊥))

-- an id of the newest base with so many others behind it
abbrev pub IsNewId : ℕ → ℕ → ℕ → Type 0
IsNewId masters others id = (id < masters) ⊎ ((2 ^ 56 ≤ id) × (id < other_id others))

-- What is left of the first pending rows, and the ids that they all have, whatever world it is.
pub record LeftSoFar (added : List Placed) (front : List HeldRow) (ids : List ℕ) (kept : PlainPending) : Type 0 where
  pub some : List HeldRow
  pub held : HoldsRows kept some
  pub first : kept.first ≡ others_count added
  pub parents : HaveParents (count_after 0 (payloads_of added)) some
  pub distinct : AreDistinct (row_names some)
  pub within : (x : Name) → IsIn x (row_names some) → IsIn x (row_names front)
  pub fresh : (x : Name) → IsIn x (row_names some) → IsStored added x → ⊥
  pub few : length some ≤ length front
  pub ids_long : length ids ≡ length front
  pub ids_new : AllByRecursion (IsNewId (count_after 0 (payloads_of added)) (others_count added + length some)) ids
