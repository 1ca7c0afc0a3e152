-- What an add looks up, and what it leaves of a session.
use Rattle.std.specs.Prelude.{◌≡◌, ◌<◌, ◌≤◌, ◌+◌, ℕ, false, true, List, [], ◌∷◌, ◌++◌, None, Result, Ok, Err, IfOk, length, map, if◌then◌else◌, ⊤}
use Rattle.std.specs.List.{AllByRecursion}
use Rattle.id_groups.specs.Lists.{IsIn, AreDistinct}
use Rattle.id_groups.specs.Name.{Name, same_name}
use Rattle.id_groups.specs.Id.{other_id}
use Rattle.commit_graph.specs.World.{Row, World, names_of, with_pending}
use Rattle.commit_graph.specs.Ids.{id_in}
use Rattle.batch_codec.specs.Payload.{Payload}
use Rattle.change_rules.specs.Lazy.{stored_names}
use Rattle.change_rules.specs.declared.Limit.TheVariants as limit
use Rattle.payload_tables.specs.Bases.{ArePending}
use Rattle.payload_tables.specs.Pending.{HeldRow, PlainPending, HoldsRows, row_names}
use Rattle.remote_rules.specs.Mirror.{Mirror}
use Rattle.lazy_names.specs.Cache.{PlainCache}
use Rattle.step_rules.specs.declared.Refusal.{Refusal}
use Rattle.step_rules.specs.declared.Refusal.TheVariants as why
use Rattle.step_rules.specs.Worlds.{has}
use Rattle.step_rules.specs.Tests.{Test, plain, twice, differs, full}
use Rattle.store_queries.specs.declared.adding.Sought.{Sought}
use Rattle.store_queries.specs.declared.adding.Sought.TheVariants as sought
use Rattle.store_queries.specs.declared.adding.Added.{Added}
use Rattle.store_queries.specs.declared.adding.Added.TheVariants.{New, Old}
use Rattle.store_plans.specs.Sessions.{PlainSession}
use Rattle.store_plans.specs.Looking.{AreRight, IsViewId, Tried, refusal_in, test_in, seen_tests}

-- a parent that is given twice
abbrev pub IsTwice : Refusal → Type 0
IsTwice (why.Twice name) = ⊤
IsTwice _ = ⊥

-- the same of parents, none of which is given twice
pub record FindsParents (payloads : List Payload) (w : World Name) (rows : List (Row Name)) (parents : List Name) (old new : List Mirror) (before now : PlainCache) (result : Result (List ℕ) Refusal) : Type 0 where
  pub tried : Tried payloads w (seen_tests payloads w rows parents ++ plain (twice [] parents) ∷ []) old new before now (refusal_in result)
  pub view : IfOk result (AllByRecursion (IsViewId w rows))
  pub count : IfOk result (λ ids. length ids ≡ length parents)
  pub right : AreRight payloads w old → IfOk result (λ ids. ids ≡ map (id_in same_name (with_pending w rows)) parents)

-- the tests of an add, where there is room
abbrev pub add_tests : List Payload → World Name → List (Row Name) → Name → List Name → List Test
add_tests payloads w rows name parents =
    test_in payloads w rows (λ _. None) name ∷ seen_tests payloads w rows parents ++ plain (twice [] parents) ∷ plain (differs (with_pending w rows) name parents) ∷ []

-- what an add comes to: the commit is there with these parents, or these are the parents' ids
abbrev pub IsSought : World Name → List (Row Name) → Name → List Name → Result Sought Refusal → Type 0
IsSought w rows name parents (Ok (sought.Old id)) = (has (with_pending w rows) name ≡ true) × (id ≡ id_in same_name (with_pending w rows) name)
IsSought w rows name parents (Ok (sought.New ids)) = (has (with_pending w rows) name ≡ false) × (ids.items ≡ map (id_in same_name (with_pending w rows)) parents)
IsSought w rows name parents (Err refusal) = ⊤

-- ids of a view for the parents, none of them twice
abbrev pub AreParents : World Name → List (Row Name) → List Name → Result Sought Refusal → Type 0
AreParents w rows parents (Ok (sought.New ids)) = AllByRecursion (IsViewId w rows) ids.items × AreDistinct ids.items × (length ids.items ≡ length parents)
AreParents w rows parents _ = ⊤

-- a commit that isn't there is neither stored nor pending under a name that is known
abbrev pub IsNewIn : List Payload → World Name → List (Row Name) → Name → Result Sought Refusal → Type 0
IsNewIn payloads w rows name (Ok (sought.New ids)) = (IsIn name (stored_names payloads w) → ⊥) × (IsIn name (names_of rows) → ⊥)
IsNewIn payloads w rows name _ = ⊤

-- it comes to this before it changes anything
pub record Seeks (payloads : List Payload) (w : World Name) (rows : List (Row Name)) (name : Name) (parents : List Name) (old new : List Mirror) (before now : PlainCache) (result : Result Sought Refusal) : Type 0 where
  pub tried : Tried payloads w (add_tests payloads w rows name parents) old new before now (refusal_in result)
  pub parents_are : AreParents w rows parents result
  pub fresh : IsNewIn payloads w rows name result
  pub right : AreRight payloads w old → IsSought w rows name parents result

-- ids that may be the parents of a row behind so many others
pub record MayBeParents (first count : ℕ) (ids : List ℕ) : Type 0 where
  pub few : length ids ≤ 8
  pub distinct : AreDistinct ids
  pub below : AllByRecursion (λ id. id < other_id (first + count)) ids

-- a row comes behind these, unless there are as many as may be
abbrev pub Appends : ℕ → PlainPending → List HeldRow → Name → List ℕ → Result Added Refusal → PlainPending → Type 0
Appends most old rows name ids (Ok (New id)) new =
    (length rows < most) × (id ≡ other_id (old.first + length rows)) × (new.first ≡ old.first)
    × HoldsRows new (rows ++ record { name = name; parents = ids } ∷ [])
Appends most old rows name ids (Ok (Old id)) new = ⊥
Appends most old rows name ids (Err (why.Full what n)) new = (most ≤ length rows) × (what ≡ limit.Pending) × (n ≡ most)
Appends most old rows name ids (Err why.Memory) new = ⊤
Appends most old rows name ids (Err _) new = ⊥

-- what was looked up may come behind these rows
abbrev pub MayBeSought : PlainPending → Sought → Type 0
MayBeSought pending (sought.Old id) = ⊤
MayBeSought pending (sought.New ids) = MayBeParents pending.first (length pending.places) ids.items

-- none of these rows has the name of one that isn't there
abbrev pub IsNewAmong : List HeldRow → Name → Sought → Type 0
IsNewAmong rows name (sought.Old id) = ⊤
IsNewAmong rows name (sought.New ids) = IsIn name (row_names rows) → ⊥

-- what was looked up comes behind the rows of a session, or was there
abbrev pub PutsSought : ℕ → PlainSession → List HeldRow → Name → Sought → Result Added Refusal → PlainSession → Type 0
PutsSought most old rows name (sought.Old id) result new = (result ≡ Ok (Old id)) × (new ≡ old)
PutsSought most old rows name (sought.New ids) result new = (new ≡ record old { pending = new.pending }) × Appends most old.pending rows name ids.items result new.pending

-- whether there is room for the row, where it isn't there
abbrev pub room_test : ℕ → World Name → List (Row Name) → Name → Test
room_test most w rows name = plain (if has (with_pending w rows) name then None else full limit.Pending most (length rows + 1))

-- what is right of a row that was added
abbrev pub IsAddedRow : World Name → List (Row Name) → Name → List Name → Result Added Refusal → PlainPending → Type 0
IsAddedRow w rows name parents (Ok (New id)) new =
    (has (with_pending w rows) name ≡ false) × (id ≡ id_in same_name (with_pending w (rows ++ record { name = name; parents = parents } ∷ [])) name)
    × ArePending w new (rows ++ record { name = name; parents = parents } ∷ [])
IsAddedRow w rows name parents (Ok (Old id)) new = (has (with_pending w rows) name ≡ true) × (id ≡ id_in same_name (with_pending w rows) name)
IsAddedRow w rows name parents (Err refusal) new = ⊤

-- what becomes of a session
abbrev pub LeavesSession : PlainSession → Result Added Refusal → PlainSession → Type 0
LeavesSession old (Ok (New id)) new = new ≡ record old { pending = new.pending }
LeavesSession old _ new = new ≡ old

-- A row comes behind those of the session, or it was there; or it is refused, where there is no room last of all.
pub record AddsRow (most : ℕ) (session : PlainSession) (payloads : List Payload) (w : World Name) (rows : List (Row Name)) (name : Name) (parents : List Name) (old new : List Mirror) (before now : PlainCache)
    (result : Result Added Refusal) (next : PlainSession) : Type 0 where
  pub tried : Tried payloads w (add_tests payloads w rows name parents ++ room_test most w rows name ∷ []) old new before now (refusal_in result)
  pub leaves : LeavesSession session result next
  pub right : AreRight payloads w old → IsAddedRow w rows name parents result next.pending
