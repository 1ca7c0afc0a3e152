-- Looking up a name among mirrors.
use Rattle.std.specs.Prelude.{◌≡◌, ◌<◌, ◌≤◌, ◌+◌, ◌^◌, ◌⊎◌, ◌&&◌, not, Bool, true, false, ⊤, ℕ, List, [], ◌∷◌, ◌++◌, Option, Some, None, Result, Ok, Err, IfOk, IfSome, length, map, if◌then◌else◌}
use Rattle.std.specs.List.{AllByRecursion, AllZip}
use Rattle.id_groups.specs.Lists.{IsIn, is_in, AreDistinct}
use Rattle.id_groups.specs.Name.{Name, same_name}
use Rattle.id_groups.specs.Id.{other_id}
use Rattle.commit_graph.specs.World.{Row, World, IsNamedWorld, names_of, with_pending}
use Rattle.commit_graph.specs.Ids.{id_in}
use Rattle.batch_codec.specs.Payload.{Payload}
use Rattle.change_rules.specs.Lazy.{is_lazy, has_lazy, stored_names}
use Rattle.change_rules.specs.Tables.{StandFor, cloned_count}
use Rattle.change_rules.specs.Disagree.{IsBadPath}
use Rattle.name_map.specs.Added.{Placed, payloads_of, AllStand}
use Rattle.payload_tables.specs.Kept.{PlainTables, AreTablesOf}
use Rattle.payload_tables.specs.declared.base.BaseRef.{BaseRef}
use Rattle.payload_tables.specs.Bases.{IsBaseOf, MayView, ArePending}
use Rattle.payload_tables.specs.Pending.{PlainPending, HoldsRows}
use Rattle.change_parts.specs.Asked.{others_count}
use Rattle.remote_rules.specs.CloneData.{KnownName}
use Rattle.remote_rules.specs.Mirror.{Mirror}
use Rattle.remote_rules.specs.Serving.{IsServing}
use Rattle.remote_rules.specs.Asking.{AsksForNames}
use Rattle.remote_rules.specs.declared.MirrorFault.{MirrorFault}
use Rattle.lazy_names.specs.Cache.{Entry, PlainCache, Keeps, cached_ids}
use Rattle.lazy_names.specs.declared.fault.LazyFault.{LazyFault}
use Rattle.lazy_names.specs.declared.fault.LazyFault.TheVariants as lazy
use Rattle.step_rules.specs.declared.Refusal.{Refusal}
use Rattle.step_rules.specs.declared.Refusal.TheVariants as why
use Rattle.step_rules.specs.Tests.{Test, named, unknown}
use Rattle.step_rules.specs.Asking.{TriesAll, refusal_for}
use Rattle.step_rules.specs.Worlds.{has}
use Rattle.store_plans.specs.Sessions.{PlainSession, base_added}
use Rattle.store_plans.specs.declared.seen.Seen.{Seen}
use Rattle.std.proofs.Common.{Vec, Global}

-- the base is that of these payloads, which stand for the world, and the pending rows stand behind it
pub record Sees (base : BaseRef) (pending : PlainPending) (added : List Placed) (w : World Name) (rows : List (Row Name)) : Type 0 where
  pub base_of : IsBaseOf base added
  pub stand : StandFor (payloads_of added) w
  pub world : IsNamedWorld w
  pub pending_rows : ArePending w pending rows
  pub view : IsNamedWorld (with_pending w rows)

-- the tables are those of these payloads and some behind them, which stand in the bytes
pub record AreTablesBehind (tables : PlainTables) (bytes : List ℕ) (added : List Placed) : Type 0 where
  pub behind : List Placed
  pub tables_of : AreTablesOf tables (added ++ behind)
  pub stand : AllStand bytes (added ++ behind)

-- what is lent of a session is its base of these payloads, and rows that may stand behind it
abbrev pub MaySee : Seen → List Placed → Type 0
MaySee seen added = IsBaseOf seen.base added × MayView seen.base added seen.pending.now

-- It shows this world and these rows behind it: over tables of the whole log, and with whether some name of the world isn't stored.
pub record Shows (seen : Seen) (added : List Placed) (w : World Name) (rows : List (Row Name)) : Type 0 where
  pub sees : Sees seen.base seen.pending.now added w rows
  pub behind : AreTablesBehind seen.tables.now seen.bytes.now added
  pub unnamed : seen.unnamed ≡ has_lazy (payloads_of added) w

-- the session's base stands for this world, and its rows are these behind it
pub record IsSeen (added : List Placed) (x : PlainSession) (w : World Name) (rows : List (Row Name)) : Type 0 where
  pub stand : StandFor (payloads_of (base_added added x)) w
  pub world : IsNamedWorld w
  pub pending_rows : ArePending w x.pending rows
  pub view : IsNamedWorld (with_pending w rows)

-- no rows, as behind the newest base of these payloads
abbrev pub AreNone : PlainPending → List Placed → Type 0
AreNone none added = HoldsRows none [] × (none.first ≡ others_count added)

-- whether the name has to be asked: some name of the world isn't stored, and this one is neither stored nor pending
abbrev pub is_asked_in : List Payload → World Name → List (Row Name) → Name → Bool
is_asked_in payloads w rows name =
    (has_lazy payloads w && not (is_in same_name name (stored_names payloads w))) && not (is_in same_name name (names_of rows))

-- what is found of a name that needn't be asked: its id in the view, or that it isn't there
abbrev pub FindsIn : List Payload → World Name → List (Row Name) → Name → Option ℕ → Type 0
FindsIn payloads w rows name (Some id) =
    (is_asked_in payloads w rows name ≡ false) × (has (with_pending w rows) name ≡ true) × (id ≡ id_in same_name (with_pending w rows) name)
FindsIn payloads w rows name None = (is_asked_in payloads w rows name ≡ false) × (has (with_pending w rows) name ≡ false)

-- a commit of master without a stored name, with its id: what an ask for its name may find
abbrev pub found_in : List Payload → World Name → Name → List KnownName
found_in payloads w name =
    let id = id_in same_name w name in
    if is_in same_name name (names_of w.master) && is_lazy payloads w id then record { id = id; name = name } ∷ [] else []

-- the test of a name that is looked up there
abbrev pub test_in : List Payload → World Name → List (Row Name) → (Name → Option Refusal) → Name → Test
test_in payloads w rows refuse name = named (is_asked_in payloads w rows name) (found_in payloads w name) (refuse name)

-- the mirrors serve the commits of the world that were cloned
abbrev pub AreServing : List Payload → World Name → List Mirror → Type 0
AreServing payloads w mirrors = AllByRecursion (IsServing (cloned_count payloads) w) mirrors

-- What an answer over the world rests on: each of its commits has a stored name, so that no mirror is asked, or the mirrors serve it.
abbrev pub AreRight : List Payload → World Name → List Mirror → Type 0
AreRight payloads w mirrors = (has_lazy payloads w ≡ false) ⊎ AreServing payloads w mirrors

-- found or fetched names, as a cache takes them in
abbrev pub entries_of : List KnownName → List Entry
entries_of found = map (λ (k : KnownName). (k.id, k.name)) found

-- why a result is refused, if it is
abbrev pub refusal_in : {X : Type 0} → Result X Refusal → Option Refusal
refusal_in (Ok _) = None
refusal_in (Err refusal) = Some refusal

-- a fault of asking, as a command is refused for it
abbrev pub asking_refusal : LazyFault → Refusal
asking_refusal lazy.NoRemote = why.NoRemote
asking_refusal (lazy.AllFailed n) = why.Remote n
asking_refusal (lazy.BadPath from back) = why.MismatchPath from back
asking_refusal (lazy.BadNames asked got) = why.MismatchNames asked got
asking_refusal lazy.Memory = why.Memory

-- what was found, or why the command is refused
abbrev pub as_refused : Result (Option ℕ) LazyFault → Result (Option ℕ) Refusal
as_refused (Ok found) = Ok found
as_refused (Err fault) = Err (asking_refusal fault)

-- A mirror's path for a name leads nowhere, or to a commit that is stored by another name.
abbrev pub IsWrongPath : List Payload → World Name → Name → ℕ → Type 0
IsWrongPath payloads w from back =
    (name : Name) × (has_lazy payloads w ≡ true) × (is_in same_name name (stored_names payloads w) ≡ false) × IsBadPath payloads (length w.master) name from back

-- How an ask for a name's id ended, whatever the mirrors told.
abbrev pub EndsSo : List Payload → World Name → Option MirrorFault → Result (Option ℕ) Refusal → Type 0
EndsSo payloads w end (Ok None) = end ≡ None
EndsSo payloads w end (Ok (Some id)) = (end ≡ None) × (id < length w.master)
EndsSo payloads w end (Err (why.MismatchPath from back)) = (end ≡ None) × IsWrongPath payloads w from back
EndsSo payloads w end (Err refusal) = (fault : MirrorFault) × (end ≡ Some fault) × (refusal ≡ refusal_for fault)

-- what is found is right of the world
abbrev pub IsRightOf : World Name → Name → Result (Option ℕ) Refusal → Type 0
IsRightOf w name (Ok None) = IsIn name (names_of w.master) → ⊥
IsRightOf w name (Ok (Some id)) = IsIn name (names_of w.master) × (id ≡ id_in same_name w name)
IsRightOf w name (Err (why.MismatchPath from back)) = ⊥
IsRightOf w name (Err refusal) = ⊤

-- what an answer finds
abbrev pub gained_by : Name → Result (Option ℕ) Refusal → List KnownName
gained_by name (Ok (Some id)) = record { id = id; name = name } ∷ []
gained_by name _ = []

-- The mirrors are asked once for the id of a name that the world's payloads don't store. Where they serve the world, what is found
-- is right of it.
pub record Asked (payloads : List Payload) (w : World Name) (name : Name) (old new : List Mirror) (before now : PlainCache) (result : Result (Option ℕ) Refusal) : Type 0 where
  pub answered : ℕ
  pub end : Option MirrorFault
  pub asks : AsksForNames 1 0 answered old end new
  pub gain : length (gained_by name result) ≤ answered
  pub keeps : Keeps (entries_of (gained_by name result)) before now
  pub ends : EndsSo payloads w end result
  pub right : AreServing payloads w old → IsRightOf w name result

-- a cache has each id once, and no more than there is room for
pub record IsSoundCache (c : PlainCache) : Type 0 where
  pub once : AreDistinct (cached_ids c.entries)
  pub fits : length c.entries ≤ c.capacity

-- the name's id in the view, if it is there
abbrev pub seen_as : World Name → List (Row Name) → Name → Option ℕ
seen_as w rows name = if has (with_pending w rows) name then Some (id_in same_name (with_pending w rows) name) else None

-- ---- tests in turn

-- A refusal that an answer of mirrors may lead to. Where none answers, the ask itself says so.
abbrev pub IsTold : List Payload → World Name → Option Refusal → Type 0
IsTold payloads w (Some why.NoRemote) = ⊥
IsTold payloads w (Some (why.Remote n)) = ⊥
IsTold payloads w (Some (why.MismatchPath from back)) = IsWrongPath payloads w from back
IsTold payloads w (Some (why.MismatchNames asked got)) = got < asked
IsTold payloads w _ = ⊤

-- the test as what mirrors told decides it: it asks for as many names
abbrev pub IsToldAs : List Payload → World Name → Test → Test → Type 0
IsToldAs payloads w t told = (told.must ≡ t.must) × (told.may ≡ t.may) × IsTold payloads w told.refusal

-- The tests, up to the one that is refused, as what the mirrors told decides them, whatever that is.
pub record AreTold (payloads : List Payload) (w : World Name) (tests : List Test) (old new : List Mirror) (gained : List KnownName) (verdict : Option Refusal) : Type 0 where
  pub front : List Test
  pub rest : List Test
  pub parts : tests ≡ front ++ rest
  pub whole : verdict ≡ None → rest ≡ []
  pub told : List Test
  pub alike : AllZip (IsToldAs payloads w) front told
  pub tries : TriesAll ⊤ old told verdict new gained

-- Whatever the mirrors tell, they are asked as these tests say, over a world and its payloads, and what refuses has its cause.
abbrev pub AsksAlike : List Payload → World Name → List Test → List Mirror → List Mirror → Option Refusal → Type 0
AsksAlike payloads w tests old new verdict = (gained : List KnownName) × AreTold payloads w tests old new gained verdict

-- The tests are tried in turn over mirrors and a cache: as what the mirrors tell decides them; where they serve the world, as they
-- are.
pub record Tried (payloads : List Payload) (w : World Name) (tests : List Test) (old new : List Mirror) (before now : PlainCache) (verdict : Option Refusal) : Type 0 where
  pub gained : List KnownName
  pub keeps : Keeps (entries_of gained) before now
  pub told : AreTold payloads w tests old new gained verdict
  pub serving : AreRight payloads w old → TriesAll ⊤ old tests verdict new gained

-- an id of the view
abbrev pub IsViewId : World Name → List (Row Name) → ℕ → Type 0
IsViewId w rows id = (id < length w.master) ⊎ ((2 ^ 56 ≤ id) × (id < other_id (length w.others + length rows)))

-- How a look-up ends: with an answer, with one that disagrees with the log, or with that of its ask.
abbrev pub LooksSo : List Payload → World Name → Option MirrorFault → Result (Option ℕ) Refusal → Type 0
LooksSo payloads w end (Ok found) = end ≡ None
LooksSo payloads w end (Err (why.MismatchPath from back)) = (end ≡ None) × IsWrongPath payloads w from back
LooksSo payloads w end (Err refusal) = (fault : MirrorFault) × (end ≡ Some fault) × (refusal ≡ refusal_for fault)

-- what is found is as the view has it, and no answer disagrees
abbrev pub IsAsSeen : World Name → List (Row Name) → Name → Result (Option ℕ) Refusal → Type 0
IsAsSeen w rows name (Ok found) = found ≡ seen_as w rows name
IsAsSeen w rows name (Err (why.MismatchPath from back)) = ⊥
IsAsSeen w rows name (Err refusal) = ⊤

-- A name is looked up in a view: the mirrors are asked for it where it has to be asked, and for nothing else. Where they serve the
-- world, it is found as the view has it.
pub record Looks (payloads : List Payload) (w : World Name) (rows : List (Row Name)) (name : Name) (old new : List Mirror) (before now : PlainCache) (result : Result (Option ℕ) Refusal) : Type 0 where
  pub answered : ℕ
  pub end : Option MirrorFault
  pub gained : List KnownName
  pub asks : AsksForNames (test_in payloads w rows (λ _. None) name).must 0 answered old end new
  pub gain : length gained ≤ answered
  pub keeps : Keeps (entries_of gained) before now
  pub ends : LooksSo payloads w end result
  pub view : IfOk result (λ found. IfSome found (IsViewId w rows))
  pub finds : AreRight payloads w old → (k : KnownName) → IsIn k gained → IsIn k (test_in payloads w rows (λ _. None) name).finds
  pub right : AreRight payloads w old → IsAsSeen w rows name result
  -- what isn't found is neither stored nor pending
  pub fresh : result ≡ Ok None → (IsIn name (stored_names payloads w) → ⊥) × (IsIn name (names_of rows) → ⊥)

-- a vector as its list
abbrev pub items_of : {X : Type 0} → Result (Vec X Global) Refusal → Result (List X) Refusal
items_of (Ok v) = Ok v.items
items_of (Err refusal) = Err refusal

-- the tests of names that are looked up in a view, and refused where they aren't there
abbrev pub seen_tests : List Payload → World Name → List (Row Name) → List Name → List Test
seen_tests payloads w rows names = map (test_in payloads w rows (unknown (with_pending w rows))) names

-- the id of a name in a view, or why it is refused
pub record FindsOne (payloads : List Payload) (w : World Name) (rows : List (Row Name)) (name : Name) (old new : List Mirror) (before now : PlainCache) (result : Result ℕ Refusal) : Type 0 where
  pub tried : Tried payloads w (seen_tests payloads w rows (name ∷ [])) old new before now (refusal_in result)
  pub view : IfOk result (IsViewId w rows)
  pub right : AreRight payloads w old → IfOk result (λ id. id ≡ id_in same_name (with_pending w rows) name)

-- the ids of names in a view, or why the first is that is refused
pub record FindsAll (payloads : List Payload) (w : World Name) (rows : List (Row Name)) (names : List Name) (old new : List Mirror) (before now : PlainCache) (result : Result (List ℕ) Refusal) : Type 0 where
  pub tried : Tried payloads w (seen_tests payloads w rows names) old new before now (refusal_in result)
  pub view : IfOk result (AllByRecursion (IsViewId w rows))
  pub count : IfOk result (λ ids. length ids ≡ length names)
  pub right : AreRight payloads w old → IfOk result (λ ids. ids ≡ map (id_in same_name (with_pending w rows)) names)
