-- How an expression is answered in a session's view.
use Rattle.std.specs.Prelude.{◌≡◌, ◌<◌, ◌≤◌, ◌⊎◌, not, ⊤, ℕ, nat_eq, List, [], ◌∷◌, Option, Some, None, Result, Ok, Err, IfOk, length, map, filter}
use Rattle.std.specs.List.{AllByRecursion}
use Rattle.id_groups.specs.Lists.{IsIn, AreAllIn, is_in}
use Rattle.id_groups.specs.Name.{Name, same_name}
use Rattle.id_groups.specs.declared.span.IdSpan.{IdSpan}
use Rattle.commit_graph.specs.World.{Row, World, names_of, rows_of, with_pending}
use Rattle.commit_graph.specs.Graph.{graph_of}
use Rattle.commit_graph.specs.Ids.{id_in}
use Rattle.batch_codec.specs.Payload.{Payload}
use Rattle.span_set.specs.Members.{IsDescending, IsMember, ids_of}
use Rattle.set_expr.specs.Expr.{Expr, commits_in}
use Rattle.set_expr.specs.Meaning.{IsAnswer}
use Rattle.set_query.specs.declared.evaluation.Answer.{Answer}
use Rattle.change_rules.specs.Lazy.{is_lazy}
use Rattle.remote_trait.specs.Honest.{IsNamed}
use Rattle.remote_rules.specs.CloneData.{KnownName}
use Rattle.remote_rules.specs.Mirror.{Mirror}
use Rattle.remote_rules.specs.Asking.{AsksForNames}
use Rattle.remote_rules.specs.declared.MirrorFault.{MirrorFault}
use Rattle.remote_rules.specs.declared.MirrorFault.TheVariants as memory
use Rattle.lazy_names.specs.Cache.{PlainCache, Keeps, Entry}
use Rattle.lazy_names.specs.Fetching.{IsCacheOf}
use Rattle.lazy_names.specs.declared.fetched.FetchedName.{FetchedName}
use Rattle.step_rules.specs.declared.Refusal.{Refusal}
use Rattle.step_rules.specs.declared.Refusal.TheVariants as why
use Rattle.step_rules.specs.Tests.{Test}
use Rattle.step_rules.specs.Asking.{refusal_for}
use Rattle.store_queries.specs.declared.query.Found.{Found}
use Rattle.store_queries.specs.Names.{known_name}
use Rattle.store_plans.specs.Looking.{seen_tests, AreRight, AsksAlike, IsViewId, Tried, entries_of, refusal_in}

-- The members by their ids, of names that were all found; or the first name that is refused, or no memory. Where the mirrors serve
-- the world, they are its members.
pub record Evaluates (payloads : List Payload) (w : World Name) (rows : List (Row Name)) (e : Expr Name) (old new : List Mirror) (before now : PlainCache) (result : Result Answer Refusal) : Type 0 where
  pub tried : Tried payloads w (seen_tests payloads w rows (commits_in e)) old new before now (refusal_in result)
  pub view : IfOk result (λ answer. (id : ℕ) → IsMember answer.set id → IsViewId w rows id)
  pub descending : IfOk result (λ answer. IsDescending (ids_of answer.set))
  pub right : AreRight payloads w old → IfOk result (λ answer. (names : List Name) × IsAnswer (graph_of same_name (with_pending w rows)) e names
      × (ids_of answer.set ≡ map (id_in same_name (with_pending w rows)) names) × AreAllIn names (names_of (rows_of (with_pending w rows))))

-- ids of the view
abbrev pub AreViewIds : World Name → List (Row Name) → List IdSpan → Type 0
AreViewIds w rows set = (id : ℕ) → IsMember set id → IsViewId w rows id

-- the answer has more members than it may have
abbrev pub IsTooLong : ℕ → ℕ → Refusal → Type 0
IsTooLong most count (why.Answer n) = (most < count) × (n ≡ count)
IsTooLong most count _ = ⊥

-- the ids among these that have no stored name
abbrev pub lazy_ids : List Payload → World Name → List ℕ → List ℕ
lazy_ids payloads w ids = filter (is_lazy payloads w) ids

-- those that the cache has no name for
abbrev pub absent_ids : PlainCache → List ℕ → List ℕ
absent_ids cache ids = filter (λ id. not (is_in nat_eq id (map (λ (e : Entry). e.0) cache.entries))) ids

-- how a fetch ends
abbrev pub FetchesSo : ℕ → ℕ → Option MirrorFault → Result (List FetchedName) Refusal → Type 0
FetchesSo all answered end (Ok names) = (end ≡ None) × (answered ≡ all)
FetchesSo all answered end (Err (why.MismatchNames asked got)) = (end ≡ None) × (got < asked)
FetchesSo all answered end (Err (why.MismatchPath from back)) = ⊥
FetchesSo all answered end (Err why.Memory) = (end ≡ None) ⊎ (end ≡ Some memory.Memory)
FetchesSo all answered end (Err refusal) = (fault : MirrorFault) × (end ≡ Some fault) × (refusal ≡ refusal_for fault)

-- those of these names whose ids the cache has no name for
abbrev pub absent_of : PlainCache → List KnownName → List KnownName
absent_of cache names = filter (λ (k : KnownName). not (is_in nat_eq k.id (map (λ (e : Entry). e.0) cache.entries))) names

-- each is the name of the master row with its id
abbrev pub AreNamesIn : World Name → List KnownName → Type 0
AreNamesIn w names = AllByRecursion (λ (k : KnownName). IsNamed w.master k.id k.name) names

-- no mirror told too few names
abbrev pub IsRightEnd : Result (List FetchedName) Refusal → Type 0
IsRightEnd (Err (why.MismatchNames asked got)) = ⊥
IsRightEnd _ = ⊤

-- Names are fetched for those of these ids that have none stored: mirrors are asked for as many as the cache hasn't, and the names come
-- into the cache, also those that it had. Where they serve the world, and the cache is right of it, the names are.
pub record Fetches (payloads : List Payload) (w : World Name) (rows : List (Row Name)) (ids : List ℕ) (old new : List Mirror) (before now : PlainCache) (result : Result (List FetchedName) Refusal) : Type 0 where
  pub answered : ℕ
  pub end : Option MirrorFault
  pub names : List KnownName
  pub asks : AsksForNames 0 (length (absent_ids before (lazy_ids payloads w ids))) answered old end new
  pub gain : length (absent_of before names) ≤ answered
  pub keeps : Keeps (entries_of names) before now
  pub ends : FetchesSo (length (absent_ids before (lazy_ids payloads w ids))) answered end result
  pub within : (k : KnownName) → IsIn k names → IsIn k.id (lazy_ids payloads w ids)
  pub whole : IfOk result (λ fetched. (names ≡ map known_name fetched) × (map (λ (k : KnownName). k.id) names ≡ lazy_ids payloads w ids))
  pub right : AreRight payloads w old → IsCacheOf w.master before.entries → AreNamesIn w names × IsRightEnd result

-- The names of an answer are found: it isn't too long, and those that aren't stored are fetched.
pub record FindsMembers (most : ℕ) (payloads : List Payload) (w : World Name) (rows : List (Row Name)) (ids : List ℕ) (old new : List Mirror) (before now : PlainCache) (result : Result Found Refusal) : Type 0 where
  pub long : most < length ids → (new ≡ old) × (now ≡ before) × (refusal_in result ≡ Some (why.Answer (length ids)))
  pub short : length ids ≤ most → (fetched : Result (List FetchedName) Refusal) × Fetches payloads w rows ids old new before now fetched
      × (refusal_in result ≡ refusal_in fetched) × IfOk result (λ found. fetched ≡ Ok found.fetched)

-- a test for which so many names may be asked
abbrev pub printing : ℕ → Test
printing may = record { must = 0; may = may; finds = []; refusal = None }

-- The names of these members are asked, of as many at most as have none stored. Where they are more than an answer may have it is
-- refused for that, and no name is asked; nothing else is refused so.
pub record Prints (most : ℕ) (payloads : List Payload) (w : World Name) (mid new : List Mirror) (result : Result Found Refusal) : Type 0 where
  pub members : List ℕ
  pub answer : IfOk result (λ found. ids_of found.answer.set ≡ members)
  pub may : ℕ
  pub few : may ≤ length (lazy_ids payloads w members)
  pub asks : AsksAlike payloads w (printing may ∷ []) mid new (refusal_in result)
  pub long : most < length members → (new ≡ mid) × (refusal_in result ≡ Some (why.Answer (length members)))
  pub short : (n : ℕ) → refusal_in result ≡ Some (why.Answer n) → most < length members

-- Whatever the mirrors tell a query, they are asked as its tests say, and then for the names of members that aren't stored.
abbrev pub AsksQuery : ℕ → List Payload → World Name → List Test → List Mirror → List Mirror → Result Found Refusal → Type 0
AsksQuery most payloads w tests old new result =
    AsksAlike payloads w tests old new (refusal_in result)
    ⊎ ((mid : List Mirror) × AsksAlike payloads w tests old mid None × Prints most payloads w mid new result)
