-- What is asked for ids in turn, by which runs, and which of these are told ahead.
use Rattle.std.specs.Prelude.{◌≡◌, ◌<◌, ◌≤◌, ◌+◌, ◌⊎◌, ℕ, List, [], ◌∷◌, ◌++◌, Option, Some, None, Ok, Err, length, map, drop, slice_get, IfSome, ⊤}
use Rattle.std.specs.declared.result.Result.{Result}
use Rattle.id_groups.specs.Lists.{IsIn, IsFiltered}
use Rattle.id_groups.specs.Name.{Name}
use Rattle.batch_codec.specs.Payload.{Known}
use Rattle.segment_codec.specs.Record.{Segment}
use Rattle.remote_rules.specs.Mirror.{Mirror}
use Rattle.remote_trait.specs.Calls.{Leaves, raised}
use Rattle.remote_trait.specs.Honest.{AreNamesOf}
use Rattle.remote_trait.specs.Runs.{Run}
use Rattle.mirror_set.specs.Asking.{Answered}
use Rattle.lazy_names.specs.declared.fault.LazyFault.{LazyFault}
use Rattle.lazy_names.specs.declared.fetched.FetchedName.{FetchedName}
use Rattle.lazy_names.specs.Cache.{Entry}
use Rattle.lazy_names.specs.Standing.{HasName}
use Rattle.lazy_names.specs.Fetching.{IsAnchor, IsLazy, IsRun, IsRunAnswer, IsUncached}

-- the most runs that are told at once
abbrev pub most_told : ℕ
most_told = 64

-- The run that is asked for the first of these ids, for which the cache has no name: from its anchor, for as many as go on from it, one below
-- the other in its flat segment, without a name in the cache; and the next one doesn't go on.
pub record IsFirstRun (flats : List Segment) (known : List Known) (entries : List Entry) (ids : List ℕ) (run : Run) : Type 0 where
  pub first : ℕ
  pub low : ℕ
  pub at : slice_get ids 0 ≡ Some first
  pub uncached : IsUncached entries first
  pub anchor : IsAnchor flats known first run.from run.back low
  pub some : 0 < run.count
  pub few : run.count ≤ length ids
  pub goes : IsRun entries ids first low run.count
  pub ends : (next : ℕ) → slice_get ids run.count ≡ Some next → next + run.count ≡ first → low ≤ next → IsUncached entries next → ⊥

-- the cache has a name for the first of these ids
pub record IsFirstCached (entries : List Entry) (ids : List ℕ) : Type 0 where
  pub first : ℕ
  pub name : Name
  pub at : slice_get ids 0 ≡ Some first
  pub cached : IsIn (first, name) entries

-- one turn: the first id's name is in the cache, and nothing is asked; or a run is asked for
abbrev pub Turn : Type 0
Turn = Option Run

abbrev pub IsTurn : List Segment → List Known → List Entry → List ℕ → Turn → Type 0
IsTurn flats known entries ids None = IsFirstCached entries ids
IsTurn flats known entries ids (Some run) = IsFirstRun flats known entries ids run

-- for how many ids it is
abbrev pub size_of : Turn → ℕ
size_of None = 1
size_of (Some run) = run.count

-- what it asks for
abbrev pub asks_of : Turn → List Run
asks_of None = []
asks_of (Some run) = run ∷ []

-- turns one after another, each for the ids behind those of the ones before
abbrev pub AreTurns : List Segment → List Known → List Entry → List ℕ → List Turn → Type 0
AreTurns flats known entries ids [] = ⊤
AreTurns flats known entries ids (turn ∷ more) = IsTurn flats known entries ids turn × AreTurns flats known entries (drop (size_of turn) ids) more

-- for how many ids they are
abbrev pub sizes_of : List Turn → ℕ
sizes_of [] = 0
sizes_of (turn ∷ more) = size_of turn + sizes_of more

-- what they ask for, each run once, in order
abbrev pub runs_of : List Turn → List Run
runs_of [] = []
runs_of (turn ∷ more) = asks_of turn ++ runs_of more

-- for how many names each is
abbrev pub counts_of : List Run → List ℕ
counts_of runs = map (λ (r : Run). r.count) runs

-- no id has two known names
abbrev pub AreOnce : List Known → Type 0
AreOnce known = (id : ℕ) (x y : Name) → HasName known id x → HasName known id y → x ≡ y

-- These runs, and no other, are asked for the first ids, so many.
pub record AreAhead (flats : List Segment) (known : List Known) (entries : List Entry) (ids : List ℕ) (runs : List Run) (count : ℕ) : Type 0 where
  pub turns : List Turn
  pub are : AreTurns flats known entries ids turns
  pub runs_are : runs ≡ runs_of turns
  pub counted : count ≡ sizes_of turns

-- what one turn for these ids, so many, adds to the runs
pub record AddsTurn (flats : List Segment) (known : List Known) (entries : List Entry) (ids : List ℕ) (count : ℕ) (before now : List Run) : Type 0 where
  pub turn : Turn
  pub is : IsTurn flats known entries ids turn
  pub counted : count ≡ size_of turn
  pub added : now ≡ before ++ asks_of turn

-- so many of the ids are those of runs that were told, and aren't asked for yet: what is asked for next, and nothing else
abbrev pub AreTold : List Segment → List Known → List Entry → List ℕ → ℕ → Type 0
AreTold flats known entries ids told = (runs : List Run) × AreAhead flats known entries ids runs told

-- ---- what is asked for

-- the names of the run were asked for, from its anchor, and a mirror answered
abbrev pub IsRunAsked : Run → List Mirror → List Mirror → Type 0
IsRunAsked run before now =
    (names : List Name) × Answered (Leaves (raised run.count)) (λ m. IfSome m.master (λ rows. AreNamesOf rows run.from run.back run.count names)) before now

-- these runs were asked for, one after another, and nothing else
abbrev pub AreRunsAsked : List Run → List Mirror → List Mirror → Type 0
AreRunsAsked [] before now = now ≡ before
AreRunsAsked (run ∷ more) before now = (between : List Mirror) × IsRunAsked run before between × AreRunsAsked more between now

-- what a turn asks the mirrors for
abbrev pub AsksTurn : Turn → List Mirror → List Mirror → Type 0
AsksTurn None before now = now ≡ before
AsksTurn (Some run) before now = IsRunAsked run before now

-- names for the first of the ids come of one turn; a fault comes of nothing that was asked, or of the run that is asked for first
abbrev pub TakesTurn : List Segment → List Known → List Entry → List ℕ → List Mirror → List Mirror → Result (List FetchedName) LazyFault → Type 0
TakesTurn flats known entries ids before now (Ok part) = (turn : Turn) × IsTurn flats known entries ids turn × (length part ≡ size_of turn) × AsksTurn turn before now
TakesTurn flats known entries ids before now (Err fault) =
    (now ≡ before) ⊎ ((run : Run) × IsFirstRun flats known entries ids run × IsRunAnswer run.from run.back ids run.count before now (Err fault))

-- how it ended behind the turns whose names were gathered
abbrev pub EndsTurns : List Segment → List Known → List Entry → List ℕ → List Mirror → List Mirror → Option LazyFault → Type 0
EndsTurns flats known entries ids before now None = now ≡ before
EndsTurns flats known entries ids before now (Some fault) =
    (now ≡ before)
    ⊎ ((run : Run) × IsFirstRun flats known entries ids run × (IsRunAsked run before now ⊎ IsRunAnswer run.from run.back ids run.count before now (Err fault)))

-- These are the turns that were taken for the ids with names, and their runs were asked for, each once, in order. Where a fault came, the run
-- that is next was asked for at most.
pub record GathersBy (flats : List Segment) (known : List Known) (entries : List Entry) (ids : List ℕ) (before now : List Mirror) (done : List FetchedName) (fault : Option LazyFault) : Type 0 where
  pub turns : List Turn
  pub are : AreTurns flats known entries ids turns
  pub sized : sizes_of turns ≡ length done
  pub between : List Mirror
  pub asked : AreRunsAsked (runs_of turns) before between
  pub ends : EndsTurns flats known entries (drop (length done) ids) between now fault

-- the same of the lazy ids among these
abbrev pub GathersByLazy : List Segment → List Known → ℕ → List Entry → List ℕ → List Mirror → List Mirror → List FetchedName → Option LazyFault → Type 0
GathersByLazy flats known bound entries all before now names fault =
    (lazy : List ℕ) → IsFiltered (IsLazy known bound) all lazy → GathersBy flats known entries lazy before now names fault
