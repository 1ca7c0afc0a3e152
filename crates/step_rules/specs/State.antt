-- What a store stands for: the worlds that were stored, what each session sees, and what it knows of the mirrors.
use Rattle.std.specs.Prelude.{◌≡◌, ℕ, ◌≤◌, List, [], ◌∷◌, ◌++◌, true, Option, Some, None, is_some, length, map, replicate, slice_index_or, slice_get, slice_set}
use Rattle.std.specs.List.{AllByRecursion}
use Rattle.id_groups.specs.Lists.{IsIn}
use Rattle.id_groups.specs.Name.{Name, same_name}
use Rattle.commit_graph.specs.World.{Row, World, IsNamedWorld, GrowsMaster, empty_world, names_of, with_pending}
use Rattle.commit_graph.specs.Graph.{Graph, graph_of}
use Rattle.batch_codec.specs.Payload.{Payload}
use Rattle.gated_log.specs.Log.{log_length}
use Rattle.change_rules.specs.declared.Limits.{Limits}
use Rattle.change_rules.specs.Change.{text_of}
use Rattle.change_rules.specs.Lazy.{is_lazy}
use Rattle.change_rules.specs.Holding.{HoldPayloads}
use Rattle.remote_rules.specs.CloneData.{KnownName}
use Rattle.remote_rules.specs.Mirror.{Mirror}
use Rattle.remote_rules.specs.Honest.{IsSoundMirror}

-- a session
pub record Session : Type 0 where
  -- the number of the stored world that it works on
  pub base : ℕ
  -- its rows that aren't stored yet
  pub pending : List (Row Name)

-- What a store keeps, whatever is outside: a refusal leaves all of it as it was.
pub record Stored : Type 0 where
  -- the worlds that were stored since the start of the run, oldest first, and the one stored now
  pub past : List (World Name)
  pub stored : World Name
  -- the payloads of the log, oldest first
  pub payloads : List Payload
  pub sessions : List Session

-- names of ids: a finite map
abbrev pub Cache : Type 0
Cache = ℕ → Option Name

-- it has a name for no id but these
abbrev pub HasOnly : List ℕ → Cache → Type 0
HasOnly ids cache = (id : ℕ) → is_some (cache id) ≡ true → IsIn id ids

-- it has so many names at most
abbrev pub HasAtMost : ℕ → Cache → Type 0
HasAtMost most cache = (ids : List ℕ) × (length ids ≤ most) × HasOnly ids cache

-- the one without names
abbrev pub no_names : Cache
no_names id = None

-- What asking changes, also in a line that is refused.
pub record Outside : Type 0 where
  -- names that were found or fetched, and how many they are at most; in which order they were used is no part of it
  pub cache : Cache
  pub room : ℕ
  -- the mirrors, the one that is asked first in front
  pub mirrors : List Mirror

-- what a run goes through
pub record State : Type 0 where
  pub store : Stored
  pub outside : Outside

-- every world since the start
abbrev pub worlds : Stored → List (World Name)
worlds st = st.past ++ st.stored ∷ []

-- how many sessions there are
abbrev pub session_count : ℕ
session_count = 16

-- a session without pending rows on the world of the start
abbrev pub new_session : Session
new_session = record { base = 0; pending = [] }

-- what is stored at the start of a run, over a log with these payloads that holds the world
abbrev pub start : World Name → List Payload → Stored
start w payloads = record { past = []; stored = w; payloads = payloads; sessions = replicate session_count new_session }

-- the state at the start of a run, with these mirrors and room for so many names: nothing was fetched yet
abbrev pub at_start : World Name → List Payload → ℕ → List Mirror → State
at_start w payloads room mirrors = record { store = start w payloads; outside = record { cache = no_names; room = room; mirrors = mirrors } }

-- a session of the store
abbrev pub session : Stored → ℕ → Session
session st s = slice_index_or st.sessions s new_session

-- the session's rows that aren't stored yet
abbrev pub pending_of : Stored → ℕ → List (Row Name)
pending_of st s = (session st s).pending

-- the stored world of that number
abbrev pub world_at : Stored → ℕ → World Name
world_at st i = slice_index_or (worlds st) i empty_world

-- the world that the session works on
abbrev pub base_of : Stored → ℕ → World Name
base_of st s = world_at st (session st s).base

-- what the session sees: its base, and its pending rows behind the others
abbrev pub view_of : Stored → ℕ → World Name
view_of st s = with_pending (base_of st s) (pending_of st s)

-- the commits that the session sees, as a graph
abbrev pub seen_by : Stored → ℕ → Graph Name
seen_by st s = graph_of same_name (view_of st s)

-- the session is this one afterwards, and all else stays
abbrev pub with_session : Stored → ℕ → Session → Stored
with_session st s new = record { past = st.past; stored = st.stored; payloads = st.payloads; sessions = slice_set st.sessions s new }

-- the session has these pending rows afterwards
abbrev pub with_pending_rows : Stored → ℕ → List (Row Name) → Stored
with_pending_rows st s rows = with_session st s (record { base = (session st s).base; pending = rows })

-- the session is on the newest world, with these pending rows
abbrev pub on_newest : Stored → ℕ → List (Row Name) → Stored
on_newest st s rows = with_session st s (record { base = length st.past; pending = rows })

-- another world is stored, by one more payload
abbrev pub with_stored : Stored → World Name → Payload → Stored
with_stored st new payload = record { past = st.past ++ st.stored ∷ []; stored = new; payloads = st.payloads ++ payload ∷ []; sessions = st.sessions }

-- a session works on a world that was stored, and sees a world
pub record IsSession (st : Stored) (x : Session) : Type 0 where
  pub base : x.base ≤ length st.past
  pub view : IsNamedWorld (with_pending (world_at st x.base) x.pending)

-- what holds of what is stored, at each state of a run
pub record IsStore (st : Stored) : Type 0 where
  pub worlds : (i : ℕ) → i ≤ length st.past → IsNamedWorld (world_at st i)
  -- master only grows, at its end
  pub grows : (i j : ℕ) → i ≤ j → j ≤ length st.past → GrowsMaster (world_at st i) (world_at st j)
  pub sessions : (s : ℕ) → IsSession st (session st s)
  pub sixteen : length st.sessions ≡ session_count

-- an id that the log has no name for, with its row's name
abbrev pub IsLazyName : Stored → KnownName → Type 0
IsLazyName st k = (is_lazy st.payloads st.stored k.id ≡ true) × (slice_get (names_of st.stored.master) k.id ≡ Some k.name)

-- what holds of what is outside: the cache has no more names than there is room for, each of them a lazy row's, and each mirror
-- that tells its master is honest
pub record IsOutside (st : Stored) (out : Outside) : Type 0 where
  pub few : HasAtMost out.room out.cache
  pub names : (id : ℕ) (name : Name) → out.cache id ≡ Some name → IsLazyName st (record { id = id; name = name })
  pub mirrors : AllByRecursion IsSoundMirror out.mirrors

-- what holds of each state of a run
pub record IsState (st : State) : Type 0 where
  pub store : IsStore st.store
  pub outside : IsOutside st.store st.outside

-- the payloads of the log hold the world that is stored, and the log is within its limit
pub record IsHeld (limits : Limits) (st : Stored) : Type 0 where
  pub hold : HoldPayloads st.payloads st.stored
  pub within : log_length (map text_of st.payloads) ≤ limits.log
