-- What holds of cores over a lawful log, and when a core has to take what the others have stored.
use Rattle.std.specs.Prelude.{◌≡◌, ◌≤◌, ◌<◌, ⊤, true, ℕ, zero, suc, length, replicate, List, [], ◌∷◌, ◌++◌, map}
use Rattle.id_groups.specs.Name.{Name}
use Rattle.commit_graph.specs.World.{World, IsNamedWorld, GrowsMaster}
use Rattle.batch_codec.specs.Payload.{Payload}
use Rattle.gated_log.specs.Log.{log_length}
use Rattle.change_rules.specs.declared.Limits.{Limits}
use Rattle.change_rules.specs.Standard.{AreLimits}
use Rattle.change_rules.specs.Change.{text_of}
use Rattle.change_rules.specs.Holding.{HoldPayloads}
use Rattle.step_rules.specs.State.{Outside, Stored, IsHeld, IsOutside, IsState, session_count, on_newest, start}
use Rattle.step_rules.specs.Verb.{IsVerb}
use Rattle.step_rules.specs.Isolation.{reads_stored}
use Rattle.core_rules.specs.Cores.{Written, Cores, Line, lacks}

-- This may come behind a stored world and its payloads: master goes on, the payloads with this one hold its world, and their log is
-- within its limit.
pub record MayCome (limits : Limits) (w : World Name) (payloads : List Payload) (x : Written) : Type 0 where
  pub grows : GrowsMaster w x.world
  pub hold : HoldPayloads (payloads ++ x.payload ∷ []) x.world
  pub within : log_length (map text_of (payloads ++ x.payload ∷ [])) ≤ limits.log

-- each of these may, one behind the other
abbrev pub AllMayCome : Limits → World Name → List Payload → List Written → Type 0
AllMayCome limits w payloads [] = ⊤
AllMayCome limits w payloads (x ∷ more) = MayCome limits w payloads x × AllMayCome limits x.world (payloads ++ x.payload ∷ []) more

-- what is asked of the start
pub record IsLawfulStart (limits : Limits) (w : World Name) (payloads : List Payload) (outside : ℕ → Outside) : Type 0 where
  pub limits_fit : AreLimits limits
  pub world : IsNamedWorld w
  pub held : IsHeld limits (start w payloads)
  pub outsides : (i : ℕ) → IsOutside (start w payloads) (outside i)

-- Each core is in a state of a run, its payloads hold what it has stored, and what it lacks may come behind.
pub record AreLawful (limits : Limits) (n : ℕ) (cores : Cores) : Type 0 where
  pub states : (i : ℕ) → i < n → IsState (cores.core i).state
  pub held : (i : ℕ) → i < n → IsHeld limits (cores.core i).state.store
  pub come : (i : ℕ) → i < n → AllMayCome limits (cores.core i).state.store.stored (cores.core i).state.store.payloads (lacks cores i)

-- a line's names have 20 bytes
abbrev pub HasVerb : Cores → Line → Type 0
HasVerb cores line = IsVerb line.verb

-- and its core has taken all changes where it looks at the stored world
abbrev pub FollowsToRead : Cores → Line → Type 0
FollowsToRead cores line = IsVerb line.verb × (reads_stored line.verb ≡ true → lacks cores line.core ≡ [])

-- the stored part of a core that was opened when so many worlds had been stored: all changes are taken, and its sessions are on the
-- newest world, without pending rows
abbrev pub opened_late : List (World Name) → World Name → List Payload → Stored
opened_late past w payloads = record { past = past; stored = w; payloads = payloads; sessions = replicate session_count (record { base = length past; pending = [] }) }

-- the first sessions, without pending rows, are reloaded one after another
abbrev pub reloaded : ℕ → Stored → Stored
reloaded zero st = st
reloaded (suc s) st = on_newest (reloaded s st) s []
