-- What is kept of a log that was read.
use Rattle.std.specs.Prelude.{◌≡◌, ◌≤◌, ◌<◌, ◌⊎◌, ℕ, List, [], Some, length, map, Result, Ok, Err, ⊤}
use Rattle.id_groups.specs.Name.{Name}
use Rattle.outside.specs.Counts.{Rose}
use Rattle.commit_graph.specs.World.{World, IsNamedWorld}
use Rattle.disk_trait.specs.Meanwhile.{Meanwhile}
use Rattle.gated_log.specs.Log.{IsDamaged}
use Rattle.gated_log.specs.Load.{IsLogOf}
use Rattle.gated_log.specs.Growing.{IsGrowing, AreOfMoment}
use Rattle.gated_log.specs.Held.{Held, log_bytes}
use Rattle.batch_codec.specs.Grammar.{count_after}
use Rattle.name_map.specs.Added.{Placed, payloads_of, known_of, AllStand}
use Rattle.change_rules.specs.Change.{text_of}
use Rattle.change_rules.specs.Tables.{StandFor, newest, other_names_in}
use Rattle.payload_tables.specs.Kept.{PlainTables, AreTablesOf}
use Rattle.payload_tables.specs.Pending.{PlainPending, HoldsRows}
use Rattle.payload_tables.specs.Bases.{flat_segments_in}
use Rattle.remote_trait.specs.declared.fault.RemoteFault.{RemoteFault}
use Rattle.remote_trait.specs.declared.fault.RemoteFault.TheVariants.{Failed, Memory}
use Rattle.remote_store.specs.Told.{texts_within}
use Rattle.remote_store.specs.Fit.{IsUnfit, IsUnfitMeanwhile, IsTooLong, AreUnlawful}
use Rattle.remote_answers.specs.Paths.{IsReachedBy}
use Rattle.remote_answers.specs.declared.reached.Reached.{Reached}

-- each master id has a known name
abbrev pub HaveNames : List Placed → Type 0
HaveNames added = count_after 0 (payloads_of added) ≤ length (known_of added)

-- The tables are those of the log's payloads, which stand for a world and know the name of each master id, and no row is pending behind
-- them.
pub record IsRead (log : Held) (tables : PlainTables) (none : PlainPending) : Type 0 where
  pub added : List Placed
  pub tables_of : AreTablesOf tables added
  pub stand : AllStand (log_bytes log) added
  pub texts : log.payloads ≡ map text_of (payloads_of added)
  pub all_known : HaveNames added
  pub first : none.first ≡ length (other_names_in (newest (payloads_of added)))
  pub no_rows : HoldsRows none []
  pub of_world : World Name
  pub stands : StandFor (payloads_of added) of_world
  pub named : IsNamedWorld of_world

-- the log was read, and what is reached is so in its world
abbrev pub IsLoaded : Held → PlainTables → PlainPending → Reached → Type 0
IsLoaded log tables none reached =
    (read : IsRead log tables none) × IsReachedBy (flat_segments_in read.of_world) read.of_world.master reached

-- what a disk's bytes answer to who reads the log: the log; or a failure, since they are none or the count of the disk's faults rose; no
-- memory is wanted for more bytes than the limit
abbrev pub PeeksLog : ℕ → List ℕ → ℕ → ℕ → Result Held RemoteFault → Type 0
PeeksLog limit bytes before now (Ok log) = IsLogOf limit bytes log
PeeksLog limit bytes before now (Err Failed) = Rose before now ⊎ ((limit < length bytes) ⊎ ((at : ℕ) × IsDamaged bytes at))
PeeksLog limit bytes before now (Err Memory) = length bytes ≤ limit

-- what is made of the texts: tables of lawful payloads; or a failure, since they aren't lawful
abbrev pub MakesOf : Held → Result PlainTables RemoteFault → Type 0
MakesOf log (Ok tables) = (added : List Placed) × AreTablesOf tables added × AllStand (log_bytes log) added × (log.payloads ≡ map text_of (payloads_of added))
MakesOf log (Err Failed) = AreUnlawful log.payloads
MakesOf log (Err Memory) = ⊤

-- what reading answers over these bytes: the log's texts; or a failure, since no remote can be made of them or the count of the disk's
-- faults rose; no memory is wanted for more bytes than the limit
abbrev pub Peeks : ℕ → List ℕ → ℕ → ℕ → Result (List (List ℕ)) RemoteFault → Type 0
Peeks limit bytes before now (Ok texts) = (texts_within limit bytes ≡ Some texts) × (IsUnfit limit bytes → ⊥)
Peeks limit bytes before now (Err Failed) = Rose before now ⊎ IsUnfit limit bytes
Peeks limit bytes before now (Err Memory) = length bytes ≤ limit

-- The same of a log to which another process adds payloads meanwhile: the log of some moment of the reading, or a failure, since the count
-- of the disk's faults rose or none can be read meanwhile.
abbrev pub PeeksLogGrown : ℕ → (ℕ → List (List ℕ)) → ℕ → ℕ → Result Held RemoteFault → Meanwhile → Meanwhile → Type 0
PeeksLogGrown limit payloads before now (Ok log) old new = IsGrowing old.film payloads old.now → AreOfMoment payloads old.now new.now log.payloads
PeeksLogGrown limit payloads before now (Err Failed) old new = IsGrowing old.film payloads old.now → Rose before now ⊎ IsTooLong limit old.film payloads old.now new.now
PeeksLogGrown limit payloads before now (Err Memory) old new = ⊤

-- and of its texts, of which a remote is made
abbrev pub PeeksGrown : ℕ → (ℕ → List (List ℕ)) → ℕ → ℕ → Result (List (List ℕ)) RemoteFault → Meanwhile → Meanwhile → Type 0
PeeksGrown limit payloads before now (Ok texts) old new = IsGrowing old.film payloads old.now → AreOfMoment payloads old.now new.now texts
PeeksGrown limit payloads before now (Err Failed) old new = IsGrowing old.film payloads old.now → Rose before now ⊎ IsUnfitMeanwhile limit old.film payloads old.now new.now
PeeksGrown limit payloads before now (Err Memory) old new = ⊤
