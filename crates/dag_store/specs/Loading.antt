-- How a store is loaded.
use Rattle.std.specs.Prelude.{◌≡◌, ◌<◌, ◌≤◌, ◌+◌, ℕ, List, [], length, Result, Ok, Err, ⊤}
use Rattle.id_groups.specs.Name.{Name}
use Rattle.commit_graph.specs.World.{World}
use Rattle.disk_trait.specs.Images.{Told, moment_of}
use Rattle.gated_log.specs.Log.{IsDamaged}
use Rattle.gated_log.specs.Holding.{IsLogWithin, HasPayloads, IsOnDisk}
use Rattle.gated_log.specs.declared.LoadLog.{LoadLog}
use Rattle.gated_log.specs.declared.LoadLog.TheVariants as logs
use Rattle.log_tables.specs.declared.reading.TablesFault.{TablesFault}
use Rattle.log_tables.specs.declared.reading.TablesFault.TheVariants as reads
use Rattle.batch_codec.specs.Payload.{Payload}
use Rattle.change_rules.specs.declared.Limits.{Limits}
use Rattle.change_rules.specs.Unlawful.{IsFirstUnlawful}
use Rattle.step_rules.specs.State.{start}
use Rattle.dag_store.specs.declared.replies.LoadFault.{LoadFault}
use Rattle.dag_store.specs.declared.replies.LoadFault.TheVariants.{Frame, TooLarge, Batch, Disk, Memory}
use Rattle.dag_store.specs.Kept.{PlainStore}
use Rattle.dag_store.specs.Stands.{Stands}

-- a log's fault as a store's
abbrev pub fault_of : LoadLog → LoadFault
fault_of (logs.Damaged at) = Frame at
fault_of (logs.TooLarge size) = TooLarge size
fault_of (logs.Disk fault) = Disk fault
fault_of logs.Memory = Memory

-- that of its payloads as a store's
abbrev pub fault_of_tables : TablesFault → LoadFault
fault_of_tables (reads.Unlawful k) = Batch k
fault_of_tables reads.Memory = Memory

-- What loading answers over these bytes, by cases that exclude each other; the disk and the memory may fail at any place.
abbrev pub LoadAnswers : Limits → List ℕ → Result PlainStore LoadFault → Type 0
LoadAnswers limits bytes (Ok store) = IsLogWithin limits.log store.log.payloads bytes
LoadAnswers limits bytes (Err (Frame at)) = (length bytes ≤ limits.log) × IsDamaged bytes at
LoadAnswers limits bytes (Err (TooLarge size)) = (limits.log < length bytes) × (size ≡ length bytes)
LoadAnswers limits bytes (Err (Batch k)) = (texts : List (List ℕ)) × IsLogWithin limits.log texts bytes × IsFirstUnlawful [] texts k
LoadAnswers limits bytes (Err (Disk fault)) = ⊤
LoadAnswers limits bytes (Err Memory) = ⊤

-- Where the bytes are the log of payloads that hold the world, the store stands for the start of a run over it, unless the disk or
-- the memory fails.
abbrev pub Opens : Limits → List Payload → World Name → Result PlainStore LoadFault → Type 0
Opens limits payloads w (Ok store) = Stands (length payloads) store (start w payloads)
Opens limits payloads w (Err (Disk fault)) = ⊤
Opens limits payloads w (Err Memory) = ⊤
Opens limits payloads w (Err _) = ⊥

-- whatever a crash leaves after loading has the log's payloads, and the log may be written to; a fresh file took four calls, any
-- other three
pub record IsLoadedStore (store : PlainStore) (old new : Told) : Type 0 where
  pub fresh : length old.bytes ≤ 1 → moment_of new ≡ moment_of old + 8
  pub other : 2 ≤ length old.bytes → moment_of new ≡ moment_of old + 6
  pub payloads : HasPayloads store.limits.log new store.log.payloads
  pub on_disk : IsOnDisk store.log new

-- the file is no log
abbrev pub IsNoLogFault : LoadFault → Type 0
IsNoLogFault (Frame at) = ⊤
IsNoLogFault (TooLarge size) = ⊤
IsNoLogFault (Batch k) = ⊤
IsNoLogFault _ = ⊥
