-- What a run over a disk, a source and a sink says of its status, where they tell.
use Rattle.std.specs.Prelude.{ℕ, ◌≡◌, ◌⊎◌, ◌≤◌, List, length, Result, Ok, Err, ⊤}
use Rattle.outside.specs.Counts.{Rose}
use Rattle.id_groups.specs.Name.{Name}
use Rattle.commit_graph.specs.World.{World}
use Rattle.line_io.specs.Lines.{lines_of}
use Rattle.batch_codec.specs.Payload.{Payload}
use Rattle.change_rules.specs.declared.Limits.{Limits}
use Rattle.remote_rules.specs.Mirror.{Mirror}
use Rattle.run_rules.specs.Ends.{End, status_of}
use Rattle.run_rules.specs.Means.{Means, IsComplete, RefusesLog}
use Rattle.run_rules.specs.Premises.{BeginAtPulls, Start}
use Rattle.change_rules.specs.Unlawful.{IsNoLog}
use Rattle.step_rules.specs.State.{at_start, start}
use Rattle.dag_store.specs.Kept.{PlainStore}
use Rattle.dag_store.specs.Stands.{Stands}
use Rattle.dag_run.specs.Seen.{Seen, streams}
use Rattle.dag_run.specs.Lines.{PutsFault}
use Rattle.dag_run.specs.Enough.{AreEnough}
use Rattle.dag_run.specs.declared.stops.Stop.{Stop}
use Rattle.dag_run.specs.declared.stops.Stop.TheVariants.{Memory, NoLog, NotLoaded, NotStored, Sink, Source}

-- The disk holds the world, by these payloads, and a run over it with room for so many names may have these mirrors. Wherever its
-- lines come to a pull, the masters of those that are left begin with the cloned commits.
abbrev pub Begins : Limits → World Name → List Payload → ℕ → List Mirror → Seen → Type 0
Begins limits w payloads room mirrors before =
    Start limits before.disk w payloads × AreEnough payloads w mirrors
    × BeginAtPulls limits (at_start w payloads room mirrors) (lines_of limits.input before.left)

-- The status is that of an end of which this run, with these mirrors and those left, means what a run has to, and it is complete.
abbrev pub StatusMeans : Limits → World Name → List Payload → ℕ → List Mirror → List Mirror → Type 0 → Type 0 → Type 0 → ℕ → List ℕ → Seen → Seen → Type 0
StatusMeans limits w payloads room mirrors left DiskFailed SourceFailed SinkFailed status changes before after =
    (end : End) × (status ≡ status_of end)
    × (m : Means limits w payloads room mirrors left (streams before after) SinkFailed before.disk after.disk end changes)
    × IsComplete limits mirrors left (streams before after) DiskFailed SourceFailed SinkFailed end m.replies

-- Status 4 comes only where a read gives what is no log, and over such bytes always, unless a call of loading failed or memory was
-- wanting before the first line.
abbrev pub StatusRefuses : ℕ → List ℕ → ℕ → Type 0
StatusRefuses limit bytes status = (status ≡ 4 → IsNoLog limit bytes) × (IsNoLog limit bytes → (status ≡ 4) ⊎ ((status ≡ 3) ⊎ (status ≡ 7)))

-- The status is that of an end which refuses exactly what is no log, with nothing written and nothing put. Over a disk that holds a
-- world it is the end of what the run means.
abbrev pub EndRefuses : Limits → ℕ → Seen → Seen → Type 0
EndRefuses limits status before after = (end : End) × (status ≡ status_of end) × RefusesLog limits.log (streams before after) before.disk after.disk end

-- the same of a run's result
abbrev pub RunRefuses : ℕ → List ℕ → Result Unit Stop → Type 0
RunRefuses limit bytes result =
    (result ≡ Err NoLog → IsNoLog limit bytes) × (IsNoLog limit bytes → (result ≡ Err NoLog) ⊎ ((result ≡ Err NotLoaded) ⊎ (result ≡ Err Memory)))

-- and of loading
abbrev pub LoadRefuses : ℕ → List ℕ → Result PlainStore Stop → Type 0
LoadRefuses limit bytes (Ok store) = IsNoLog limit bytes → ⊥
LoadRefuses limit bytes (Err NoLog) = IsNoLog limit bytes
LoadRefuses limit bytes (Err _) = ⊤

-- where the disk holds the world, a run begins, unless the disk or the memory fails
abbrev pub OpensRun : List Payload → World Name → Result PlainStore Stop → Type 0
OpensRun payloads w (Ok store) = Stands (length payloads) store (start w payloads)
OpensRun payloads w (Err NoLog) = ⊥
OpensRun payloads w (Err _) = ⊤

-- what is put while the store is loaded
abbrev pub LoadPuts : Type 0 → Result PlainStore Stop → List ℕ → List ℕ → Type 0
LoadPuts SinkFailed (Err NotLoaded) before now = PutsFault SinkFailed before now
LoadPuts SinkFailed _ before now = now ≡ before

-- Who failed where lines were answered to such an end, by the counts of faults before and after; none of them falls.
pub record HasCauses {T : Type 0} (disk disk_then source source_then sink sink_then : ℕ) (result : Result T Stop) : Type 0 where
  pub disk_failed : (result ≡ Err NotLoaded) ⊎ (result ≡ Err NotStored) → Rose disk disk_then
  pub source_failed : result ≡ Err Source → Rose source source_then
  pub sink_failed : result ≡ Err Sink → Rose sink sink_then
  pub disk_later : disk ≤ disk_then
  pub source_later : source ≤ source_then
  pub sink_later : sink ≤ sink_then
