-- What holds from line to line of a run.
use Rattle.std.specs.Prelude.{ℕ, ◌≡◌, ◌≤◌, ◌+◌, false, List, ◌++◌, length, map, nat_lt, Option, Some, None, Result, Ok, Err}
use Rattle.outside.specs.Counts.{Rose}
use Rattle.outside.specs.Told.{WhereTold}
use Rattle.id_groups.specs.Name.{Name}
use Rattle.commit_graph.specs.World.{World}
use Rattle.disk_trait.specs.Images.{Told, moment_of}
use Rattle.gated_log.specs.Holding.{HasPayloads}
use Rattle.line_io.specs.Lines.{lines_of, whole_lines}
use Rattle.line_io.specs.Reading.{Reading, is_over, lines_left, whole_left}
use Rattle.line_io.specs.Next.{IsReadOut}
use Rattle.batch_codec.specs.Payload.{Payload}
use Rattle.change_rules.specs.declared.Limits.{Limits}
use Rattle.change_rules.specs.Standard.{AreLimits}
use Rattle.change_rules.specs.Change.{text_of}
use Rattle.remote_rules.specs.Mirror.{Mirror}
use Rattle.step_rules.specs.State.{State, Stored, at_start}
use Rattle.step_rules.specs.Reply.{Reply}
use Rattle.run_rules.specs.Run.{Run, output_of}
use Rattle.run_rules.specs.Ends.{Done}
use Rattle.run_rules.specs.Stopped.{Stopped}
use Rattle.run_rules.specs.Means.{AreCommits, Means, last_of, loaded_at}
use Rattle.dag_store.specs.Kept.{PlainStore}
use Rattle.dag_store.specs.Stands.{StandsBeside}
use Rattle.dag_run.specs.Seen.{Seen, streams}
use Rattle.dag_run.specs.Ends.{Begins}
use Rattle.dag_run.specs.Does.{DiskSides, MirrorSides, PortSides, seen_before, seen_after}
use Rattle.dag_run.specs.Stops.{end_of}
use Rattle.dag_run.specs.Enough.{HasEnough}
use Rattle.dag_run.specs.declared.stops.Stop.{Stop}

-- The lines that were answered, of an input of these bytes: what is left of it gives the lines to come, and, until the
-- end was seen, the bytes given have these lines and those that are held.
pub record Reads (limit : ℕ) (done : List (List ℕ)) (before : List ℕ) (reading : Reading) (after : List ℕ) : Type 0 where
  pub all : lines_of limit before ≡ done ++ lines_left reading after
  pub given : List ℕ
  pub split : before ≡ given ++ after
  pub whole : reading.ended ≡ false → (more : List ℕ) → whole_lines limit (given ++ more) ≡ done ++ whole_left reading more
  -- whether the input is too long
  pub over : is_over reading after ≡ nat_lt limit (length before)
  -- where the source came to its end, none of its bytes is left
  pub out : IsReadOut reading after

-- The disk goes on from change to change: all that was stored is on it now.
pub record Stays (limits : Limits) (w : World Name) (payloads : List Payload) (changes : List ℕ) (last : Stored) (old new : Told) : Type 0 where
  pub stored : length changes ≡ length last.past
  pub stopped : Stopped limits.log w payloads changes last old new
  pub sure : stopped.sure ≡ moment_of old + 2
  pub each : AreCommits (loaded_at old) changes
  pub calls : moment_of new ≡ last_of (loaded_at old) changes
  pub begun : moment_of old + 2 ≤ moment_of new
  pub has : HasPayloads limits.log new (map text_of last.payloads)

-- These lines were answered, all replies were put, and the store stands for the run's last state, beside the mirrors that are left.
pub record Going (limits : Limits) (w : World Name) (payloads : List Payload) (room : ℕ) (mirrors left : List Mirror) (store : PlainStore) (changes : List ℕ) (reading : Reading) (before after : Seen) : Type 0 where
  pub lines : List (List ℕ)
  pub reads : Reads limits.input lines before.left reading after.left
  pub replies : List Reply
  pub last : State
  pub run : Run limits (at_start w payloads room mirrors) lines replies last
  pub out : after.taken ≡ before.taken ++ output_of replies
  pub stands : StandsBeside (length payloads) store left last
  pub enough : HasEnough last
  pub stays : Stays limits w payloads changes last.store before.disk after.disk

-- What holds where a run that began so, and goes on over this store, was answered on: the answer over what the disk, the source and the
-- sink tell, from those moments on at which the counts of faults were first read.
abbrev pub FromGoing : {D M I O : Type 0} → DiskSides D → MirrorSides M → PortSides I → PortSides O → PlainStore → List ℕ → Reading
    → (Limits → World Name → List Payload → ℕ → List Mirror → Type 0 → Seen → Seen → Type 0) → Type 0
FromGoing log mirrors input output store changes reading Answered =
    (limits : Limits) (w : World Name) (payloads : List Payload) (room : ℕ) (first : List Mirror) (faults : ℕ) → AreLimits limits → store.limits ≡ limits → faults ≤ output.faults
    → WhereTold (seen_before log input output) (seen_after log input output) (λ now after. (before : Seen) → Begins limits w payloads room first before
    → Going limits w payloads room first mirrors.first store changes reading before now
    → Answered limits w payloads room first (Rose faults output.faults_then) before after)

-- what a turn over one line means: behind it a run goes on, or has ended so
abbrev pub TurnMeans : Limits → World Name → List Payload → ℕ → List Mirror → List Mirror → List ℕ → Reading → Type 0 → Result (Option PlainStore) Stop → Seen → Seen → Type 0
TurnMeans limits w payloads room mirrors left changes reading SinkFailed (Ok (Some store)) before after = Going limits w payloads room mirrors left store changes reading before after
TurnMeans limits w payloads room mirrors left changes reading SinkFailed (Ok None) before after =
    Means limits w payloads room mirrors left (streams before after) SinkFailed before.disk after.disk Done changes
TurnMeans limits w payloads room mirrors left changes reading SinkFailed (Err stop) before after =
    Means limits w payloads room mirrors left (streams before after) SinkFailed before.disk after.disk (end_of (Err stop)) changes
