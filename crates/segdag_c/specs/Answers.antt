-- What comes of a line of an open log.
use Rattle.std.specs.Prelude.{◌≡◌, ◌++◌, ℕ, List, [], None, Result, Ok, Err, MatchOption}
use Rattle.outside.specs.Counts.{Rose}
use Rattle.disk_trait.specs.Images.{Told}
use Rattle.line_io.specs.Memory.{MemoryOutput}
use Rattle.remote_rules.specs.Mirror.{Mirror}
use Rattle.call_disk.specs.Awaited.{awaited}
use Rattle.call_disk.specs.Noted.{Call}
use Rattle.dag_run.specs.declared.stops.Stop.{Stop}
use Rattle.dag_run.specs.declared.stops.Stop.TheVariants as stops
use Rattle.dag_store.specs.Kept.{PlainStore}
use Rattle.segdag_c.specs.declared.codes.Failure.{Failure}
use Rattle.segdag_c.specs.declared.codes.Failure.TheVariants.{Argument, Disk, Memory, NoLog, Reply}
use Rattle.segdag_c.specs.declared.held.Held.{Held}
use Rattle.segdag_c.specs.Handles.{IsSame}
use Rattle.segdag_c.specs.Line.{LineDoes}
use Rattle.segdag_c.specs.Mirrors.{shown_all}

-- It ended as it was executed, or there is something to be performed of it and no memory to note that.
abbrev pub IsStoppedBy : Stop → List Call → Result PlainStore Stop → Type 0
IsStoppedBy stop calls (Ok next) = (stop ≡ stops.NotStored) × (calls ≡ [] → ⊥)
IsStoppedBy stop calls (Err why) = stop ≡ why

-- The line was executed from the store beside these mirrors. The calls were noted behind those that were to be performed; or it stopped, and
-- none was.
abbrev pub LineNotes : List Mirror → PlainStore → List Call → List ℕ → List Mirror → List Call → ℕ → List ℕ → MemoryOutput → Told → Result PlainStore Stop → Type 0
LineNotes first store noted line left log faults before sink disk (Ok next) =
    (calls : List Call) × (log ≡ noted ++ calls) × LineDoes first store line left faults before sink calls disk (Ok next)
LineNotes first store noted line left log faults before sink disk (Err stop) =
    (log ≡ noted) × (calls : List Call) × (executed : Result PlainStore Stop) × IsStoppedBy stop calls executed × LineDoes first store line left faults before sink calls disk executed

-- of what is held, from this store, its reply being kept
abbrev pub HeldNotes : Held → PlainStore → List ℕ → Held → Told → Result PlainStore Stop → Type 0
HeldNotes before old line after disk result =
    (after.names ≡ before.names)
    × LineNotes (shown_all before.mirrors.list.items) old (awaited before.log) line (shown_all after.mirrors.list.items) (awaited after.log) 0 [] after.reply disk result

-- how C is told why a line stopped
abbrev pub stop_failure : Stop → Failure
stop_failure stops.Memory = Memory
stop_failure stops.NoLog = NoLog
stop_failure stops.NotLoaded = Disk
stop_failure stops.NotStored = Disk
stop_failure stops.Sink = Reply
stop_failure stops.Source = Argument
stop_failure stops.Limit = Argument

-- A line that stopped took the store.
abbrev pub TakesStore : Held → PlainStore → List ℕ → Held → Told → Stop → Type 0
TakesStore before old line after disk stop = (after.store ≡ None) × HeldNotes before old line after disk (Err stop)

-- What comes of a line. It is executed from the store to the next one, and its reply is kept; 3 and 6 take the store, where the line was executed
-- and stopped for the disk or in its reply; 3 is told too where it is gone, and 7 where there is no memory: then all stays as it was.
-- The disk is the one that performed all that was noted before.
abbrev pub LineCame : List ℕ → Told → Held → Held → Result (Unit {0}) Failure → Type 0
LineCame line disk before after (Ok done) = MatchOption before.store ⊥ (λ old. MatchOption after.store ⊥ (λ new. HeldNotes before old line after disk (Ok new)))
LineCame line disk before after (Err Disk) = MatchOption before.store (IsSame before after) (λ old. TakesStore before old line after disk stops.NotStored)
LineCame line disk before after (Err Reply) = MatchOption before.store ⊥ (λ old. TakesStore before old line after disk stops.Sink × Rose 0 after.reply.faults)
LineCame line disk before after (Err Memory) = IsSame before after
LineCame line disk before after (Err failure) = ⊥
