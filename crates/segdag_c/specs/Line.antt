-- What a line does to a store beside mirrors, and notes for the log's disk.
use Rattle.std.specs.Prelude.{ℕ, List, Option, Result, IfOk, IfSome}
use Rattle.outside.specs.Counts.{Rose}
use Rattle.disk_trait.specs.Images.{Told}
use Rattle.line_io.specs.Memory.{MemoryOutput}
use Rattle.gated_log.specs.Holding.{IsOnDisk}
use Rattle.call_disk.specs.Noted.{Call}
use Rattle.call_disk.specs.Performed.{HonestDisk}
use Rattle.remote_rules.specs.Mirror.{Mirror}
use Rattle.dag_store.specs.Kept.{PlainStore}
use Rattle.dag_run.specs.Lines.{LineReplies}
use Rattle.dag_run.specs.declared.stops.Stop.{Stop}
use Rattle.segdag_c.specs.Stores.{Leaves}

-- The line was executed from the store, for each state that it stands for beside the first mirrors: it led to the next store beside those
-- that are left, with its reply, which came behind what was put before; or it stopped. It is what a run of the program does with a line. Where
-- a disk has the store's log, the calls that were noted leave the change on it that the reply tells.
abbrev pub LineDoes : List Mirror → PlainStore → List ℕ → List Mirror → ℕ → List ℕ → MemoryOutput → List Call → Told → Result PlainStore Stop → Type 0
LineDoes first store line left faults before sink calls disk result =
    (payload : List ℕ) × (clock : Option ℕ)
    × LineReplies first left (Rose faults sink.faults) store line payload clock result before sink.taken
    × IfOk result (λ next. IsOnDisk store.log disk → Leaves store payload clock next calls disk)

-- the same over a disk that has the store's log, where one is spoken of
abbrev pub LineDoesOn : List Mirror → PlainStore → List ℕ → List Mirror → ℕ → List ℕ → MemoryOutput → List Call → Option HonestDisk → Result PlainStore Stop → Type 0
LineDoesOn first store line left faults before sink calls disk result =
    (payload : List ℕ) × (clock : Option ℕ)
    × LineReplies first left (Rose faults sink.faults) store line payload clock result before sink.taken
    × IfOk result (λ next. IfSome disk (λ (d : HonestDisk). Leaves store payload clock next calls d.told))
