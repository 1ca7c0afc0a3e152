-- The demonstration: a run in memory over lines that the program makes itself.
use Rattle.std.specs.Prelude.{ℕ, ◌≡◌, ◌⊎◌, ◌≤◌, ◌++◌, ◌∷◌, [], false, List, Option, IfSome, length}
use Rattle.outside.specs.Told.{TookFront}
use Rattle.commit_graph.specs.World.{empty_world}
use Rattle.disk_trait.specs.Images.{Told}
use Rattle.gated_log.specs.Holding.{IsOnDisk}
use Rattle.line_io.specs.Lines.{is_silent, longest_line}
use Rattle.change_rules.specs.Standard.{standard}
use Rattle.step_rules.specs.State.{State, at_start}
use Rattle.step_rules.specs.Reply.{Reply}
use Rattle.run_rules.specs.Run.{Run, output_of}
use Rattle.demo_input.specs.Lines.{demo_lines}
use Rattle.dag_store.specs.Kept.{PlainStore}
use Rattle.dag_store.specs.Stands.{StandsBeside}

-- The lines may get these replies and lead to this, from the empty world, without mirrors and within the program's limits, with room
-- for one name.
abbrev pub RunsAfresh : List (List ℕ) → List Reply → State → Type 0
RunsAfresh lines replies last = Run standard (at_start empty_world [] 1 []) lines replies last

-- These are the replies to the last four lines of a run over the lines of so many commits, whose parents are drawn from that number on.
pub record AreLastReplies (size start : ℕ) (replies : List Reply) : Type 0 where
  -- the replies to the lines before
  pub earlier : List Reply
  pub last : State
  pub run : RunsAfresh (demo_lines size start) (earlier ++ replies) last
  pub four : length replies ≡ 4

-- What the status of such a demonstration says of what was put: nothing for want of memory, or the last four replies, or a front of
-- them where the sink failed.
abbrev pub DemoMeans : ℕ → ℕ → ℕ → List ℕ → List ℕ → Type 0
DemoMeans size start status before now =
    ((status ≡ 7) × (now ≡ before))
    ⊎ ((replies : List Reply) × AreLastReplies size start replies
    × (((status ≡ 0) × (now ≡ before ++ output_of replies)) ⊎ ((status ≡ 6) × TookFront (output_of replies) before now)))

-- ---- for the code's own clauses
-- the store keeps the program's limits, and its log is on the disk
abbrev pub IsReady : PlainStore → Option Told → Type 0
IsReady store disk = (store.limits ≡ standard) × IfSome disk (IsOnDisk store.log)

-- the store stands for the state to which these lines, with these replies, have led
pub record IsBehind (lines : List (List ℕ)) (replies : List Reply) (store : PlainStore) : Type 0 where
  pub last : State
  pub run : RunsAfresh lines replies last
  pub stands : StandsBeside 0 store [] last

-- a line that isn't too long, and gets a reply
abbrev pub IsAnswered : List ℕ → Type 0
IsAnswered line = (length line ≤ longest_line) × (is_silent line ≡ false)

-- The line led from one store to the other behind these lines and replies, and its replies were put: one, unless it is silent.
abbrev pub LeadsOn : List ℕ → PlainStore → PlainStore → List ℕ → List ℕ → Type 0
LeadsOn line store next before now =
    (lines : List (List ℕ)) (replies : List Reply) → IsBehind lines replies store
    → (more : List Reply) × (is_silent line ≡ false → length more ≡ 1) × IsBehind (lines ++ line ∷ []) (replies ++ more) next
    × (now ≡ before ++ output_of more)

-- So do several lines, each of which gets a reply. The bytes are theirs.
abbrev pub AllAnswered : List (List ℕ) → PlainStore → List ℕ → Type 0
AllAnswered asked store bytes =
    (lines : List (List ℕ)) (replies : List Reply) → IsBehind lines replies store
    → (more : List Reply) × (length more ≡ length asked) × ((last : State) × RunsAfresh (lines ++ asked) (replies ++ more) last)
    × (bytes ≡ output_of more)
