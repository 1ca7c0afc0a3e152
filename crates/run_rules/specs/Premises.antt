-- What is asked of the outside for the answers of a run.
use Rattle.std.specs.Prelude.{◌≡◌, ◌≤◌, ◌⊎◌, ℕ, List, ◌∷◌, ◌++◌, Some, length}
use Rattle.std.specs.List.{AllByRecursion}
use Rattle.id_groups.specs.Lists.{IsIn}
use Rattle.id_groups.specs.Name.{Name}
use Rattle.commit_graph.specs.World.{Row, World, rows_of}
use Rattle.disk_trait.specs.Images.{Told}
use Rattle.batch_codec.specs.Payload.{Payload}
use Rattle.change_rules.specs.declared.Limits.{Limits}
use Rattle.change_rules.specs.Tables.{cloned_count}
use Rattle.change_rules.specs.Holding.{HoldAs, HoldsNow}
use Rattle.remote_rules.specs.Mirror.{Mirror}
use Rattle.remote_rules.specs.Serving.{BeginsWith}
use Rattle.step_rules.specs.State.{State}
use Rattle.step_rules.specs.Reply.{Reply}
use Rattle.step_rules.specs.Verb.{Verb, Clone, Pull}
use Rattle.run_rules.specs.Grammar.{SpellsCommand}
use Rattle.run_rules.specs.Run.{Run}

-- The disk is honest and holds the world, whatever a crash leaves; the bytes that a read gives are the log of these payloads.
pub record Start (limits : Limits) (disk : Told) (w : World Name) (payloads : List Payload) : Type 0 where
  pub holds : HoldsNow limits.log disk w
  pub read : HoldAs limits.log disk.bytes payloads w

-- Wherever a run of these lines from the state comes to a pull: the master of each mirror that is left then begins with the commits
-- that were cloned, in their order.
abbrev pub BeginAtPulls : Limits → State → List (List ℕ) → Type 0
BeginAtPulls limits st lines =
    (done more : List (List ℕ)) (line : List ℕ) (s : ℕ) (replies : List Reply) (now : State)
    → lines ≡ done ++ line ∷ more → SpellsCommand line s Pull → Run limits st done replies now
    → AllByRecursion (BeginsWith (cloned_count now.store.payloads) now.store.stored) now.outside.mirrors

-- some line is this command of some session
abbrev pub HasCommand : Verb → List (List ℕ) → Type 0
HasCommand verb lines = (line : List ℕ) × (s : ℕ) × IsIn line lines × SpellsCommand line s verb

-- mirrors of which each tells the same master, in the same order
abbrev pub HaveOneOrder : List Mirror → Type 0
HaveOneOrder mirrors =
    (m n : Mirror) (q r : List (Row Name)) → IsIn m mirrors → IsIn n mirrors → m.master ≡ Some q → n.master ≡ Some r → q ≡ r

-- What is enough for it at the start of a run: each master begins with the cloned commits in their order; and where these lines clone,
-- too, and nothing is stored yet, there is at most one mirror, or they have one order.
pub record AllBegin (cloned : ℕ) (w : World Name) (mirrors : List Mirror) (lines : List (List ℕ)) : Type 0 where
  pub each : AllByRecursion (BeginsWith cloned w) mirrors
  pub first_clone : HasCommand Clone lines → length (rows_of w) ≡ 0 → (length mirrors ≤ 1) ⊎ HaveOneOrder mirrors
