-- Which mirrors a run may have.
use Rattle.std.specs.Prelude.{◌≡◌, ◌<◌, ◌⊎◌, ℕ, false, List, length}
use Rattle.std.specs.List.{AllByRecursion}
use Rattle.id_groups.specs.Name.{Name}
use Rattle.commit_graph.specs.World.{World, rows_of}
use Rattle.batch_codec.specs.Payload.{Payload}
use Rattle.change_rules.specs.Lazy.{has_lazy}
use Rattle.change_rules.specs.Tables.{cloned_count}
use Rattle.remote_rules.specs.Mirror.{Mirror}
use Rattle.remote_rules.specs.Honest.{IsSoundMirror}
use Rattle.remote_rules.specs.Serving.{AllServe}
use Rattle.run_rules.specs.Grammar.{SpellsCommand}
use Rattle.step_rules.specs.State.{State}
use Rattle.step_rules.specs.Verb.{Verb, Pull}
use Rattle.step_rules.specs.Served.{IsServed}
use Rattle.dag_store.specs.Stands.{IsAnswerable}
use Rattle.dag_store.specs.Pulls.{AllBeginWith}

-- Over a log with these payloads that holds the world: each mirror serves it. Or else none is ever asked, and what they would answer
-- doesn't matter: the log has a name for each commit, and the world has a row, so that no clone is made. Each that tells its master is
-- honest there, too; one that lies tells none.
abbrev pub AreEnough : List Payload → World Name → List Mirror → Type 0
AreEnough payloads w mirrors =
    AllServe (cloned_count payloads) w mirrors
    ⊎ ((has_lazy payloads w ≡ false) × (0 < length (rows_of w)) × AllByRecursion IsSoundMirror mirrors)

-- the same of a state: no mirror is asked for a name, or they serve it; and where nothing is stored, they serve what a clone stores
abbrev pub HasEnough : State → Type 0
HasEnough st = IsAnswerable st × (length (rows_of st.store.stored) ≡ 0 → IsServed st)

-- what a command's step rests on: beside that, a pull asks mirrors whose masters begin with the cloned commits
abbrev pub IsEnoughFor : Verb → State → Type 0
IsEnoughFor verb st = IsAnswerable st × (length (rows_of st.store.stored) ≡ 0 → IsServed st) × (verb ≡ Pull → AllBeginWith st.store st.outside.mirrors)

-- and the step of a line
abbrev pub IsEnoughOn : List ℕ → State → Type 0
IsEnoughOn line st = IsAnswerable st × (length (rows_of st.store.stored) ≡ 0 → IsServed st) × ((s : ℕ) → SpellsCommand line s Pull → AllBeginWith st.store st.outside.mirrors)
