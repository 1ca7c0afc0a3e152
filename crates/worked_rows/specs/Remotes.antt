-- Remotes of the examples, and what a session is told over them.
use Rattle.std.specs.Prelude.{ℕ, true, List, [], ◌∷◌, Some, map}
use Rattle.commit_graph.specs.World.{World, empty_world}
use Rattle.id_groups.specs.Name.{Name}
use Rattle.remote_rules.specs.Mirror.{Mirror}
use Rattle.remote_rules.specs.Honest.{clone_data_of}
use Rattle.change_rules.specs.Change.{clone_change, flush_change}
use Rattle.set_expr.specs.Expr.{Up}
use Rattle.step_rules.specs.State.{State, at_start}
use Rattle.step_rules.specs.Verb.{IdOf, Query, Clone, CountMirrors, Drop}
use Rattle.step_rules.specs.Reply.{Cloned, Identified, Listed, Counted, Dropped, Refused}
use Rattle.step_rules.specs.declared.Refusal.TheVariants as why
use Rattle.worked_rows.specs.Runs.{Said, said}
use Rattle.worked_rows.specs.Worlds.{n, ns, on, ten}

-- an honest remote with this master, which never changes and never fails
abbrev pub steady : World Name → Mirror
steady r = record { master = Some r.master; cloned = Some (clone_data_of r); settled = true; to_come = Some 0; faults = 0; asked = 0 }

-- a fresh log with these mirrors, and room for eight names
abbrev pub over : List Mirror → State
over mirrors = at_start empty_world [] 8 mirrors

-- for how many names each mirror was asked
abbrev pub asked_counts : State → List ℕ
asked_counts st = map (λ m. m.asked) st.outside.mirrors

-- the log of a clone of the ten commits to which one other commit was added on the ninth, by the name that a remote's next commit has
abbrev pub crossed_world : World Name
crossed_world = record { master = ten.master; others = on 0x1a (0x18 ∷ []) ∷ [] }

abbrev pub crossed : List Mirror → State
crossed mirrors = at_start crossed_world (clone_change ten ∷ flush_change ten crossed_world ∷ []) 8 mirrors

-- Names that a clone doesn't store are asked when they are wanted.
abbrev pub lazy_names_said : List Said
lazy_names_said =
    said 0 Clone (Cloned 10)
    ∷ said 0 (IdOf (n 0x14)) (Identified 4)
    ∷ said 0 (Query (Up (n 0x19) 3)) (Listed (ns (0x16 ∷ [])))
    ∷ said 0 Clone (Refused (why.NotEmpty 10 0))
    ∷ []

-- the log of a clone of the ten commits, with these mirrors
abbrev pub after_clone : List Mirror → State
after_clone mirrors = at_start ten (clone_change ten ∷ []) 8 mirrors

-- a remote with the ten commits that fails at its next call, and then never again
abbrev pub stumbling : Mirror
stumbling = record (steady ten) { to_come = Some 1 }

-- Where all mirrors fail in one ask the line is refused; and where there is none.
abbrev pub failing_said : List Said
failing_said =
    said 0 (Query (Up (n 0x19) 5)) (Refused (why.Remote 3))
    ∷ said 0 (Query (Up (n 0x19) 5)) (Listed (ns (0x14 ∷ [])))
    ∷ said 0 CountMirrors (Counted 3)
    ∷ said 0 (Drop 3) (Refused why.NoRemote)
    ∷ said 0 (Drop 0) (Dropped 2)
    ∷ said 0 (Drop 0) (Dropped 1)
    ∷ said 0 (Drop 0) (Dropped 0)
    ∷ said 0 (Query (Up (n 0x19) 6)) (Refused why.NoRemote)
    ∷ []
