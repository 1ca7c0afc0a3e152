-- The commands of the examples, and their replies.
use Rattle.std.specs.Prelude.{◌+◌, ◌^◌, List, [], ◌∷◌}
use Rattle.commit_graph.specs.World.{empty_world}
use Rattle.step_rules.specs.State.{State, at_start}
use Rattle.step_rules.specs.Verb.{Add, Flush, Reload, Discard, Status, IdOf, Strip, Levels}
use Rattle.step_rules.specs.Reply.{Added, Old, Flushed, Reloaded, Discarded, Sizes, Identified, Stripped, LevelSizes, Refused}
use Rattle.step_rules.specs.declared.Refusal.TheVariants as why
use Rattle.worked_rows.specs.Runs.{Said, said}
use Rattle.worked_rows.specs.Worlds.{n, ns}

-- a fresh log, without mirrors
abbrev pub fresh : State
fresh = at_start empty_world [] 1 []

-- Another session's commits make a conflict.
abbrev pub two_sessions_said : List Said
two_sessions_said =
    said 0 (Add (n 0xa1) []) (Added (2 ^ 56))
    ∷ said 0 (Add (n 0xb1) (ns (0xa1 ∷ []))) (Added (2 ^ 56 + 1))
    ∷ said 0 (Flush []) (Flushed 0 2)
    ∷ said 1 (Add (n 0xb1) []) (Added (2 ^ 56))
    ∷ said 1 Reload (Refused (why.Conflict (n 0xb1)))
    ∷ said 1 Status (Sizes 0 0 1)
    ∷ said 1 Discard (Discarded 1)
    ∷ said 1 Reload (Reloaded 0)
    ∷ said 1 Status (Sizes 0 2 0)
    ∷ []

-- A flush refuses the same conflict.
abbrev pub a_flush_on_others_said : List Said
a_flush_on_others_said =
    said 0 (Add (n 0xa1) []) (Added (2 ^ 56))
    ∷ said 0 (Add (n 0xb1) (ns (0xa1 ∷ []))) (Added (2 ^ 56 + 1))
    ∷ said 0 (Flush []) (Flushed 0 2)
    ∷ said 1 (Add (n 0xb1) []) (Added (2 ^ 56))
    ∷ said 1 (Flush []) (Refused (why.Conflict (n 0xb1)))
    ∷ []

-- A session keeps the world that it works on while others flush.
abbrev pub an_older_session_said : List Said
an_older_session_said =
    said 0 (Add (n 0xa1) []) (Added (2 ^ 56))
    ∷ said 0 (Add (n 0xb1) (ns (0xa1 ∷ []))) (Added (2 ^ 56 + 1))
    ∷ said 0 (Add (n 0xc1) (ns (0xa1 ∷ []))) (Added (2 ^ 56 + 2))
    ∷ said 0 (Flush (ns (0xc1 ∷ []))) (Flushed 2 1)
    ∷ said 1 Reload (Reloaded 0)
    ∷ said 1 (Add (n 0xd1) (ns (0xb1 ∷ []))) (Added (2 ^ 56 + 1))
    ∷ said 0 (Flush (ns (0xb1 ∷ []))) (Flushed 3 0)
    ∷ said 1 (IdOf (n 0xd1)) (Identified (2 ^ 56 + 1))
    ∷ said 1 (Flush []) (Flushed 3 1)
    ∷ said 1 (IdOf (n 0xd1)) (Identified (2 ^ 56))
    ∷ []

-- Commits go from the world, with their descendants, and a session that works on an older world loses a parent.
abbrev pub strips_said : List Said
strips_said =
    said 0 (Add (n 0xa1) []) (Added (2 ^ 56))
    ∷ said 0 (Add (n 0xb1) (ns (0xa1 ∷ []))) (Added (2 ^ 56 + 1))
    ∷ said 0 (Add (n 0xc1) (ns (0xa1 ∷ []))) (Added (2 ^ 56 + 2))
    ∷ said 0 (Flush (ns (0xc1 ∷ []))) (Flushed 2 1)
    ∷ said 1 Reload (Reloaded 0)
    ∷ said 1 (Add (n 0xd1) (ns (0xb1 ∷ []))) (Added (2 ^ 56 + 1))
    ∷ said 0 (Strip (ns (0xc1 ∷ []))) (Refused (why.InMaster (n 0xc1)))
    ∷ said 0 (Strip (ns (0xb1 ∷ []))) (Stripped 2 0)
    ∷ said 1 (Flush []) (Refused (why.Lost (n 0xb1)))
    ∷ said 1 Discard (Discarded 1)
    ∷ said 1 (Flush []) (Flushed 2 0)
    ∷ said 0 (Strip (ns (0xb1 ∷ []))) (Refused (why.Unknown (n 0xb1)))
    ∷ said 0 (Add (n 0xb1) (ns (0xc1 ∷ []))) (Added (2 ^ 56))
    ∷ []

-- With rows that aren't stored nothing is stripped, and never the last row.
abbrev pub strips_refused_said : List Said
strips_refused_said =
    said 0 (Add (n 0xa1) []) (Added (2 ^ 56))
    ∷ said 0 (Add (n 0xb1) (ns (0xa1 ∷ []))) (Added (2 ^ 56 + 1))
    ∷ said 0 (Strip (ns (0xa1 ∷ []))) (Refused (why.Pending 2))
    ∷ said 0 (Flush []) (Flushed 0 2)
    ∷ said 0 (Strip (ns (0xa1 ∷ []))) (Refused (why.Emptied 2))
    ∷ said 0 Status (Sizes 0 2 0)
    ∷ []

-- What adds are refused for, and how many levels an empty master has.
abbrev pub a_small_graph_said : List Said
a_small_graph_said =
    said 0 (Add (n 0xa1) []) (Added (2 ^ 56))
    ∷ said 0 (Add (n 0xb1) (ns (0xa1 ∷ []))) (Added (2 ^ 56 + 1))
    ∷ said 0 (Add (n 0xb1) (ns (0xa1 ∷ []))) (Old (2 ^ 56 + 1))
    ∷ said 0 (Add (n 0xb1) []) (Refused (why.Differs (n 0xb1)))
    ∷ said 0 (Add (n 0xc1) (ns (0xa1 ∷ 0xa1 ∷ []))) (Refused (why.Twice (n 0xa1)))
    ∷ said 0 Levels (LevelSizes (0 ∷ []))
    ∷ said 0 (Flush (ns (0xb1 ∷ []))) (Flushed 2 0)
    ∷ said 0 Levels (LevelSizes (1 ∷ []))
    ∷ []
