-- A session that adds a commit, alone and beside another one that stores a commit before.
use Rattle.std.specs.Prelude.{◌^◌, ℕ, List, [], ◌∷◌, codes}
use Rattle.step_rules.specs.State.{State, Stored}
use Rattle.step_rules.specs.Verb.{Add, Flush}
use Rattle.step_rules.specs.Reply.{Reply, Added, Flushed}
use Rattle.step_rules.specs.Worlds.{with_added, flush_of, after_flush}
use Rattle.step_rules.specs.Turns.{Turn}
use Rattle.worked_rows.specs.Rows.{fresh}
use Rattle.worked_rows.specs.Worlds.{n}
use Rattle.turn_laws.specs.Turned.{turn}

abbrev pub add_line : List ℕ
add_line = codes "0 add 00000000000000000000000000000000000000a1"

abbrev pub others_add_line : List ℕ
others_add_line = codes "1 add 00000000000000000000000000000000000000b1"

abbrev pub others_flush_line : List ℕ
others_flush_line = codes "1 flush"

-- the fresh log with this stored
abbrev pub on : Stored → State
on now = record { store = now; outside = fresh.outside }

-- behind the line
abbrev pub after_alone : State
after_alone = on (with_added fresh.store 0 (n 0xa1) [])

-- behind the other session's lines, and behind the line
abbrev pub after_others_add : State
after_others_add = on (with_added fresh.store 1 (n 0xb1) [])

abbrev pub after_others_flush : State
after_others_flush = on (after_flush after_others_add.store 1 (flush_of after_others_add.store 1 []))

abbrev pub after_beside : State
after_beside = on (with_added after_others_flush.store 0 (n 0xa1) [])

abbrev pub alone_lines : List (List ℕ)
alone_lines = add_line ∷ []

abbrev pub beside_lines : List (List ℕ)
beside_lines = others_add_line ∷ others_flush_line ∷ add_line ∷ []

abbrev pub alone_replies : List Reply
alone_replies = Added (2 ^ 56) ∷ []

abbrev pub beside_replies : List Reply
beside_replies = Added (2 ^ 56) ∷ Flushed 0 1 ∷ Added (2 ^ 56) ∷ []

abbrev pub alone_turns : List Turn
alone_turns = turn fresh 0 (Add (n 0xa1) []) (Added (2 ^ 56)) after_alone ∷ []

abbrev pub beside_turns : List Turn
beside_turns =
    turn fresh 1 (Add (n 0xb1) []) (Added (2 ^ 56)) after_others_add
    ∷ turn after_others_add 1 (Flush []) (Flushed 0 1) after_others_flush
    ∷ turn after_others_flush 0 (Add (n 0xa1) []) (Added (2 ^ 56)) after_beside
    ∷ []
