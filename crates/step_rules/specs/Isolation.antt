-- A session sees others only where it looks at the stored world, or at a mirror's master.
use Rattle.std.specs.Prelude.{◌≡◌, ◌<◌, ℕ, Bool, true, false, List, [], ◌∷◌, Option, None, ⊤}
use Rattle.std.specs.List.{AllZip}
use Rattle.id_groups.specs.Name.{Name}
use Rattle.commit_graph.specs.World.{Row, World}
use Rattle.batch_codec.specs.Payload.{Payload}
use Rattle.change_rules.specs.declared.Limits.{Limits}
use Rattle.change_rules.specs.declared.Limit.TheVariants as limit
use Rattle.remote_rules.specs.Mirror.{Mirror}
use Rattle.step_rules.specs.declared.Refusal.TheVariants as why
use Rattle.step_rules.specs.State.{State, session_count, at_start}
use Rattle.step_rules.specs.Verb.{Verb, Add, Flush, Reload, Discard, Levels, Clone, Pull, Strip, CountMirrors, Drop}
use Rattle.step_rules.specs.Reply.{Reply, Refused}
use Rattle.step_rules.specs.Tests.{refused_first, tests}
use Rattle.step_rules.specs.Turns.{Turn, AreTurns, turns_of}

-- whether a command looks at the stored world
abbrev pub reads_stored : Verb → Bool
reads_stored Reload = true
reads_stored (Flush heads) = true
reads_stored (Strip names) = true
reads_stored Clone = true
reads_stored Pull = true
reads_stored Levels = true
reads_stored _ = false

-- whether a command may take its session to another world
abbrev pub moves_session : Verb → Bool
moves_session Reload = true
moves_session (Flush heads) = true
moves_session (Strip names) = true
moves_session Clone = true
moves_session Pull = true
moves_session _ = false

-- whether it may change what its session sees
abbrev pub changes_view : Verb → Bool
changes_view (Add name parents) = true
changes_view Discard = true
changes_view verb = moves_session verb

-- whether it takes a mirror's master
abbrev pub takes_master : Verb → Bool
takes_master Clone = true
takes_master Pull = true
takes_master _ = false

-- whether it is about the mirrors themselves
abbrev pub counts_mirrors : Verb → Bool
counts_mirrors CountMirrors = true
counts_mirrors (Drop k) = true
counts_mirrors _ = false

-- No reply for want of a mirror, for one that failed or disagrees, or for want of memory; and none for a full log, whose
-- length other sessions have a part in.
abbrev pub IsOwn : Reply → Type 0
IsOwn (Refused why.NoRemote) = ⊥
IsOwn (Refused (why.Remote n)) = ⊥
IsOwn (Refused (why.MismatchPath from back)) = ⊥
IsOwn (Refused (why.MismatchNames asked got)) = ⊥
IsOwn (Refused (why.MismatchClone at)) = ⊥
IsOwn (Refused (why.MismatchRow id)) = ⊥
IsOwn (Refused (why.Full limit.Log n)) = ⊥
IsOwn (Refused why.Memory) = ⊥
IsOwn _ = ⊤

-- the master rows of the mirror that stands first, where it tells them: of the one that answered
abbrev pub first_master : List Mirror → Option (List (Row Name))
first_master [] = None
first_master (m ∷ more) = m.master

-- those of a state
abbrev pub master_in_front : State → Option (List (Row Name))
master_in_front st = first_master st.outside.mirrors

-- Turns of a session in two runs: the same command; where it looks at the stored world, the same one; where it comes to ask a
-- mirror for its master, the same master; and each is answered for its own sake.
pub record AreAlike (limits : Limits) (s : ℕ) (t u : Turn) : Type 0 where
  pub verb : u.verb ≡ t.verb
  pub stored : reads_stored t.verb ≡ true → u.before.store.stored ≡ t.before.store.stored
  pub master : takes_master t.verb ≡ true → refused_first (tests limits t.before.store s t.verb) ≡ None → master_in_front u.after ≡ master_in_front t.after
  pub own : IsOwn t.reply × IsOwn u.reply

-- they get the same reply
abbrev pub IsAnsweredAlike : Turn → Turn → Type 0
IsAnsweredAlike t u = counts_mirrors t.verb ≡ false → u.reply ≡ t.reply

-- Two runs from one world, whatever the logs, the mirrors and the other sessions: a session whose turns are alike in both gets
-- the same replies.
abbrev pub IsIsolated : Type 0
IsIsolated =
    (limits : Limits) (s : ℕ) (w : World Name) (p q : List Payload) (room space : ℕ) (mirrors others : List Mirror) (ts us : List Turn)
    → s < session_count → AreTurns limits (at_start w p room mirrors) ts → AreTurns limits (at_start w q space others) us
    → AllZip (AreAlike limits s) (turns_of s ts) (turns_of s us) → AllZip IsAnsweredAlike (turns_of s ts) (turns_of s us)
