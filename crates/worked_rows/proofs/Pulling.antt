-- A pull of two commits behind ten, and one that is refused for another row.
use Rattle.std.proofs.Common.{inl, inr, [], ◌∷◌, None, refl, lit≤, le_refl, zero-le}
use Rattle.segment_codec.specs.Number.{number_bytes}
use Rattle.segment_codec.specs.Record.{segment_bytes}
use Rattle.batch_codec.specs.Payload.{payload_bytes}
use Rattle.id_groups.specs.Name.{same_name}
use Rattle.change_rules.specs.Standard.{standard}
use Rattle.change_rules.specs.Pull.{pulled}
use Rattle.remote_rules.specs.Calls.{IsPulled}
use Rattle.step_rules.specs.declared.Refusal.TheVariants as why
use Rattle.step_rules.specs.State.{State}
use Rattle.step_rules.specs.Verb.{Pull}
use Rattle.step_rules.specs.Reply.{Pulled, Refused}
use Rattle.step_rules.specs.Worlds.{after_flush}
use Rattle.step_rules.specs.Tests.{tests}
use Rattle.step_rules.specs.Step.{CommandStep}
use Rattle.step_rules.proofs.Plain.{all-tries}
use Rattle.worked_rows.specs.Worlds.{n, ten, twelve}
use Rattle.worked_rows.specs.Remotes.{steady, after_clone, crossed}
use Rattle.worked_rows.proofs.Mirrored.{ask_of, first-answers, is-pulled}

abbrev pub before : State
before = after_clone (steady twelve ∷ [])

abbrev pub taken_state : State
taken_state = record { store = after_flush before.store 0 (pulled same_name ten twelve); outside = record before.outside { mirrors = ask_of 2 (steady twelve) ∷ [] } }

abbrev pub refused_before : State
refused_before = crossed (steady twelve ∷ [])

abbrev pub refused_state : State
refused_state = record { store = refused_before.store; outside = record refused_before.outside { mirrors = ask_of 2 (steady twelve) ∷ [] } }

pub takes : CommandStep standard before 0 Pull (Pulled 12 0) taken_state
unfolding payload_bytes segment_bytes number_bytes
takes = (
  None,
  steady twelve ∷ [],
  [],
  all-tries (Unit {0}) (steady twelve ∷ []) (tests standard before.store 0 Pull) ((refl, refl), tt),
  (
    None,
    ask_of 2 (steady twelve) ∷ [],
    first-answers (IsPulled 10) (steady twelve) (ask_of 2 (steady twelve)) [] (is-pulled 10 2 (steady twelve) refl (zero-le, lit≤ tt)),
    record { mirrors_are = refl; room = refl; cache = refl },
    (twelve.master, refl, inl (refl, refl)),
  ),
)

pub refuses : CommandStep standard refused_before 0 Pull (Refused (why.Conflict (n 0x1a))) refused_state
refuses = (
  None,
  steady twelve ∷ [],
  [],
  all-tries (Unit {0}) (steady twelve ∷ []) (tests standard refused_before.store 0 Pull) ((refl, refl), tt),
  (
    None,
    ask_of 2 (steady twelve) ∷ [],
    first-answers (IsPulled 10) (steady twelve) (ask_of 2 (steady twelve)) [] (is-pulled 10 2 (steady twelve) refl (zero-le, lit≤ tt)),
    record { mirrors_are = refl; room = refl; cache = refl },
    (twelve.master, refl, inl (refl, refl)),
  ),
)
