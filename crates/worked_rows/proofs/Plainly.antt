-- Runs of commands of a log that has each name, shown on what is stored alone.
use Rattle.std.proofs.Common.{List, [], ◌∷◌}
use Rattle.change_rules.specs.declared.Limits.{Limits}
use Rattle.step_rules.specs.State.{State, Stored}
use Rattle.step_rules.specs.Plain.{IsInside, HasAllNames, PlainStep}
use Rattle.step_rules.proofs.Plain.{command-from}
use Rattle.worked_rows.specs.Runs.{Said, AreTold}

abbrev pub PlainlyTold : Limits → Stored → List Said → Type 0
PlainlyTold limits st [] = Unit {0}
PlainlyTold limits st (t ∷ more) = (now : Stored) × PlainStep limits st t.session t.verb t.reply now × IsInside t.verb × HasAllNames st t.session × PlainlyTold limits now more

pub plainly : (limits : Limits) (st : State) (said : List Said) → PlainlyTold limits st.store said → AreTold limits st said
plainly limits st [] h = tt
plainly limits st (t ∷ more) h = (
  record { store = h.0; outside = st.outside },
  command-from limits st t.session h.3 t.verb t.reply h.0 h.2 h.1,
  plainly limits (record { store = h.0; outside = st.outside }) more h.4,
)
