-- Mirrors that fail, and none.
use Rattle.std.proofs.Common.{inl, inr, List, [], ◌∷◌, Some, None, length, refl, ap, arith, zero-le, le_refl, lit<, lit≤}
use Rattle.change_rules.specs.Standard.{standard}
use Rattle.remote_rules.specs.CloneData.{KnownName}
use Rattle.remote_rules.specs.Mirror.{Mirror}
use Rattle.remote_rules.specs.Calls.{IsAskedFor, Failing}
use Rattle.remote_rules.specs.declared.MirrorFault.TheVariants as fault
use Rattle.step_rules.specs.declared.Refusal.TheVariants as why
use Rattle.set_expr.specs.Expr.{Up}
use Rattle.step_rules.specs.State.{State, seen_by}
use Rattle.step_rules.specs.Verb.{Query, CountMirrors, Drop}
use Rattle.step_rules.specs.Reply.{Listed, Counted, Dropped, Refused}
use Rattle.step_rules.specs.Tests.{tests}
use Rattle.step_rules.specs.Step.{CommandStep}
use Rattle.step_rules.proofs.Plain.{all-tries}
use Rattle.worked_rows.specs.Worlds.{n, ns}
use Rattle.worked_rows.specs.Remotes.{after_clone, stumbling}
use Rattle.worked_rows.proofs.Mirrored.{ask_of, name-tried, takes-one, names_in, up-answer}

-- after its one failure, in an ask for one name
abbrev pub stumbled : Mirror
stumbled = record stumbling { to_come = Some 0; faults = 1; asked = 1 }

stumbles : Failing (IsAskedFor 1) stumbling stumbled
stumbles = record {
  does = record {
    keeps = record { settled = refl; tells_master = refl; tells_clone = refl; tells_faults = refl; faults = lit≤ tt; to_come = lit≤ tt; sound = λ s. s };
    master = refl;
    cloned = refl;
    asked = refl;
  };
  rose = lit≤ tt;
  fewer = lit< tt;
}

abbrev pub over_three : State
over_three = after_clone (stumbling ∷ stumbling ∷ stumbling ∷ [])

abbrev pub all_failed : State
all_failed = after_clone (stumbled ∷ stumbled ∷ stumbled ∷ [])

abbrev pub fifth : KnownName
fifth = record { id = 4; name = n 0x14 }

abbrev pub answered : State
answered = record { store = over_three.store; outside = record { cache = names_in (fifth ∷ []); room = 8; mirrors = ask_of 1 stumbled ∷ stumbled ∷ stumbled ∷ [] } }

abbrev pub with_mirrors : List Mirror → State
with_mirrors mirrors = record { store = over_three.store; outside = record { cache = names_in (fifth ∷ []); room = 8; mirrors = mirrors } }

pub fails : CommandStep standard over_three 0 (Query (Up (n 0x19) 5)) (Refused (why.Remote 3)) all_failed
fails = (
  None,
  stumbling ∷ stumbling ∷ stumbling ∷ [],
  [],
  all-tries (Unit {0}) (stumbling ∷ stumbling ∷ stumbling ∷ []) (tests standard over_three.store 0 (Query (Up (n 0x19) 5))) ((refl, refl), tt),
  (
    ns (0x14 ∷ []),
    up-answer (seen_by over_three.store 0) (n 0x19) 5,
    Some (why.Remote 3),
    stumbled ∷ stumbled ∷ stumbled ∷ [],
    [],
    inr (
      None,
      stumbling ∷ stumbling ∷ stumbling ∷ [],
      [],
      (0, None, ([], tt, zero-le, (λ le. absurd (omega (arith, le))), (refl, refl, refl)), (zero-le, λ k i. absurd i), refl),
      (
        [],
        refl,
        inr (
          Some (why.Remote 3),
          stumbled ∷ stumbled ∷ stumbled ∷ [],
          [],
          (
            0,
            Some (fault.AllFailed 3),
            (
              1 ∷ [],
              (le_refl 1, tt),
              le_refl 1,
              (λ le e. absurd (let l = ap length e in omega (arith, l))),
              inl (fault.AllFailed 3, refl, refl, (stumbling ∷ stumbling ∷ stumbling ∷ [], stumbled ∷ stumbled ∷ stumbled ∷ [], [], refl, (stumbles, (stumbles, (stumbles, tt))), (refl, refl))),
            ),
            (zero-le, λ k i. absurd i),
            refl,
          ),
          (refl, refl, refl),
        ),
      ),
    ),
    record { mirrors_are = refl; room = refl; cache = refl },
    (refl, refl),
  ),
)

pub answers : CommandStep standard all_failed 0 (Query (Up (n 0x19) 5)) (Listed (ns (0x14 ∷ []))) answered
answers = (
  None,
  stumbled ∷ stumbled ∷ stumbled ∷ [],
  [],
  all-tries (Unit {0}) (stumbled ∷ stumbled ∷ stumbled ∷ []) (tests standard all_failed.store 0 (Query (Up (n 0x19) 5))) ((refl, refl), tt),
  (
    ns (0x14 ∷ []),
    up-answer (seen_by all_failed.store 0) (n 0x19) 5,
    None,
    ask_of 1 stumbled ∷ stumbled ∷ stumbled ∷ [],
    fifth ∷ [],
    inr (
      None,
      stumbled ∷ stumbled ∷ stumbled ∷ [],
      [],
      (0, None, ([], tt, zero-le, (λ le. absurd (omega (arith, le))), (refl, refl, refl)), (zero-le, λ k i. absurd i), refl),
      (fifth ∷ [], refl, inr (None, ask_of 1 stumbled ∷ stumbled ∷ stumbled ∷ [], fifth ∷ [], name-tried stumbled (stumbled ∷ stumbled ∷ []) fifth None, ([], refl, (refl, refl, inl refl)))),
    ),
    record { mirrors_are = refl; room = refl; cache = takes-one 8 fifth [] (lit< tt) },
    (refl, refl),
  ),
)

pub counts : CommandStep standard answered 0 CountMirrors (Counted 3) answered
counts = (None, answered.outside.mirrors, [], (refl, refl, inl refl), (refl, refl))

pub drops_none : CommandStep standard answered 0 (Drop 3) (Refused why.NoRemote) answered
drops_none = (None, answered.outside.mirrors, [], (refl, refl, inl refl), (refl, refl))

pub drops_first : CommandStep standard answered 0 (Drop 0) (Dropped 2) (with_mirrors (stumbled ∷ stumbled ∷ []))
drops_first = (None, answered.outside.mirrors, [], (refl, refl, inl refl), (refl, refl))

pub drops_second : CommandStep standard (with_mirrors (stumbled ∷ stumbled ∷ [])) 0 (Drop 0) (Dropped 1) (with_mirrors (stumbled ∷ []))
drops_second = (None, stumbled ∷ stumbled ∷ [], [], (refl, refl, inl refl), (refl, refl))

pub drops_last : CommandStep standard (with_mirrors (stumbled ∷ [])) 0 (Drop 0) (Dropped 0) (with_mirrors [])
drops_last = (None, stumbled ∷ [], [], (refl, refl, inl refl), (refl, refl))

pub without_mirror : CommandStep standard (with_mirrors []) 0 (Query (Up (n 0x19) 6)) (Refused why.NoRemote) (with_mirrors [])
without_mirror = (
  None,
  [],
  [],
  all-tries (Unit {0}) [] (tests standard over_three.store 0 (Query (Up (n 0x19) 6))) ((refl, refl), tt),
  (
    ns (0x13 ∷ []),
    up-answer (seen_by over_three.store 0) (n 0x19) 6,
    Some why.NoRemote,
    [],
    [],
    inr (
      None,
      [],
      [],
      (0, None, ([], tt, zero-le, (λ le. absurd (omega (arith, le))), (refl, refl, refl)), (zero-le, λ k i. absurd i), refl),
      (
        [],
        refl,
        inr (
          Some why.NoRemote,
          [],
          [],
          (
            0,
            Some fault.NoRemote,
            (
              1 ∷ [],
              (le_refl 1, tt),
              le_refl 1,
              (λ le e. absurd (let l = ap length e in omega (arith, l))),
              inl (fault.NoRemote, refl, refl, ([], [], [], refl, tt, (refl, refl))),
            ),
            (zero-le, λ k i. absurd i),
            refl,
          ),
          (refl, refl, refl),
        ),
      ),
    ),
    record { mirrors_are = refl; room = refl; cache = refl },
    (refl, refl),
  ),
)
