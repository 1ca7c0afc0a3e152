-- From runs to their turns, and back.
use Rattle.std.proofs.Common.{◌≡◌, ◌⊎◌, ℕ, Bool, true, false, inl, inr, List, [], ◌∷◌, refl, sym, subst}
use Rattle.std.specs.Bool.{MatchBool}
use Rattle.line_io.specs.Lines.{is_silent, is_too_long}
use Rattle.change_rules.specs.declared.Limits.{Limits}
use Rattle.step_rules.specs.State.{State}
use Rattle.step_rules.specs.Reply.{Reply, LongLine}
use Rattle.step_rules.specs.Turns.{Turn, AreTurns}
use Rattle.step_rules.proofs.Isolated.{isolated}
use Rattle.run_rules.specs.Run.{Run, Step, Commands, IsNoCommand, IsUnread}
use Rattle.run_rules.proofs.Runs.{match-map}
use Rattle.turn_laws.specs.Turned.{turn, TakesTurn, TurnedStep, TurnedRun, AreIsolatedRuns}

-- a fact of either side of a choice by a test is one of the choice
pub match-fold : (b : Bool) {P Q R : Type 0} → (P → R) → (Q → R) → MatchBool b P Q → R
match-fold true f g h = f h
match-fold false f g h = g h

-- one side or the other, with something beside it
match-beside : (b : Bool) {X P Q : Type 0} {R S : X → Type 0} → (P → (x : X) × R x) → (Q → (x : X) × S x) → MatchBool b P Q → (x : X) × MatchBool b (R x) (S x)
match-beside true f g h = f h
match-beside false f g h = g h

module _ (limits : Limits) where
  -- a line before turns
  pub step-turned : (st st' : State) (line : List ℕ) (reply : Reply) (later : List Turn) → Step limits st line reply st'
      → (turns : List Turn) × TurnedStep limits st line reply st' turns later
  step-turned st st' line reply later h =
      match-beside (is_too_long line) {R = λ turns. (reply ≡ LongLine) × (st' ≡ st) × (turns ≡ later)}
      {S = λ turns. TakesTurn limits st line reply st' turns later ⊎ ((IsNoCommand st line reply st' ⊎ IsUnread st line reply st') × (turns ≡ later))}
      (λ g. (later, (g.0, g.1, refl))) command h
    where
      command : Commands limits st line reply st' ⊎ (IsNoCommand st line reply st' ⊎ IsUnread st line reply st')
          → (turns : List Turn) × (TakesTurn limits st line reply st' turns later ⊎ ((IsNoCommand st line reply st' ⊎ IsUnread st line reply st') × (turns ≡ later)))
      command (inl c) = (turn st c.0 c.1 reply st' ∷ later, inl (c.0, c.1, c.2, c.3, refl))
      command (inr n) = (later, inr (n, refl))

  -- each run has turns
  pub run-turned : (st st' : State) (lines : List (List ℕ)) (replies : List Reply) → Run limits st lines replies st' → (turns : List Turn) × TurnedRun limits st lines replies st' turns
  run-turned st st' [] replies h = ([], (h.0, h.1, refl))
  run-turned st st' (line ∷ lines) replies h =
      match-beside (is_silent line) {R = λ turns. TurnedRun limits st lines replies st' turns}
      {S = λ turns. (reply : Reply) × (more : List Reply) × (mid : State) × (later : List Turn) × (replies ≡ reply ∷ more)
      × TurnedStep limits st line reply mid turns later × TurnedRun limits mid lines more st' later}
      (λ g. run-turned st st' lines replies g)
      (λ g. let rest = run-turned g.2 st' lines g.1 g.5 in
      let first = step-turned st g.2 line g.0 rest.0 g.4 in
      (first.0, (g.0, g.1, g.2, rest.0, g.3, first.1, rest.1)))
      h

  -- and what has turns is a run
  pub step-back : (st st' : State) (line : List ℕ) (reply : Reply) (turns later : List Turn) → TurnedStep limits st line reply st' turns later → Step limits st line reply st'
  step-back st st' line reply turns later h = match-map (is_too_long line) (λ g. (g.0, g.1)) command h
    where
      command : TakesTurn limits st line reply st' turns later ⊎ ((IsNoCommand st line reply st' ⊎ IsUnread st line reply st') × (turns ≡ later))
          → Commands limits st line reply st' ⊎ (IsNoCommand st line reply st' ⊎ IsUnread st line reply st')
      command (inl c) = inl (c.0, c.1, c.2, c.3)
      command (inr n) = inr n.0

  pub run-back : (st st' : State) (lines : List (List ℕ)) (replies : List Reply) (turns : List Turn) → TurnedRun limits st lines replies st' turns → Run limits st lines replies st'
  run-back st st' [] replies turns h = (h.0, h.1)
  run-back st st' (line ∷ lines) replies turns h =
      match-map (is_silent line)
      (λ g. run-back st st' lines replies turns g)
      (λ g. (g.0, g.1, g.2, g.4, step-back st g.2 line g.0 turns g.3 g.5, run-back g.2 st' lines g.1 g.3 g.6))
      h

  -- the turns are one step after another
  step-turns : (st st' : State) (line : List ℕ) (reply : Reply) (turns later : List Turn) → TurnedStep limits st line reply st' turns later → AreTurns limits st' later → AreTurns limits st turns
  step-turns st st' line reply turns later h rest =
      match-fold (is_too_long line) (λ g. unmoved g.1 g.2) command h
    where
      unmoved : st' ≡ st → turns ≡ later → AreTurns limits st turns
      unmoved e f = subst (λ ts. AreTurns limits st ts) (sym f) (subst (λ z. AreTurns limits z later) e rest)

      command : TakesTurn limits st line reply st' turns later ⊎ ((IsNoCommand st line reply st' ⊎ IsUnread st line reply st') × (turns ≡ later)) → AreTurns limits st turns
      command (inl c) = subst (λ ts. AreTurns limits st ts) (sym c.4) (refl, c.3, rest)
      command (inr (inl n, f)) = subst (λ ts. AreTurns limits st ts) (sym f) (subst (λ z. AreTurns limits z later) n.2 rest)
      command (inr (inr n, f)) = subst (λ ts. AreTurns limits st ts) (sym f) (subst (λ z. AreTurns limits z later) n.2 rest)

  pub run-turns : (st st' : State) (lines : List (List ℕ)) (replies : List Reply) (turns : List Turn) → TurnedRun limits st lines replies st' turns → AreTurns limits st turns
  run-turns st st' [] replies turns h = subst (λ ts. AreTurns limits st ts) (sym h.2) tt
  run-turns st st' (line ∷ lines) replies turns h =
      match-fold (is_silent line)
      (λ g. run-turns st st' lines replies turns g)
      (λ g. step-turns st g.2 line g.0 turns g.3 g.5 (run-turns g.2 st' lines g.1 g.3 g.6))
      h

-- a session whose turns are alike in two runs gets the same replies
pub runs-isolated : AreIsolatedRuns
runs-isolated limits s w p q room space mirrors others lines words replies answers last end ts us lt a c alike =
    isolated limits s w p q room space mirrors others ts us lt (run-turns limits _ last lines replies ts a) (run-turns limits _ end words answers us c) alike
