-- What holds of two meanings of one object, where the object tells them.
use Rattle.std.specs.Prelude.{ℕ, ◌≡◌, List, ◌++◌, take, ⊤, None, Some, MatchResult}
use Rattle.std.specs.declared.result.Result.{Result}
use Rattle.std.specs.declared.option.Option.{Option}

-- P of what was told before and of what is told now; what was told once is told from then on
abbrev pub WhereTold : {X : Type 0} → Option X → Option X → (X → X → Type 0) → Type 0
WhereTold None now P = ⊤
WhereTold (Some before) None P = ⊥
WhereTold (Some before) (Some now) P = P before now

-- a front of the piece was taken
abbrev pub TookFront : List ℕ → List ℕ → List ℕ → Type 0
TookFront piece before now = (count : ℕ) × (now ≡ before ++ take count piece)

-- the whole piece was taken at `Ok`, and a front of it at a fault
abbrev pub Puts : {E : Type 0} → Option (List ℕ) → Option (List ℕ) → Result Unit E → List ℕ → Type 0
Puts before now result piece =
    MatchResult result (λ _. WhereTold before now (λ x y. y ≡ x ++ piece)) (λ _. WhereTold before now (TookFront piece))
