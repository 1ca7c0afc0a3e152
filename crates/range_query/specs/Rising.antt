-- Lists of spans of ids, the lowest first.
use Rattle.std.specs.Prelude.{ℕ, ◌<◌, ◌≤◌, List, [], ◌∷◌, ⊤, Option, Some, None}
use Rattle.id_groups.specs.declared.span.IdSpan.{IdSpan}
use Rattle.id_groups.specs.Span.{IsSpan}

-- each span lies above s
abbrev pub AreOver : IdSpan → List IdSpan → Type 0
AreOver s [] = ⊤
AreOver s (t ∷ rest) = (s.high < t.low) × AreOver s rest

-- the spans ascend and are disjoint
abbrev pub IsRising : List IdSpan → Type 0
IsRising [] = ⊤
IsRising (s ∷ rest) = IsSpan s × AreOver s rest × IsRising rest

-- the lowest with P of the ids from low to high
pub record IsLowest (P : ℕ → Type 0) (low high y : ℕ) : Type 0 where
  pub is : P y
  pub from : low ≤ y
  pub to : y ≤ high
  pub lowest : (z : ℕ) → P z → low ≤ z → y ≤ z

-- the lowest with P of the ids from low to high, if there is one
abbrev pub Lowest : (ℕ → Type 0) → ℕ → ℕ → Option ℕ → Type 0
Lowest P low high None = (z : ℕ) → P z → low ≤ z → z ≤ high → ⊥
Lowest P low high (Some y) = IsLowest P low high y

-- the highest with P of the ids from low to high
pub record IsHighest (P : ℕ → Type 0) (low high y : ℕ) : Type 0 where
  pub is : P y
  pub from : low ≤ y
  pub to : y ≤ high
  pub highest : (z : ℕ) → P z → z ≤ high → z ≤ y

-- the highest with P of the ids from low to high, if there is one
abbrev pub Highest : (ℕ → Type 0) → ℕ → ℕ → Option ℕ → Type 0
Highest P low high None = (z : ℕ) → P z → low ≤ z → z ≤ high → ⊥
Highest P low high (Some y) = IsHighest P low high y
