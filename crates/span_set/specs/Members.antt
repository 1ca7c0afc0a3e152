-- Lists of spans of ids, the greatest first, and the ids that they hold.
use Rattle.std.specs.Prelude.{◌≡◌, ℕ, zero, suc, ◌+◌, ◌-◌, ◌<◌, ◌≤◌, ◌^◌, ◌⊎◌, List, [], ◌∷◌, ◌++◌, ⊤, Option, Some, None, Bool, true, nat_le, ◌&&◌}
use Rattle.id_groups.specs.declared.span.IdSpan.{IdSpan}
use Rattle.id_groups.specs.Span.{IsSpan, IsInSpan}

-- some span of the list has the id
abbrev pub IsMember : List IdSpan → ℕ → Type 0
IsMember [] x = ⊥
IsMember (s ∷ rest) x = IsInSpan x s ⊎ IsMember rest x

-- t lies below s, and the two are adjacent only where the second group begins
pub record IsBelow (t s : IdSpan) : Type 0 where
  pub under : t.high < s.low
  pub apart : t.high + 1 ≡ s.low → s.low ≡ 2 ^ 56

-- each span lies below s
abbrev pub AreBelow : IdSpan → List IdSpan → Type 0
AreBelow s [] = ⊤
AreBelow s (t ∷ rest) = IsBelow t s × AreBelow s rest

-- The spans descend and are disjoint, and no two of one group are adjacent.
abbrev pub IsCanonical : List IdSpan → Type 0
IsCanonical [] = ⊤
IsCanonical (s ∷ rest) = IsSpan s × AreBelow s rest × IsCanonical rest

-- whether each span has an id
abbrev pub are_filled : List IdSpan → Bool
are_filled [] = true
are_filled (s ∷ rest) = nat_le s.low s.high && are_filled rest

-- how many ids a span has
abbrev pub width : IdSpan → ℕ
width s = s.high + 1 - s.low

-- the n ids from low on, the greatest first
abbrev pub descending_from : ℕ → ℕ → List ℕ
descending_from low zero = []
descending_from low (suc n) = (low + n) ∷ descending_from low n

-- all ids of the spans, in the spans' order, those of one span from its highest down
abbrev pub ids_of : List IdSpan → List ℕ
ids_of [] = []
ids_of (s ∷ rest) = descending_from s.low (width s) ++ ids_of rest

-- x lies above each id of the list
abbrev pub AreUnder : ℕ → List ℕ → Type 0
AreUnder x [] = ⊤
AreUnder x (y ∷ ys) = (y < x) × AreUnder x ys

-- each id lies above all that stand behind it
abbrev pub IsDescending : List ℕ → Type 0
IsDescending [] = ⊤
IsDescending (x ∷ xs) = AreUnder x xs × IsDescending xs

-- the greatest member, if there is one
abbrev pub IsGreatest : List IdSpan → Option ℕ → Type 0
IsGreatest spans None = (x : ℕ) → IsMember spans x → ⊥
IsGreatest spans (Some id) = IsMember spans id × ((x : ℕ) → IsMember spans x → x ≤ id)

-- the greatest member below the bound, if there is one
abbrev pub IsGreatestBelow : List IdSpan → ℕ → Option ℕ → Type 0
IsGreatestBelow spans below None = (x : ℕ) → IsMember spans x → x < below → ⊥
IsGreatestBelow spans below (Some id) = IsMember spans id × (id < below) × ((x : ℕ) → IsMember spans x → x < below → x ≤ id)
