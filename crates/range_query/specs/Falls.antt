-- One turn of a walk down.
use Rattle.std.specs.Prelude.{◌≡◌, ℕ, ◌+◌, ◌-◌, ◌<◌, ◌≤◌, ◌⊎◌, List, [], Option, Some, None}
use Rattle.id_groups.specs.Lists.{IsIn}
use Rattle.segment_codec.specs.Record.{Segment}

-- all segments of the list begin above the id
abbrev pub AreAbove : ℕ → List Segment → Type 0
AreAbove x flats = (s : Segment) → IsIn s flats → x < s.low

-- one above an id, or 0
abbrev pub one_above : Option ℕ → ℕ
one_above None = 0
one_above (Some x) = x + 1

-- one above the greatest with P below a bound, or 0 where there is none
pub record IsEndOf (P : ℕ → Type 0) (bound end : ℕ) : Type 0 where
  pub within : end ≤ bound
  pub is : 0 < end → P (end - 1)
  pub over : (w : ℕ) → P w → w < bound → w < end

-- an id of one of the lists
abbrev pub IsOfBoth : List ℕ → List ℕ → ℕ → Type 0
IsOfBoth near far x = IsIn x near ⊎ IsIn x far

-- the end, raised over those of the ids put on a list that it was not over
pub record IsRaised (before after : List ℕ) (P : ℕ → Type 0) (end r : ℕ) : Type 0 where
  pub up : end ≤ r
  pub is : end < r → P (r - 1) × IsIn (r - 1) after
  pub over : (x : ℕ) → IsIn x after → IsIn x before ⊎ (x < r)
  pub kept : (x : ℕ) → IsIn x before → IsIn x after

-- no more than a number and each of the parents, and 0 where there are none
pub record IsLeastParent (parents : List ℕ) (least r : ℕ) : Type 0 where
  pub most : r ≤ least
  pub each : (p : ℕ) → IsIn p parents → r ≤ p
  pub none : parents ≡ [] → r ≡ 0
