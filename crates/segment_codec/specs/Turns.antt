-- Records that come one behind another, each at the place where the one before it ends.
use Rattle.std.specs.Prelude.{◌≡◌, ◌≢◌, ◌+◌, ◌-◌, ℕ, zero, suc, Bool, false, List, [], ◌∷◌, ⊤, nat_eq}
use Rattle.segment_codec.specs.Record.{Segment, IsSegment}

-- whether the list is the one number
abbrev pub is_only : ℕ → List ℕ → Bool
is_only n [] = false
is_only n (p ∷ []) = nat_eq p n
is_only n (p ∷ q ∷ more) = false

-- Whether the segment goes on from the id before it, which is its only parent. Then the two belong to one maximal segment.
abbrev pub goes_on : Segment → Bool
goes_on s = is_only (s.low - 1) s.parents

-- Whether a record may come at this place of a section that begins at first: it is flat, its ids begin here, and it
-- doesn't go on from the record before. The first of the section may, for what it goes on from stands before the section.
pub record MayStandAt (first place : ℕ) (s : Segment) : Type 0 where
  pub segment : IsSegment s
  pub flat : s.level ≡ 0
  pub low : s.low ≡ place
  pub apart : place ≢ first → goes_on s ≡ false

-- each record fits at the place behind the one before, the first at this place
abbrev pub StandInTurn : (ℕ → Segment → Type 0) → ℕ → List Segment → Type 0
StandInTurn Fits place [] = ⊤
StandInTurn Fits place (s ∷ more) = Fits place s × StandInTurn Fits (s.high + 1) more

-- the first record that doesn't fit where it stands has this number
abbrev pub IsFirstBroken : (ℕ → Segment → Type 0) → ℕ → List Segment → ℕ → Type 0
IsFirstBroken Fits place [] k = ⊥
IsFirstBroken Fits place (s ∷ more) zero = Fits place s → ⊥
IsFirstBroken Fits place (s ∷ more) (suc k) = Fits place s × IsFirstBroken Fits (s.high + 1) more k

-- the place behind the last record
abbrev pub place_behind : ℕ → List Segment → ℕ
place_behind place [] = place
place_behind place (s ∷ more) = place_behind (s.high + 1) more
