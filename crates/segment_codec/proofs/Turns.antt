-- Records in turn: what goes on, and what follows where each fits at its place.
use Rattle.std.proofs.Common.{◌≡◌, ℕ, zero, suc, ◌+◌, ◌-◌, ◌≤◌, true, List, [], ◌∷◌, refl, ap, ◌∙◌, arith, eq-eqb}
use Rattle.std.proofs.lemmas.Bool.{eqb-true}
use Rattle.segment_codec.specs.Record.{Segment}
use Rattle.segment_codec.specs.Table.{Follow}
use Rattle.segment_codec.specs.Turns.{is_only, goes_on, MayStandAt, StandInTurn, IsFirstBroken, place_behind}

only-is : (n : ℕ) (ps : List ℕ) → is_only n ps ≡ true → ps ≡ n ∷ []
only-is n [] e = absurd cc
only-is n (p ∷ []) e = ap (λ q. q ∷ []) (eqb-true p n e)
only-is n (p ∷ q ∷ ps) e = absurd cc

pub goes-on-means : (s : Segment) → goes_on s ≡ true → s.parents ≡ (s.low - 1) ∷ []
goes-on-means s e = only-is (s.low - 1) s.parents e

pub goes-on-decided : (s : Segment) → s.parents ≡ (s.low - 1) ∷ [] → goes_on s ≡ true
goes-on-decided s e = ap (is_only (s.low - 1)) e ∙ eq-eqb (s.low - 1) (s.low - 1) refl

-- records that begin at their places follow one another
pub turn-follow : (Fits : ℕ → Segment → Type 0) → ((place : ℕ) (s : Segment) → Fits place s → (s.low ≡ place) × (place ≤ s.high))
    → (place : ℕ) (segments : List Segment) → StandInTurn Fits place segments → Follow place (place_behind place segments) segments
turn-follow Fits fits place [] h = refl
turn-follow Fits fits place (s ∷ more) h = let f = fits place s h.0 in (f.0, f.1, turn-follow Fits fits (s.high + 1) more h.1)

-- what may come at a place begins there
pub begins-there : (first place : ℕ) (s : Segment) → MayStandAt first place s → (s.low ≡ place) × (place ≤ s.high)
begins-there first place s may = let low = may.low in let up = may.segment.ascending in (low, omega (arith, low, up))

pub follow-behind : (first end : ℕ) (segments : List Segment) → Follow first end segments → place_behind first segments ≡ end
follow-behind first end [] h = h
follow-behind first end (s ∷ more) h = follow-behind (s.high + 1) end more h.2

-- where each fits, none is the first that doesn't
pub none-broken : (Fits : ℕ → Segment → Type 0) (place : ℕ) (segments : List Segment) (k : ℕ) → StandInTurn Fits place segments → IsFirstBroken Fits place segments k → ⊥
none-broken Fits place [] k h b = b
none-broken Fits place (s ∷ more) zero h b = b h.0
none-broken Fits place (s ∷ more) (suc k) h b = none-broken Fits (s.high + 1) more k h.1 b.1
