-- Sections, record by record.
use Rattle.std.proofs.Common.{◌≡◌, ◌≢◌, ◌<◌, ◌-◌, ◌+◌, ℕ, Bool, true, false, List, [], ◌∷◌, refl, sym, ◌∙◌, arith, true≢false}
use Rattle.std.specs.List.{AllByRecursion}
use Rattle.segment_codec.specs.Record.{Segment}
use Rattle.segment_codec.specs.Table.{Follow}
use Rattle.segment_codec.specs.Turns.{goes_on, MayStandAt, StandInTurn, place_behind}
use Rattle.segment_codec.proofs.Turns.{goes-on-means, goes-on-decided, begins-there, turn-follow}
use Rattle.batch_codec.specs.Grammar.{AreMaximal, AreFlat}

abbrev IsApart : Segment → Type 0
IsApart s = s.parents ≢ (s.low - 1) ∷ []

apart-test : (s : Segment) → IsApart s → goes_on s ≡ false
apart-test s h = go (goes_on s) refl
  where
    go : (b : Bool) → goes_on s ≡ b → goes_on s ≡ false
    go true e = absurd (h (goes-on-means s e))
    go false e = e

test-apart : (s : Segment) → goes_on s ≡ false → IsApart s
test-apart s e p = true≢false (sym (goes-on-decided s p) ∙ e)

behind-first : (first place end : ℕ) (segments : List Segment) → Follow place end segments → AllByRecursion IsApart segments → AreFlat segments → StandInTurn (MayStandAt first) place segments
behind-first first place end [] c m f = tt
behind-first first place end (s ∷ more) c m f =
    (record { segment = f.0.0; flat = f.0.1; low = c.0; apart = λ _. apart-test s m.0 }, behind-first first (s.high + 1) end more c.2 m.1 f.1)

pub stand-in-turn : (first end : ℕ) (segments : List Segment) → Follow first end segments → AreMaximal segments → AreFlat segments → StandInTurn (MayStandAt first) first segments
stand-in-turn first end [] c m f = tt
stand-in-turn first end (s ∷ more) c m f =
    (record { segment = f.0.0; flat = f.0.1; low = c.0; apart = λ other. absurd (other refl) }, behind-first first (s.high + 1) end more c.2 m f.1)

turn-flat : (first place : ℕ) (segments : List Segment) → StandInTurn (MayStandAt first) place segments → AreFlat segments
turn-flat first place [] h = tt
turn-flat first place (s ∷ more) h = ((h.0.segment, h.0.flat), turn-flat first (s.high + 1) more h.1)

rest-apart : (first place : ℕ) (segments : List Segment) → first < place → StandInTurn (MayStandAt first) place segments → AllByRecursion IsApart segments
rest-apart first place [] lt h = tt
rest-apart first place (s ∷ more) lt h =
    let low = h.0.low in let up = h.0.segment.ascending in
    (test-apart s (h.0.apart (λ e. absurd (omega (arith, lt, e)))), rest-apart first (s.high + 1) more (omega (arith, lt, low, up)) h.1)

turn-maximal : (first : ℕ) (segments : List Segment) → StandInTurn (MayStandAt first) first segments → AreMaximal segments
turn-maximal first [] h = tt
turn-maximal first (s ∷ more) h = let low = h.0.low in let up = h.0.segment.ascending in rest-apart first (s.high + 1) more (omega (arith, low, up)) h.1

pub turn-stands : (first : ℕ) (segments : List Segment) → StandInTurn (MayStandAt first) first segments → Follow first (place_behind first segments) segments × AreMaximal segments × AreFlat segments
turn-stands first segments h = (turn-follow (MayStandAt first) (begins-there first) first segments h, turn-maximal first segments h, turn-flat first first segments h)
