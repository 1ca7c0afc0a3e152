-- Maximal flat segments, and what is cut of them.
use Rattle.std.specs.Prelude.{◌-◌, ℕ, not, List, [], ◌∷◌, min, filter, nat_lt, if◌then◌else◌}
use Rattle.segment_codec.specs.Record.{Segment}
use Rattle.segment_codec.specs.Turns.{goes_on}

-- where the first of these begins; the end where there is none
abbrev pub begin_of : ℕ → List Segment → ℕ
begin_of end [] = end
begin_of end (s ∷ more) = s.low

-- each of these segments up to the next one, and the last up to the end
abbrev pub up_to : ℕ → List Segment → List Segment
up_to end [] = []
up_to end (s ∷ more) = record s { high = begin_of end more - 1 } ∷ up_to end more

-- The maximal flat segments of segments that follow one another up to the end: each that doesn't go on begins one, which
-- ends where the next begins.
abbrev pub maximal : ℕ → List Segment → List Segment
maximal end segments = up_to end (filter (λ s. not (goes_on s)) segments)

-- the ids below a number: segments that begin below it, none beyond it
abbrev pub cut : ℕ → List Segment → List Segment
cut below [] = []
cut below (s ∷ more) = if nat_lt s.low below then record s { high = min s.high (below - 1) } ∷ cut below more else cut below more
