-- The parts of a call of `next`.
use Rattle.std.specs.Prelude.{ℕ, if◌then◌else◌, nat_lt, ◌+◌, ◌-◌, ◌<◌, ◌≤◌, ◌≡◌, ◌==◌, ◌⊎◌, Bool, true, false, List, [], ◌∷◌, ◌++◌, length, take, drop, Some, None}
use Rattle.std.specs.declared.option.Option.{Option}
use Rattle.outside.specs.Parts.{HasNone}
use Rattle.line_io.specs.Reading.{Reading}
use Rattle.line_io.specs.declared.lines.Line.{Line}
use Rattle.line_io.specs.declared.lines.Line.TheVariants.{Text, TooLong}

-- the length of the buffer
abbrev pub capacity : ℕ
capacity = 65536

-- the first line feed of the bytes is at this place
pub record EndsAt (held : List ℕ) (len : ℕ) : Type 0 where
  pub below : len < length held
  pub part : HasNone 10 (take len held)
  pub whole : held ≡ take len held ++ 10 ∷ drop (len + 1) held

-- a line is lent, or it is too long together with what was skipped before
abbrev pub LendsLine : Line → Bool → List ℕ → List ℕ → Type 0
LendsLine Text is_skipping line text = (is_skipping ≡ false) × (text ≡ line) × (length line ≤ 16384)
LendsLine TooLong is_skipping line text = (is_skipping ≡ true) ⊎ (16384 < length line)

-- the last line is lent, or there is none
abbrev pub LendsRest : Option Line → Bool → List ℕ → List ℕ → Type 0
LendsRest None is_skipping held text = (is_skipping ≡ false) × (held ≡ [])
LendsRest (Some kind) is_skipping held text = LendsLine kind is_skipping held text × ((is_skipping ≡ true) ⊎ (0 < length held))

-- these bytes came from the source; no bytes are its end
abbrev pub filled : Reading → List ℕ → Reading
filled reading came = record reading {
  held = reading.held ++ take reading.room came;
  room = reading.room - length came;
  over = nat_lt reading.room (length came);
  ended = length came == 0;
}

-- bytes went from the source to the held ones
pub record Fills (old new : Reading) (before after : List ℕ) : Type 0 where
  pub came : List ℕ
  pub split : before ≡ came ++ after
  pub now : new ≡ filled old came
  pub end : length came ≡ 0 → after ≡ []

-- a bound on the calls of the source that are still to come
abbrev pub turns : Reading → ℕ
turns reading = reading.room + (if reading.over then 0 else 1) + (if reading.ended then 0 else 1)

-- held bytes that fill the buffer are dropped
abbrev pub MakesSpace : Bool → Reading → Reading → Type 0
MakesSpace true old new = (length old.held ≡ capacity) × (new ≡ record old { held = [] })
MakesSpace false old new = (length old.held < capacity) × (new ≡ old)
