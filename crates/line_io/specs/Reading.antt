-- What a `Lines` holds, and the lines that are to come.
use Rattle.std.specs.Prelude.{ℕ, ◌+◌, nat_lt, Bool, false, ◌||◌, if◌then◌else◌, map, List, [], ◌++◌, length, take}
use Rattle.outside.specs.Parts.{cut_at}
use Rattle.line_io.specs.Lines.{without_carriage_return, last_line}

-- what a `Lines` is seen as
pub record Reading : Type 0 where
  -- the bytes that were read and are not yet part of a line, without those beyond the limit
  pub held : List ℕ
  -- the text that it lends
  pub text : List ℕ
  -- how many more bytes count
  pub room : ℕ
  -- whether the source gave more than that
  pub over : Bool
  -- whether the source came to its end
  pub ended : Bool

-- a reading that has not begun, of an input of which this many bytes count
abbrev pub new_reading : ℕ → Reading
new_reading limit = record { held = []; text = []; room = limit; over = false; ended = false }

-- the bytes that may still come, where the source has these left: once it came to its end it is not called again
abbrev pub coming : Reading → List ℕ → List ℕ
coming reading left = if reading.ended then [] else left

-- the bytes in which lines are still sought
unfoldable pub window : Reading → List ℕ → List ℕ
window reading left = reading.held ++ take reading.room (coming reading left)

-- whether the input is longer than the limit
unfoldable pub is_over : Reading → List ℕ → Bool
is_over reading left = reading.over || nat_lt reading.room (length (coming reading left))

-- the lines to come: the whole ones, and a last one without a line feed where the input is within the limit
abbrev pub lines_left : Reading → List ℕ → List (List ℕ)
lines_left reading left =
    map without_carriage_return (cut_at 10 (window reading left)).parts
    ++ (if is_over reading left then [] else last_line (cut_at 10 (window reading left)).rest)

-- the whole lines among the bytes held and these, which come next
abbrev pub whole_left : Reading → List ℕ → List (List ℕ)
whole_left reading came = map without_carriage_return (cut_at 10 (reading.held ++ take reading.room came)).parts

-- how many bytes can still become lines
abbrev pub budget : Reading → ℕ
budget reading = reading.room + length reading.held
