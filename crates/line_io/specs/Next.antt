-- What one call of `next` does.
use Rattle.std.specs.Prelude.{ℕ, ◌<◌, ◌≤◌, ◌≡◌, true, false, List, [], ◌∷◌, ◌++◌, length, Some, None, Ok, Err}
use Rattle.std.specs.declared.result.Result.{Result}
use Rattle.std.specs.declared.option.Option.{Option}
use Rattle.line_io.specs.Reading.{Reading, is_over, lines_left, whole_left}
use Rattle.line_io.specs.declared.lines.Line.{Line}
use Rattle.line_io.specs.declared.lines.Line.TheVariants.{Text, TooLong}
use Rattle.line_io.specs.declared.lines.LineFault.{LineFault}
use Rattle.line_io.specs.declared.lines.LineFault.TheVariants.{Read, Limit}

-- a line is lent as the text, or it is longer than a line may be
abbrev pub IsLine : Line → List ℕ → List ℕ → Type 0
IsLine Text text line = (line ≡ text) × (length text ≤ 16384)
IsLine TooLong text line = 16384 < length line

-- The line came out of the held bytes and those that were read, whatever comes behind them. A last line without a
-- line feed ends the reading.
pub record Gives (line : List ℕ) (old : Reading) (before : List ℕ) (new : Reading) (after : List ℕ) : Type 0 where
  -- the bytes that were read
  pub came : List ℕ
  pub split : before ≡ came ++ after
  pub whole : new.ended ≡ false →
      (old.ended ≡ false) × ((more : List ℕ) → whole_left old (came ++ more) ≡ line ∷ whole_left new more)

-- the source came to its end and no line is left: each further call finds none, and doesn't call the source
pub record IsDone (reading : Reading) : Type 0 where
  pub ended : reading.ended ≡ true
  pub no_line : (left : List ℕ) → lines_left reading left ≡ []
  pub within : (left : List ℕ) → is_over reading left ≡ false

-- the next line of what is held and left; no line; the limit; or a failed read, where no whole line was held or came
abbrev pub NextLine : Result (Option Line) LineFault → Reading → List ℕ → Reading → List ℕ → Type 0
NextLine (Ok (Some kind)) old before new after =
    (line : List ℕ) × IsLine kind new.text line × (lines_left old before ≡ line ∷ lines_left new after)
    × (is_over new after ≡ is_over old before) × Gives line old before new after
NextLine (Ok None) old before new after = (lines_left old before ≡ []) × (is_over old before ≡ false)
NextLine (Err Limit) old before new after = (lines_left old before ≡ []) × (is_over old before ≡ true)
NextLine (Err Read) old before new after =
    (old.ended ≡ false) × (came : List ℕ) × (before ≡ came ++ after) × (whole_left old came ≡ [])

-- where the source came to its end, none of its bytes is left
abbrev pub IsReadOut : Reading → List ℕ → Type 0
IsReadOut reading left = reading.ended ≡ true → left ≡ []
