-- The lines of an input of bytes.
use Rattle.std.specs.Prelude.{ℕ, Bool, true, not, ◌&&◌, map, List, [], ◌∷◌, ◌++◌, length, take, nat_lt, ◌==◌, if◌then◌else◌}
use Rattle.outside.specs.Parts.{cut_at}

-- a line without the carriage return that stood directly before its line feed
abbrev pub without_carriage_return : List ℕ → List ℕ
without_carriage_return [] = []
without_carriage_return (byte ∷ []) = if byte == 13 then [] else byte ∷ []
without_carriage_return (byte ∷ next ∷ line) = byte ∷ without_carriage_return (next ∷ line)

-- what stands behind the last line feed is a line if it isn't empty
abbrev pub last_line : List ℕ → List (List ℕ)
last_line [] = []
last_line (byte ∷ rest) = (byte ∷ rest) ∷ []

-- the whole lines among the first limit bytes of those that were given
abbrev pub whole_lines : ℕ → List ℕ → List (List ℕ)
whole_lines limit given = map without_carriage_return (cut_at 10 (take limit given)).parts

-- The lines of an input that was read to its end: its whole lines, and what stands behind the last line feed. Where
-- it is longer than limit bytes only the whole lines among its first limit bytes count.
abbrev pub lines_of : ℕ → List ℕ → List (List ℕ)
lines_of limit input =
    whole_lines limit input
    ++ (if nat_lt limit (length input) then [] else last_line (cut_at 10 (take limit input)).rest)

-- the longest line, without its end
abbrev pub longest_line : ℕ
longest_line = 16384

abbrev pub is_too_long : List ℕ → Bool
is_too_long line = nat_lt longest_line (length line)

-- an empty line, or a comment
abbrev pub is_empty_or_comment : List ℕ → Bool
is_empty_or_comment [] = true
is_empty_or_comment (byte ∷ line) = byte == 35

-- whether a line gets no reply
abbrev pub is_silent : List ℕ → Bool
is_silent line = not (is_too_long line) && is_empty_or_comment line
