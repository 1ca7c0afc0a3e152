-- The lines that are to come, one line at a time.
use Rattle.std.proofs.Common.{suc, ℕ, ◌≡◌, ◌-◌, ◌==◌, Bool, true, false, List, [], ◌∷◌, length, take, refl, ap, arith, nat_lt}
use Rattle.std.specs.Prelude.{if◌then◌else◌, slice_index}
use Rattle.std.specs.Str.Lines.{strip_carriage_return}
use Rattle.line_io.specs.Lines.{lines_of, whole_lines, without_carriage_return}
use Rattle.line_io.specs.Reading.{new_reading, window, is_over, lines_left, whole_left}

-- a new reading has the lines of the input before it
pub lines_left-new : (limit : ℕ) (left : List ℕ) → lines_left (new_reading limit) left ≡ lines_of limit left
unfolding window is_over
lines_left-new limit left = refl

pub whole_left-new : (limit : ℕ) (came : List ℕ) → whole_left (new_reading limit) came ≡ whole_lines limit came
whole_left-new limit came = refl

pub is_over-new : (limit : ℕ) (left : List ℕ) → is_over (new_reading limit) left ≡ nat_lt limit (length left)
unfolding is_over
is_over-new limit left = refl

strip-step : (byte n : ℕ) (xs ys : List ℕ) (b : Bool) → (if b then take n xs else xs) ≡ ys → (if b then byte ∷ take n xs else byte ∷ xs) ≡ byte ∷ ys
strip-step byte n xs ys true h = ap (λ zs. byte ∷ zs) h
strip-step byte n xs ys false h = ap (λ zs. byte ∷ zs) h

-- std's word for a line without its carriage return says the same
pub strip-line : (line : List ℕ) → strip_carriage_return line ≡ without_carriage_return line
strip-line [] = refl
strip-line (byte ∷ []) = refl
strip-line (byte ∷ next ∷ line) =
    let e : length (byte ∷ next ∷ line) - 1 ≡ suc (length line) = omega arith in
    let f : length (next ∷ line) - 1 ≡ length line = omega arith in
    let rest : (if slice_index (next ∷ line) (length line) == 13 then take (length line) (next ∷ line) else next ∷ line) ≡ without_carriage_return (next ∷ line) =
    rw f at (strip-line (next ∷ line)) in
    rw e (strip-step byte (length line) (next ∷ line) (without_carriage_return (next ∷ line)) (slice_index (next ∷ line) (length line) == 13) rest)
