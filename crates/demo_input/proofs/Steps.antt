-- How a commit's line comes off the lines that are left.
use Rattle.std.proofs.Common.{ℕ, zero, suc, ◌≡◌, ◌∙◌, ◌+◌, ◌-◌, ◌<◌, Bool, false, List, ◌∷◌, ◌++◌, nat_lt, if◌then◌else◌, ap, sym, arith}
use Rattle.std.proofs.lemmas.Bool.{le-ltb}
use Rattle.std.specs.Prelude.{flat_map}
use Rattle.std.specs.List.{range_with_len}
use Rattle.demo_input.specs.Drawing.{next, after_draws, number_of}
use Rattle.demo_input.specs.Lines.{add_text, is_flushed, flush_lines, lines_of, lines_from}

-- the number that is reached for a commit, by that of the commit before it
reached : (start i x n : ℕ) → x ≡ after_draws start (i - 2) → n ≡ (if nat_lt i 2 then x else next x) → n ≡ number_of start i
reached start zero x n e f = f ∙ e
reached start (suc zero) x n e f = f ∙ e
reached start (suc (suc k)) x n e f =
    let far : nat_lt (suc (suc k)) 2 ≡ false = le-ltb (suc (suc k)) 2 (omega arith) in
    let drawn : n ≡ next x = rw far at f in
    let two : suc (suc k) - 2 ≡ k = omega arith in
    let one : suc (suc k) - 1 ≡ suc k = omega arith in
    drawn ∙ (ap next (e ∙ ap (after_draws start) two) ∙ sym (ap (after_draws start) one))

-- one commit less is left
from-next : (size start i : ℕ) → i < size → lines_from size start i ≡ lines_of size start i ++ lines_from size start (i + 1)
from-next size start i within =
    let less : size - i ≡ suc (size - (i + 1)) = omega arith in
    ap (λ count. flat_map (lines_of size start) (range_with_len i count)) less

pub commit-next : (size start i x n : ℕ) (due more : Bool) (line : List ℕ) → i < size → x ≡ after_draws start (i - 2)
    → n ≡ (if nat_lt i 2 then x else next x) → line ≡ add_text i n → due ≡ false → more ≡ is_flushed size i
    → flush_lines due (i - 1) ++ lines_from size start i ≡ line ∷ (flush_lines more (i + 1 - 1) ++ lines_from size start (i + 1))
commit-next size start i x n due more line within e f is none flushed =
    let number = reached start i x n e f in
    let place : i + 1 - 1 ≡ i = omega arith in
    rw (none, flushed, is, number, place) (from-next size start i within)
