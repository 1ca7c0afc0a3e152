use Rattle.std.proofs.Common.{◌≤◌, ◌-◌, length, take}
use Rattle.set_expr.specs.Fronts.{Unmarked}
use Rattle.set_expr.proofs.parse.word_len.Given as goal

-- no mark stands among the bytes so far
abbrev pub invariant-word : goal.invariant-word
invariant-word l = record { within : l.len ≤ length l.text; plain : Unmarked (take l.len l.text) }

abbrev pub decreases-word : goal.decreases-word
decreases-word l = length l.text - l.len
