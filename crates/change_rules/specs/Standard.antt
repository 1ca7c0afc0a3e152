-- The limits that a run may have.
use Rattle.std.specs.Prelude.{◌≤◌, ◌^◌, ℕ}
use Rattle.change_rules.specs.declared.Limits.{Limits}

-- those of the program
abbrev pub standard : Limits
standard = record { pending = 65536; others = 65536; master = 16777216; log = 2 ^ 30; answer = 1048576; input = 2 ^ 30 }

-- each is at least 1, and that of the log 98; none is above the standard
pub record AreLimits (limits : Limits) : Type 0 where
  pub pending : (1 ≤ limits.pending) × (limits.pending ≤ standard.pending)
  pub others : (1 ≤ limits.others) × (limits.others ≤ standard.others)
  pub master : (1 ≤ limits.master) × (limits.master ≤ standard.master)
  pub log : (98 ≤ limits.log) × (limits.log ≤ standard.log)
  pub answer : (1 ≤ limits.answer) × (limits.answer ≤ standard.answer)
  pub input : (1 ≤ limits.input) × (limits.input ≤ standard.input)

-- how many heads a remote's master may have, in every run
abbrev pub most_heads : ℕ
most_heads = 65535
