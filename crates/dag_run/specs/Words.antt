-- The words of the command line.
use Rattle.std.specs.Prelude.{ℕ, zero, suc, ◌+◌, nat_eq, List, [], ◌∷◌, Option, Some, None, codes, if◌then◌else◌}
use Rattle.std.specs.Option.{option_map}
use Rattle.std.specs.Cmp.Lexicographic.{pointwise}
use Rattle.dag_run.specs.declared.words.Split.{Split}

-- the place of the first word `--`
abbrev pub dashes_at : List (List ℕ) → Option ℕ
dashes_at [] = None
dashes_at (word ∷ words) = if pointwise nat_eq word (codes "--") then Some 0 else option_map (λ k. k + 1) (dashes_at words)

-- the log's path is the first word, the remotes are those behind it, and the mode begins behind the `--`
abbrev pub split_of : Option ℕ → Option Split
split_of None = None
split_of (Some zero) = None
split_of (Some (suc k)) = Some (record { log = 0; remotes = 1; rest = k + 2 })
