-- How many segments what is kept has.
use Rattle.std.specs.Prelude.{ℕ, List, ◌∷◌, map}
use Rattle.segment_rules.specs.Levels.{before_none}
use Rattle.segment_levels.specs.Kept.{KeptLevels}

-- how many flat segments there are, and how many segments on each level above, up to the last one that has some
abbrev pub kept_counts : KeptLevels → List ℕ
kept_counts kept = kept.flat_count ∷ before_none (map (λ l. l.count) kept.levels)
