-- Spans of ids.
use Rattle.std.specs.Prelude.{ℕ, ◌≤◌, ◌<◌, ◌^◌}
use Rattle.id_groups.specs.Id.{id_end}
use Rattle.id_groups.specs.declared.span.IdSpan.{IdSpan}

-- ids of one group, the lowest at most the highest
pub record IsSpan (s : IdSpan) : Type 0 where
  pub order : s.low ≤ s.high
  pub group : s.low < 2 ^ 56 → s.high < 2 ^ 56
  pub bound : s.high < id_end

-- the id is one of the span's
abbrev pub IsInSpan : ℕ → IdSpan → Type 0
IsInSpan x s = (s.low ≤ x) × (x ≤ s.high)
