-- A set that grows downwards, and its low end.
use Rattle.std.specs.Prelude.{ℕ, ◌<◌, ◌≤◌, ◌⊎◌, List}
use Rattle.id_groups.specs.declared.span.IdSpan.{IdSpan}
use Rattle.span_set.specs.Members.{IsMember}

-- a member of the set, or one of those from `low` to before `end`
abbrev pub HasFallen : List IdSpan → ℕ → ℕ → ℕ → Type 0
HasFallen ids low end x = IsMember ids x ⊎ ((low ≤ x) × (x < end))
