-- The lowest of a set.
use Rattle.std.specs.Prelude.{ℕ, ◌≤◌, List}
use Rattle.id_groups.specs.declared.span.IdSpan.{IdSpan}
use Rattle.span_set.specs.Members.{IsMember}

-- no member lies below the id, which is a member itself where there is one
abbrev pub IsLowest : List IdSpan → ℕ → Type 0
IsLowest spans id = (x : ℕ) → IsMember spans x → (id ≤ x) × IsMember spans id
