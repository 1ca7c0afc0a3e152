-- Which calls are to fail.
use Rattle.std.specs.Prelude.{ℕ, ◌<◌, ◌⊎◌, Option, Some, None, IsTrue, ◌==◌}
use Rattle.std.specs.List.{list_any}
use Rattle.disk_memory.specs.declared.failing.Failing.{Failing}

-- it is behind the last call that may succeed
abbrev pub IsPast : Option ℕ → ℕ → Type 0
IsPast None number = ⊥
IsPast (Some last) number = last < number

-- the call of this number is to fail
abbrev pub IsNamed : Failing → ℕ → Type 0
IsNamed failing number = IsPast failing.stop_after number ⊎ IsTrue (list_any (λ y. y == number) failing.fails.items)
