-- How far placing has come.
use Rattle.std.specs.Prelude.{ℕ, List}

-- what contracts see of an order that is being made
pub record Progress : Type 0 where
  -- what is placed, in order
  pub numbers : List ℕ
  -- each number that may be placed is below this one
  pub size : ℕ
