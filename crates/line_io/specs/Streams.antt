-- What a source and a sink told, before and after.
use Rattle.std.specs.Prelude.{ℕ, List}

-- An input of these bytes, of which some are left, and an output that had taken some bytes and has taken others now.
pub record Streams : Type 0 where
  pub input : List ℕ
  pub left : List ℕ
  pub taken : List ℕ
  pub now : List ℕ
