-- The calls of an expression.
use Rattle.std.specs.Prelude.{List, [], ◌∷◌, ◌++◌}
use Rattle.set_expr.specs.Expr.{Expr, One, Named, Of, OfTwo, Up, Top}
use Rattle.set_expr.specs.declared.words.Call.{Call}

-- what is made of one set in an expression, from left to right
abbrev pub calls_in : {N : Type 0} → Expr N → List Call
calls_in (One x) = []
calls_in (Named word) = []
calls_in (Of call s) = call ∷ calls_in s
calls_in (OfTwo pairing a b) = calls_in a ++ calls_in b
calls_in (Up x n) = []
calls_in (Top s n) = calls_in s
