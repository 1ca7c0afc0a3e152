-- Unions whose parts are all of one kind.
use Rattle.std.specs.Prelude.{◌≡◌, ⊤}
use Rattle.set_expr.specs.declared.words.Call.TheVariants as calls
use Rattle.set_expr.specs.declared.words.PairCall.TheVariants as pairs
use Rattle.set_expr.specs.Expr.{Expr, One, Named, Of, OfTwo, Up, Top}

-- the expression is a name, or a union of such expressions
abbrev pub IsOfNames : {N : Type 0} → Expr N → Type 0
IsOfNames (One x) = ⊤
IsOfNames (Named word) = ⊥
IsOfNames (Of call s) = ⊥
IsOfNames (OfTwo call a b) = (call ≡ pairs.Union) × IsOfNames a × IsOfNames b
IsOfNames (Up x n) = ⊥
IsOfNames (Top s n) = ⊥

-- it is what such an expression reaches, or a union of such sets
abbrev pub IsOfAncestors : {N : Type 0} → Expr N → Type 0
IsOfAncestors (One x) = ⊥
IsOfAncestors (Named word) = ⊥
IsOfAncestors (Of call s) = (call ≡ calls.Ancestors) × IsOfNames s
IsOfAncestors (OfTwo call a b) = (call ≡ pairs.Union) × IsOfAncestors a × IsOfAncestors b
IsOfAncestors (Up x n) = ⊥
IsOfAncestors (Top s n) = ⊥
