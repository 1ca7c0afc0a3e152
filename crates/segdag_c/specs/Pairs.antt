-- What is asked of two commits, and of a place.
use Rattle.std.specs.Prelude.{ℕ, ◌-◌}
use Rattle.id_groups.specs.Name.{Name}
use Rattle.set_expr.specs.Expr.{Expr, One, Named, Of, OfTwo, Top}
use Rattle.set_expr.specs.declared.words.Call.TheVariants as calls
use Rattle.set_expr.specs.declared.words.PairCall.TheVariants as pairs
use Rattle.set_expr.specs.declared.words.Word.TheVariants as words

-- the first one, where the second reaches it: `inter(a,ancestors(b))`
abbrev pub ancestor_form : Name → Name → Expr Name
ancestor_form a b = OfTwo pairs.Inter (One a) (Of calls.Ancestors (One b))

-- the heads of what both reach: `gca(union(a,b))`
abbrev pub bases_form : Name → Name → Expr Name
bases_form a b = Of calls.Gca (OfTwo pairs.Union (One a) (One b))

-- what the first one reaches and the second doesn't: `only(a,b)`
abbrev pub only_form : Name → Name → Expr Name
only_form a b = OfTwo pairs.Only (One a) (One b)

-- the one at a place, counted from the greatest id, which is at place 1: `minus(top(all,n),top(all,n-1))`
abbrev pub place_form : ℕ → Expr Name
place_form n = OfTwo pairs.Minus (Top (Named words.All) n) (Top (Named words.All) (n - 1))
