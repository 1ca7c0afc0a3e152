-- Expressions over the ids of a table, in place of names.
use Rattle.std.specs.Prelude.{ℕ, List, [], ◌∷◌, length, take, drop}
use Rattle.set_expr.specs.Expr.{Expr, One, Named, Of, OfTwo, Up, Top, commits_in}

-- the first of some ids, which there is
abbrev pub first_id : List ℕ → ℕ
first_id [] = 0
first_id (id ∷ ids) = id

-- the expression with these ids for the commits that it names, from left to right
abbrev pub with_ids : {N : Type 0} → Expr N → List ℕ → Expr ℕ
with_ids (One x) ids = One (first_id ids)
with_ids (Named word) ids = Named word
with_ids (Of call s) ids = Of call (with_ids s ids)
with_ids (OfTwo call a b) ids = OfTwo call (with_ids a (take (length (commits_in a)) ids)) (with_ids b (drop (length (commits_in a)) ids))
with_ids (Up x n) ids = Up (first_id ids) n
with_ids (Top s n) ids = Top (with_ids s ids) n
