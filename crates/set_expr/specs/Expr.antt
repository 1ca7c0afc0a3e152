-- Expressions as trees, over commits named by an N: by their names in a text, by their ids in a table.
use Rattle.std.specs.Prelude.{ℕ, ◌+◌, max, List, [], ◌∷◌, ◌++◌}
use Rattle.set_expr.specs.declared.words.Word.{Word}
use Rattle.set_expr.specs.declared.words.Call.{Call}
use Rattle.set_expr.specs.declared.words.PairCall.{PairCall}

pub data Expr (N : Type 0) : Type 0 where
  -- the commit of that name
  One : N → Expr N
  -- the set that the word names
  Named : Word → Expr N
  -- what the call makes of a set
  Of : Call → Expr N → Expr N
  -- what the call makes of two sets
  OfTwo : PairCall → Expr N → Expr N → Expr N
  -- the n-th first-parent ancestor of the commit
  Up : N → ℕ → Expr N
  -- the n members with the greatest ids, or all where there are fewer
  Top : Expr N → ℕ → Expr N

-- the commits that an expression names, from left to right
abbrev pub commits_in : {N : Type 0} → Expr N → List N
commits_in (One x) = x ∷ []
commits_in (Named word) = []
commits_in (Of call s) = commits_in s
commits_in (OfTwo call a b) = commits_in a ++ commits_in b
commits_in (Up x n) = x ∷ []
commits_in (Top s n) = commits_in s

-- how many names, words and calls an expression has
abbrev pub node_count : {N : Type 0} → Expr N → ℕ
node_count (One x) = 1
node_count (Named word) = 1
node_count (Of call s) = 1 + node_count s
node_count (OfTwo call a b) = 1 + node_count a + node_count b
node_count (Up x n) = 1
node_count (Top s n) = 1 + node_count s

-- how deep its calls stand in one another
abbrev pub depth : {N : Type 0} → Expr N → ℕ
depth (One x) = 1
depth (Named word) = 1
depth (Of call s) = 1 + depth s
depth (OfTwo call a b) = 1 + max (depth a) (depth b)
depth (Up x n) = 1
depth (Top s n) = 1 + depth s

-- the same expression over other names
abbrev pub renamed : {M N : Type 0} → (M → N) → Expr M → Expr N
renamed f (One x) = One (f x)
renamed f (Named word) = Named word
renamed f (Of call s) = Of call (renamed f s)
renamed f (OfTwo call a b) = OfTwo call (renamed f a) (renamed f b)
renamed f (Up x n) = Up (f x) n
renamed f (Top s n) = Top (renamed f s) n
