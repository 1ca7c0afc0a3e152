-- Members, computed. The number bounds how long the walks are that are looked at.
use Rattle.std.specs.Prelude.{ℕ, Bool, false, not, ◌&&◌, ◌||◌, List, length, Option, Some, None, nat_le, take, filter}
use Rattle.std.specs.List.{list_any, list_all}
use Rattle.id_groups.specs.Lists.{is_in}
use Rattle.commit_graph.specs.Graph.{Graph, first_ancestor}
use Rattle.commit_graph.specs.Search.{reaches_in}
use Rattle.set_expr.specs.Line.{by_first}
use Rattle.set_expr.specs.declared.words.Word.{Word}
use Rattle.set_expr.specs.declared.words.Word.TheVariants as words
use Rattle.set_expr.specs.declared.words.Call.{Call}
use Rattle.set_expr.specs.declared.words.Call.TheVariants as calls
use Rattle.set_expr.specs.declared.words.PairCall.{PairCall}
use Rattle.set_expr.specs.declared.words.PairCall.TheVariants as pairs
use Rattle.set_expr.specs.Expr.{Expr, One, Named, Of, OfTwo, Up, Top}

module _ {N : Type 0} (same : N → N → Bool) (g : Graph N) (bound : ℕ) where
  -- whether x is a parent of a member
  abbrev pub parents_test : (N → Bool) → N → Bool
  parents_test s x = list_any (λ c. s c && is_in same x (g.parents c)) g.down

  -- whether x has a member among its parents
  abbrev pub children_test : (N → Bool) → N → Bool
  children_test s x = list_any s (g.parents x)

  -- whether some member reaches x
  abbrev pub ancestors_test : (N → Bool) → N → Bool
  ancestors_test s x = list_any (λ m. s m && reaches_in same g bound m x) g.down

  -- whether x reaches some member
  abbrev pub descendants_test : (N → Bool) → N → Bool
  descendants_test s x = list_any (λ m. s m && reaches_in same g bound x m) g.down

  -- whether there is a member, and each reaches x
  abbrev pub common_test : (N → Bool) → N → Bool
  common_test s x = list_any s g.down && list_all (λ m. not (s m) || reaches_in same g bound m x) g.down

  -- whether x is a member and no parent of one
  abbrev pub heads_test : (N → Bool) → N → Bool
  heads_test s x = s x && not (parents_test s x)

  -- whether some member reaches x by first parents alone
  abbrev pub line_test : (N → Bool) → N → Bool
  line_test s x = list_any (λ m. s m && reaches_in same (by_first g) bound m x) g.down

  -- whether x is in the set that the word names
  abbrev pub named_test : Word → N → Bool
  named_test words.All x = is_in same x g.down
  named_test words.Master x = is_in same x g.down && g.is_master x
  named_test words.Others x = is_in same x g.down && not (g.is_master x)

  -- whether x is in what the call makes of a set
  abbrev pub call_test : Call → (N → Bool) → N → Bool
  call_test calls.Parents s x = parents_test s x
  call_test calls.Children s x = children_test s x
  call_test calls.Ancestors s x = ancestors_test s x
  call_test calls.Descendants s x = descendants_test s x
  call_test calls.Heads s x = heads_test s x
  call_test calls.Roots s x = s x && not (children_test s x)
  call_test calls.Tips s x = s x && list_all (λ m. not (s m && reaches_in same g bound m x) || same m x) g.down
  call_test calls.Merges s x = s x && nat_le 2 (length (g.parents x))
  call_test calls.Common s x = common_test s x
  call_test calls.Gca s x = heads_test (common_test s) x
  call_test calls.Line s x = line_test s x

  -- whether x is in what the call makes of two sets
  abbrev pub pair_test : PairCall → (N → Bool) → (N → Bool) → N → Bool
  pair_test pairs.Range s t x = descendants_test s x && ancestors_test t x
  pair_test pairs.Only s t x = ancestors_test s x && not (ancestors_test t x)
  pair_test pairs.Union s t x = s x || t x
  pair_test pairs.Inter s t x = s x && t x
  pair_test pairs.Minus s t x = s x && not (t x)

  -- whether x is the commit that is there, if one is
  abbrev pub is_some_of : Option N → N → Bool
  is_some_of None x = false
  is_some_of (Some y) x = same y x

  -- whether x is a member
  abbrev pub is_member : Expr N → N → Bool
  is_member (One y) x = same x y
  is_member (Named word) x = named_test word x
  is_member (Of call s) x = call_test call (is_member s) x
  is_member (OfTwo call s t) x = pair_test call (is_member s) (is_member t) x
  is_member (Up y n) x = is_some_of (first_ancestor g n y) x
  is_member (Top s n) x = is_in same x (take n (filter (is_member s) g.down))

  -- the answer of an expression
  abbrev pub answer_of : Expr N → List N
  answer_of e = filter (is_member e) g.down
