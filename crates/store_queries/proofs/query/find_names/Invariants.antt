use Rattle.std.proofs.Common.{◌≡◌, List, map, length, take, Ok}
use Rattle.id_groups.specs.Name.{Name}
use Rattle.commit_graph.specs.World.{Row, World}
use Rattle.name_map.specs.Added.{Placed, payloads_of}
use Rattle.set_expr.specs.Expr.{commits_in}
use Rattle.set_expr.specs.Whole.{tree_of}
use Rattle.store_plans.specs.Looking.{IsSoundCache, Shows, FindsAll}
use Rattle.store_queries.proofs.query.find_names.Given as goal

pub record Found (finds : Type 0) (sound : Type 0) (len : Type 0) : Type 0 where
  pub finds_are : finds
  pub sound_is : sound
  pub len_is : len

abbrev pub invariant-names : goal.invariant-names
invariant-names g l = Found
    ((added : List Placed) (w : World Name) (rows : List (Row Name)) → Shows l.seen added w rows
    → FindsAll (payloads_of added) w rows (take l.k (commits_in (tree_of l.expr))) (map g.R.Remote.shown l.fn.mirrors.items) (map g.R.Remote.shown l.mirrors.items) l.fn.cache l.cache (Ok l.ids.items))
    (IsSoundCache l.fn.cache → IsSoundCache l.cache)
    (length l.mirrors.items ≡ length l.fn.mirrors.items)
