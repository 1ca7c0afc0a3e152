use Rattle.std.proofs.Common.{◌≡◌, List, [], map, length, take, Ok}
use Rattle.id_groups.specs.Name.{Name}
use Rattle.commit_graph.specs.World.{World}
use Rattle.name_map.specs.Added.{Placed}
use Rattle.store_plans.specs.Looking.{IsSoundCache, Shows}
use Rattle.store_plans.specs.Strips.{FindsOthers}
use Rattle.store_plans.proofs.stripping.look_up_others.Given as goal

pub record Found (finds : Type 0) (sound : Type 0) (len : Type 0) : Type 0 where
  pub finds_are : finds
  pub sound_is : sound
  pub len_is : len

abbrev pub invariant-names : goal.invariant-names
invariant-names g l = Found
    ((added : List Placed) (w : World Name) → Shows l.newest added w []
    → FindsOthers added w (take l.name-index l.names) (map g.R.Remote.shown l.fn.mirrors.items) (map g.R.Remote.shown l.mirrors.items) l.fn.cache l.cache (Ok l.ids.items))
    (IsSoundCache l.fn.cache → IsSoundCache l.cache)
    (length l.mirrors.items ≡ length l.fn.mirrors.items)
