use Rattle.std.proofs.Common.{◌≡◌, List, [], map, length, take, Ok}
use Rattle.id_groups.specs.Name.{Name}
use Rattle.commit_graph.specs.World.{Row, World, names_of}
use Rattle.name_map.specs.Added.{Placed}
use Rattle.store_plans.specs.Looking.{IsSoundCache, Shows}
use Rattle.store_plans.specs.Changes.{FindsHeads, HaveNames}
use Rattle.store_plans.proofs.finding.look_up_heads.Given as goal

pub record Found (finds : Type 0) (sound : Type 0) (len : Type 0) : Type 0 where
  pub finds_are : finds
  pub sound_is : sound
  pub len_is : len

abbrev pub invariant-heads : goal.invariant-heads
invariant-heads g l = Found
    ((added : List Placed) (w : World Name) (rows : List (Row Name)) → Shows l.newest added w [] → HaveNames l.session.pending (names_of rows)
    → FindsHeads added w rows (take l.head-index l.heads) (map g.R.Remote.shown l.fn.mirrors.items) (map g.R.Remote.shown l.mirrors.items) l.fn.cache l.cache (Ok l.found.items))
    (IsSoundCache l.fn.cache → IsSoundCache l.cache)
    (length l.mirrors.items ≡ length l.fn.mirrors.items)
