use Rattle.std.proofs.Common.{◌≡◌, ◌≤◌, List, [], map, length, take, Ok}
use Rattle.id_groups.specs.Name.{Name}
use Rattle.commit_graph.specs.World.{World}
use Rattle.name_map.specs.Added.{Placed}
use Rattle.store_plans.specs.Looking.{IsSoundCache, Shows}
use Rattle.store_plans.specs.Changes.{FindsRows, HaveNames}
use Rattle.store_plans.proofs.finding.look_up_rows.Given as goal

pub record Found (same : Type 0) (finds : Type 0) (count : Type 0) (sound : Type 0) (len : Type 0) : Type 0 where
  pub pending_is : same
  pub finds_are : finds
  pub count_is : count
  pub sound_is : sound
  pub len_is : len

abbrev pub invariant-rows : goal.invariant-rows
invariant-rows g l = Found
    (l.pending ≡ l.session.pending)
    ((added : List Placed) (w : World Name) (names : List Name) → Shows l.newest added w [] → HaveNames l.session.pending names
    → FindsRows added w (take l.i names) (map g.R.Remote.shown l.fn.mirrors.items) (map g.R.Remote.shown l.mirrors.items) l.fn.cache l.cache (Ok l.found.items))
    ((length l.found.items ≡ l.i) × (l.i ≤ l.i-end))
    (IsSoundCache l.fn.cache → IsSoundCache l.cache)
    (length l.mirrors.items ≡ length l.fn.mirrors.items)
