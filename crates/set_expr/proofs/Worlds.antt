-- Answers in a world, computed.
use Rattle.std.proofs.Common.{◌≡◌, Bool, true, length}
use Rattle.id_groups.specs.Lists.{AreAllIn}
use Rattle.id_groups.specs.Name.{Name, same_name}
use Rattle.id_groups.proofs.Names.{same_name-exact, same_name-self}
use Rattle.commit_graph.specs.World.{World, IsWorld, rows_of}
use Rattle.commit_graph.specs.Graph.{graph_of}
use Rattle.commit_graph.specs.Renaming.{IsClosed}
use Rattle.commit_graph.proofs.Down.{parent-in-down, child-in-down, world-walks}
use Rattle.commit_graph.proofs.Histories.{place_in}
use Rattle.commit_graph.proofs.Walks.{world-falls, reaches-decided}
use Rattle.set_expr.specs.Line.{by_first}
use Rattle.set_expr.specs.Expr.{Expr, commits_in}
use Rattle.set_expr.specs.Meaning.{IsAnswer}
use Rattle.set_expr.specs.Computed.{answer_of}
use Rattle.set_expr.proofs.Lines.{first-falls, place-bound}
use Rattle.set_expr.proofs.Deciding.{IsBounded, answer-computed}

module _ {N : Type 0} (same : N → N → Bool) (exact : (x y : N) → same x y ≡ true → x ≡ y) (self : (x : N) → same x x ≡ true) where
  pub world-bounded : (w : World N) → IsWorld w → IsBounded same (graph_of same w) (length (rows_of w))
  world-bounded w h = record {
    exact = exact;
    self = self;
    walks = world-walks same exact self w h;
    firsts = reaches-decided same exact self (by_first (graph_of same w)) (place_in same self (rows_of w)) (length (rows_of w))
        (first-falls (graph_of same w) (place_in same self (rows_of w)) (world-falls same self w h)) (place-bound same self (rows_of w));
    parents = parent-in-down same exact self w h;
    children = child-in-down same exact self w;
  }

  pub world-answer : (w : World N) (e : Expr N) → IsWorld w → AreAllIn (commits_in e) (graph_of same w).down → IsAnswer (graph_of same w) e (answer_of same (graph_of same w) (length (rows_of w)) e)
  world-answer w e h = answer-computed same (graph_of same w) (length (rows_of w)) (world-bounded w h) e

-- in the graph of a world parents stand, and only what stands has parents
pub world-closed : (w : World Name) → IsWorld w → IsClosed (graph_of same_name w)
world-closed w h = record {
  parents = parent-in-down same_name same_name-exact same_name-self w h;
  children = child-in-down same_name same_name-exact same_name-self w;
}
