use Rattle.std.proofs.Common.{ℕ, List, drop}
use Rattle.std.specs.Prelude.{◌↔◌}
use Rattle.id_groups.specs.Name.{Name}
use Rattle.commit_graph.specs.World.{Row}
use Rattle.span_set.specs.Members.{IsMember}
use Rattle.remote_trait.specs.Calls.{AreMaster}
use Rattle.remote_answers.specs.Paths.{IsHeadId}
use Rattle.remote_answers.proofs.reached.ids_of.Given as goal

abbrev pub invariant-heads : goal.invariant-heads
invariant-heads g l = (rows : List (Row Name)) → AreMaster rows → g.N.MasterNames.are_of l.names rows → (x : ℕ) → IsMember l.ids x ↔ IsHeadId rows (drop l.k l.heads) x
