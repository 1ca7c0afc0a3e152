use Rattle.std.proofs.Common.{◌≡◌, ◌≤◌, List, false, filter, length}
use Rattle.std.specs.Prelude.{slice_index_or}
use Rattle.std.specs.List.{range_with_len}
use Rattle.id_groups.specs.Name.{Name}
use Rattle.commit_graph.specs.World.{Row}
use Rattle.remote_rules.specs.Known.{master_world}
use Rattle.remote_rules.specs.Honest.{named_ids}
use Rattle.remote_answers.proofs.cloning.put_names.Given as goal

abbrev pub invariant-ids : goal.invariant-ids
invariant-ids g l = record {
  names : (rows : List (Row Name)) → g.N.MasterNames.are_of l.names rows → l.given.names ≡ named_ids (master_world rows) (filter (λ id. slice_index_or l.stored id false) (range_with_len 0 l.place));
  few : length l.given.names ≤ l.place;
  segments : l.given.segments ≡ l.fn.given.segments;
  heads : l.given.heads ≡ l.fn.given.heads;
}
