use Rattle.std.proofs.Common.{◌≡◌, ◌≤◌, List, false, not, filter, map, take, length}
use Rattle.std.specs.Prelude.{slice_index_or}
use Rattle.id_groups.specs.Name.{Name}
use Rattle.commit_graph.specs.World.{Row}
use Rattle.segment_codec.specs.Record.{Segment}
use Rattle.remote_rules.specs.CloneData.{KnownName}
use Rattle.remote_rules.specs.Known.{master_world}
use Rattle.remote_rules.specs.Honest.{named_ids}
use Rattle.remote_answers.proofs.cloning.put_heads.Given as goal

abbrev pub invariant-segments : goal.invariant-segments
invariant-segments g l = record {
  heads : (rows : List (Row Name)) → g.N.MasterNames.are_of l.names rows
      → l.given.heads ≡ map (λ (k : KnownName). k.name) (named_ids (master_world rows) (filter (λ id. not (slice_index_or l.parents id false)) (take l.i (map (λ (s : Segment). s.high) l.fn.given.segments))));
  few : length l.given.heads ≤ l.i;
  segments : l.given.segments ≡ l.fn.given.segments;
  names : l.given.names ≡ l.fn.given.names;
}
