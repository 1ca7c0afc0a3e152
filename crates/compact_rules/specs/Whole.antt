-- The payload of a whole store, which alone holds what a log held.
use Rattle.std.specs.Prelude.{◌^◌, List, length}
use Rattle.id_groups.specs.Name.{Name, same_name}
use Rattle.commit_graph.specs.World.{World, names_of}
use Rattle.commit_graph.specs.Ids.{parent_ids}
use Rattle.segment_rules.specs.Flat.{flat_segments_of}
use Rattle.segment_rules.specs.NewLevels.{high_levels}
use Rattle.batch_codec.specs.Payload.{Payload}
use Rattle.change_rules.specs.Tables.{known_in, cloned_count, remote_heads}

-- The world that payloads hold, with the segments of all of its levels, the names that they know, and what they say of the clone: how
-- many commits were cloned, and the heads of the remote.
abbrev pub whole_change : List Payload → World Name → Payload
whole_change payloads w = record {
  version = 2;
  kind = 3;
  before = 0;
  after = length w.master;
  cloned = cloned_count payloads;
  levels = high_levels (flat_segments_of 0 (parent_ids same_name w w.master));
  master = flat_segments_of 0 (parent_ids same_name w w.master);
  known = known_in payloads;
  heads = remote_heads payloads;
  others = flat_segments_of (2 ^ 56) (parent_ids same_name w w.others);
  other_names = names_of w.others;
}
