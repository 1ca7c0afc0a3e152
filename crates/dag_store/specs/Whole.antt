-- A stored master of which each commit has a stored name, as it is lent.
use Rattle.std.specs.Prelude.{◌≡◌, false, List, [], ◌++◌}
use Rattle.id_groups.specs.Name.{Name, same_name}
use Rattle.commit_graph.specs.World.{World, IsNamedWorld}
use Rattle.commit_graph.specs.Ids.{parent_ids}
use Rattle.segment_codec.specs.Record.{Segment}
use Rattle.segment_rules.specs.Flat.{flat_segments_of}
use Rattle.gated_log.specs.Held.{Held, log_bytes}
use Rattle.name_map.specs.Added.{Placed, payloads_of, AllStand}
use Rattle.change_rules.specs.Lazy.{has_lazy}
use Rattle.change_rules.specs.Tables.{StandFor}
use Rattle.high_segments.specs.Views.{flats_in}
use Rattle.payload_tables.specs.Kept.{PlainTables, AreTablesOf}
use Rattle.payload_tables.specs.Pending.{PlainPending, HoldsRows}
use Rattle.change_parts.specs.Asked.{others_count}
use Rattle.dag_store.specs.declared.whole.Whole.{Whole}
use Rattle.dag_store.specs.declared.whole.Segments.{Segments}

-- The tables are those of the log's payloads, which stand for the world and know the name of each of its master commits, and no row is
-- pending behind them.
pub record IsWholeOf (log : Held) (tables : PlainTables) (none : PlainPending) (w : World Name) : Type 0 where
  pub added : List Placed
  pub tables_of : AreTablesOf tables added
  pub stand : AllStand (log_bytes log) added
  pub first : none.first ≡ others_count added
  pub no_rows : HoldsRows none []
  pub stands : StandFor (payloads_of added) w
  pub named : IsNamedWorld w
  pub all_named : has_lazy (payloads_of added) w ≡ false

-- it is that world's master
abbrev pub IsWhole : Whole → World Name → Type 0
IsWhole whole w = IsWholeOf whole.log.now whole.tables.now whole.none w

-- the flat segments of a world's master
abbrev pub master_flats : World Name → List Segment
master_flats w = flat_segments_of 0 (parent_ids same_name w w.master)

-- the segments that are lent are those of the world's master, with others behind them
pub record AreSegments (segments : Segments) (w : World Name) : Type 0 where
  pub behind : List Segment
  pub parts : flats_in segments.view ≡ master_flats w ++ behind
