use Rattle.ancestor_query.specs.Graph.{table_graph}
use Rattle.history_walks.proofs.Counting.{count-same}
use Rattle.history_walks.proofs.tips.sides_of.Goals as goal

pub returns-clause-sides : goal.returns-clause-sides
returns-clause-sides g c =
    let graph = table_graph (g.T.SegmentTable.flats c.args.table.now) in
    record {
      ahead = count-same graph _ _ _ _ c.in_ok-own.ensures c.requires.one c.in_ok-ahead.ahead c.in_ok-ahead.ensures.count;
      behind = count-same graph _ _ _ _ c.requires.one c.in_ok-own.ensures c.in_ok-behind.behind c.in_ok-behind.ensures.count;
    }
