use Rattle.span_set.specs.Members.{IsMember}
use Rattle.ancestor_query.specs.Graph.{table_graph}
use Rattle.range_query.specs.Tails.{HasFallen}
use Rattle.range_query.proofs.CutLemmas.{fewer-cut}
use Rattle.range_query.proofs.downward.walk_down.Goals as goal

pub returns-clause-members : goal.returns-clause-members
returns-clause-members g c = λ x.
    let put = c.in_ok-put_into.ensures x in
    let found = c.in_ok-tail.ensures.members x in (λ m. found.0 (put.0 m), λ a. put.1 (found.1 a))

pub returns-clause-cuts : goal.returns-clause-cuts
returns-clause-cuts g c = λ d i.
    fewer-cut (table_graph (g.T.SegmentTable.flats c.args.table.now)) (HasFallen c.go_down.new.found.ids c.in_ok-tail.tail.low c.in_ok-tail.tail.end) (IsMember c.put_into.new.ids) d
    (λ x m. (c.in_ok-put_into.ensures x).0 m) (c.in_ok-tail.ensures.cuts d i)
