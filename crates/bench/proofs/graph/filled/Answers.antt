use Rattle.std.proofs.Common.{[]}
use Rattle.bench.proofs.Leveling.{is-filled}
use Rattle.bench.proofs.graph.filled.Goals as goal

pub returns : goal.returns
returns c =
    let r = c.requires in
    (r.0, is-filled c.args.records.now r.0 c.empty-table.result c.extend.new.self r.1 c.empty-table.ensures (c.in_ok-extend.ensures.table [] r.0 c.empty-table.ensures r.1) (c.in_ok-extend.ensures.lawful r.0 r.1) r.2)
