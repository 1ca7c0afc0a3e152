use Rattle.std.proofs.Common.{refl}
use Rattle.flat_segments.proofs.Callers.{added-here, on-ok}
use Rattle.format_rows.proofs.tables.add.Goals as goal

pub returns : goal.returns
returns c =
    let w = c.requires.table in
    let a = c.if-not-are_records.ensures refl in
    on-ok c.extend.result
    (λ f. added-here c.args.log.now c.split_at.result.1.now c.split_at-2.result.0.now c.args.at c.args.len c.args.most c.extend.new.self w.0 a.0 w.2 w.3 a.1 a.2
    c.split_at.ensures.back c.split_at-2.ensures.front (f w.0 a.0 w.1 a.1)) c.extend.ensures.table
