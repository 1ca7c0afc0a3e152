use Rattle.std.proofs.Common.{◌∙◌, [], map, arith}
use Rattle.high_segments.specs.Views.{flats_in}
use Rattle.commit_graph.specs.World.{with_pending}
use Rattle.payload_tables.specs.Bases.{held_row}
use Rattle.payload_tables.proofs.Rows.{get-below}
use Rattle.change_parts.proofs.Refusals.{err-match}
use Rattle.rebase_pending.proofs.Stepping.{found-under, get-is, no-rows-viewed, parents-found}
use Rattle.change_parts.proofs.TableFacts.{tables-count}
use Rattle.rebase_pending.proofs.OnWorlds.{first-before, none-pending, segments-in, check-end, check-step, check-fail, rows-long, row-of, found-in}
use Rattle.rebase_pending.proofs.rebasing.check_rows.Goals as goal

pub view-view-requires : goal.view-view-requires
view-view-requires c =
    let m = c.requires.rebase.2 in
    let n = c.newest-newest.ensures c.requires.rebase.0 m.tables_of m.stand in
    (c.requires.rebase.0, n, no-rows-viewed c.newest-newest.result c.requires.rebase.0 c.args.none.now (c.requires.none.1 ∙ tables-count c.args.reads.now.tables.now c.args.reads.now.bytes.now c.requires.rebase.0 m.tables_of m.stand) c.requires.none.0)

pub bounds-found-i : goal.bounds-found-i
bounds-found-i c =
    let m = c.requires.rebase.2 in
    let lt = c.rows-test.true in
    let long = c.len-i-end.ensures.len m.rows m.held in
    found-under c.requires.rebase.0 m.rows c.args.reads.now.found.now c.rows.i m.found_are (omega (arith, lt, long))

pub check_row-requires-clause-row : goal.check_row-requires-clause-row
check_row-requires-clause-row c =
    let m = c.requires.rebase.2 in
    let lt = c.rows-test.true in
    let long = c.len-i-end.ensures.len m.rows m.held in
    let at = get-below m.rows c.rows.i (omega (arith, lt, long)) in
    (m.rows, at.0, m.held, at.1, parents-found c.args.reads.now.tables.now c.args.reads.now.bytes.now c.args.reads.now.base c.args.reads.now.pending.now c.args.reads.now.found.now c.requires.rebase.0 c.requires.rebase.1 m c.rows.i at.0 at.1)

pub returns-in_err-check_row : goal.returns-in_err-check_row
returns-in_err-check_row c = λ w old rows f.
    let n = c.newest-newest.ensures f.added f.tables_of f.stand in
    let lt = c.rows-test.true in
    let long = c.len-i-end.ensures.len (map (held_row (with_pending old rows)) rows) f.pending_rows.held in
    let r = row-of c.args.reads.now.tables.now c.args.reads.now.bytes.now c.args.reads.now.base c.args.reads.now.pending.now c.args.reads.now.found.now w old rows f c.rows.i (omega (arith, lt, long)) in
    let some = get-is c.args.reads.now.found.now c.rows.i c.index-found-i.result (found-in c.args.reads.now.tables.now c.args.reads.now.bytes.now c.args.reads.now.base c.args.reads.now.pending.now c.args.reads.now.found.now w old rows f c.rows.i (omega (arith, lt, long))) c.index-found-i.is in
    let none = c.requires.none.1 ∙ tables-count c.args.reads.now.tables.now c.args.reads.now.bytes.now f.added f.tables_of f.stand in
    let segs = segments-in c.args.reads.now.tables.now c.args.reads.now.bytes.now c.args.reads.now.base c.args.reads.now.pending.now c.args.reads.now.found.now w old rows f (flats_in c.view-view.result) (c.view-view.ensures.graph f.added w [] n f.stand_for (none-pending c.args.reads.now.tables.now c.args.reads.now.bytes.now c.args.reads.now.base c.args.reads.now.pending.now c.args.reads.now.found.now w old rows f c.args.none.now none c.requires.none.0)) in
    err-match c.from_residual.result c.in_err-check_row.field-0.0 _ _ c.from_residual.ensures.1
    (check-fail c.args.reads.now.tables.now c.args.reads.now.bytes.now c.args.reads.now.base c.args.reads.now.pending.now c.args.reads.now.found.now w old rows f c.rows.i r.0 r.1 c.index-found-i.result some (flats_in c.view-view.result) segs c.in_err-check_row.field-0.0
    (c.in_err-check_row.ensures f.added f.before (map (held_row (with_pending old rows)) rows) (held_row (with_pending old rows) r.0) n f.base_of (first-before c.args.reads.now.tables.now c.args.reads.now.bytes.now c.args.reads.now.base c.args.reads.now.pending.now c.args.reads.now.found.now w old rows f) f.pending_rows.held r.2)
    (c.rows.invariant w old rows f))

pub rows-preserved : goal.rows-preserved
rows-preserved c = λ w old rows f.
    let n = c.newest-newest.ensures f.added f.tables_of f.stand in
    let lt = c.rows-test.true in
    let long = c.len-i-end.ensures.len (map (held_row (with_pending old rows)) rows) f.pending_rows.held in
    let r = row-of c.args.reads.now.tables.now c.args.reads.now.bytes.now c.args.reads.now.base c.args.reads.now.pending.now c.args.reads.now.found.now w old rows f c.rows.i (omega (arith, lt, long)) in
    let some = get-is c.args.reads.now.found.now c.rows.i c.index-found-i.result (found-in c.args.reads.now.tables.now c.args.reads.now.bytes.now c.args.reads.now.base c.args.reads.now.pending.now c.args.reads.now.found.now w old rows f c.rows.i (omega (arith, lt, long))) c.index-found-i.is in
    let none = c.requires.none.1 ∙ tables-count c.args.reads.now.tables.now c.args.reads.now.bytes.now f.added f.tables_of f.stand in
    let segs = segments-in c.args.reads.now.tables.now c.args.reads.now.bytes.now c.args.reads.now.base c.args.reads.now.pending.now c.args.reads.now.found.now w old rows f (flats_in c.view-view.result) (c.view-view.ensures.graph f.added w [] n f.stand_for (none-pending c.args.reads.now.tables.now c.args.reads.now.bytes.now c.args.reads.now.base c.args.reads.now.pending.now c.args.reads.now.found.now w old rows f c.args.none.now none c.requires.none.0)) in
    check-step c.args.reads.now.tables.now c.args.reads.now.bytes.now c.args.reads.now.base c.args.reads.now.pending.now c.args.reads.now.found.now w old rows f c.rows.i r.0 r.1 c.index-found-i.result some (flats_in c.view-view.result) segs
    (c.in_ok-check_row.ensures f.added f.before (map (held_row (with_pending old rows)) rows) (held_row (with_pending old rows) r.0) n f.base_of (first-before c.args.reads.now.tables.now c.args.reads.now.bytes.now c.args.reads.now.base c.args.reads.now.pending.now c.args.reads.now.found.now w old rows f) f.pending_rows.held r.2)
    (c.rows.invariant w old rows f)

pub returns : goal.returns
returns c = λ w old rows f.
    let ge = c.rows-test.false in
    let long = c.len-i-end.ensures.len (map (held_row (with_pending old rows)) rows) f.pending_rows.held in
    let e = rows-long c.args.reads.now.tables.now c.args.reads.now.bytes.now c.args.reads.now.base c.args.reads.now.pending.now c.args.reads.now.found.now w old rows f in
    check-end c.args.reads.now.tables.now c.args.reads.now.bytes.now c.args.reads.now.base c.args.reads.now.pending.now c.args.reads.now.found.now w old rows f c.rows.i (omega (arith, ge, long, e)) (c.rows.invariant w old rows f)
