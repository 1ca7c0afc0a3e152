use Rattle.std.proofs.Common.{◌<◌, ◌≤◌, ◌+◌, length, sym, subst}
use Rattle.std.specs.List.{AllByRecursion}
use Rattle.id_groups.specs.Id.{other_id}
use Rattle.payload_tables.proofs.Rows.{count-rows}
use Rattle.rebase_pending.proofs.Stepping.{parents-under, moved-few, some-few, moved-under}
use Rattle.rebase_pending.proofs.rebasing.left_row.Goals as goal

pub row_parents-requires-clause-row : goal.row_parents-requires-clause-row
row_parents-requires-clause-row c =
    let q = c.requires.row in
    (q.5.rows, q.6, q.5.held, q.8, parents-under q.0 q.1 c.args.reads.now.base c.args.reads.now.pending.now q.2 q.3 q.4 q.5 c.args.newest.now q.7 c.args.i q.6 q.8 c.args.ids.now c.args.left.now q.9)

pub keep_row-requires-clause-few : goal.keep_row-requires-clause-few
keep_row-requires-clause-few c =
    let q = c.requires.row in
    let z = c.in_ok-moved.ensures q.3 q.4 q.5.rows q.6 q.7 q.5.base_of q.5.first q.5.held q.8 in
    subst (λ l. length l ≤ 8) (sym c.deref.ensures.value)
    (moved-few q.0 q.1 c.args.reads.now.base c.args.reads.now.pending.now q.2 q.3 q.4 q.5 c.args.newest.now q.7 c.args.i q.6 q.8 c.args.ids.now c.args.left.now q.9 c.in_ok-moved.moved.items z)

pub keep_row-requires-clause-rows : goal.keep_row-requires-clause-rows
keep_row-requires-clause-rows c =
    let q = c.requires.row in
    (q.9.some, q.9.held, some-few q.0 q.1 c.args.reads.now.base c.args.reads.now.pending.now q.2 q.3 q.4 q.5 c.args.newest.now q.7 c.args.i q.6 q.8 c.args.ids.now c.args.left.now q.9)

pub keep_row-requires-clause-below : goal.keep_row-requires-clause-below
keep_row-requires-clause-below c =
    let q = c.requires.row in
    let z = c.in_ok-moved.ensures q.3 q.4 q.5.rows q.6 q.7 q.5.base_of q.5.first q.5.held q.8 in
    subst (λ l. AllByRecursion (λ p. p < other_id (c.args.left.now.first + length c.args.left.now.places)) l) (sym c.deref.ensures.value)
    (moved-under q.0 q.1 c.args.reads.now.base c.args.reads.now.pending.now q.2 q.3 q.4 q.5 c.args.newest.now q.7 c.args.i q.6 q.8 c.args.ids.now c.args.left.now q.9 c.in_ok-moved.moved.items z (length c.args.left.now.places) (count-rows c.args.left.now q.9.some q.9.held))
