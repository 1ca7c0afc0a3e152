use Rattle.std.proofs.Common.{◌≡◌, ◌+◌, ◌∙◌, ◌⊎◌, [], map, take, sym, subst, arith}
use Rattle.commit_graph.specs.World.{with_pending}
use Rattle.payload_tables.specs.Bases.{held_row}
use Rattle.payload_tables.proofs.Rows.{get-below}
use Rattle.change_parts.specs.declared.fault.PlanFault.TheVariants.{Memory}
use Rattle.rebase_pending.specs.Rebasing.{IsRebased, IsNotLeft, LeftSoFar}
use Rattle.change_parts.proofs.Refusals.{err-match}
use Rattle.rebase_pending.proofs.Rebased.{LeftIn}
use Rattle.rebase_pending.proofs.Stepping.{found-under, get-is, first-left, so-far-more, stored-left}
use Rattle.change_parts.proofs.TableFacts.{tables-count}
use Rattle.rebase_pending.proofs.OnWorlds.{first-before, world-start, world-end, rows-long, row-of, found-in, world-more, world-fault}
use Rattle.rebase_pending.proofs.rebasing.keep_rows.Goals as goal

pub rows-init : goal.rows-init
rows-init c = (
  λ added before m. subst (λ q. LeftSoFar added [] q c.args.left.now) (sym c.requires.ids)
      (first-left added c.args.left.now (c.requires.left.1 ∙ tables-count c.args.reads.now.tables.now c.args.reads.now.bytes.now added m.tables_of m.stand) c.requires.left.0),
  λ w old rows f. subst (λ q. LeftIn w [] q c.args.left.now) (sym c.requires.ids)
      (world-start c.args.reads.now.tables.now c.args.reads.now.bytes.now c.args.reads.now.base c.args.reads.now.pending.now c.args.reads.now.found.now w old rows f c.args.left.now (c.requires.left.1 ∙ tables-count c.args.reads.now.tables.now c.args.reads.now.bytes.now f.added f.tables_of f.stand) c.requires.left.0),
)

pub bounds-found-i : goal.bounds-found-i
bounds-found-i c =
    let m = c.requires.rebase.2 in
    let lt = c.rows-test.true in
    let long = c.len-i-end.ensures.len m.rows m.held in
    found-under c.requires.rebase.0 m.rows c.args.reads.now.found.now c.rows.i m.found_are (omega (arith, lt, long))

pub left_row-requires-clause-row : goal.left_row-requires-clause-row
left_row-requires-clause-row c =
    let m = c.requires.rebase.2 in
    let lt = c.rows-test.true in
    let long = c.len-i-end.ensures.len m.rows m.held in
    let at = get-below m.rows c.rows.i (omega (arith, lt, long)) in (
      c.args.reads.now.tables.now,
      c.args.reads.now.bytes.now,
      c.args.reads.now.found.now,
      c.requires.rebase.0,
      c.requires.rebase.1,
      m,
      at.0,
      c.newest-newest.ensures c.requires.rebase.0 m.tables_of m.stand,
      at.1,
      subst (λ q. LeftSoFar c.requires.rebase.0 (take c.rows.i m.rows) q c.rows.left) (sym c.deref.ensures.value) (c.rows.invariant.0 c.requires.rebase.0 c.requires.rebase.1 m),
    )

pub returns-in_err-id-clause-worlds : goal.returns-in_err-id-clause-worlds
returns-in_err-id-clause-worlds c = λ w old rows f.
    let n = c.newest-newest.ensures f.added f.tables_of f.stand in
    let lt = c.rows-test.true in
    let long = c.len-i-end.ensures.len (map (held_row (with_pending old rows)) rows) f.pending_rows.held in
    let r = row-of c.args.reads.now.tables.now c.args.reads.now.bytes.now c.args.reads.now.base c.args.reads.now.pending.now c.args.reads.now.found.now w old rows f c.rows.i (omega (arith, lt, long)) in
    let some = get-is c.args.reads.now.found.now c.rows.i c.index-found-i.result (found-in c.args.reads.now.tables.now c.args.reads.now.bytes.now c.args.reads.now.base c.args.reads.now.pending.now c.args.reads.now.found.now w old rows f c.rows.i (omega (arith, lt, long))) c.index-found-i.is in
    let why = subst (λ q. (c.in_err-id.field-0.0 ≡ Memory) ⊎ IsNotLeft f.before f.added c.args.reads.now.pending.now.first q c.index-found-i.result (held_row (with_pending old rows) r.0) c.in_err-id.field-0.0) c.deref.ensures.value
    (c.in_err-id.ensures f.added f.before (map (held_row (with_pending old rows)) rows) (held_row (with_pending old rows) r.0) n f.base_of (first-before c.args.reads.now.tables.now c.args.reads.now.bytes.now c.args.reads.now.base c.args.reads.now.pending.now c.args.reads.now.found.now w old rows f) f.pending_rows.held r.2) in
    err-match c.from_residual.result c.in_err-id.field-0.0 _ _ c.from_residual.ensures.1
    (world-fault c.args.reads.now.tables.now c.args.reads.now.bytes.now c.args.reads.now.base c.args.reads.now.pending.now c.args.reads.now.found.now w old rows f c.rows.i r.0 r.1 c.index-found-i.result some c.rows.ids.items c.rows.left (c.rows.invariant.1 w old rows f) c.in_err-id.field-0.0 why)

pub rows-preserved : goal.rows-preserved
rows-preserved c = (
  λ added before m.
      let n = c.newest-newest.ensures added m.tables_of m.stand in
      let lt = c.rows-test.true in
      let long = c.len-i-end.ensures.len m.rows m.held in
      let at = get-below m.rows c.rows.i (omega (arith, lt, long)) in
      let some = get-is c.args.reads.now.found.now c.rows.i c.index-found-i.result (found-under added m.rows c.args.reads.now.found.now c.rows.i m.found_are (omega (arith, lt, long))) c.index-found-i.is in
      let h = subst (λ q. IsRebased before added c.args.reads.now.pending.now.first q c.index-found-i.result c.rows.left c.left_row.new.left at.0 c.in_ok-id.id) c.deref.ensures.value
      (c.in_ok-id.ensures added before m.rows at.0 n m.base_of m.first m.held at.1) in
      subst (λ q. LeftSoFar added (take (c.rows.i + 1) m.rows) q c.left_row.new.left) (sym c.in_ok-add_id.ensures)
      (so-far-more c.args.reads.now.tables.now c.args.reads.now.bytes.now c.args.reads.now.base c.args.reads.now.pending.now c.args.reads.now.found.now added before m c.newest-newest.result n c.rows.i at.0 at.1 c.rows.ids.items c.rows.left (c.rows.invariant.0 added before m) c.left_row.new.left c.index-found-i.result some c.in_ok-id.id h),
  λ w old rows f.
      let n = c.newest-newest.ensures f.added f.tables_of f.stand in
      let lt = c.rows-test.true in
      let long = c.len-i-end.ensures.len (map (held_row (with_pending old rows)) rows) f.pending_rows.held in
      let r = row-of c.args.reads.now.tables.now c.args.reads.now.bytes.now c.args.reads.now.base c.args.reads.now.pending.now c.args.reads.now.found.now w old rows f c.rows.i (omega (arith, lt, long)) in
      let some = get-is c.args.reads.now.found.now c.rows.i c.index-found-i.result (found-in c.args.reads.now.tables.now c.args.reads.now.bytes.now c.args.reads.now.base c.args.reads.now.pending.now c.args.reads.now.found.now w old rows f c.rows.i (omega (arith, lt, long))) c.index-found-i.is in
      let h = subst (λ q. IsRebased f.before f.added c.args.reads.now.pending.now.first q c.index-found-i.result c.rows.left c.left_row.new.left (held_row (with_pending old rows) r.0) c.in_ok-id.id) c.deref.ensures.value
      (c.in_ok-id.ensures f.added f.before (map (held_row (with_pending old rows)) rows) (held_row (with_pending old rows) r.0) n f.base_of (first-before c.args.reads.now.tables.now c.args.reads.now.bytes.now c.args.reads.now.base c.args.reads.now.pending.now c.args.reads.now.found.now w old rows f) f.pending_rows.held r.2) in
      subst (λ q. LeftIn w (take (c.rows.i + 1) rows) q c.left_row.new.left) (sym c.in_ok-add_id.ensures)
      (world-more c.args.reads.now.tables.now c.args.reads.now.bytes.now c.args.reads.now.base c.args.reads.now.pending.now c.args.reads.now.found.now w old rows f c.rows.i r.0 r.1 c.index-found-i.result some c.rows.ids.items c.rows.left (c.rows.invariant.1 w old rows f) c.left_row.new.left c.in_ok-id.id h),
)

pub returns-clause-worlds : goal.returns-clause-worlds
returns-clause-worlds c = λ w old rows f.
    let ge = c.rows-test.false in
    let long = c.len-i-end.ensures.len (map (held_row (with_pending old rows)) rows) f.pending_rows.held in
    let e = rows-long c.args.reads.now.tables.now c.args.reads.now.bytes.now c.args.reads.now.base c.args.reads.now.pending.now c.args.reads.now.found.now w old rows f in
    world-end c.args.reads.now.tables.now c.args.reads.now.bytes.now c.args.reads.now.base c.args.reads.now.pending.now c.args.reads.now.found.now w old rows f c.rows.i c.rows.ids.items c.rows.left (omega (arith, ge, long, e)) (c.rows.invariant.1 w old rows f)

pub returns-clause-left : goal.returns-clause-left
returns-clause-left c = λ added before m. stored-left added (take c.rows.i m.rows) c.rows.ids.items c.rows.left (c.rows.invariant.0 added before m)
