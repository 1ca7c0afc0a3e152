use Rattle.std.proofs.Common.{inr, arith, subst}
use Rattle.std.specs.List.{AllZip}
use Rattle.rebase_pending.specs.Rebasing.{IsMoved}
use Rattle.change_parts.proofs.Marking.{all-taken}
use Rattle.rebase_pending.proofs.Moved.{zip-more}
use Rattle.change_parts.proofs.Refusals.{err-match}
use Rattle.rebase_pending.proofs.Stepping.{get-is}
use Rattle.rebase_pending.proofs.rebasing.moved_parents.Goals as goal

pub returns-in_err-id : goal.returns-in_err-id
returns-in_err-id c = λ added before n b e.
    err-match c.from_residual-in_err-id.result c.in_err-id.field-0.0 _ _ c.from_residual-in_err-id.ensures.1
    (inr (record {
      k = c.parents.parent-index;
      parent = c.parent-item.result;
      moved = c.parents.moved.items;
      parent_at = get-is c.args.parents.now c.parents.parent-index c.parent-item.result c.parents-test.true c.parent-item.is;
      front = c.parents.invariant added before n b e;
      lost = c.in_err-id.ensures added before n b e;
    }))

pub parents-preserved : goal.parents-preserved
parents-preserved c = λ added before n b e. zip-more (IsMoved before added c.args.first c.args.ids.now) c.args.parents.now c.parents.parent-index c.parent-item.result c.parents.moved.items _ c.add_id.new.ids.items
    c.parents-test.true c.parent-item.is (c.parents.invariant added before n b e) (c.in_ok-id.ensures added before n b e) c.in_ok-add_id.ensures

pub returns : goal.returns
returns c = λ added before n b e. subst (λ l. AllZip (IsMoved before added c.args.first c.args.ids.now) l c.parents.moved.items) (all-taken c.args.parents.now c.parents.parent-index (let ge = c.parents-test.false in omega (arith, ge))) (c.parents.invariant added before n b e)
