use Rattle.std.proofs.Common.{arith, subst}
use Rattle.std.specs.List.{AllZip}
use Rattle.rebase_pending.specs.Rebasing.{IsAt}
use Rattle.change_parts.proofs.Marking.{all-taken}
use Rattle.rebase_pending.proofs.Moved.{zip-more}
use Rattle.commit_graph.proofs.Places.{read-at}
use Rattle.rebase_pending.proofs.rebasing.stored_parents.Goals as goal

pub returns-in_default : goal.returns-in_default
returns-in_default c = λ added before n b e. (c.parent-item.result, read-at c.args.parents.now c.parents.parent-index c.parent-item.result c.parents-test.true c.parent-item.is, c.in_default.ensures added before n b e)

pub parents-preserved : goal.parents-preserved
parents-preserved c = λ added before n b e. zip-more (IsAt before added c.args.first c.args.found.now) c.args.parents.now c.parents.parent-index c.parent-item.result c.parents.stored.items _ c.push.new.self.items
    c.parents-test.true c.parent-item.is (c.parents.invariant added before n b e) (c.in-Some.ensures added before n b e) c.in_ok-push.ensures.items

pub returns : goal.returns
returns c = λ added before n b e. subst (λ l. AllZip (IsAt before added c.args.first c.args.found.now) l c.parents.stored.items) (all-taken c.args.parents.now c.parents.parent-index (let ge = c.parents-test.false in omega (arith, ge))) (c.parents.invariant added before n b e)
