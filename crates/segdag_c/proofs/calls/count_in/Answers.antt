use Rattle.set_expr.specs.Whole.{tree_of}
use Rattle.segdag_c.specs.Mirrors.{shown_all}
use Rattle.segdag_c.proofs.Beside.{counts}
use Rattle.segdag_c.proofs.calls.count_in.Goals as goal

pub returns-in-Ok-clause-does : goal.returns-in-Ok-clause-does
returns-in-Ok-clause-does c =
    counts (shown_all c.args.mirrors.now.list.items) (shown_all c.count.new.mirrors.list.items) c.args.store.now c.count.new.self c.args.session (tree_of c.args.expr.now) c.in-Ok.answer c.count-in-Ok.result c.in-Ok.ensures.kept
    c.in-Ok.ensures.asks c.count-in-Ok.ensures c.in-Ok.ensures.step

pub returns-in-Err-clause-does : goal.returns-in-Err-clause-does
returns-in-Err-clause-does c = (c.in-Err.ensures.kept, c.in-Err.ensures.step, c.in-Err.ensures.asks)
