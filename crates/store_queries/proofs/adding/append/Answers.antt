use Rattle.std.proofs.Common.{refl, arith}
use Rattle.store_queries.proofs.AddingRows.{either-group}
use Rattle.store_queries.proofs.adding.append.Goals as goal

pub returns-then-count-most-clause-appends : goal.returns-then-count-most-clause-appends
returns-then-count-most-clause-appends c = λ rows h fresh.
    let n = c.len-count.ensures.len rows h in let t = c.if-count-most.true in (omega (arith, n, t), refl, c.from.ensures)

pub push_new-requires-clause-row : goal.push_new-requires-clause-row
push_new-requires-clause-row c = record {
  room = (let n = c.len-count.ensures.places in let t = c.if-count-most.false in let m = c.requires.limit in omega (arith, n, t, m));
  few = c.requires.parents.few;
  distinct = c.requires.parents.distinct;
  below = c.requires.parents.below;
  ids = either-group c.args.parents.now;
}

pub returns-in_default-clause-appends : goal.returns-in_default-clause-appends
returns-in_default-clause-appends c = λ rows h fresh. tt

pub returns-clause-appends : goal.returns-clause-appends
returns-clause-appends c = λ rows h fresh.
    let n = c.len-count.ensures.len rows h in let t = c.if-count-most.false in (
      omega (arith, n, t),
      (let a = c.other-id.ensures in let b = c.first.ensures in let d = c.from-2.ensures in omega (arith, a, b, d, n)),
      c.in-Ok.ensures.first,
      c.in-Ok.ensures.pushed rows h fresh,
    )
