use Rattle.std.proofs.Common.{arith}
use Rattle.ancestor_query.proofs.WindowLemmas.{none-left, low-under, top-is}
use Rattle.ancestor_query.proofs.work_list.Window.greatest.Goals as goal

pub returns-then-self-eq0 : goal.returns-then-self-eq0
returns-then-self-eq0 c = none-left c.self.inside.end c.self.inside.bits c.args.self.now c.self.view_is c.if-self-eq0.true

pub overflow_sub-self-inside : goal.overflow_sub-self-inside
overflow_sub-self-inside c =
    let lt = low-under c.self.inside.end c.self.inside.bits c.from-place.result c.self.invariant.0 c.if-self-eq0.false c.self.invariant.2 c.from-place.ensures in omega (arith, lt)

pub overflow_sub-self-inside-2 : goal.overflow_sub-self-inside-2
overflow_sub-self-inside-2 c =
    let lt = low-under c.self.inside.end c.self.inside.bits c.from-place.result c.self.invariant.0 c.if-self-eq0.false c.self.invariant.2 c.from-place.ensures in omega (arith, lt)

pub returns : goal.returns
returns c =
    let inside = c.self.invariant in
    top-is c.self.inside.end c.self.inside.bits c.from-place.result c.from_number.result c.args.self.now inside.0 c.if-self-eq0.false inside.2 c.self.view_is c.from-place.ensures
    c.from_number.ensures
