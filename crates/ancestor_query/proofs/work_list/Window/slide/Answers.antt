use Rattle.std.proofs.Common.{arith, refl}
use Rattle.ancestor_query.proofs.WindowLemmas.{none-left, emptied-keeps, moved-numbers, moved-small, moved-keeps, moved-under, all-under}
use Rattle.ancestor_query.proofs.work_list.Window.slide.Goals as goal

pub invariant_of-self-then-below-self : goal.invariant_of-self-then-below-self
invariant_of-self-then-below-self c =
    let inside = c.self.invariant in
    let lower = c.if-below-self.true in
    let within = inside.1 in (
      moved-numbers c.self.inside.end c.self.inside.bits c.args.below c.shifted_down-self-inside.result inside.0 lower c.shifted_down-self-inside.ensures,
      omega (arith, lower, within),
      moved-small c.self.inside.end c.self.inside.bits c.args.below c.shifted_down-self-inside.result inside.2 c.shifted_down-self-inside.ensures,
    )

pub returns-then-self-eq0-clause-keeps : goal.returns-then-self-eq0-clause-keeps
returns-then-self-eq0-clause-keeps c =
    emptied-keeps c.self.inside.end c.self.inside.bits c.min-self-inside.result c.args.below c.args.self.now c.self.view_is c.if-self-eq0.true

pub returns-then-self-eq0-clause-under : goal.returns-then-self-eq0-clause-under
returns-then-self-eq0-clause-under c = λ x i. absurd (none-left c.min-self-inside.result c.self.inside.bits _ refl c.if-self-eq0.true x i)

pub returns-then-below-self-clause-keeps : goal.returns-then-below-self-clause-keeps
returns-then-below-self-clause-keeps c =
    moved-keeps c.self.inside.end c.self.inside.bits c.args.below c.shifted_down-self-inside.result c.args.self.now c.self.invariant.0 c.self.invariant.2 c.self.view_is c.if-below-self.true
    c.shifted_down-self-inside.ensures

pub returns-then-below-self-clause-under : goal.returns-then-below-self-clause-under
returns-then-below-self-clause-under c =
    moved-under c.self.inside.end c.self.inside.bits c.args.below c.shifted_down-self-inside.result c.self.invariant.0 c.if-below-self.true c.shifted_down-self-inside.ensures

pub returns-else-below-self-clause-under : goal.returns-else-below-self-clause-under
returns-else-below-self-clause-under c =
    let high = c.if-below-self.false in all-under c.self.inside.end c.self.inside.bits c.args.self.now c.args.below c.self.invariant.0 c.self.view_is (omega (arith, high))
