use Rattle.std.proofs.Common.{◌≡◌, ◌||◌, [], false, get_or, subst, arith}
use Rattle.std.specs.List.{list_any}
use Rattle.strip_plan.specs.Stripping.{is_marked}
use Rattle.strip_plan.proofs.Spreading.{spread-start, spread-more}
use Rattle.strip_plan.proofs.strip.spread.Goals as goal

pub marks-init : goal.marks-init
marks-init c = spread-start c.args.graph.now c.args.marks.items

pub marks-preserved : goal.marks-preserved
marks-preserved c =
    let lt = c.marks-test.true in let long = c.requires.long in
    spread-more c.args.graph.now c.args.marks.items c.marks.marks.items c.marks.k c.goes-is_gone.result (omega (arith, lt, long)) (λ k l. c.requires.rows k (omega (arith, l, long)))
    (subst (λ ms. c.goes-is_gone.result ≡ (get_or ms c.marks.k false || list_any (is_marked ms) (get_or c.args.graph.now c.marks.k []))) c.deref.ensures.value c.goes-is_gone.ensures) c.marks.invariant
