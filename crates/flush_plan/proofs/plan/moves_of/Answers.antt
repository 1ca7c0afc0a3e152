use Rattle.std.proofs.Common.{◌∙◌, [], List, get_or, sym, subst, ap}
use Rattle.assign_ids.specs.Numbers.{AreBelow, order_of}
use Rattle.assign_ids.specs.declared.graph.Node.{Node}
use Rattle.change_parts.specs.Moves.{rest_of}
use Rattle.flush_plan.proofs.plan.moves_of.Goals as goal

pub rest-requires : goal.rest-requires
rest-requires c =
    subst (AreBelow c.args.n)
    (sym (c.deref.ensures.value ∙ c.in_ok-order.ensures c.args.n c.requires.numbers ∙ ap (λ (g : List (List Node)). order_of (λ k. get_or g k []) c.args.n c.args.numbers.now) c.in_ok-nodes.ensures))
    c.requires.order

pub returns-clause-order : goal.returns-clause-order
returns-clause-order c = c.in_ok-order.ensures c.args.n c.requires.numbers ∙ ap (λ (g : List (List Node)). order_of (λ k. get_or g k []) c.args.n c.args.numbers.now) c.in_ok-nodes.ensures

pub returns-clause-rest : goal.returns-clause-rest
returns-clause-rest c = c.in_ok-rest.ensures ∙ ap (rest_of c.args.n) c.deref.ensures.value
