use Rattle.std.proofs.Common.{arith, sym, subst, ℕ, List, ◌≡◌, ap, false, true, nat_eq}
use Rattle.std.proofs.Math.ListN.{get_or, set}
use Rattle.std.proofs.lemmas.List.{length-set}
use Rattle.id_groups.specs.Lists.{is_in}
use Rattle.assign_ids.specs.Progress.{Progress}
use Rattle.assign_ids.proofs.Orders.{flags-placed}
use Rattle.assign_ids.proofs.order.Order.push.Goals as goal

pub invariant_of-self-2 : goal.invariant_of-self-2
invariant_of-self-2 c = λ k lt.
    let size = ap (λ (seen : Progress). seen.size) c.self.view_is in let within = c.requires in let less = length-set c.self.inside.is_placed.items c.args.number true in
    subst (λ (numbers : List ℕ). get_or (set c.self.inside.is_placed.items c.args.number true) k false ≡ is_in nat_eq k numbers) (sym (c.in_ok-push.ensures.items))
    (flags-placed c.self.inside.is_placed.items c.self.inside.numbers.items c.args.number (omega (arith, size, within)) c.self.invariant k (omega (arith, lt, less)))
