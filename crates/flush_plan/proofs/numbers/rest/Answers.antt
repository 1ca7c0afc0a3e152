use Rattle.std.proofs.Common.{◌∙◌, false, not, ap, get_or, nat_eq, arith}
use Rattle.id_groups.specs.Lists.{is_in}
use Rattle.name_map.specs.Part.{upward}
use Rattle.change_parts.proofs.Marking.{filter-same}
use Rattle.change_parts.proofs.Moving.{upward-below}
use Rattle.flush_plan.proofs.numbers.rest.Goals as goal

pub returns : goal.returns
returns c =
    c.in_ok-rest.ensures
    ∙ filter-same (λ k. not (get_or c.deref.result.now k false)) (λ k. not (is_in nat_eq k c.args.order.now)) c.args.n (upward 0 c.args.n) (upward-below 0 c.args.n c.args.n (omega arith))
    (λ k lt. ap not (ap (λ l. get_or l k false) c.deref.ensures.value ∙ c.in_ok-moves.ensures.marked k lt))
