use Rattle.std.proofs.Common.{◌∷◌, ◌∙◌, ℕ, List, ap, ltb}
use Rattle.segment_codec.specs.Lent.{parents_left}
use Rattle.segment_codec.proofs.Orders.{two-rise}
use Rattle.segment_codec.proofs.reading.are_two_in_order.Goals as goal

pub returns : goal.returns
returns c =
    ap (λ n. ltb n c.number-3.result) c.number-2.ensures.number ∙ ap (λ n. ltb c.in-Some.first n) c.number-3.ensures.number
    ∙ two-rise c.args.level c.in-Some.first c.in-Some-next.second (parents_left c.args.parents) (parents_left c.next-2.new.self) c.if-level-eq0.false
    (c.in-Some.ensures.steps ∙ ap (λ (z : List ℕ). c.in-Some.first ∷ z) c.in-Some-next.ensures.steps) c.requires
