use Rattle.std.proofs.Common.{List, ℕ, ap, ◌∙◌, arith}
use Rattle.name_map.specs.Part.{count_below}
use Rattle.name_map.proofs.Ids.{fits-count, listed-ascend}
use Rattle.name_map.proofs.part.Part.count_to.Goals as goal
use Rattle.name_map.proofs.part.Part.count_to.Goals.{in-All, in-Listed}

pub count_among-count-requires : goal.count_among-count-requires
count_among-count-requires c = listed-ascend c.self.inside.first c.self.inside.ids c.in-Listed.ids c.deref.result.now c.self.invariant.ascend c.in-Listed.is c.deref.ensures.value

pub overflow_add-result : goal.overflow_add-result
overflow_add-result c =
    elim c.match-self.branch [
      | in-All w ↦ let small = fits-count c.args.number c.self.inside.rank c.self.inside.first c.self.inside.ids _ _ c.self.invariant.counts w.in-All.is (w.count-is ∙ w.count_in_row-count.ensures) in omega (arith, small)
      | in-Listed w ↦
          let same = w.count-is ∙ w.count_among-count.ensures ∙ ap (λ (z : List ℕ). count_below c.args.number z) w.deref.ensures.value in
          let small = fits-count c.args.number c.self.inside.rank c.self.inside.first c.self.inside.ids _ _ c.self.invariant.counts w.in-Listed.is same in omega (arith, small)
    ]
