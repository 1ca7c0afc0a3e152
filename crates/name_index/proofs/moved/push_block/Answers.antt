use Rattle.std.proofs.Common.{◌∙◌, ◌+◌, Some, None, refl, subst, sym, take, replicate, arith}
use Rattle.std.proofs.lemmas.List.{length-set, length-take, take_more_set}
use Rattle.name_index.specs.Moved.{AreNumbers}
use Rattle.name_index.proofs.Thinning.{all-numbers, none-told}
use Rattle.name_index.proofs.moved.push_block.Goals as goal

pub returns-then-first : goal.returns-then-first
returns-then-first c = record { numbers = replicate 64 None; count_is = refl; appended = c.in_ok-extend_from_slice.ensures.items; are = none-told 64 c.args.first }

pub numbers-preserved : goal.numbers-preserved
numbers-preserved c =
    let numbers = c.numbers.numbers in
    let k = c.numbers.k in
    let size = c.numbers.invariant.0 in
    let less = c.numbers-test.true in
    let many = length-take k numbers in (
      length-set numbers k (Some (c.args.first + k)) ∙ size,
      subst (AreNumbers c.args.first) (sym (take_more_set numbers k (Some (c.args.first + k)) (omega (arith, less, size))))
          (all-numbers c.args.first (c.args.first + k) (take k numbers) (Some (c.args.first + k)) c.numbers.invariant.1 (omega (arith, many, less, size)) refl),
    )
