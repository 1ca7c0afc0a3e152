use Rattle.std.proofs.Common.{◌∙◌, ◌-◌, ◌<◌, arith, length, get_or, set, sym, subst}
use Rattle.std.proofs.lemmas.List.{length-set}
use Rattle.assign_ids.proofs.NumberLemmas.{below-at}
use Rattle.change_parts.proofs.Marking.{NumberedBy, number-next}
use Rattle.change_parts.proofs.numbers.numbered.Goals as goal

pub index_mut-requires : goal.index_mut-requires
index_mut-requires c =
    let lt = c.numbers-test.true in let le = c.numbers.auto.i in
    let b = below-at (length c.args.ids.items) c.args.numbers.now (c.numbers.i - 1) (omega (arith, lt, le)) c.requires.below in
    let len = c.numbers.invariant.len in let ok = c.numbers.ids.ok.0 in omega (arith, b, len, ok)

pub numbers-preserved : goal.numbers-preserved
numbers-preserved c =
    let lt = c.numbers-test.true in let le = c.numbers.auto.i in record {
      len = length-set _ _ _ ∙ c.numbers.invariant.len;
      ids = λ k in_ids.
          subst (λ v. NumberedBy (set c.numbers.ids.items (get_or c.args.numbers.now (c.numbers.i - 1) 0) v) c.args.numbers.now c.args.first c.args.ids.items (c.numbers.i - 1) k) (sym c.from_number.ensures)
          (number-next c.numbers.ids.items c.args.ids.items c.args.numbers.now c.args.first c.numbers.i (c.numbers.i - 1) k (omega (arith, lt)) le (subst (λ n. k < n) (sym c.numbers.invariant.len) in_ids) (c.numbers.invariant.ids k in_ids));
    }
