use Rattle.std.proofs.Common.{◌∙◌, ◌<◌, replicate, false, nat_eq, ap, take, subst, sym, arith}
use Rattle.id_groups.specs.Lists.{is_in}
use Rattle.assign_ids.proofs.NumberLemmas.{below-at}
use Rattle.std.proofs.lemmas.List.{length-set}
use Rattle.change_parts.proofs.Marking.{mark-next, unmarked-first, all-taken}
use Rattle.change_parts.proofs.numbers.marks_of.Goals as goal

pub index_mut-requires : goal.index_mut-requires
index_mut-requires c =
    let lt = below-at c.args.n c.args.numbers.now c.numbers.number-index c.numbers-test.true c.requires in
    let len = c.numbers.invariant.len in let ok = c.numbers.marks.ok.0 in omega (arith, lt, len, ok)

pub numbers-preserved : goal.numbers-preserved
numbers-preserved c = record {
  len = length-set _ _ _ ∙ c.numbers.invariant.len;
  marked = λ k lt. mark-next (replicate c.args.n false) c.numbers.marks.items c.args.numbers.now c.numbers.number-index k c.numbers-test.true (subst (λ n. k < n) (sym c.numbers.invariant.len) lt) (c.numbers.invariant.marked k lt);
}

pub returns-clause-marked : goal.returns-clause-marked
returns-clause-marked c = λ k lt.
    c.numbers.invariant.marked k lt ∙ unmarked-first c.args.n k lt (is_in nat_eq k (take c.numbers.number-index c.args.numbers.now))
    ∙ ap (is_in nat_eq k) (all-taken c.args.numbers.now c.numbers.number-index (let ge = c.numbers-test.false in omega (arith, ge)))
