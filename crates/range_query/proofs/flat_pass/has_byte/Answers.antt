use Rattle.std.proofs.Common.{subst, sym, ⊎_elim}
use Rattle.std.proofs.lemmas.List.{nil_from_length}
use Rattle.id_groups.specs.Lists.{IsIn}
use Rattle.range_query.proofs.flat_pass.has_byte.Goals as goal

pub each-preserved : goal.each-preserved
each-preserved c = λ i. ⊎_elim (λ e. absurd (c.if-first-byte.false (sym e))) (λ r. r) (subst (IsIn c.args.byte) c.in-Some.ensures.cases.0 (c.each.invariant i))

pub returns : goal.returns
returns c = λ f i. subst (IsIn c.args.byte) (nil_from_length c.each.rest.now c.in_default.ensures.cases) (c.each.invariant i)
