use Rattle.std.proofs.Common.{sym, subst, ◌≡◌, true, zero-le}
use Rattle.span_set.specs.Members.{are_filled}
use Rattle.span_set.proofs.Counts.{filled-canonical}
use Rattle.span_set.proofs.set.IdSet.ids_down.Goals as goal

pub invariant_of-result : goal.invariant_of-result
invariant_of-result c = record {
  filled = subst (λ l. are_filled l ≡ true) (sym c.deref.ensures.value) (filled-canonical _ c.self.invariant);
  bound = zero-le;
}
