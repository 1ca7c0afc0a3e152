use Rattle.std.proofs.Common.{ℕ, ◌↔◌, take}
use Rattle.id_groups.specs.Lists.{IsIn}
use Rattle.span_set.specs.Members.{IsMember, IsCanonical}
use Rattle.set_query.proofs.unions.set_of.Given as goal

abbrev pub invariant-each : goal.invariant-each
invariant-each l = record {
  canonical : IsCanonical l.set;
  exact : (x : ℕ) → IsMember l.set x ↔ IsIn x (take l.id-index l.ids);
}
