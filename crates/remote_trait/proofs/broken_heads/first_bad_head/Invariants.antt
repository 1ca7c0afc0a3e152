use Rattle.std.proofs.Common.{◌≡◌, ◌+◌, drop}
use Rattle.remote_rules.specs.CloneData.{first_false, heads_fit}
use Rattle.remote_trait.proofs.broken_heads.first_bad_head.Given as goal

abbrev pub invariant-heads : goal.invariant-heads
invariant-heads l = first_false l.first (heads_fit l.names l.ids l.heads) ≡ first_false (l.first + l.k) (heads_fit l.names (drop l.k l.ids) (drop l.k l.heads))
