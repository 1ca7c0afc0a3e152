use Rattle.std.proofs.Common.{◌≡◌, ◌||◌, ℕ, take, nat_eq}
use Rattle.id_groups.specs.Lists.{is_in}
use Rattle.remote_trait.specs.Marked.{has}
use Rattle.remote_trait.proofs.broken_heads.add_all.Given as goal

abbrev pub invariant-numbers : goal.invariant-numbers
invariant-numbers l = (q : ℕ) → has l.set q ≡ (has l.fn.set q || is_in nat_eq q (take l.k l.numbers))
