use Rattle.std.proofs.Common.{subst}
use Rattle.std.specs.List.Sorted.{IsStrictlyIncreasing}
use Rattle.remote_trait.proofs.Apart.{names-apart}
use Rattle.remote_trait.proofs.fronts.have_own_fronts.Goals as goal

pub returns : goal.returns
returns c = λ own.
    names-apart c.args.names.now c.in_ok-fronts.fronts.items c.sort_unstable.new.self.items c.in_ok-fronts.ensures c.sort_unstable.ensures.permutation
    (subst IsStrictlyIncreasing c.deref.ensures.value (c.rise.ensures own))
