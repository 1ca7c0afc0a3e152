use Rattle.std.proofs.Common.{◌≡◌, map, take}
use Rattle.remote_rules.specs.CloneData.{KnownName}
use Rattle.remote_trait.specs.Fronts.{front_of}
use Rattle.remote_trait.proofs.fronts.fronts_of.Given as goal

abbrev pub invariant-names : goal.invariant-names
invariant-names l = l.fronts.items ≡ map (λ (k : KnownName). front_of k.name) (take l.k l.names)
