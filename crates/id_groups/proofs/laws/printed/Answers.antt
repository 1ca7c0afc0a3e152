-- The texts compute.
use Rattle.std.proofs.Common.{refl}
use Rattle.std.specs.Fmt.{digits}
use Rattle.hex.specs.Hex.{encode_with}
use Rattle.hex.proofs.OnLiterals.{hex_on_literals}
use Rattle.id_groups.proofs.laws.printed.Goals as goal

pub returns-clause-master : goal.returns-clause-master
unfolding digits
returns-clause-master c = refl

pub returns-clause-other : goal.returns-clause-other
unfolding digits
returns-clause-other c = refl

pub returns-clause-name : goal.returns-clause-name
unfolding encode_with
returns-clause-name c = refl

pub returns-clause-upper : goal.returns-clause-upper
unfolding hex_on_literals
returns-clause-upper c = (refl, refl)
