use Rattle.std.proofs.Common.{refl}
use Rattle.name_index.specs.Runs.{front_of, leading, mixed}
use Rattle.name_index.proofs.laws.keys_spelled_out.Goals as goal

pub returns-clause-key : goal.returns-clause-key
unfolding front_of leading mixed
returns-clause-key c = refl

pub returns-clause-short : goal.returns-clause-short
unfolding front_of leading mixed
returns-clause-short c = refl

pub returns-clause-read : goal.returns-clause-read
returns-clause-read c = refl
