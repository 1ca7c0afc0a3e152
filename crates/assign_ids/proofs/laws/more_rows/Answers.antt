use Rattle.std.proofs.Common.{[]}
use Rattle.assign_ids.proofs.NumberLemmas.{more-rows}
use Rattle.assign_ids.proofs.laws.more_rows.Goals as goal

pub returns : goal.returns
returns c = λ parents n more heads older below le. more-rows parents older n more [] heads below le
