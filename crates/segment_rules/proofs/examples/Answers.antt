use Rattle.segment_rules.proofs.Worked.{rootless, ladder}
use Rattle.segment_rules.proofs.examples.Goals as goal

pub returns-clause-rootless : goal.returns-clause-rootless
returns-clause-rootless c = rootless

pub returns-clause-ladder : goal.returns-clause-ladder
returns-clause-ladder c = ladder
