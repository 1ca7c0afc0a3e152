use Rattle.compact_rules.proofs.Wholes.{whole-held, whole-same, whole-once, held-some}
use Rattle.compact_rules.proofs.wholes_are_held.Goals as goal

pub returns-clause-hold : goal.returns-clause-hold
returns-clause-hold c = whole-held

pub returns-clause-same : goal.returns-clause-same
returns-clause-same c = whole-same

pub returns-clause-once : goal.returns-clause-once
returns-clause-once c = whole-once

pub returns-clause-some : goal.returns-clause-some
returns-clause-some c = held-some
