use Rattle.segment_codec.specs.Turns.{MayStandAt}
use Rattle.segment_codec.proofs.Turns.{none-broken}
use Rattle.batch_codec.proofs.Turns.{stand-in-turn, turn-stands}
use Rattle.batch_codec.proofs.laws.sections_by_records.Goals as goal

pub returns-clause-turn : goal.returns-clause-turn
returns-clause-turn c = stand-in-turn

pub returns-clause-whole : goal.returns-clause-whole
returns-clause-whole c = turn-stands

pub returns-clause-broken : goal.returns-clause-broken
returns-clause-broken c = λ first. none-broken (MayStandAt first)
