use Rattle.segment_levels.proofs.Coming.{new-behind, new-all}
use Rattle.segment_levels.proofs.Continuing.{flats-grow}
use Rattle.segment_levels.proofs.laws.new_levels_are_behind.Goals as goal

pub returns-clause-behind : goal.returns-clause-behind
returns-clause-behind c = new-behind

pub returns-clause-all : goal.returns-clause-all
returns-clause-all c = new-all

pub returns-clause-batch : goal.returns-clause-batch
returns-clause-batch c = λ parents more. flats-grow 0 parents more
