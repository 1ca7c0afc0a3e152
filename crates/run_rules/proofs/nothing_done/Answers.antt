use Rattle.run_rules.proofs.Nothing.{nothing-done}
use Rattle.run_rules.proofs.nothing_done.Goals as goal

pub returns : goal.returns
returns c = λ limits w payloads room mirrors disk io holds read e f. nothing-done limits w payloads disk holds read room mirrors io e f
