use Rattle.remote_rules.proofs.Asks.{idle, alone}
use Rattle.remote_rules.proofs.asks_bounded.Goals as goal

pub returns-clause-idle : goal.returns-clause-idle
returns-clause-idle c = idle

pub returns-clause-alone : goal.returns-clause-alone
returns-clause-alone c = alone
