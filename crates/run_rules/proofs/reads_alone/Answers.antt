use Rattle.run_rules.proofs.Prefixes.{reads-alone}
use Rattle.run_rules.proofs.reads_alone.Goals as goal

pub returns : goal.returns
returns c = reads-alone
