use Rattle.run_rules.proofs.Prefixes.{prefixes-hold}
use Rattle.run_rules.proofs.prefixes_hold.Goals as goal

pub returns : goal.returns
returns c = prefixes-hold
