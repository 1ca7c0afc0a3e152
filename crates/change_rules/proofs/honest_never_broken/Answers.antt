use Rattle.change_rules.proofs.Honest.{never-broken}
use Rattle.change_rules.proofs.honest_never_broken.Goals as goal

pub returns : goal.returns
returns c = never-broken
