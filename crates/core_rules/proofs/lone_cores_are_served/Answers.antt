use Rattle.core_rules.proofs.Serving.{lone-served}
use Rattle.core_rules.proofs.lone_cores_are_served.Goals as goal

pub returns : goal.returns
returns c = lone-served
