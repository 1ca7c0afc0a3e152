use Rattle.segdag_c.proofs.Linking.{follows-take}
use Rattle.segdag_c.proofs.following_takes.Goals as goal

pub returns : goal.returns
returns c = follows-take
