use Rattle.segdag_c.proofs.Linking.{opened-late}
use Rattle.segdag_c.proofs.opened_stands.Goals as goal

pub returns : goal.returns
returns c = opened-late
