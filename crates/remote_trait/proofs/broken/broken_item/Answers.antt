use Rattle.remote_trait.proofs.Items.{first-is}
use Rattle.remote_trait.proofs.broken.broken_item.Goals as goal

pub returns-in-Some : goal.returns-in-Some
returns-in-Some c = first-is _ _ c.in-Some.number c.in-Some.ensures
