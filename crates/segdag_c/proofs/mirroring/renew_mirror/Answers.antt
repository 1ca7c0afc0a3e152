use Rattle.std.proofs.Common.{refl}
use Rattle.segdag_c.proofs.Numbered.{renew-comes}
use Rattle.segdag_c.proofs.mirroring.renew_mirror.Goals as goal

pub returns-in-Ok : goal.returns-in-Ok
returns-in-Ok c = renew-comes c.args.number c.args.is_there c.args.bytes.now c.args.held.now _ c.in-Ok.disk c.renew_in.result c.in-Ok.ensures.disk (refl, refl, refl, refl) c.renew_in.ensures
