use Rattle.std.proofs.Common.{refl}
use Rattle.call_disk.specs.Performed.{begun}
use Rattle.call_disk.proofs.Stopping.{may-perform, performs-alike, stops-told}
use Rattle.call_disk.proofs.performing_is_told.Goals as goal

pub returns-clause-stopped : goal.returns-clause-stopped
returns-clause-stopped c = λ steps idle old new stops. stops-told steps idle (begun old) old new (refl, refl) stops

pub returns-clause-whole : goal.returns-clause-whole
returns-clause-whole c = λ steps idle old new performs. performs-alike steps idle (begun old) old new (refl, refl) performs

pub returns-clause-within : goal.returns-clause-within
returns-clause-within c = λ steps old fit. may-perform steps (begun old) old (refl, refl) fit
