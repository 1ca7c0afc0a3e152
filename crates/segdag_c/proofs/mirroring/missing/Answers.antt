use Rattle.std.proofs.Common.{inl, inr, ap}
use Rattle.segdag_c.specs.declared.mirror.Mirror.TheVariants.{Bundle, Log}
use Rattle.segdag_c.proofs.mirroring.missing.Goals as goal

pub returns-in-0 : goal.returns-in-0
returns-in-0 c = (c.missing.result, c.missing.ensures, inl (c.in-0.is, ap (λ r. Log c.args.number r) c.log_on.ensures))

pub returns-in-1 : goal.returns-in-1
returns-in-1 c = (c.missing-in-1.result, c.missing-in-1.ensures, inr (c.in-1.is, ap (λ r. Bundle c.args.number r) c.bundle_on.ensures))
