use Rattle.std.proofs.Common.{refl, sym, subst}
use Rattle.segdag_c.specs.Renewed.{HasNumber}
use Rattle.segdag_c.proofs.mirroring.renew_in.Goals as goal

pub returns-in_default : goal.returns-in_default
returns-in_default c = (refl, λ k has. c.in_default.ensures.none refl k (subst (λ ms. HasNumber ms c.args.number k) (sym c.deref.ensures.value) has), refl)

pub returns : goal.returns
returns c = (c.in-Some.place, subst (λ ms. HasNumber ms c.args.number c.in-Some.place) c.deref.ensures.value c.in-Some.ensures.number, c.renew_at.ensures)
