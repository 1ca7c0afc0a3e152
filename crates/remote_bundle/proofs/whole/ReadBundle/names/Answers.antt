use Rattle.std.proofs.Common.{sym, subst}
use Rattle.remote_bundle.specs.Names.{ArePlaced}
use Rattle.remote_bundle.specs.Held.{PlainRead, IsReadOf}
use Rattle.remote_bundle.proofs.Mastering.{named}
use Rattle.remote_bundle.proofs.Tabling.{placed-names}
use Rattle.remote_bundle.proofs.whole.ReadBundle.names.Goals as goal

pub invariant_of-result : goal.invariant_of-result
invariant_of-result c =
    let r : PlainRead = record { bytes = c.self.inside.bytes.items; start = c.self.inside.start; table = c.self.inside.table; index = c.self.inside.index } in
    let h = c.self.invariant in
    (h.0.names, placed-names r h.0 h.1 c.deref.result.now c.deref.ensures.value)

pub returns : goal.returns
returns c = λ d m.
    let r : PlainRead = record { bytes = c.self.inside.bytes.items; start = c.self.inside.start; table = c.self.inside.table; index = c.self.inside.index } in
    let h = subst (λ v. IsReadOf v d) (sym c.self.view_is) m in
    subst (λ names. ArePlaced (record { bytes = c.deref.result.now; start = c.self.inside.start; index = c.self.inside.index }) names) (sym (named d h.bundle)) (placed-names r d h c.deref.result.now c.deref.ensures.value)
