use Rattle.std.proofs.Common.{◌∙◌, sym, subst}
use Rattle.name_index.specs.Filter.{PassAll}
use Rattle.name_index.proofs.Thinning.{thinned-ascends}
use Rattle.name_index.proofs.run.Run.moved.Goals as goal

pub invariant_of-result : goal.invariant_of-result
invariant_of-result c =
    subst (λ w. PassAll w c.in_ok-entries.entries.items) (sym c.in_ok-filter.ensures)
    (c.in_ok-entries.ensures.filter c.self.inside.filter (subst (PassAll c.self.inside.filter) (sym c.deref.ensures.value) c.self.invariant))

pub returns : goal.returns
returns c = λ old new held are run stand.
    let t = c.in_ok-entries.ensures.moved old new held are (c.deref.ensures.value ∙ c.self.view_is ∙ run.entries_of) stand in
    (t.0, record { entries_of = t.1; ascending = thinned-ascends held t.0 t.2 run.ascending }, t.2, t.3)
