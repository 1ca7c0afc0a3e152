use Rattle.std.proofs.Common.{◌∙◌, sym, subst, ap, get_or, ◌∷◌}
use Rattle.name_index.specs.Runs.{IsRun}
use Rattle.name_index.specs.Filter.{PassAll, lets_pass}
use Rattle.name_index.proofs.Filters.{none-passes}
use Rattle.name_index.proofs.Reading.{search-found, search-none}
use Rattle.name_index.proofs.run.Run.find.Goals as goal

pub returns-then-not-lets_pass : goal.returns-then-not-lets_pass
returns-then-not-lets_pass c = λ held run stand.
    let words = c.self.inside.filter in
    let pass = subst (PassAll words) (c.self.view_is ∙ run.entries_of) c.self.invariant in
    none-passes words held c.args.name.now pass (ap (lets_pass words) (sym c.requires) ∙ sym c.if-not-lets_pass.ensures)

pub returns-in-Ok : goal.returns-in-Ok
returns-in-Ok c = λ held run stand.
    let at = c.args.stretch.now.at in let bytes = c.args.stretch.now.bytes.now in let name = c.args.name.now in
    let key = c.args.front ∷ name in
    let own = subst (λ es. IsRun es held) (sym (c.deref.ensures.value ∙ c.self.view_is)) run in
    let read = c.index.ensures ∙ ap (λ es. get_or es c.in-Ok.found c.index.result.now) (sym c.deref.ensures.value) in
    search-found at bytes c.deref.result.now held name key c.in-Ok.found c.index.result.now own stand (ap (λ f. f ∷ name) c.requires) c.in-Ok.ensures.bound read (c.in-Ok.ensures.position c.index.result.now)

pub returns-in-Err : goal.returns-in-Err
returns-in-Err c = λ held run stand.
    let at = c.args.stretch.now.at in let bytes = c.args.stretch.now.bytes.now in let name = c.args.name.now in
    let key = c.args.front ∷ name in
    let own = subst (λ es. IsRun es held) (sym (c.deref.ensures.value ∙ c.self.view_is)) run in
    search-none at bytes c.deref.result.now held name key c.in-Err.field-0 own stand (ap (λ f. f ∷ name) c.requires) c.in-Err.ensures.position
