use Rattle.std.proofs.Common.{ℕ, sym, ap, ◌∙◌, subst}
use Rattle.std.specs.Prelude.{Some, None}
use Rattle.name_map.specs.Added.{known_of}
use Rattle.name_map.specs.Map.{PlainMap, NamesAs}
use Rattle.name_map.specs.Found.{IsPlaceOf}
use Rattle.name_map.proofs.Answers.{name-for, other-none}
use Rattle.name_map.proofs.map.NameMap.name.Goals as goal

pub returns-in_err-place-clause-name : goal.returns-in_err-place-clause-name
returns-in_err-place-clause-name c = λ added is stand.
    let parts = c.deref.ensures.value ∙ ap (λ (m : PlainMap). m.parts) c.self.view_is ∙ is.parts in
    let none = subst (λ (n : ℕ). IsPlaceOf added n None) c.number.ensures.number (c.in_err-place.ensures added is.follow parts) in
    subst (NamesAs (known_of added) c.args.id) (sym c.from_residual.ensures) none

pub returns-clause-name : goal.returns-clause-name
returns-clause-name c = λ added is stand.
    let parts = c.deref.ensures.value ∙ ap (λ (m : PlainMap). m.parts) c.self.view_is ∙ is.parts in
    let some = subst (λ (n : ℕ). IsPlaceOf added n (Some c.in_ok-place.place)) c.number.ensures.number (c.in_ok-place.ensures added is.follow parts) in
    name-for c.args.bytes.now added c.args.id c.in_ok-place.place is.follow stand some c.name_at.result c.name_at.ensures

pub returns-clause-other : goal.returns-clause-other
returns-clause-other c = λ added is le.
    let parts = c.deref.ensures.value ∙ ap (λ (m : PlainMap). m.parts) c.self.view_is ∙ is.parts in
    let some = subst (λ (n : ℕ). IsPlaceOf added n (Some c.in_ok-place.place)) c.number.ensures.number (c.in_ok-place.ensures added is.follow parts) in
    absurd (other-none added c.args.id c.in_ok-place.place is.follow le some)
