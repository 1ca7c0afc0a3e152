use Rattle.std.proofs.Common.{◌≡◌, ◌∙◌, ◌<◌, ◌+◌, ◌++◌, ◌∷◌, [], ◌⊎◌, ℕ, List, length, map, ap, sym, subst}
use Rattle.std.specs.List.{AllByRecursion}
use Rattle.id_groups.specs.Lists.{AreDistinct}
use Rattle.id_groups.specs.Id.{other_id}
use Rattle.high_segments.specs.Views.{flats_in}
use Rattle.change_parts.specs.declared.fault.PlanFault.TheVariants.{Memory}
use Rattle.pull_plan.specs.Taken.{beside, IsBeside, IsOther, AreTaken}
use Rattle.change_parts.proofs.Refusals.{err-match}
use Rattle.pull_plan.proofs.Taking.{add-numbers, add-new, add-apart, add-below, add-taken, add-conflicts}
use Rattle.pull_plan.proofs.pulled.add_row.Goals as goal

pub parents_beside-requires-clause-there : goal.parents_beside-requires-clause-there
parents_beside-requires-clause-there c =
    let r = c.requires.row in
    subst (λ (l : List ℕ). AllByRecursion (λ n. n < c.args.newest.now.cloned + length l) c.args.numbers.now) (sym c.deref.ensures.value)
    (add-numbers c.args.newest.now.base (flats_in c.args.newest.now.view) c.args.newest.now.cloned c.args.ids.now.items c.args.left.now c.args.name.now c.args.numbers.now r.0 r.1 r.2 r.3 r.4 r.5)

pub row_beside-requires-clause-new : goal.row_beside-requires-clause-new
row_beside-requires-clause-new c =
    let r = c.requires.row in
    add-new c.args.newest.now.base (flats_in c.args.newest.now.view) c.args.newest.now.cloned c.args.ids.now.items c.args.left.now c.args.name.now c.args.numbers.now r.0 r.1 r.2 r.3 r.4 r.5

pub row_beside-requires-clause-distinct : goal.row_beside-requires-clause-distinct
row_beside-requires-clause-distinct c =
    let r = c.requires.row in
    let p = c.deref-2.ensures.value ∙ c.in_ok-parents.ensures ∙ ap (λ (l : List ℕ). map (beside c.args.newest.now.cloned l) c.args.numbers.now) c.deref.ensures.value in
    subst AreDistinct (sym p) (add-apart c.args.newest.now.base (flats_in c.args.newest.now.view) c.args.newest.now.cloned c.args.ids.now.items c.args.left.now c.args.name.now c.args.numbers.now r.0 r.1 r.2 r.3 r.4 r.5)

pub row_beside-requires-clause-below : goal.row_beside-requires-clause-below
row_beside-requires-clause-below c =
    let r = c.requires.row in
    let p = c.deref-2.ensures.value ∙ c.in_ok-parents.ensures ∙ ap (λ (l : List ℕ). map (beside c.args.newest.now.cloned l) c.args.numbers.now) c.deref.ensures.value in
    subst (AllByRecursion (λ q. q < other_id (c.args.left.now.first + length c.args.left.now.places))) (sym p)
    (add-below c.args.newest.now.base (flats_in c.args.newest.now.view) c.args.newest.now.cloned c.args.ids.now.items c.args.left.now c.args.name.now c.args.numbers.now r.0 r.1 r.2 r.3 r.4 r.5)

pub returns-in_err-id : goal.returns-in_err-id
returns-in_err-id c = λ w rows front rest row m.
    let p = c.deref-2.ensures.value ∙ c.in_ok-parents.ensures ∙ ap (λ (l : List ℕ). map (beside c.args.newest.now.cloned l) c.args.numbers.now) c.deref.ensures.value in
    err-match c.from_residual-in_err-id.result c.in_err-id.field-0.0 _ _ c.from_residual-in_err-id.ensures.1
    (add-conflicts c.args.newest.now.base (flats_in c.args.newest.now.view) c.args.newest.now.cloned c.args.ids.now.items c.args.left.now c.args.name.now c.args.numbers.now w rows front rest row m c.in_err-id.field-0.0
    (subst (λ (l : List ℕ). (c.in_err-id.field-0.0 ≡ Memory) ⊎ IsOther m.beside.added (flats_in c.args.newest.now.view) c.args.name.now l c.in_err-id.field-0.0) p (c.in_err-id.ensures m.beside.added m.beside.base_of)))

pub returns : goal.returns
returns c = λ w rows front rest row m.
    let p = c.deref-2.ensures.value ∙ c.in_ok-parents.ensures ∙ ap (λ (l : List ℕ). map (beside c.args.newest.now.cloned l) c.args.numbers.now) c.deref.ensures.value in
    subst (λ (l : List ℕ). AreTaken w c.args.newest.now.cloned (front ++ row ∷ []) l c.row_beside.new.left) (sym c.in_ok-add_id.ensures)
    (add-taken c.args.newest.now.base (flats_in c.args.newest.now.view) c.args.newest.now.cloned c.args.ids.now.items c.args.left.now c.args.name.now c.args.numbers.now w rows front rest row m c.row_beside.new.left c.in_ok-id.id
    (subst (λ (l : List ℕ). IsBeside m.beside.added (flats_in c.args.newest.now.view) c.args.name.now l c.args.left.now c.row_beside.new.left c.in_ok-id.id) p (c.in_ok-id.ensures m.beside.added m.beside.base_of)))
