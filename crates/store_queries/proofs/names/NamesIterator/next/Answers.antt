use Rattle.std.proofs.Common.{map, length, arith, sym, ap, subst, ◌∙◌}
use Rattle.std.specs.Iterator.{YieldsFirstBy}
use Rattle.id_groups.specs.Name.{Name}
use Rattle.span_set.specs.Down.{ids_left}
use Rattle.store_queries.specs.Names.{fetched_name, lent_name, name_of, names_left}
use Rattle.store_queries.proofs.Lending.{next-fetched, none-fetched}
use Rattle.store_queries.proofs.names.NamesIterator.next.Goals as goal

pub returns-in_err-name-clause-steps : goal.returns-in_err-name-clause-steps
returns-in_err-name-clause-steps c =
    let i = c.self.inside in
    let none = sym c.name_of_id.ensures ∙ ap lent_name c.in_default.is in
    let end = sym c.fetched_at.ensures.name ∙ ap lent_name c.in_err-name.was in
    let empty = sym c.self.view_is ∙ none-fetched i.base i.pending.now (map fetched_name i.fetched.now) i.next c.in_ok-id.id (ids_left i.ids) (ids_left c.next.new.self) c.in_ok-id.ensures.steps none end in
    subst (λ o. YieldsFirstBy name_of names_left c.args.self.now o c.args.self.now) (sym c.from_residual-in_err-name.ensures) (empty, empty)

pub returns-clause-steps : goal.returns-clause-steps
returns-clause-steps c =
    let i = c.self.inside in
    let none = sym c.name_of_id.ensures ∙ ap lent_name c.in_default.is in
    let here = sym c.fetched_at.ensures.name ∙ ap lent_name c.in_ok-name.was in
    sym c.self.view_is ∙ next-fetched i.base i.pending.now (map fetched_name i.fetched.now) i.next (name_of c.in_ok-name.name) c.in_ok-id.id (ids_left i.ids) (ids_left c.next.new.self) c.in_ok-id.ensures.steps none here

pub returns-clause-goes : goal.returns-clause-goes
returns-clause-goes c =
    let e = ap (length {A = Name}) (returns-clause-steps c) in
    record { on = λ f. (tt, tt, omega (arith, e)); keeps = tt; rests = λ f. tt }
