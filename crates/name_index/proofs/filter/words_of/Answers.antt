use Rattle.std.proofs.Common.{◌≡◌, ◌∙◌, length, ap, sym, subst, true}
use Rattle.std.proofs.lemmas.List.{nil_from_length}
use Rattle.name_index.specs.Filter.{lets_pass}
use Rattle.name_index.proofs.Filters.{Marking, mark-more, mark-end}
use Rattle.name_index.proofs.Reading.{items-back}
use Rattle.name_index.proofs.filter.words_of.Goals as goal

pub each-preserved : goal.each-preserved
each-preserved c =
    let was = c.each.words.items in
    let value = c.deref_mut.ensures.value in
    let len = c.mark.ensures.len ∙ ap length value in
    subst (λ ws. Marking ws c.in-Some.others.now c.args.entries.now) (sym (items-back c.each.words.len c.mark.new.words was c.each.words.ok.0 len))
    (mark-more was c.mark.new.words c.in-Some.entry.now c.in-Some.others.now c.args.entries.now (λ f pass. c.mark.ensures.others f (subst (λ ws. lets_pass ws f ≡ true) (sym value) pass)) c.mark.ensures.own (subst (λ es. Marking was es c.args.entries.now) c.in-Some.ensures.cases.0 c.each.invariant))

pub returns : goal.returns
returns c = mark-end c.each.words.items c.args.entries.now (subst (λ es. Marking c.each.words.items es c.args.entries.now) (nil_from_length _ c.in_default.ensures.cases) c.each.invariant)
