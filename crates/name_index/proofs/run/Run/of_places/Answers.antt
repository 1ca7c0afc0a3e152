use Rattle.std.proofs.Common.{◌∙◌, sym, ap, subst, length}
use Rattle.name_index.specs.Runs.{Holds}
use Rattle.name_index.proofs.Reading.{sorted-holds, items-back}
use Rattle.name_index.proofs.run.Run.of_places.Goals as goal

pub returns : goal.returns
returns c = λ new stand same.
    let vector = c.in_ok-entries.entries in
    let sorted = c.sort_entries.new.entries in
    let long = c.sort_entries.ensures.len ∙ ap length c.deref_mut.ensures.value in
    subst (λ es. Holds es new) (sym (c.of.ensures ∙ items-back vector.len sorted vector.items vector.ok.0 long))
    (sorted-holds c.args.stretch.now.at c.args.stretch.now.bytes.now c.deref_mut.result.now sorted new (c.deref_mut.ensures.value ∙ c.in_ok-entries.ensures new stand same) stand c.sort_entries.ensures.permutation c.sort_entries.ensures.ascending)
