use Rattle.std.proofs.Common.{◌∙◌, sym, ap, subst, length}
use Rattle.name_index.specs.Named.{named_in}
use Rattle.name_index.specs.Runs.{Holds}
use Rattle.name_index.proofs.Reading.{sorted-holds, items-back}
use Rattle.name_index.proofs.Thinning.{named-stand}
use Rattle.name_index.proofs.run.Run.of_names.Goals as goal

pub returns : goal.returns
returns c = λ n size.
    let at = c.args.stretch.now.at in
    let bytes = c.args.stretch.now.bytes.now in
    let new = named_in n at bytes in
    let vector = c.in_ok-entries.entries in
    let sorted = c.sort_entries.new.entries in
    let long = c.sort_entries.ensures.len ∙ ap length c.deref_mut.ensures.value in
    subst (λ es. Holds es new) (sym (c.of.ensures ∙ items-back vector.len sorted vector.items vector.ok.0 long))
    (sorted-holds at bytes c.deref_mut.result.now sorted new (c.deref_mut.ensures.value ∙ c.in_ok-entries.ensures n size) (named-stand n at bytes size) c.sort_entries.ensures.permutation c.sort_entries.ensures.ascending)
