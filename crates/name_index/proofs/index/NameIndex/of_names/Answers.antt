use Rattle.std.proofs.Common.{◌∙◌, ◌∷◌, [], List, sym, ap, subst}
use Rattle.std.proofs.lemmas.List.Sorted.{IsPermutation-map}
use Rattle.name_index.specs.declared.entry.Entry.{Entry}
use Rattle.name_index.specs.Index.{IsIndexOf}
use Rattle.name_index.specs.Named.{named_in}
use Rattle.name_index.proofs.Inserting.{one-run}
use Rattle.name_index.proofs.Moves.{distinct-moved}
use Rattle.name_index.proofs.index.NameIndex.of_names.Goals as goal

pub returns : goal.returns
returns c = λ n size once.
    let new = named_in n c.args.at c.args.names.now in
    let holds = c.in_ok-run.ensures n size in
    subst (λ rs. IsIndexOf rs new) (sym (c.in_ok-index.ensures ∙ ap (λ (r : List Entry). r ∷ []) c.with_filter.ensures))
    (one-run c.in_ok-run.run' new holds (distinct-moved _ _ (IsPermutation-map (λ n. n.name) new holds.held holds.same) once))
