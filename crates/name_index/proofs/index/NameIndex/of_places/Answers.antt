use Rattle.std.proofs.Common.{◌∙◌, ◌∷◌, [], List, sym, ap, subst}
use Rattle.name_index.specs.declared.entry.Entry.{Entry}
use Rattle.name_index.specs.Index.{IsIndexOf}
use Rattle.name_index.proofs.Indexes.{stand-from}
use Rattle.name_index.proofs.Inserting.{double-new, one-run, stands-held}
use Rattle.name_index.proofs.index.NameIndex.of_places.Goals as goal

pub returns-then-has_double-clause-double : goal.returns-then-has_double-clause-double
returns-then-has_double-clause-double c = λ new stand places _.
    let from = stand-from c.args.bytes.now new stand in
    let holds = c.in_ok-run.ensures new from places in
    let stand_held = stands-held 0 c.args.bytes.now _ new holds from in
    double-new _ [] new holds (c.has_double.ensures.twice c.if-has_double.true holds.held holds.run stand_held)

pub returns-clause-made : goal.returns-clause-made
returns-clause-made c = λ new stand places.
    let from = stand-from c.args.bytes.now new stand in
    let holds = c.in_ok-run.ensures new from places in
    let stand_held = stands-held 0 c.args.bytes.now _ new holds from in
    let once = c.has_double.ensures.once c.if-has_double.false holds.held holds.run stand_held in
    subst (λ rs. IsIndexOf rs new) (sym (c.in_ok-index.ensures ∙ ap (λ (r : List Entry). r ∷ []) c.with_filter.ensures)) (one-run _ new holds once)
