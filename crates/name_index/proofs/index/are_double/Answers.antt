use Rattle.std.proofs.Common.{◌∙◌, sym, true≢false}
use Rattle.std.proofs.lemmas.List.Sorted.{IsPermutation-refl}
use Rattle.name_index.specs.Runs.{joined}
use Rattle.name_index.proofs.Inserting.{double-new, double-old, distinct-now, stands-held}
use Rattle.name_index.proofs.index.are_double.Goals as goal

pub returns-then-has_double-clause-double : goal.returns-then-has_double-clause-double
returns-then-has_double-clause-double c = λ _ held named runs stand holds stands.
    let stand_held = stands-held c.args.new.now.at c.args.new.now.bytes.now c.args.run.now named holds stands in
    double-new _ (joined held) named holds (c.has_double.ensures.twice c.if-has_double.true holds.held holds.run stand_held)

pub returns-clause-double : goal.returns-clause-double
returns-clause-double c = λ common held named runs stand holds stands.
    let stand_held = stands-held c.args.new.now.at c.args.new.now.bytes.now c.args.run.now named holds stands in
    let has = c.has_held.ensures held holds.held runs stand (c.entries.ensures ∙ holds.run.entries_of) stand_held in
    double-old _ (joined held) named held holds (IsPermutation-refl (joined held)) (has.0 common)

pub returns-clause-once : goal.returns-clause-once
returns-clause-once c = λ none held named runs stand holds stands distinct.
    let stand_held = stands-held c.args.new.now.at c.args.new.now.bytes.now c.args.run.now named holds stands in
    let has = c.has_held.ensures held holds.held runs stand (c.entries.ensures ∙ holds.run.entries_of) stand_held in
    let once = c.has_double.ensures.once c.if-has_double.false holds.held holds.run stand_held in
    distinct-now _ (joined held) named held holds (IsPermutation-refl (joined held)) distinct once (λ both. true≢false (sym (has.1 both) ∙ none))
