use Rattle.std.proofs.Common.{◌∷◌, ◌∙◌, sym, arith}
use Rattle.std.specs.Ordering.{nat_cmp}
use Rattle.std.specs.Cmp.Lexicographic.{slice_cmp}
use Rattle.name_index.specs.Runs.{key_in}
use Rattle.name_index.specs.declared.entry.Entry.{Entry as PlainEntry}
use Rattle.name_index.proofs.Searching.{between-all, answer-at, between-above, between-below, between-none}
use Rattle.name_index.proofs.search.place_of.Goals as goal

pub search-init : goal.search-init
search-init c = between-all (λ (e : PlainEntry). slice_cmp nat_cmp (key_in c.args.stretch.now.bytes.now c.args.stretch.now.at e) (c.args.front ∷ c.args.name.now)) c.args.entries.now

pub offset_bounds-entries-at : goal.offset_bounds-entries-at
offset_bounds-entries-at c = let high = c.probe-at.ensures.high in let within = c.search.invariant.within in omega (arith, high, within)

pub bounds-entries-at : goal.bounds-entries-at
bounds-entries-at c = let high = c.probe-at.ensures.high in let within = c.search.invariant.within in omega (arith, high, within)

pub returns-in-Equal-clause-bound : goal.returns-in-Equal-clause-bound
returns-in-Equal-clause-bound c = let high = c.probe-at.ensures.high in let within = c.search.invariant.within in omega (arith, high, within)

pub returns-in-Equal-clause-position : goal.returns-in-Equal-clause-position
returns-in-Equal-clause-position c =
    let high = c.probe-at.ensures.high in let within = c.search.invariant.within in
    answer-at (λ (e : PlainEntry). slice_cmp nat_cmp (key_in c.args.stretch.now.bytes.now c.args.stretch.now.at e) (c.args.front ∷ c.args.name.now)) c.args.entries.now c.probe-at.result _ _ (omega (arith, high, within)) (sym c.compare_to.ensures ∙ c.in-Equal.is)

pub overflow_add-low : goal.overflow_add-low
overflow_add-low c = let high = c.probe-at.ensures.high in omega (arith, high)

pub search-preserved-in-Less : goal.search-preserved-in-Less
search-preserved-in-Less c =
    between-above (λ (e : PlainEntry). slice_cmp nat_cmp (key_in c.args.stretch.now.bytes.now c.args.stretch.now.at e) (c.args.front ∷ c.args.name.now)) c.args.entries.now c.search.low c.search.high c.probe-at.result _ c.probe-at.ensures.high (sym c.compare_to.ensures ∙ c.in-Less.is) c.search.invariant

pub search-preserved : goal.search-preserved
search-preserved c =
    between-below (λ (e : PlainEntry). slice_cmp nat_cmp (key_in c.args.stretch.now.bytes.now c.args.stretch.now.at e) (c.args.front ∷ c.args.name.now)) c.args.entries.now c.search.low c.search.high c.probe-at.result _ c.probe-at.ensures.low c.probe-at.ensures.high (sym c.compare_to.ensures ∙ c.in-Greater.is) c.search.invariant

pub returns-clause-bound : goal.returns-clause-bound
returns-clause-bound c = let order = c.search.invariant.order in let within = c.search.invariant.within in omega (arith, order, within)

pub returns-clause-position : goal.returns-clause-position
returns-clause-position c =
    let high = c.search.high in let low = c.search.low in
    between-none (λ (e : PlainEntry). slice_cmp nat_cmp (key_in c.args.stretch.now.bytes.now c.args.stretch.now.at e) (c.args.front ∷ c.args.name.now)) c.args.entries.now low high (omega arith) c.search.invariant
