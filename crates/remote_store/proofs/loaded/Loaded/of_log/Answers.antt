use Rattle.std.proofs.Common.{refl, sym, ap, ◌∙◌, arith, true≢false}
use Rattle.payload_tables.specs.Kept.{PlainOthers}
use Rattle.payload_tables.specs.Bases.{flat_segments_in}
use Rattle.remote_store.proofs.Fitting.{is-fit, is-unfit, read-of, others-fit, nothing-reached}
use Rattle.remote_store.proofs.loaded.Loaded.of_log.Goals as goal

pub returns-then-not-is_named-clause-failed : goal.returns-then-not-is_named-clause-failed
returns-then-not-is_named-clause-failed c = λ _.
    let made = c.in_ok-tables.ensures in
    is-unfit made.0 made.1.lawful c.args.log.payloads made.3 (λ h. true≢false (sym ((c.if-not-is_named.ensures made.0 made.1).1 h)))

pub empty-none-requires : goal.empty-none-requires
empty-none-requires c =
    let made = c.in_ok-tables.ensures in
    let few = others-fit c.in_ok-tables.tables c.args.log made.0 made.1 made.2 in
    let e = c.from.ensures ∙ c.count.ensures ∙ ap (λ (o : PlainOthers). o.count) c.others.ensures in
    omega (arith, few, e)

pub invariant_of-result : goal.invariant_of-result
invariant_of-result c =
    let made = c.in_ok-tables.ensures in
    let first = c.empty-none.ensures.first ∙ c.from.ensures ∙ c.count.ensures ∙ ap (λ (o : PlainOthers). o.count) c.others.ensures in
    let read = read-of c.args.log c.in_ok-tables.tables c.empty-none.result made.0 made.1 made.2 made.3 ((c.if-not-is_named.ensures made.0 made.1).0 refl) first c.empty-none.ensures.rows in
    (read, nothing-reached (flat_segments_in read.of_world) read.of_world.master c.nothing.result c.nothing.ensures.heads c.nothing.ensures.tops c.nothing.ensures.ids)

pub returns-clause-fit : goal.returns-clause-fit
returns-clause-fit c =
    let made = c.in_ok-tables.ensures in
    is-fit made.0 made.1.lawful c.args.log.payloads made.3 ((c.if-not-is_named.ensures made.0 made.1).0 refl)
