use Rattle.std.proofs.Common.{ap, ◌∙◌, arith}
use Rattle.payload_tables.specs.Kept.{PlainOthers}
use Rattle.store_plans.proofs.Newest.{others-few, on-newest}
use Rattle.store_plans.proofs.session.Session.with_others.Goals as goal

pub empty-requires : goal.empty-requires
empty-requires c =
    let few = others-few c.args.tables.now c.requires.tables.0 c.requires.tables.1 in
    let count = c.from-first.ensures ∙ c.count.ensures ∙ ap (λ (o : PlainOthers). o.count) c.requires.others in
    omega (arith, few, count)

pub returns : goal.returns
returns c = λ added tables is.
    let first = c.empty.ensures.first ∙ c.from-first.ensures ∙ c.count.ensures ∙ ap (λ (o : PlainOthers). o.count) c.requires.others in
    on-newest c.args.tables.now added (record { payloads = c.args.payloads; below = c.master_count.result; others = c.args.others; pending = c.empty.result })
    tables is c.master_count.ensures c.requires.others c.empty.ensures.rows first
