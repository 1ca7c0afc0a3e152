use Rattle.std.proofs.Common.{◌∙◌, ap, arith}
use Rattle.payload_tables.specs.Kept.{PlainOthers}
use Rattle.change_parts.proofs.TableFacts.{others-few}
use Rattle.strip_plan.proofs.strip.plan_strip_change.Goals as goal

pub empty-none-requires : goal.empty-none-requires
empty-none-requires c =
    let r = c.requires.tables in
    let e = c.from.ensures ∙ c.count.ensures ∙ ap (λ (o : PlainOthers). o.count) c.others.ensures in
    let few = (others-few c.args.tables.now c.args.bytes.now r.0 r.1.tables_of r.1.stand).0 in omega (arith, e, few)
