use Rattle.std.proofs.Common.{◌∙◌, ap, arith}
use Rattle.payload_tables.specs.Kept.{PlainOthers}
use Rattle.change_parts.proofs.TableFacts.{others-few}
use Rattle.pull_plan.proofs.agreeing.check_fresh.Goals as goal

pub empty-none-requires : goal.empty-none-requires
empty-none-requires c =
    let r = c.requires in
    let e = c.from.ensures ∙ c.count.ensures ∙ ap (λ (o : PlainOthers). o.count) c.others.ensures in
    let few = (others-few c.args.tables.now c.args.bytes.now r.0 r.1.tables_of r.1.stand).0 in omega (arith, e, few)
