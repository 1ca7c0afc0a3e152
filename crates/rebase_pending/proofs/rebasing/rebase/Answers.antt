use Rattle.std.proofs.Common.{◌∙◌, ap, arith}
use Rattle.payload_tables.specs.Kept.{PlainOthers}
use Rattle.change_parts.proofs.Refusals.{err-match}
use Rattle.change_parts.proofs.TableFacts.{tables-count, tables-few}
use Rattle.rebase_pending.proofs.rebasing.rebase.Goals as goal

pub empty-none-requires : goal.empty-none-requires
empty-none-requires c =
    let m = c.requires.2 in
    let e = c.from-others.ensures ∙ c.count.ensures ∙ ap (λ (o : PlainOthers). o.count) c.others.ensures ∙ tables-count c.args.tables.now c.args.bytes.now c.requires.0 m.tables_of m.stand in
    let few = tables-few c.args.tables.now c.args.bytes.now c.requires.0 m.tables_of m.stand in
    omega (arith, e, few)

pub empty-left-requires : goal.empty-left-requires
empty-left-requires c =
    let m = c.requires.2 in
    let e = c.from-others.ensures ∙ c.count.ensures ∙ ap (λ (o : PlainOthers). o.count) c.others.ensures ∙ tables-count c.args.tables.now c.args.bytes.now c.requires.0 m.tables_of m.stand in
    let few = tables-few c.args.tables.now c.args.bytes.now c.requires.0 m.tables_of m.stand in
    omega (arith, e, few)

pub returns-in_err-add_left-clause-worlds : goal.returns-in_err-add_left-clause-worlds
returns-in_err-add_left-clause-worlds c = λ w old rows f.
    err-match c.from_residual.result c.in_err-add_left.field-0.0 _ _ c.from_residual.ensures.1 (c.in_err-add_left.ensures.worlds w old rows f)
