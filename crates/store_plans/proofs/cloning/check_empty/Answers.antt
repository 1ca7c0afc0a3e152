use Rattle.std.proofs.Common.{◌∙◌, ◌<◌, ◌+◌, ap, ap₂, arith}
use Rattle.payload_tables.specs.Kept.{PlainOthers}
use Rattle.step_rules.specs.declared.Refusal.{Refusal}
use Rattle.step_rules.specs.declared.Refusal.TheVariants as why
use Rattle.store_plans.proofs.ClonePlans.{counts-of, nothing-added}
use Rattle.store_plans.proofs.cloning.check_empty.Goals as goal
use Rattle.store_plans.proofs.cloning.check_empty.Goals.{then-master-gt0-via-then-master-gt0, then-master-gt0-via-else-master-gt0+then-others-gt0}

pub returns-then-master-gt0-clause-rows : goal.returns-then-master-gt0-clause-rows
returns-then-master-gt0-clause-rows c = λ added w t stand.
    let n = counts-of c.args.tables.now added t c.master_count-master.result c.from-others.result c.master_count-master.ensures (c.from-others.ensures ∙ c.count.ensures ∙ ap (λ (o : PlainOthers). o.count) c.others.ensures) w stand in
    let m = n.0 in let o = n.1 in
    let some : 0 < c.master_count-master.result + c.from-others.result = elim c.then-master-gt0.branch [
      | then-master-gt0-via-then-master-gt0 v ↦ (let a = v.if-master-gt0.true in omega (arith, a))
      | then-master-gt0-via-else-master-gt0+then-others-gt0 v ↦ (let a = v.if-others-gt0.true in omega (arith, a))
    ] in
    (ap₂ {C = Refusal} (λ a b. why.NotEmpty a b) m o, omega (arith, m, o, some))

pub returns-clause-none : goal.returns-clause-none
returns-clause-none c = λ added t.
    let m = c.if-master-gt0.false in let o = c.if-others-gt0.false in
    nothing-added c.args.tables.now added t c.master_count-master.result c.from-others.result c.master_count-master.ensures (c.from-others.ensures ∙ c.count.ensures ∙ ap (λ (o : PlainOthers). o.count) c.others.ensures)
    (omega (arith, m)) (omega (arith, o))

pub returns-clause-rows : goal.returns-clause-rows
returns-clause-rows c = λ added w t stand.
    let n = counts-of c.args.tables.now added t c.master_count-master.result c.from-others.result c.master_count-master.ensures (c.from-others.ensures ∙ c.count.ensures ∙ ap (λ (o : PlainOthers). o.count) c.others.ensures) w stand in
    let a = n.0 in let b = n.1 in
    let m = c.if-master-gt0.false in let o = c.if-others-gt0.false in
    (omega (arith, a, m), omega (arith, b, o))
