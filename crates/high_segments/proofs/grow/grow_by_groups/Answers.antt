use Rattle.std.proofs.Common.{◌-◌, arith}
use Rattle.std.proofs.lemmas.Bool.{eqb-true}
use Rattle.high_segments.proofs.Alone.{grown-lone}
use Rattle.high_segments.proofs.grow.grow_by_groups.Goals as goal

pub returns-then-before-eq0-clause-lone : goal.returns-then-before-eq0-clause-lone
returns-then-before-eq0-clause-lone c = λ e.
    let none = c.if-before-eq0.true in let before = c.len-before.ensures in
    let many = eqb-true c.len.result (c.grouped.result - c.grouped-grouped.result) e in
    let len = c.len.ensures in let now = c.grouped.ensures in let then = c.grouped-grouped.ensures in
    grown-lone c.args.below.now c.args.run.now c.grow.new.run c.requires.sound c.in_ok-grow.ensures.groups (omega (arith, none, before)) (omega (arith, many, len, now, then))
