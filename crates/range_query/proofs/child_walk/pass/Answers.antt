use Rattle.std.proofs.Common.{arith, sym, subst, take}
use Rattle.span_set.specs.Members.{IsMember}
use Rattle.range_query.specs.Parts.{StandFrom}
use Rattle.range_query.proofs.PassLemmas.{lack-none}
use Rattle.range_query.proofs.child_walk.pass.Goals as goal

pub returns-then-number-from-clause-none : goal.returns-then-number-from-clause-none
returns-then-number-from-clause-none g c = lack-none (g.T.SegmentTable.flats c.args.table.now) c.args.rest.set.now _ c.args.id (omega arith)

pub pass_flats-requires-clause-clear : goal.pass_flats-requires-clause-clear
pass_flats-requires-clause-clear g c = λ x m le.
    c.end_at.ensures c.args.id x (subst (λ l. StandFrom c.args.id (take c.args.rest.at l)) (sym c.spans.ensures.same) c.requires.passed) (subst (λ l. IsMember l x) (sym c.spans.ensures.same) m) (let most = c.max-from.ensures in omega arith)
