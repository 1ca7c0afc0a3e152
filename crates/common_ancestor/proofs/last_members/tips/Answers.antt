use Rattle.std.proofs.Common.{arith}
use Rattle.span_set.specs.Members.{IsMember}
use Rattle.std.proofs.lemmas.Result.{IfOk-weaker}
use Rattle.ancestor_query.proofs.Parts.{both-ways}
use Rattle.common_ancestor.proofs.Unreached.{tips-by, parents-held}
use Rattle.common_ancestor.proofs.last_members.tips.Goals as goal

pub ancestors_above-requires : goal.ancestors_above-requires
ancestors_above-requires g c =
    parents-held (g.T.SegmentTable.flats c.args.table.now) (g.met.T.SegmentTable.lawful c.args.table.now) (IsMember c.args.set.now) c.in_ok-others.others c.in_ok-others.ensures.members

pub returns-clause-members : goal.returns-clause-members
returns-clause-members g c =
    IfOk-weaker c.minus.result _ _ (λ r h x. both-ways (h x)
    (tips-by (g.T.SegmentTable.flats c.args.table.now) (g.met.T.SegmentTable.lawful c.args.table.now) c.args.set.now c.in_ok-others.others c.in_ok-reached.reached c.lowest-floor.result
    (λ x m. (c.lowest-floor.ensures x m).0) c.in_ok-others.ensures.members c.in_ok-reached.ensures.members x)) c.minus.ensures.members

pub returns-in_err-reached-clause-counted : goal.returns-in_err-reached-clause-counted
returns-in_err-reached-clause-counted g c = let first = c.parents.ensures.counted in let then = c.ancestors_above.ensures.counted in omega arith

pub returns-clause-counted : goal.returns-clause-counted
returns-clause-counted g c = let first = c.parents.ensures.counted in let then = c.ancestors_above.ensures.counted in omega arith
