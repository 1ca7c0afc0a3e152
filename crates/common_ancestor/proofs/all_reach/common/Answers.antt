use Rattle.span_set.specs.Members.{IsMember}
use Rattle.std.proofs.lemmas.Result.{IfOk-weaker}
use Rattle.ancestor_query.proofs.Parts.{both-ways}
use Rattle.common_ancestor.proofs.Folds.{gca-held}
use Rattle.common_ancestor.proofs.all_reach.common.Goals as goal

pub ancestors-requires : goal.ancestors-requires
ancestors-requires g c =
    gca-held (g.T.SegmentTable.flats c.args.table.now) (g.met.T.SegmentTable.lawful c.args.table.now) (IsMember c.args.set.now) c.requires c.in_ok-last.last c.in_ok-last.ensures.members

pub returns-clause-members : goal.returns-clause-members
returns-clause-members g c = IfOk-weaker c.ancestors.result _ _ (λ r h x. both-ways (h x) (c.in_ok-last.ensures.reached x)) c.ancestors.ensures.members
