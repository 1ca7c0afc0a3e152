use Rattle.std.proofs.Common.{◌∙◌, true≢false, sym}
use Rattle.segment_codec.specs.Lent.{segment_of}
use Rattle.range_query.proofs.Lowests.{lowest-enters}
use Rattle.range_query.proofs.upward.lowest_in.Goals as goal

pub returns : goal.returns
returns c = lowest-enters c.args.answer.now c.args.spans.now (segment_of c.args.segment) c.args.high c.least_in.result
    (λ h. true≢false (sym (c.has_parent_of.ensures.1 h) ∙ c.if-has_parent_of.false)) c.least_in.ensures
