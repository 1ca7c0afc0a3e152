use Rattle.std.proofs.Common.{◌∙◌}
use Rattle.plain_query.proofs.Collecting.{joined}
use Rattle.plain_query.proofs.members.Members.union.Goals as goal

pub returns : goal.returns
returns c =
    joined c.args.self.now c.in_ok-members.members c.as_slice.result.now c.args.other.now c.add_all.new.self c.in_ok-members.ensures (c.as_slice.ensures.value ∙ c.other.view_is)
    c.in_ok-add_all.ensures
