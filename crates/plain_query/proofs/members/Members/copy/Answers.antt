use Rattle.std.proofs.Common.{◌∙◌}
use Rattle.plain_query.proofs.Collecting.{copied}
use Rattle.plain_query.proofs.members.Members.copy.Goals as goal

pub returns : goal.returns
returns c =
    copied c.none-members.result c.as_slice.result.now c.args.self.now c.add_all.new.self c.none-members.ensures (c.as_slice.ensures.value ∙ c.self.view_is) c.in_ok-add_all.ensures
