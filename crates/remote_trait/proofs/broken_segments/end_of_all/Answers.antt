use Rattle.std.proofs.Common.{◌∙◌, sym}
use Rattle.remote_trait.proofs.Items.{last-place}
use Rattle.remote_trait.proofs.broken_segments.end_of_all.Goals as goal

pub returns-in-Some : goal.returns-in-Some
returns-in-Some c = c.end_of.ensures ∙ sym (last-place c.args.segments.now c.in-Some.segment.now c.in-Some.ensures.value)
