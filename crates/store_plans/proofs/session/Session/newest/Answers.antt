use Rattle.std.proofs.Common.{◌∙◌}
use Rattle.store_plans.proofs.session.Session.newest.Goals as goal

pub with_others-requires-clause-others : goal.with_others-requires-clause-others
with_others-requires-clause-others c = c.in_ok-others.ensures ∙ c.others.ensures
