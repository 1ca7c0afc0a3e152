use Rattle.std.proofs.Common.{◌<◌, ◌≤◌, ◌∙◌, subst}
use Rattle.batch_codec.specs.Building.{IsBuilt, empty_payload}
use Rattle.change_rules.specs.Change.{told_change}
use Rattle.change_rules.specs.Standard.{standard}
use Rattle.clone_plan.proofs.Telling.{on-ok}
use Rattle.clone_plan.proofs.told.payload_told.Goals as goal

pub add_told-requires-clause-some : goal.add_told-requires-clause-some
add_told-requires-clause-some c = subst (λ n. 0 < n) c.requires.count c.requires.some

pub add_told-requires-clause-few : goal.add_told-requires-clause-few
add_told-requires-clause-few c = subst (λ n. n ≤ standard.master) c.requires.count c.requires.few

pub add_told-requires-clause-build : goal.add_told-requires-clause-build
add_told-requires-clause-build c = subst (λ n. IsBuilt c.in_ok-build.build (empty_payload 2 0 n n)) c.requires.count c.in_ok-build.ensures.built

pub finish-requires : goal.finish-requires
finish-requires c = (
  told_change c.args.cloned.now,
  c.in_ok-add_told.ensures.follows.whole,
  c.in_ok-add_told.ensures.built,
  c.add_told.ensures.count ∙ c.in_ok-build.ensures.count,
)

pub returns-clause-payload : goal.returns-clause-payload
returns-clause-payload c =
    c.finish.ensures (told_change c.args.cloned.now) c.in_ok-add_told.ensures.follows.whole c.in_ok-add_told.ensures.built (c.add_told.ensures.count ∙ c.in_ok-build.ensures.count)

pub returns-clause-follows : goal.returns-clause-follows
returns-clause-follows c = on-ok c.finish.result c.in_ok-add_told.ensures.follows
