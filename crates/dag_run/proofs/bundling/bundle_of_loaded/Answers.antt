use Rattle.std.proofs.Common.{length}
use Rattle.step_rules.specs.State.{start}
use Rattle.dag_run.proofs.bundling.bundle_of_loaded.Goals as goal

pub returns-in-Ok-Some-clause-bundles : goal.returns-in-Ok-Some-clause-bundles
returns-in-Ok-Some-clause-bundles c = λ payloads w h. rw c.in-Ok-Some.field-0-is at c.in-Ok-Some.ensures (length payloads) (start w payloads) h

pub returns-in-Ok-None-clause-bundles : goal.returns-in-Ok-None-clause-bundles
returns-in-Ok-None-clause-bundles c = λ payloads w h. rw c.in-Ok-None.field-0-is at c.in-Ok-None.ensures (length payloads) (start w payloads) h
