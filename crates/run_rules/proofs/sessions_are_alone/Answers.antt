use Rattle.std.proofs.Common.{◌≡◌, ap₂}
use Rattle.commit_graph.specs.World.{with_pending}
use Rattle.step_rules.specs.Verb.{Verb, Add, Flush, Reload, Discard, Query, Count, IdOf, Status, Levels, Clone, Pull, Strip, CountMirrors, Drop}
use Rattle.run_rules.proofs.Alone.{base-alone, pending-alone, fewer}
use Rattle.run_rules.proofs.sessions_are_alone.Goals as goal

pub returns-clause-base : goal.returns-clause-base
returns-clause-base c = base-alone

pub returns-clause-view : goal.returns-clause-view
returns-clause-view c = λ limits st st' lines replies s h r none.
    ap₂ with_pending (base-alone limits st st' lines replies s h r (λ line verb i spells. fewer verb (none line verb i spells))) (pending-alone limits st st' lines replies s h r none)
