use Rattle.step_rules.specs.State.{at_start}
use Rattle.turn_laws.proofs.Turning.{run-turned, runs-isolated}
use Rattle.turn_laws.proofs.runs_are_isolated.Goals as goal

pub returns-clause-turns : goal.returns-clause-turns
returns-clause-turns c = runs-isolated

pub returns-clause-runs : goal.returns-clause-runs
returns-clause-runs c = λ limits s w p q room space mirrors others lines words replies answers last end lt r k.
    let a = run-turned limits (at_start w p room mirrors) last lines replies r in
    let b = run-turned limits (at_start w q space others) end words answers k in
    (a.0, b.0, a.1, b.1, λ alike. runs-isolated limits s w p q room space mirrors others lines words replies answers last end a.0 b.0 lt a.1 b.1 alike)
