use Rattle.std.proofs.Common.{◌≡◌, [], take, drop}
use Rattle.step_rules.specs.Tests.{twice}
use Rattle.store_queries.proofs.adding.refuse_twice.Given as goal

abbrev pub invariant-loop-place : goal.invariant-loop-place
invariant-loop-place l = twice [] l.parents ≡ twice (take l.place l.parents) (drop l.place l.parents)
