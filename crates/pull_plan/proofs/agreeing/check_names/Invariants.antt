use Rattle.std.proofs.Common.{◌≡◌, ◌+◌, List, [], take, drop}
use Rattle.name_map.specs.Added.{Placed, payloads_of}
use Rattle.remote_rules.specs.CloneData.{first_false}
use Rattle.change_rules.specs.Disagree.{rows_fit}
use Rattle.pull_plan.specs.Pulling.{MayPullOn, HasSeen, cloned_names}
use Rattle.pull_plan.proofs.agreeing.check_names.Given as goal

abbrev pub invariant-names : goal.invariant-names
invariant-names l = record {
  seen : HasSeen (take l.i l.fresh.names) l.seen;
  fit : (added : List Placed) → MayPullOn l.tables l.bytes l.fresh added
      → first_false l.cloned (rows_fit (cloned_names l.cloned (payloads_of added)) [] l.fresh.cloned l.cloned l.fresh.names)
      ≡ first_false (l.cloned + l.i) (rows_fit (cloned_names l.cloned (payloads_of added)) (take l.i l.fresh.names) l.fresh.cloned (l.cloned + l.i) (drop l.i l.fresh.names));
}
