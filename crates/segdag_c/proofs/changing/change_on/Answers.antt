use Rattle.std.proofs.Common.{sym, ◌∙◌, ap}
use Rattle.call_disk.specs.Awaited.{awaited, tape_of}
use Rattle.call_disk.proofs.Replaying.{calls-are}
use Rattle.dag_store.specs.Asks.{verb_of}
use Rattle.dag_run.proofs.Doing.{limit-of}
use Rattle.segdag_c.proofs.NotedChanges.{notes-on}
use Rattle.segdag_c.proofs.Storing.{begins-on}
use Rattle.segdag_c.proofs.changing.change_on.Goals as goal

pub change-changed-requires-clause-begins : goal.change-changed-requires-clause-begins
change-changed-requires-clause-begins g c = begins-on g.B.Beneath.disk c.args.store.log (tape_of c.new-log.result.noted) c.new-log.ensures c.requires.on_disk

pub returns-clause-changes : goal.returns-clause-changes
returns-clause-changes g c =
    let step = c.change-changed.ensures.step in
    let noted = c.into_noted.result in
    let last = tape_of c.change-changed.new.disk.noted in
    record {
      payload = step.0;
      steps = step.2;
      asks = step.3;
      leaves = c.change-changed.ensures.leaves;
      notes = notes-on g.B.Beneath.disk c.args.store c.args.session step.0 c.change-changed.result (tape_of c.new-log.result.noted) last (awaited noted)
          (limit-of c.args.store c.log_limit-limit.result c.log_limit-limit.ensures.limits c.log_limit-limit.ensures.log) c.change-changed.ensures.leaves c.new-log.ensures c.change-changed.new.disk.fit c.requires.on_disk step.1
          (calls-are c.change-changed.new.disk.noted.noted.items ∙ ap awaited (sym c.into_noted.ensures.noted));
    }
