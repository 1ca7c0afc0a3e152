use Rattle.outside.specs.Counts.{Rose}
use Rattle.command_lines.specs.Meant.{meant}
use Rattle.command_lines.specs.Told.{told}
use Rattle.dag_run.proofs.Doing.{brief-told}
use Rattle.dag_run.proofs.execute.tell_brief.Goals as goal

pub returns-clause-told : goal.returns-clause-told
returns-clause-told g c =
    brief-told _ _ (Rose (g.O.Sink.faults c.args.output.now) (g.O.Sink.faults c.tell.new.output)) c.args.store c.reply_of-reply.new.store c.args.s (meant c.args.verb.now) c.tell.result (told c.reply_of-reply.result)
    (g.O.Sink.taken c.args.output.now) (g.O.Sink.taken c.tell.new.output) c.reply_of-reply.ensures.does c.tell.ensures.bytes
