use Rattle.std.proofs.Common.{rules, ℕ, List, [], None, false, refl}
use Rattle.outside.specs.Counts.{Rose}
use Rattle.outside.proofs.ToldLemmas.{WhereTold-map}
use Rattle.command_lines.specs.Meant.{meant}
use Rattle.dag_run.specs.Lines.{PutsReply}
use Rattle.dag_run.specs.Replies.{IsUnreadFor, reply_of_fault}
use Rattle.dag_run.proofs.Solo.{fault-step}
use Rattle.dag_run.proofs.Doing.{still-goes, text-short, short-silent, line-of-command, line-told}
use Rattle.dag_run.proofs.execute.execute_parsed.Goals as goal

pub returns-in-Ok : goal.returns-in-Ok
returns-in-Ok g c =
    let store = c.args.store in
    let p = c.execute_command.ensures in
    let r = c.execute_command.result in
    let failed : Type 0 = Rose (g.O.Sink.faults c.args.output.now) (g.O.Sink.faults c.execute_command.new.output) in
    let s = c.in-Ok.command.session in
    let verb = meant c.in-Ok.command.verb in (record {
      payload = p.payload;
      clock = p.clock;
      noted = p.noted;
      leaves = p.leaves;
      tells = WhereTold-map (g.O.Sink.taken c.args.output.now) (g.O.Sink.taken c.execute_command.new.output) _ _
          (λ before now h text heard le is.
          let e = text-short text text (refl, le) in
          line-of-command _ _ failed store s verb text p.payload p.clock r before now (rw c.in-Ok.is at is) e.short (short-silent text text false e heard) h)
          p.tells;
      ends = p.ends;
    })

pub returns-in-Err : goal.returns-in-Err
returns-in-Err g c =
    let store = c.args.store in
    let fault = c.in-Err.fault in
    let r = c.tell_unread.result in
    let failed : Type 0 = Rose (g.O.Sink.faults c.args.output.now) (g.O.Sink.faults c.tell_unread.new.output) in (record {
      payload = [];
      clock = None;
      noted = refl {A = List ℕ} {a = c.args.reach.changes.now.items};
      leaves = still-goes store store [] r (g.D.Disk.told c.args.reach.disk.now) c.tell_unread.ensures.same c.tell_unread.ensures.stop refl;
      tells = WhereTold-map (g.O.Sink.taken c.args.output.now) (g.O.Sink.taken c.tell_unread.new.output) (PutsReply store (reply_of_fault fault) r) _
          (λ before now put text heard le is.
          let e = text-short text text (refl, le) in
          let why : IsUnreadFor text fault = rw c.in-Err.is at is in
          line-told _ failed store text r (reply_of_fault fault) before now (short-silent text text false e heard)
          (λ st. fault-step store.limits st text fault (reply_of_fault fault) e.short refl why.syntax why.memory) put)
          c.tell_unread.ensures.bytes;
      ends = search rules;
    })
