use Rattle.std.proofs.Common.{rules, ℕ, List, None, Err, map, refl}
use Rattle.outside.specs.Counts.{Rose}
use Rattle.outside.proofs.ToldLemmas.{WhereTold-map}
use Rattle.step_rules.specs.Reply.{Refused}
use Rattle.dag_store.specs.Asks.{verb_of}
use Rattle.dag_run.specs.Lines.{CommandReplies, PutsFault}
use Rattle.dag_run.specs.Replies.{reply_of_change}
use Rattle.dag_run.specs.declared.stops.Stop.TheVariants as stops
use Rattle.dag_run.proofs.Doing.{flush-goes, refused-goes, short-goes, limit-of, command-told}
use Rattle.dag_run.proofs.Changing.{change-done, change-refused, change-short}
use Rattle.dag_run.proofs.execute.change_and_tell.Goals as goal

pub returns : goal.returns
returns g c =
    let old = c.args.store in
    let new = c.in-Done.store in
    let counts = c.in-Done.counts in
    let clock = c.in-Done.clock in
    let step = c.in-Done.ensures.step in
    let r = c.tell_done.result in
    let o = g.O.Sink.taken c.args.output.now in let p = g.O.Sink.taken c.tell_done.new.output in
    let failed : Type 0 = Rose (g.O.Sink.faults c.args.output.now) (g.O.Sink.faults c.tell_done.new.output) in
    let first = map g.R.Remote.shown c.args.reach.mirrors.now.list.items in let left = map g.R.Remote.shown c.change.new.mirrors.list.items in
    let ask = c.args.ask in (record {
      payload = step.0;
      clock = clock;
      noted = c.note.ensures;
      leaves = flush-goes old new step.0 r c.args.s counts clock (g.D.Disk.told c.args.reach.disk.now) (g.D.Disk.told c.change.new.disk) c.tell_done.ensures.same c.tell_done.ensures.stop
          (limit-of old c.log_limit-limit.result c.log_limit-limit.ensures.limits c.log_limit-limit.ensures.log) c.in-Done.ensures.leaves step.1;
      tells = command-told first left failed old new c.args.s (verb_of ask) step.0 clock r (reply_of_change ask counts) o p (change-done first left old c.args.s step.0 ask new counts clock step.2) c.tell_done.ensures.bytes;
      ends = search rules;
    })

pub returns-in-Refused : goal.returns-in-Refused
returns-in-Refused g c =
    let old = c.args.store in
    let new = c.in-Refused.store in
    let refusal = c.in-Refused.refusal in
    let step = c.in-Refused.ensures.step in
    let r = c.tell_refused.result in
    let o = g.O.Sink.taken c.args.output.now in let p = g.O.Sink.taken c.tell_refused.new.output in
    let failed : Type 0 = Rose (g.O.Sink.faults c.args.output.now) (g.O.Sink.faults c.tell_refused.new.output) in
    let first = map g.R.Remote.shown c.args.reach.mirrors.now.list.items in let left = map g.R.Remote.shown c.change.new.mirrors.list.items in
    let ask = c.args.ask in (record {
      payload = step.0;
      clock = None;
      noted = refl {A = List ℕ} {a = c.args.reach.changes.now.items};
      leaves = refused-goes old new step.0 r refusal (g.D.Disk.told c.args.reach.disk.now) (g.D.Disk.told c.change.new.disk) c.tell_refused.ensures.same c.tell_refused.ensures.stop c.in-Refused.ensures.leaves.1 step.1;
      tells = command-told first left failed old new c.args.s (verb_of ask) step.0 None r (Refused refusal) o p (change-refused first left old c.args.s step.0 ask new refusal step.2) c.tell_refused.ensures.bytes;
      ends = search rules;
    })

pub returns-in-Disk : goal.returns-in-Disk
returns-in-Disk g c =
    let old = c.args.store in
    let step = c.in-Disk.ensures.step in
    let o = g.O.Sink.taken c.args.output.now in let p = g.O.Sink.taken c.tell_fault.new.output in
    let failed : Type 0 = Rose (g.O.Sink.faults c.args.output.now) (g.O.Sink.faults c.tell_fault.new.output) in
    let first = map g.R.Remote.shown c.args.reach.mirrors.now.list.items in let left = map g.R.Remote.shown c.change.new.mirrors.list.items in
    let ask = c.args.ask in (record {
      payload = step.0;
      clock = None;
      noted = refl {A = List ℕ} {a = c.args.reach.changes.now.items};
      leaves = short-goes old step.0 None c.in-Disk.field-0 (g.D.Disk.told c.args.reach.disk.now) (g.D.Disk.told c.change.new.disk) (limit-of old c.log_limit-limit.result c.log_limit-limit.ensures.limits c.log_limit-limit.ensures.log) step.1;
      tells = WhereTold-map o p (PutsFault failed) (CommandReplies first left failed old c.args.s (verb_of ask) step.0 None (Err stops.NotStored))
          (λ before now put began st h enough. let f = change-short first left old c.args.s step.0 ask c.in-Disk.field-0 step.2 began st h enough in (f.0, f.1, f.2, f.3, f.4, refl, put)) c.tell_fault.ensures.bytes;
      ends = search rules;
    })
