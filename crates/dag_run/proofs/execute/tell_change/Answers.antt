use Rattle.std.proofs.Common.{rules, ℕ, List, [], None, refl, ap, ◌∙◌}
use Rattle.outside.specs.Counts.{Rose}
use Rattle.step_rules.specs.declared.Refusal.TheVariants as why
use Rattle.step_rules.specs.Reply.{Refused}
use Rattle.dag_store.specs.Asks.{verb_of}
use Rattle.dag_run.specs.Lines.{changes_with}
use Rattle.dag_run.proofs.Doing.{still-goes, memory-step, command-told}
use Rattle.dag_run.proofs.Changing.{may-want}
use Rattle.dag_run.proofs.execute.tell_change.Goals as goal

pub returns-then-is_err : goal.returns-then-is_err
returns-then-is_err g c =
    let store = c.args.store in
    let o = g.O.Sink.taken c.args.output.now in let p = g.O.Sink.taken c.tell_refused.new.output in
    let failed : Type 0 = Rose (g.O.Sink.faults c.args.output.now) (g.O.Sink.faults c.tell_refused.new.output) in
    let ask = c.args.ask in (record {
      payload = [];
      clock = None;
      noted = c.try_reserve.ensures.items;
      leaves = still-goes store store [] c.tell_refused.result (g.D.Disk.told c.args.reach.disk.now) c.tell_refused.ensures.same c.tell_refused.ensures.stop refl;
      tells = command-told _ _ failed store store c.args.s (verb_of ask) [] None c.tell_refused.result (Refused why.Memory) o p (λ began st h enough. (st, memory-step store.limits st c.args.s (verb_of ask) (may-want ask), (refl, refl), h)) c.tell_refused.ensures.bytes;
      ends = search rules;
    })

pub returns : goal.returns
returns g c =
    let p = c.change_and_tell.ensures in (record {
      payload = p.payload;
      clock = p.clock;
      noted = ◌∙◌ {A = List ℕ} p.noted (ap (λ l. changes_with l p.clock) c.try_reserve.ensures.items);
      leaves = p.leaves;
      tells = p.tells;
      ends = search rules;
    })
