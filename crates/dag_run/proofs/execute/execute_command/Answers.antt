use Rattle.std.proofs.Common.{rules, ℕ, List, [], None, refl, ap}
use Rattle.outside.specs.Counts.{Rose}
use Rattle.set_expr.specs.Whole.{tree_of}
use Rattle.step_rules.specs.Verb.{Query}
use Rattle.command_lines.specs.Meant.{meant}
use Rattle.dag_run.proofs.Doing.{kept-goes, room-goes, told-as}
use Rattle.dag_run.proofs.execute.execute_command.Goals as goal

pub returns-in-Query : goal.returns-in-Query
returns-in-Query g c =
    let old = c.args.store in
    let failed : Type 0 = Rose (g.O.Sink.faults c.args.output.now) (g.O.Sink.faults c.list.new.output) in (record {
      payload = [];
      clock = None;
      noted = refl {A = List ℕ} {a = c.args.reach.changes.now.items};
      leaves = kept-goes old [] c.list.result (g.D.Disk.told c.args.reach.disk.now) c.list.ensures.kept c.list.ensures.stop;
      tells = told-as _ _ failed old c.args.command.now.session (Query (tree_of c.in-Query.expr)) (meant c.args.command.now.verb) [] None c.list.result (g.O.Sink.taken c.args.output.now) (g.O.Sink.taken c.list.new.output) (ap meant c.in-Query.is) c.list.ensures.told;
      ends = search rules;
    })

pub returns-in_default : goal.returns-in_default
returns-in_default g c = (record {
  payload = [];
  clock = None;
  noted = refl {A = List ℕ} {a = c.args.reach.changes.now.items};
  leaves = room-goes c.args.store [] c.tell_brief.result (g.D.Disk.told c.args.reach.disk.now) c.tell_brief.ensures.room c.tell_brief.ensures.stop;
  tells = c.tell_brief.ensures.told;
  ends = search rules;
})
