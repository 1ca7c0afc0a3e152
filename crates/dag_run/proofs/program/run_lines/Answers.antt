use Rattle.std.proofs.Common.{[], ◌≡◌, sym, subst, ◌∙◌}
use Rattle.outside.specs.Counts.{Rose}
use Rattle.dag_run.specs.Seen.{seen}
use Rattle.commit_graph.specs.World.{empty_world}
use Rattle.outside.specs.Told.{WhereTold}
use Rattle.disk_trait.proofs.Telling.{of_told}
use Rattle.dag_run.proofs.Seeing.{same-told}
use Rattle.dag_run.specs.Ends.{RunRefuses}
use Rattle.dag_run.proofs.Statuses.{status-known, of-disk, of-log, of-source, of-sink, of-memory, run-means, status-refuses, no-log}
use Rattle.outside.proofs.ToldLemmas.{WhereTold-map}
use Rattle.dag_run.proofs.Over.{status-over}
use Rattle.dag_run.proofs.program.run_lines.Goals as goal

pub returns-clause-known : goal.returns-clause-known
returns-clause-known g c = rw c.status.ensures (status-known c.run-end.result)

pub returns-clause-unwritten : goal.returns-clause-unwritten
returns-clause-unwritten g c = λ e. c.run-end.ensures.unwritten (of-log c.run-end.result (sym c.status.ensures ∙ e))

pub returns-clause-quiet : goal.returns-clause-quiet
returns-clause-quiet g c = λ e. c.run-end.ensures.quiet (of-memory c.run-end.result (sym c.status.ensures ∙ e))

pub returns-clause-disk : goal.returns-clause-disk
returns-clause-disk g c = λ e. c.run-end.ensures.causes.disk_failed (of-disk c.run-end.result (sym c.status.ensures ∙ e))

pub returns-clause-source : goal.returns-clause-source
returns-clause-source g c = λ e. c.run-end.ensures.causes.source_failed (of-source c.run-end.result (sym c.status.ensures ∙ e))

pub returns-clause-sink : goal.returns-clause-sink
returns-clause-sink g c = λ e. c.run-end.ensures.causes.sink_failed (of-sink c.run-end.result (sym c.status.ensures ∙ e))

pub returns-clause-does : goal.returns-clause-does
returns-clause-does g c =
    let limits = c.args.limits in
    let end = c.run-end.result in
    let cs = c.run-end.new.reach.1.1.0.items in
    let d = g.D.Disk.told c.args.log.now in let e = g.D.Disk.told c.run-end.new.reach.0 in
    let i = g.I.Source.left c.args.input.now in let j = g.I.Source.left c.run-end.new.input in
    let o = g.O.Sink.taken c.args.output.now in let p = g.O.Sink.taken c.run-end.new.output in
    let disk : Type 0 = Rose (g.D.Disk.faults c.args.log.now) (g.D.Disk.faults c.run-end.new.reach.0) in
    let source : Type 0 = Rose (g.I.Source.faults c.args.input.now) (g.I.Source.faults c.run-end.new.input) in
    let sink : Type 0 = Rose (g.O.Sink.faults c.args.output.now) (g.O.Sink.faults c.run-end.new.output) in
    let causes = c.run-end.ensures.causes in (record {
      means = λ w payloads.
          run-means limits w payloads c.args.cache _ _ disk source sink end c.status.result cs c.of.result (seen d i o) (seen e j p) c.status.ensures c.of.ensures
          causes.disk_failed causes.source_failed causes.sink_failed (c.run-end.ensures.means w payloads);
      refuses = status-refuses limits.log (g.D.Disk.bytes c.args.log.now) end c.status.result c.status.ensures c.run-end.ensures.refuses;
      no_log = no-log limits c.status.result d e i j o p _ end c.status.ensures (c.run-end.ensures.means empty_world [])
          (λ is. let u = c.run-end.ensures.unwritten is in (u.0, subst (λ out. WhereTold o (g.O.Sink.taken out) (λ x y. y ≡ x)) (sym u.2) (same-told o)))
          (of_told (λ bytes. RunRefuses limits.log bytes end) (g.D.Disk.bytes c.args.log.now) d (g.met.D.Disk.tells c.args.log.now) c.run-end.ensures.refuses);
      over = WhereTold-map i j _ _ (λ x y h. status-over end c.status.result limits.input x c.status.ensures h) c.run-end.ensures.over;
    })
