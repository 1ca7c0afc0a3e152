use Rattle.std.proofs.Common.{◌≡◌, ◌≤◌, ℕ, List, map, IfSome}
use Rattle.id_groups.specs.Name.{Name}
use Rattle.commit_graph.specs.World.{World}
use Rattle.outside.specs.Told.{WhereTold}
use Rattle.line_io.specs.Reading.{budget, is_over}
use Rattle.gated_log.specs.Holding.{IsOnDisk}
use Rattle.batch_codec.specs.Payload.{Payload}
use Rattle.change_rules.specs.declared.Limits.{Limits}
use Rattle.change_rules.specs.Standard.{AreLimits}
use Rattle.remote_rules.specs.Mirror.{Mirror}
use Rattle.dag_run.specs.Seen.{Seen, seen}
use Rattle.dag_run.specs.Ends.{Begins}
use Rattle.dag_run.specs.Between.{Going}
use Rattle.dag_run.proofs.program.answer_lines.Given as goal

abbrev pub invariant-lines : goal.invariant-lines
invariant-lines g l = record {
  limits : l.store.limits ≡ l.fn.store.limits;
  ready : IfSome (g.D.Disk.told l.disk) (IsOnDisk l.store.log);
  told : (limits : Limits) (w : World Name) (payloads : List Payload) (room : ℕ) (first : List Mirror) → AreLimits limits → l.fn.store.limits ≡ limits → WhereTold (seen (g.D.Disk.told l.fn.reach.disk.now) (g.I.Source.left l.fn.input) (g.O.Sink.taken l.fn.output)) (seen (g.D.Disk.told l.disk) (g.I.Source.left l.input) (g.O.Sink.taken l.output))
      (λ mid now. (before : Seen) → Begins limits w payloads room first before
      → Going limits w payloads room first (map g.R.Remote.shown l.fn.reach.mirrors.now.list.items) l.fn.store l.fn.reach.changes.now.items l.fn.lines before mid
      → Going limits w payloads room first (map g.R.Remote.shown l.mirrors.list.items) l.store l.changes.items l.lines before now);
  over : WhereTold (g.I.Source.left l.fn.input) (g.I.Source.left l.input) (λ before now. is_over l.lines now ≡ is_over l.fn.lines before);
  disk_later : g.D.Disk.faults l.fn.reach.disk.now ≤ g.D.Disk.faults l.disk;
  source_later : g.I.Source.faults l.fn.input ≤ g.I.Source.faults l.input;
  sink_later : g.O.Sink.faults l.fn.output ≤ g.O.Sink.faults l.output;
}

abbrev pub decreases-lines : goal.decreases-lines
decreases-lines g l = budget l.lines
