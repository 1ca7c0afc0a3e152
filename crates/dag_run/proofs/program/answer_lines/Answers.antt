use Rattle.std.proofs.Common.{◌≤◌, ◌∙◌, rules, refl, sym, arith}
use Rattle.std.proofs.lemmas.Result.{err_from_is_err_and}
use Rattle.outside.proofs.ToldLemmas.{WhereTold-join, WhereTold-same}
use Rattle.dag_run.specs.Seen.{seen}
use Rattle.dag_store.specs.Kept.{PlainStore}
use Rattle.dag_run.proofs.Over.{stop-over}
use Rattle.dag_run.proofs.program.answer_lines.Goals as goal

pub lines-init : goal.lines-init
lines-init g c = record {
  limits = refl;
  ready = c.requires.ready;
  told = λ limits w payloads room first fair same. WhereTold-same (seen (g.D.Disk.told c.args.reach.disk.now) (g.I.Source.left c.args.input.now) (g.O.Sink.taken c.args.output.now)) _ (λ x before begins h. h);
  over = WhereTold-same (g.I.Source.left c.args.input.now) _ (λ x. refl);
  disk_later = search rules;
  source_later = search rules;
  sink_later = search rules;
}

pub lines-preserved : goal.lines-preserved
lines-preserved g c =
    let limits = rw c.in-Some.is at c.in_ok-next.ensures.limits in
    let faults = g.O.Sink.faults c.lines.output in
    let le : faults ≤ faults = omega arith in record {
      limits = limits ∙ c.lines.invariant.limits;
      ready = rw c.in-Some.is at c.in_ok-next.ensures.ready;
      told = λ limits w payloads room first fair same. WhereTold-join (seen (g.D.Disk.told c.args.reach.disk.now) (g.I.Source.left c.args.input.now) (g.O.Sink.taken c.args.output.now))
          (seen (g.D.Disk.told c.lines.disk) (g.I.Source.left c.lines.input) (g.O.Sink.taken c.lines.output))
          (seen (g.D.Disk.told c.answer_next.new.reach.0) (g.I.Source.left c.answer_next.new.input) (g.O.Sink.taken c.answer_next.new.output)) _ _ _
          (λ x y z a turn before begins h. turn before begins (a before begins h))
          (c.lines.invariant.told limits w payloads room first fair same)
          (rw c.in-Some.is at c.in_ok-next.ensures.means limits w payloads room first faults fair (c.lines.invariant.limits ∙ same) le);
      over = WhereTold-join (g.I.Source.left c.args.input.now) (g.I.Source.left c.lines.input) (g.I.Source.left c.answer_next.new.input) _ _ _
          (λ x y z same turn. turn ∙ same) c.lines.invariant.over (rw c.in-Some.is at c.in_ok-next.ensures.over);
      disk_later = search rules;
      source_later = search rules;
      sink_later = search rules;
    }

pub returns-in_err-next-clause-means : goal.returns-in_err-next-clause-means
returns-in_err-next-clause-means g c = λ limits w payloads room first faults fair same le.
    let p = err_from_is_err_and c.from_residual.result c.from_residual.ensures.1 in
    let later = c.lines.invariant.sink_later in
    let before_it : faults ≤ g.O.Sink.faults c.lines.output = omega (arith, le, later) in
    rw (p.1, p.2) (WhereTold-join (seen (g.D.Disk.told c.args.reach.disk.now) (g.I.Source.left c.args.input.now) (g.O.Sink.taken c.args.output.now))
    (seen (g.D.Disk.told c.lines.disk) (g.I.Source.left c.lines.input) (g.O.Sink.taken c.lines.output))
    (seen (g.D.Disk.told c.answer_next.new.reach.0) (g.I.Source.left c.answer_next.new.input) (g.O.Sink.taken c.answer_next.new.output)) _ _ _
    (λ x y z a turn before begins h. turn before begins (a before begins h))
    (c.lines.invariant.told limits w payloads room first fair same)
    (c.in_err-next.ensures.means limits w payloads room first faults fair (c.lines.invariant.limits ∙ same) before_it))

pub returns-in_err-next-clause-stop : goal.returns-in_err-next-clause-stop
returns-in_err-next-clause-stop g c =
    let p = err_from_is_err_and c.from_residual.result c.from_residual.ensures.1 in
    rw (p.1, p.2) c.in_err-next.ensures.stop

pub returns-clause-means : goal.returns-clause-means
returns-clause-means g c = λ limits w payloads room first faults fair same le.
    let later = c.lines.invariant.sink_later in
    let before_it : faults ≤ g.O.Sink.faults c.lines.output = omega (arith, le, later) in
    WhereTold-join (seen (g.D.Disk.told c.args.reach.disk.now) (g.I.Source.left c.args.input.now) (g.O.Sink.taken c.args.output.now))
    (seen (g.D.Disk.told c.lines.disk) (g.I.Source.left c.lines.input) (g.O.Sink.taken c.lines.output))
    (seen (g.D.Disk.told c.answer_next.new.reach.0) (g.I.Source.left c.answer_next.new.input) (g.O.Sink.taken c.answer_next.new.output)) _ _ _
    (λ x y z a turn before begins h. turn before begins (a before begins h))
    (c.lines.invariant.told limits w payloads room first fair same)
    (rw c.in_default.is at c.in_ok-next.ensures.means limits w payloads room first faults fair (c.lines.invariant.limits ∙ same) before_it)

pub returns-in_err-next-clause-over : goal.returns-in_err-next-clause-over
returns-in_err-next-clause-over g c =
    let p = err_from_is_err_and c.from_residual.result c.from_residual.ensures.1 in
    rw (p.1, p.2) (WhereTold-join (g.I.Source.left c.args.input.now) (g.I.Source.left c.lines.input) (g.I.Source.left c.answer_next.new.input) _ _ _
    (λ x y z same turn. stop-over PlainStore c.in_err-next.field-0.0 _ _ _ same turn) c.lines.invariant.over c.in_err-next.ensures.over)

pub returns-clause-over : goal.returns-clause-over
returns-clause-over g c =
    WhereTold-join (g.I.Source.left c.args.input.now) (g.I.Source.left c.lines.input) (g.I.Source.left c.answer_next.new.input) _ _ _
    (λ x y z same turn. sym same ∙ turn) c.lines.invariant.over (rw c.in_default.is at c.in_ok-next.ensures.over)
