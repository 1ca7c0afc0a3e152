use Rattle.std.proofs.Common.{subst, rules, ◌≡◌, map, Ok, Err, refl, sym, ap, ◌∙◌}
use Rattle.std.proofs.lemmas.Result.{err_from_is_err_and}
use Rattle.outside.specs.Counts.{Rose}
use Rattle.outside.specs.Told.{WhereTold}
use Rattle.line_io.specs.Reading.{is_over}
use Rattle.dag_run.specs.Stops.{IsOverAt}
use Rattle.outside.proofs.ToldLemmas.{WhereTold-join}
use Rattle.disk_trait.specs.Images.{Told}
use Rattle.disk_trait.proofs.Telling.{goes-both, goes-from, goes-new, goes-told, of_told}
use Rattle.gated_log.specs.Holding.{IsOnDisk}
use Rattle.gated_log.specs.Load.{IsSureOf}
use Rattle.change_rules.specs.Change.{text_of}
use Rattle.change_rules.specs.Holding.{HoldAs, KeepsHolding}
use Rattle.dag_store.specs.Loading.{IsLoadedStore}
use Rattle.dag_run.specs.Seen.{seen}
use Rattle.dag_run.specs.Ends.{OpensRun}
use Rattle.dag_run.specs.declared.stops.Stop.TheVariants as stops
use Rattle.dag_run.proofs.Seeing.{Each, seen-each, same-told, rose-since}
use Rattle.dag_run.proofs.Going.{going-begin}
use Rattle.dag_run.proofs.Ending.{load-stops}
use Rattle.dag_run.proofs.Statuses.{answer-never, load-refuses, line-refuses, log-not-loaded}
use Rattle.outside.proofs.ToldLemmas.{WhereTold-same}
use Rattle.dag_run.proofs.Over.{load-over}
use Rattle.dag_run.proofs.program.answer_all.Goals as goal

pub returns-in_err-store : goal.returns-in_err-store
returns-in_err-store g c = record {
  means =
      λ w payloads.
      let p = err_from_is_err_and c.from_residual.result c.from_residual.ensures.1 in
      let limits = c.args.limits in
      let stop = c.in_err-store.field-0.0 in
      let failed : Type 0 = Rose (g.O.Sink.faults c.args.output.now) (g.O.Sink.faults c.load.new.output) in
      let d = g.D.Disk.told c.args.reach.disk.now in let e = g.D.Disk.told c.load.new.log in
      rw (p.1, p.2, c.requires.none) (load-stops limits c.requires.limits w payloads c.args.cache _ failed d e (g.I.Source.left c.args.input.now) (g.O.Sink.taken c.args.output.now) (g.O.Sink.taken c.load.new.output) stop
      (of_told (λ bytes. HoldAs limits.log bytes payloads w → OpensRun payloads w (Err stop)) (g.D.Disk.bytes c.args.reach.disk.now) d (g.met.D.Disk.tells c.args.reach.disk.now) (c.in_err-store.ensures.opens payloads w))
      (c.in_err-store.ensures.images w) (λ no. c.in_err-store.ensures.sure (λ e. no (cc e)) (map text_of payloads)) (c.in_err-store.ensures.behind (map text_of payloads)) c.in_err-store.ensures.calls c.in_err-store.ensures.stop c.in_err-store.ensures.puts);
  over =
      let p = err_from_is_err_and c.from_residual.result c.from_residual.ensures.1 in
      rw (p.1, p.2) (WhereTold-same (g.I.Source.left c.args.input.now) _ (λ x. load-over c.in_err-store.field-0.0 c.in_err-store.ensures.stop _));
  refuses =
      let p = err_from_is_err_and c.from_residual.result c.from_residual.ensures.1 in
      rw (p.1, p.2) (load-refuses c.args.limits.log (g.D.Disk.bytes c.args.reach.disk.now) c.in_err-store.field-0.0 c.in_err-store.ensures.stop c.in_err-store.ensures.lawful);
  unwritten =
      λ e.
      let p = err_from_is_err_and c.from_residual.result c.from_residual.ensures.1 in
      let is : Err c.in_err-store.field-0.0 ≡ Err stops.NoLog = ap Err (sym p.2) ∙ sym p.1 ∙ e in
      let same : c.in_err-store.field-0.0 ≡ stops.NoLog = cc is in
      (c.in_err-store.ensures.unwritten (ap Err same), refl, c.in_err-store.ensures.quiet (λ no. log-not-loaded c.in_err-store.field-0.0 same (cc no)), refl);
  quiet = search rules;
  causes = search rules;
}

pub answer_lines-requires : goal.answer_lines-requires
answer_lines-requires g c =
    let store = c.in_ok-store.store in
    record { ready = goes-new (IsLoadedStore store) (IsOnDisk store.log) (g.D.Disk.told c.args.reach.disk.now) (g.D.Disk.told c.load.new.log) (λ x y r. r.on_disk) c.in_ok-store.ensures.done }

pub returns : goal.returns
returns g c = record {
  means =
      λ w payloads.
      let store = c.in_ok-store.store in
      let limits = c.args.limits in
      let d = g.D.Disk.told c.args.reach.disk.now in let e = g.D.Disk.told c.load.new.log in
      let i = g.I.Source.left c.args.input.now in
      let o = g.O.Sink.taken c.args.output.now in let q = g.O.Sink.taken c.load.new.output in
      let texts = map text_of payloads in
      let F : Told → Type 0 = λ x. HoldAs limits.log x.bytes payloads w → OpensRun payloads w (Ok store) in
      let R : Told → Told → Type 0 = λ x y. IsSureOf limits.log texts x y × IsLoadedStore store x y in
      let S : Told → Told → Type 0 = λ x y. KeepsHolding limits.log w x y × R x y in
      let Q : Told → Told → Type 0 = λ x y. F x × S x y in
      let sure = goes-both (IsSureOf limits.log texts) (IsLoadedStore store) R d e (λ x y r s. (r, s)) (c.in_ok-store.ensures.sure (λ e. cc e) texts) c.in_ok-store.ensures.done in
      let both = goes-both (KeepsHolding limits.log w) R S d e (λ x y r s. (r, s)) (c.in_ok-store.ensures.images w) sure in
      let opens = of_told (λ bytes. HoldAs limits.log bytes payloads w → OpensRun payloads w (Ok store)) (g.D.Disk.bytes c.args.reach.disk.now) d (g.met.D.Disk.tells c.args.reach.disk.now) (c.in_ok-store.ensures.opens payloads w) in
      let disk = goes-from S Q F d e (λ x y f r. (f, r)) opens both in
      WhereTold-join (seen d i o) (seen e i q) (seen (g.D.Disk.told c.answer_lines.new.reach.0) (g.I.Source.left c.answer_lines.new.input) (g.O.Sink.taken c.answer_lines.new.output))
      (Each Q (λ x y. y ≡ x) (λ x y. y ≡ x)) _ _
      (λ x y z t means begins.
      means x begins
      (going-begin limits c.requires.limits w payloads c.args.cache _ x begins store y c.args.reach.changes.now.items c.args.lines.now c.requires.none c.requires.new
      c.in_ok-store.ensures.limits c.in_ok-store.ensures.cache (t.disk.0 begins.0.read) (t.disk.1.0 begins.0.holds) t.disk.1.1.0 t.disk.1.1.1 t.left t.taken))
      (seen-each d e i i o q Q (λ x y. y ≡ x) (λ x y. y ≡ x) (goes-told Q d e disk) (same-told i) c.in_ok-store.ensures.puts)
      (c.answer_lines.ensures.means limits w payloads c.args.cache _ (g.O.Sink.faults c.args.output.now) c.requires.limits c.in_ok-store.ensures.limits c.in_ok-store.ensures.sink_later);
  over = subst (λ r. WhereTold (g.I.Source.left c.args.input.now) (g.I.Source.left c.answer_lines.new.input) (λ before after. IsOverAt c.answer_lines.result (is_over r before))) c.requires.new c.answer_lines.ensures.over;
  refuses =
      line-refuses c.args.limits.log (g.D.Disk.bytes c.args.reach.disk.now) c.answer_lines.result (answer-never c.answer_lines.result stops.NoLog c.answer_lines.ensures.stop (λ is. is)) c.in_ok-store.ensures.lawful;
  unwritten =
      λ e. absurd (answer-never c.answer_lines.result stops.NoLog c.answer_lines.ensures.stop (λ is. is) e);
  quiet =
      λ e. absurd (answer-never c.answer_lines.result stops.Memory c.answer_lines.ensures.stop (λ is. is) e);
  causes = record {
    disk_failed = λ e. rose-since (g.D.Disk.faults c.args.reach.disk.now) (g.D.Disk.faults c.load.new.log) (g.D.Disk.faults c.answer_lines.new.reach.0) c.in_ok-store.ensures.later (c.answer_lines.ensures.causes.disk_failed e);
    source_failed = λ e. c.answer_lines.ensures.causes.source_failed e;
    sink_failed = λ e. rose-since (g.O.Sink.faults c.args.output.now) (g.O.Sink.faults c.load.new.output) (g.O.Sink.faults c.answer_lines.new.output) c.in_ok-store.ensures.sink_later (c.answer_lines.ensures.causes.sink_failed e);
    disk_later = search rules;
    source_later = search rules;
    sink_later = search rules;
  };
}
