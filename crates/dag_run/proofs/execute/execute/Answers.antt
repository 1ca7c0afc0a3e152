use Rattle.std.proofs.Common.{rules, ℕ, List, [], None, Ok, true, refl, sym, subst, ◌∙◌}
use Rattle.outside.specs.Counts.{Rose}
use Rattle.outside.proofs.ToldLemmas.{WhereTold-map, WhereTold-same}
use Rattle.line_io.specs.Next.{IsLine}
use Rattle.line_io.specs.declared.lines.Line.{Line}
use Rattle.step_rules.specs.Reply.{LongLine}
use Rattle.dag_run.specs.Lines.{PutsReply}
use Rattle.dag_run.proofs.Solo.{long-step}
use Rattle.dag_run.proofs.Doing.{still-goes, text-short, short-silent, long-line, long-not-silent, line-as, line-passed, line-told}
use Rattle.dag_run.proofs.execute.execute.Goals as goal

pub returns-in-TooLong : goal.returns-in-TooLong
returns-in-TooLong g c =
    let store = c.args.store in
    let text = c.args.text.now in
    let r = c.tell.result in
    let failed : Type 0 = Rose (g.O.Sink.faults c.args.output.now) (g.O.Sink.faults c.tell.new.output) in (record {
      payload = [];
      clock = None;
      noted = refl {A = List ℕ} {a = c.args.reach.changes.now.items};
      leaves = still-goes store store [] r (g.D.Disk.told c.args.reach.disk.now) c.tell.ensures.same c.tell.ensures.stop refl;
      tells = WhereTold-map (g.O.Sink.taken c.args.output.now) (g.O.Sink.taken c.tell.new.output) (PutsReply store LongLine r) _
          (λ before now put line is.
          let long = long-line line (subst (λ (k : Line). IsLine k text line) c.in-TooLong.is is) in
          line-told _ failed store line r LongLine before now (long-not-silent line long) (λ st. long-step store.limits st line long) put)
          c.tell.ensures.bytes;
      ends = search rules;
    })

pub returns-in-Text-2 : goal.returns-in-Text-2
returns-in-Text-2 g c =
    let store = c.args.store in
    let text = c.args.text.now in
    let p = c.execute_text.ensures in
    let r = c.execute_text.result in
    let failed : Type 0 = Rose (g.O.Sink.faults c.args.output.now) (g.O.Sink.faults c.execute_text.new.output) in (record {
      payload = p.payload;
      clock = p.clock;
      noted = p.noted;
      leaves = p.leaves;
      tells = WhereTold-map (g.O.Sink.taken c.args.output.now) (g.O.Sink.taken c.execute_text.new.output) _ _
          (λ before now h line is.
          let e = subst (λ (k : Line). IsLine k text line) c.in-Text-2.is is in
          line-as _ _ failed store text line p.payload p.clock r before now e.0 (h e.1))
          p.tells;
      ends = p.ends;
    })

pub returns-in-Text : goal.returns-in-Text
returns-in-Text g c =
    let store = c.args.store in
    let text = c.args.text.now in
    let failed : Type 0 = Rose (g.O.Sink.faults c.args.output.now) (g.O.Sink.faults c.args.output.now) in (record {
      payload = [];
      clock = None;
      noted = refl {A = List ℕ} {a = c.args.reach.changes.now.items};
      leaves = still-goes store store [] (Ok store) (g.D.Disk.told c.args.reach.disk.now) refl tt refl;
      tells = WhereTold-same (g.O.Sink.taken c.args.output.now) _
          (λ x line is.
          let e = text-short text line (subst (λ k. IsLine k text line) c.in-Text.is is) in
          line-passed _ failed store line x (short-silent text line true e (sym c.is_comment.ensures ∙ c.if-is_comment.true)));
      ends = search rules;
    })
