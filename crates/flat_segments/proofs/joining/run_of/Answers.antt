use Rattle.std.proofs.Common.{◌∙◌, ap, List}
use Rattle.flat_segments.specs.Entries.{PlainEntry}
use Rattle.flat_segments.specs.Maximal.{begin_of}
use Rattle.flat_segments.specs.Kept.{KeptFlats}
use Rattle.flat_segments.specs.Runs.{is_run, flats_in}
use Rattle.flat_segments.proofs.Sections.{section-run, section-end, section-begin}
use Rattle.flat_segments.proofs.joining.run_of.Goals as goal

pub invariant_of-result : goal.invariant_of-result
invariant_of-result c =
    let link = c.deref.ensures.value ∙ ap (λ (k : KeptFlats). k.entries) c.section.view_is in
    record {
      read = ap (is_run c.args.bytes.now c.end_from-end.result) link
          ∙ (section-run c.args.section.now c.args.bytes.now c.are_countable.ensures c.args.start c.end_from-end.result c.end_from-end.ensures.none c.end_from-end.ensures.some c.requires.0 c.requires.1).run;
    }

pub returns-clause-flats : goal.returns-clause-flats
returns-clause-flats c = λ records h.
    let link = c.deref.ensures.value ∙ ap (λ (k : KeptFlats). k.entries) c.section.view_is in
    ap (flats_in c.args.bytes.now c.end_from-end.result) link
    ∙ (section-run c.args.section.now c.args.bytes.now c.are_countable.ensures c.args.start c.end_from-end.result c.end_from-end.ensures.none c.end_from-end.ensures.some records h).flats_are

pub returns-clause-begin : goal.returns-clause-begin
returns-clause-begin c = λ records end h f.
    let link = c.deref.ensures.value ∙ ap (λ (k : KeptFlats). k.entries) c.section.view_is in
    ap (λ (z : List PlainEntry). begin_of c.end_from-end.result (flats_in c.args.bytes.now c.end_from-end.result z)) link
    ∙ section-begin c.args.section.now c.args.bytes.now c.are_countable.ensures c.args.start c.end_from-end.result c.end_from-end.ensures.none c.end_from-end.ensures.some records end h f

pub returns-clause-end : goal.returns-clause-end
returns-clause-end c = λ records end h f.
    section-end c.args.section.now c.args.bytes.now c.are_countable.ensures c.args.start c.end_from-end.result c.end_from-end.ensures.none c.end_from-end.ensures.some records end h f
