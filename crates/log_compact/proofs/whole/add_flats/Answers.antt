use Rattle.std.proofs.Common.{◌∙◌, ◌++◌, take, refl, subst, arith, append-nil, sym, subst₂}
use Rattle.std.proofs.lemmas.List.{take_all}
use Rattle.commit_graph.proofs.Places.{item-at}
use Rattle.segment_codec.specs.Lent.{segment_of}
use Rattle.flat_segments.proofs.Viewing.{view_lawful}
use Rattle.high_segments.specs.Views.{flats_in}
use Rattle.batch_codec.specs.Building.{IsBuilt}
use Rattle.log_compact.specs.Sections.{masters_in, others_in}
use Rattle.log_compact.proofs.Sorting.{built-more}
use Rattle.log_compact.proofs.whole.add_flats.Goals as goal

pub flats-init : goal.flats-init
flats-init c = record {
  built = λ p is. subst₂ (λ m o. IsBuilt c.args.build.now (record p { master = m; others = o })) (sym (append-nil p.master)) (sym (append-nil p.others)) is;
  count = refl;
}

pub add_flat-requires-clause-segment : goal.add_flat-requires-clause-segment
add_flat-requires-clause-segment c =
    let s = segment_of c.flat_at-segment.result in
    ((view_lawful c.args.view.now.flat).each s (item-at (flats_in c.args.view.now) c.flats.k s c.flat_at-segment.ensures.found)).segment

pub add_flat-requires-clause-flat : goal.add_flat-requires-clause-flat
add_flat-requires-clause-flat c =
    let s = segment_of c.flat_at-segment.result in
    ((view_lawful c.args.view.now.flat).each s (item-at (flats_in c.args.view.now) c.flats.k s c.flat_at-segment.ensures.found)).flat

pub returns-in_err-add_flat-clause-count : goal.returns-in_err-add_flat-clause-count
returns-in_err-add_flat-clause-count c = c.add_flat.ensures.count ∙ c.flats.invariant.count

pub flats-preserved : goal.flats-preserved
flats-preserved c =
    let flats = flats_in c.args.view.now in record {
      built = λ p is.
          built-more c.add_flat.new.build p flats c.flats.k (segment_of c.flat_at-segment.result) c.flat_at-segment.ensures.found
          (c.in_ok-add_flat.ensures.built (record p { master = p.master ++ masters_in (take c.flats.k flats); others = p.others ++ others_in (take c.flats.k flats) }) (c.flats.invariant.built p is));
      count = c.add_flat.ensures.count ∙ c.flats.invariant.count;
    }

pub returns-clause-built : goal.returns-clause-built
returns-clause-built c = λ p is.
    let flats = flats_in c.args.view.now in
    let n = c.flat_count-k-end.ensures in let t = c.flats-test.false in
    subst (λ ss. IsBuilt c.flats.build (record p { master = p.master ++ masters_in ss; others = p.others ++ others_in ss })) (take_all c.flats.k flats (omega (arith, n, t))) (c.flats.invariant.built p is)

pub returns-clause-count : goal.returns-clause-count
returns-clause-count c = c.flats.invariant.count
