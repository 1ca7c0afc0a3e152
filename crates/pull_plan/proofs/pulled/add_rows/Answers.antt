use Rattle.std.proofs.Common.{◌≡◌, ◌∙◌, List, length, max, take, slice_get, subst, sym, ap, arith}
use Rattle.commit_graph.proofs.Places.{item-at}
use Rattle.segment_codec.specs.Record.{Segment}
use Rattle.high_segments.specs.Views.{flats_in}
use Rattle.remote_rules.specs.CloneData.{CloneData}
use Rattle.pull_plan.specs.Taken.{AreTaken}
use Rattle.change_parts.proofs.Refusals.{err-match}
use Rattle.pull_plan.proofs.Walking.{start, place-here, place-next, all-walked}
use Rattle.pull_plan.proofs.pulled.add_rows.Goals as goal

pub segments-init : goal.segments-init
segments-init c = λ w rows m first.
    subst (λ n. AreTaken w c.args.newest.now.cloned (take n rows) c.args.ids.now.items c.args.left.now) (let z : c.args.newest.now.cloned ≡ max c.args.newest.now.cloned 0 = omega arith in z)
    (start c.args.newest.now.base (flats_in c.args.newest.now.view) c.args.newest.now.cloned c.args.fresh.now w rows m c.args.ids.now.items c.args.left.now c.requires.ids c.requires.left first)

pub add_segment-requires-clause-rows : goal.add_segment-requires-clause-rows
add_segment-requires-clause-rows c =
    let r = c.requires.rows in
    let all = ap (λ (d : CloneData). d.segments) (c.told.view_is ∙ c.requires.told) in
    let at = ap (λ (l : List Segment). slice_get l c.segments.k) (sym all) ∙ c.at-segment.ensures in
    let p = place-here c.args.newest.now.base (flats_in c.args.newest.now.view) c.args.newest.now.cloned c.args.fresh.now r.0 r.1 r.2 c.segments.k c.at-segment.result.now at in (
      r.0,
      r.1,
      r.2,
      item-at c.args.fresh.now.cloned.segments c.segments.k c.at-segment.result.now at,
      subst (λ n. AreTaken r.0 c.args.newest.now.cloned (take (max c.args.newest.now.cloned n) r.1) c.segments.ids.items c.segments.left) p (c.segments.invariant r.0 r.1 r.2 r.3),
    )

pub returns-in_err-add_segment : goal.returns-in_err-add_segment
returns-in_err-add_segment c = λ w rows m first.
    let all = ap (λ (d : CloneData). d.segments) (c.told.view_is ∙ c.requires.told) in
    let at = ap (λ (l : List Segment). slice_get l c.segments.k) (sym all) ∙ c.at-segment.ensures in
    let p = place-here c.args.newest.now.base (flats_in c.args.newest.now.view) c.args.newest.now.cloned c.args.fresh.now w rows m c.segments.k c.at-segment.result.now at in
    err-match c.from_residual.result c.in_err-add_segment.field-0.0 _ _ c.from_residual.ensures.1
    (c.in_err-add_segment.ensures w rows m (item-at c.args.fresh.now.cloned.segments c.segments.k c.at-segment.result.now at)
    (subst (λ n. AreTaken w c.args.newest.now.cloned (take (max c.args.newest.now.cloned n) rows) c.segments.ids.items c.segments.left) p (c.segments.invariant w rows m first)))

pub segments-preserved : goal.segments-preserved
segments-preserved c = λ w rows m first.
    let all = ap (λ (d : CloneData). d.segments) (c.told.view_is ∙ c.requires.told) in
    let at = ap (λ (l : List Segment). slice_get l c.segments.k) (sym all) ∙ c.at-segment.ensures in
    let p = place-here c.args.newest.now.base (flats_in c.args.newest.now.view) c.args.newest.now.cloned c.args.fresh.now w rows m c.segments.k c.at-segment.result.now at in
    let n = place-next c.args.newest.now.base (flats_in c.args.newest.now.view) c.args.newest.now.cloned c.args.fresh.now w rows m c.segments.k c.at-segment.result.now at in
    subst (λ n. AreTaken w c.args.newest.now.cloned (take (max c.args.newest.now.cloned n) rows) c.add_segment.new.ids.items c.add_segment.new.left) (sym n)
    (c.in_ok-add_segment.ensures w rows m (item-at c.args.fresh.now.cloned.segments c.segments.k c.at-segment.result.now at)
    (subst (λ n. AreTaken w c.args.newest.now.cloned (take (max c.args.newest.now.cloned n) rows) c.segments.ids.items c.segments.left) p (c.segments.invariant w rows m first)))

pub returns : goal.returns
returns c = λ w rows m first.
    let all = ap (λ (d : CloneData). d.segments) (c.told.view_is ∙ c.requires.told) in
    let n = ap (length {A = Segment}) all in let l = c.len-k-end.ensures in let ge = c.segments-test.false in
    all-walked c.args.newest.now.base (flats_in c.args.newest.now.view) c.args.newest.now.cloned c.args.fresh.now w rows m c.segments.k (omega (arith, n, l, ge)) c.segments.ids.items c.segments.left (c.segments.invariant w rows m first)
