use Rattle.std.proofs.Common.{◌≡◌, ◌<◌, Some, length, ap, ◌∙◌, arith, subst}
use Rattle.std.specs.Prelude.{slice_get}
use Rattle.segment_codec.specs.Record.{Segment}
use Rattle.remote_rules.specs.CloneData.{CloneData}
use Rattle.remote_answers.proofs.Cloned.{at-place, heads-step}
use Rattle.remote_answers.proofs.cloning.put_heads.Goals as goal

pub master-requires : goal.master-requires
master-requires g c =
    let s = c.at.result.now in
    let held = ap (λ (d : CloneData). d.segments) c.given-in-segments.view_is ∙ c.segments.invariant.segments in
    let at = subst (λ l. slice_get l c.segments.i ≡ Some s) held c.at.ensures in
    let high = ap (λ (t : Segment). t.high) c.behind-given.view_is in
    let lt = at-place (λ (t : Segment). t.high < length c.args.parents.now) c.args.given.now.segments c.segments.i s c.requires.highs at in
    let few = c.requires.few in omega (arith, lt, high, few)

pub bounds-parents-high : goal.bounds-parents-high
bounds-parents-high g c =
    let s = c.at.result.now in
    let held = ap (λ (d : CloneData). d.segments) c.given-in-segments.view_is ∙ c.segments.invariant.segments in
    let at = subst (λ l. slice_get l c.segments.i ≡ Some s) held c.at.ensures in
    let high = ap (λ (t : Segment). t.high) c.behind-given.view_is in
    let lt = at-place (λ (t : Segment). t.high < length c.args.parents.now) c.args.given.now.segments c.segments.i s c.requires.highs at in
    omega (arith, lt, high)

pub put_head-requires-clause-id : goal.put_head-requires-clause-id
put_head-requires-clause-id g c =
    let s = c.at.result.now in
    let held = ap (λ (d : CloneData). d.segments) c.given-in-segments.view_is ∙ c.segments.invariant.segments in
    let at = subst (λ l. slice_get l c.segments.i ≡ Some s) held c.at.ensures in
    let high = ap (λ (t : Segment). t.high) c.behind-given.view_is in
    let lt = at-place (λ (t : Segment). t.high < length c.args.parents.now) c.args.given.now.segments c.segments.i s c.requires.highs at in
    let size = c.requires.size.2 in let is = c.master.ensures in
    (c.requires.size.0, c.requires.size.1, omega (arith, lt, high, size, is))

pub segments-preserved : goal.segments-preserved
segments-preserved g c =
    let s = c.at.result.now in
    let held = ap (λ (d : CloneData). d.segments) c.given-in-segments.view_is ∙ c.segments.invariant.segments in
    let at = subst (λ l. slice_get l c.segments.i ≡ Some s) held c.at.ensures in
    let high = ap (λ (t : Segment). t.high) c.behind-given.view_is in
    record {
      heads = λ rows are. heads-step rows c.args.parents.now c.args.given.now.segments c.segments.i s c.behind-given.inside.high c.master.result c.segments.given.heads c.put_head.new.given.heads at high c.master.ensures
          (c.segments.invariant.heads rows are) (c.in_ok-put_head.ensures.heads rows are);
      few = let f = c.segments.invariant.few in let m = c.in_ok-put_head.ensures.few in omega (arith, f, m);
      segments = c.in_ok-put_head.ensures.segments ∙ c.segments.invariant.segments;
      names = c.in_ok-put_head.ensures.names ∙ c.segments.invariant.names;
    }
