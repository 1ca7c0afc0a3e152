use Rattle.std.proofs.Common.{◌≡◌, ◌∙◌, ◌<◌, ◌≤◌, ◌^◌, ◌++◌, ◌∷◌, [], ℕ, length, ap, sym, subst, take, arith}
use Rattle.std.specs.List.{AllByRecursion}
use Rattle.commit_graph.proofs.Places.{item-at}
use Rattle.segment_codec.specs.Record.{Segment, IsSegment}
use Rattle.batch_codec.specs.Building.{IsBuilt}
use Rattle.change_parts.proofs.Gathered.{behind-more, all-more}
use Rattle.clone_plan.proofs.Telling.{stands-at, record-of, segment-is, parents-below}
use Rattle.clone_plan.proofs.told.add_segments.Goals as goal

pub take_ids-requires : goal.take_ids-requires
take_ids-requires c =
    let s = c.at-item.result.now in
    let stands = stands-at 0 c.args.segments.now c.requires.turn c.segments.i s c.at-item.ensures in
    let high = c.requires.few s (item-at c.args.segments.now c.segments.i s c.at-item.ensures) in
    subst (AllByRecursion (λ p. p < 2 ^ 56)) (sym (c.numbers.ensures.numbers ∙ ap (λ (t : Segment). t.parents) c.item.view_is)) (parents-below s stands high)

pub master-requires : goal.master-requires
master-requires c =
    let s = c.at-item.result.now in
    let o = (stands-at 0 c.args.segments.now c.requires.turn c.segments.i s c.at-item.ensures).order in
    let high = c.requires.few s (item-at c.args.segments.now c.segments.i s c.at-item.ensures) in
    let e = ap (λ (t : Segment). t.low) c.item.view_is in omega (arith, o, high, e)

pub master-requires-in-segments : goal.master-requires-in-segments
master-requires-in-segments c =
    let s = c.at-item.result.now in
    let high = c.requires.few s (item-at c.args.segments.now c.segments.i s c.at-item.ensures) in
    let e = ap (λ (t : Segment). t.high) c.item.view_is in omega (arith, high, e)

pub segment-requires : goal.segment-requires
segment-requires c =
    let s = c.at-item.result.now in
    let v = c.item.view_is in
    let few = c.numbers.ensures.few in
    let p = ap (length {A = ℕ}) (ap (λ (t : Segment). t.parents) v) in
    subst IsSegment (sym (segment-is s c.master.result c.master-in-segments.result c.deref.result.now (c.master.ensures ∙ ap (λ (t : Segment). t.low) v) (c.master-in-segments.ensures ∙ ap (λ (t : Segment). t.high) v) (ap (λ (t : Segment). t.level) v)
    (c.deref.ensures.value ∙ c.in_ok-take_ids.ensures ∙ c.numbers.ensures.numbers ∙ ap (λ (t : Segment). t.parents) v)))
    (record-of s (stands-at 0 c.args.segments.now c.requires.turn c.segments.i s c.at-item.ensures) (c.requires.few s (item-at c.args.segments.now c.segments.i s c.at-item.ensures)) (sym (ap (λ (t : Segment). t.level) v)) (omega (arith, few, p)))

pub segments-preserved : goal.segments-preserved
segments-preserved c =
    let s = c.at-item.result.now in
    let v = c.item.view_is in
    let few = c.numbers.ensures.few in
    let p_is = ap (length {A = ℕ}) (ap (λ (t : Segment). t.parents) v) in
    let same = segment-is s c.master.result c.master-in-segments.result c.deref.result.now (c.master.ensures ∙ ap (λ (t : Segment). t.low) v) (c.master-in-segments.ensures ∙ ap (λ (t : Segment). t.high) v) (ap (λ (t : Segment). t.level) v)
    (c.deref.ensures.value ∙ c.in_ok-take_ids.ensures ∙ c.numbers.ensures.numbers ∙ ap (λ (t : Segment). t.parents) v) in record {
      built = λ p is.
          subst (λ l. IsBuilt c.segment.new.self (record p { master = l })) (behind-more p.master c.args.segments.now c.segments.i s c.at-item.ensures)
          (subst (λ (t : Segment). IsBuilt c.segment.new.self (record p { master = (p.master ++ take c.segments.i c.args.segments.now) ++ t ∷ [] })) same
          (c.in_ok-segment.ensures.ok (record p { master = p.master ++ take c.segments.i c.args.segments.now }) (c.segments.invariant.built p is)));
      formed = all-more (λ (t : Segment). (t.level ≡ 0) × (length t.parents ≤ 8)) c.args.segments.now c.segments.i s c.at-item.ensures c.segments.invariant.formed
          (sym (ap (λ (t : Segment). t.level) v), omega (arith, few, p_is));
      count = c.segment.ensures.count ∙ c.segments.invariant.count;
    }
