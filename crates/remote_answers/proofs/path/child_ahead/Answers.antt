use Rattle.std.proofs.Common.{◌≤◌, ℕ, List, length, sym, subst, ◌∙◌, true≢false, arith}
use Rattle.std.specs.Prelude.{◌↔◌, IsTrue}
use Rattle.id_groups.specs.Lists.{IsIn}
use Rattle.segment_codec.specs.Lent.{segment_of}
use Rattle.segment_codec.proofs.Tables.{segment-in}
use Rattle.ancestor_query.proofs.Best.{found-at}
use Rattle.span_set.specs.Members.{IsMember}
use Rattle.remote_answers.proofs.Climbing.{flat-some, child-is, ahead-held, ahead-small, ahead-more}
use Rattle.remote_answers.proofs.path.child_ahead.Goals as goal
use Rattle.remote_answers.proofs.path.child_ahead.Goals.{else-is_among-via-then-is_among+else-contains, else-is_among-via-else-is_among}

pub unwrap-segment-requires : goal.unwrap-segment-requires
unwrap-segment-requires g c =
    flat-some (g.T.SegmentTable.flats c.args.table.now) c.master.result c.segments.at c.flat.result c.master.ensures (ahead-held (g.T.SegmentTable.flats c.args.table.now) c.args.ids.now c.args.id c.segments.at c.segments.invariant) c.flat.ensures.found

pub returns-then-contains : goal.returns-then-contains
returns-then-contains g c =
    let flats = g.T.SegmentTable.flats c.args.table.now in
    let found = found-at flats c.master.result c.flat.result c.unwrap-segment.result c.unwrap-segment.ensures c.flat.ensures.found in
    child-is flats (g.met.T.SegmentTable.lawful c.args.table.now) c.args.ids.now c.args.id c.master.result (segment_of c.unwrap-segment.result) _ c.low-low.result found c.low-low.ensures (c.contains.ensures.0 c.if-contains.true)
    (subst (IsIn c.args.id) c.parents.ensures (c.is_among.ensures.0 c.if-is_among.true)) c.number.ensures.number
    (subst (λ (ps : List ℕ). IsTrue c.are_several.result ↔ 2 ≤ length ps) c.parents-then-contains.ensures c.are_several.ensures)

pub segments-smaller : goal.segments-smaller
segments-smaller g c =
    let flats = g.T.SegmentTable.flats c.args.table.now in
    let found = found-at flats c.master.result c.flat.result c.unwrap-segment.result c.unwrap-segment.ensures c.flat.ensures.found in
    let f = segment-in flats c.master.result (segment_of c.unwrap-segment.result) found in
    let hi = f.1.1 in let is = c.master.ensures in let small = ahead-small flats c.args.ids.now c.args.id c.segments.at c.segments.invariant in
    let n = c.number-at.ensures.number in let h = c.high.ensures in
    omega (arith, hi, is, small, n, h)

pub segments-preserved : goal.segments-preserved
segments-preserved g c =
    let flats = g.T.SegmentTable.flats c.args.table.now in
    let found = found-at flats c.master.result c.flat.result c.unwrap-segment.result c.unwrap-segment.ensures c.flat.ensures.found in
    let n = c.number-at.ensures.number in let h = c.high.ensures in
    ahead-more flats (g.met.T.SegmentTable.lawful c.args.table.now) c.args.ids.now c.args.id c.segments.at c.segments.invariant c.master.result (segment_of c.unwrap-segment.result) (_) found c.master.ensures
    (λ parent reached. elim c.else-is_among.branch [
      | else-is_among-via-then-is_among+else-contains w ↦ true≢false (sym (w.contains.ensures.1 (subst (IsMember c.args.ids.now) (sym c.low-low.ensures) reached)) ∙ w.if-contains.false)
      | else-is_among-via-else-is_among w ↦ true≢false (sym (c.is_among.ensures.1 (subst (IsIn c.args.id) (sym c.parents.ensures) parent)) ∙ w.if-is_among.false)
    ])
    (omega (arith, n, h))
