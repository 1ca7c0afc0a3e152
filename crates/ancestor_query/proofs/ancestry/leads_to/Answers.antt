use Rattle.std.proofs.Common.{arith, ◌≡◌, ◌∙◌, ℕ, List, ◌↔◌, ◌⊎◌, sym, subst, inr, refl, ⊎_elim, true≢false}
use Rattle.id_groups.specs.Lists.{IsIn}
use Rattle.segment_codec.specs.Lent.{segment_of}
use Rattle.ancestor_query.specs.Visits.{Pending}
use Rattle.ancestor_query.proofs.Graphs.{held-bound}
use Rattle.ancestor_query.proofs.Single.{pending-start, reaches-none, reaches-at_most, id-held, reaches-in, pending-turn}
use Rattle.ancestor_query.proofs.ancestry.leads_to.Goals as goal

pub visit-init : goal.visit-init
visit-init g c =
    let flats = g.T.SegmentTable.flats c.args.table.now in
    let lawful = g.met.T.SegmentTable.lawful c.args.table.now in
    let pushed = c.in_ok-push.ensures.all in
    record {
      pending = pending-start flats lawful c.args.y c.requires.y c.push.new.self
          (λ w i. ⊎_elim (λ n. absurd (subst (IsIn w) c.requires.work n)) (λ e. e) ((pushed w).0 i))
          ((pushed c.args.y).1 (inr refl));
      counted = omega arith;
      above = held-bound flats lawful c.args.x c.requires.x;
    }

pub best_jump-segment-requires : goal.best_jump-segment-requires
best_jump-segment-requires g c =
    id-held (g.T.SegmentTable.flats c.args.table.now) (g.met.T.SegmentTable.lawful c.args.table.now) c.args.y c.requires.y
    c.visit.frontier c.visit.work c.next_below.new.self c.visit.invariant.pending c.in-Some.id c.in-Some.ensures

pub visit-preserved : goal.visit-preserved
visit-preserved g c =
    let flats = g.T.SegmentTable.flats c.args.table.now in
    let lawful = g.met.T.SegmentTable.lawful c.args.table.now in
    let e = c.number-low.ensures.number ∙ c.low.ensures in
    let pushed = subst (λ (l : List ℕ). (w : ℕ) → IsIn w c.push_all.new.self ↔ (IsIn w c.next_below.new.self ⊎ IsIn w l)) c.parents.ensures c.in_ok-push_all.ensures.all in
    let past = c.if-low-target.false in
    record {
      pending = subst (λ n. Pending flats c.args.y n c.push_all.new.self) (sym e)
          (pending-turn flats lawful c.args.y c.requires.y c.visit.frontier c.visit.work c.next_below.new.self c.visit.invariant.pending c.in-Some.id c.in-Some.ensures
          (segment_of c.best_jump-segment.result).low (segment_of c.best_jump-segment.result).parents c.best_jump-segment.ensures.best.jump c.push_all.new.self pushed);
      counted = let b = c.best_jump-segment.ensures.counted in let k = c.visit.invariant.counted in omega arith;
      above = let x = c.number-target.ensures.number in omega arith;
    }

-- an id below x is the greatest that is left
pub returns-then-number-target-clause-reached : goal.returns-then-number-target-clause-reached
returns-then-number-target-clause-reached g c =
    let flats = g.T.SegmentTable.flats c.args.table.now in
    let lawful = g.met.T.SegmentTable.lawful c.args.table.now in
    let under = c.if-number-target.true in let x = c.number-target.ensures.number in let n = c.number.ensures.number in (
      λ t. absurd (true≢false (sym t)),
      λ r. absurd (
          let le = reaches-at_most flats lawful c.args.y c.requires.y c.visit.frontier c.visit.work c.next_below.new.self c.visit.invariant.pending c.in-Some.id c.in-Some.ensures
          c.args.x c.visit.invariant.above r in omega arith),
    )

-- x is one of the ids of the jump
pub returns-then-low-target-clause-reached : goal.returns-then-low-target-clause-reached
returns-then-low-target-clause-reached g c =
    let flats = g.T.SegmentTable.flats c.args.table.now in
    let lawful = g.met.T.SegmentTable.lawful c.args.table.now in
    let x = c.number-target.ensures.number in let n = c.number.ensures.number in
    let e : c.number-low.result ≡ (segment_of c.best_jump-segment.result).low = c.number-low.ensures.number ∙ c.low.ensures in
    let over = c.if-number-target.false in let low = c.if-low-target.true in (
      λ t. reaches-in flats lawful c.args.y c.requires.y c.visit.frontier c.visit.work c.next_below.new.self c.visit.invariant.pending c.in-Some.id c.in-Some.ensures
          (segment_of c.best_jump-segment.result).low (segment_of c.best_jump-segment.result).parents c.best_jump-segment.ensures.best.jump c.args.x (omega arith) (omega arith),
      λ r. refl,
    )

pub returns-clause-reached : goal.returns-clause-reached
returns-clause-reached g c =
    let flats = g.T.SegmentTable.flats c.args.table.now in
    let lawful = g.met.T.SegmentTable.lawful c.args.table.now in (
      λ t. absurd (true≢false (sym t)),
      λ r. absurd (
          reaches-none flats lawful c.args.y c.requires.y c.visit.frontier c.visit.work c.next_below.new.self c.visit.invariant.pending c.in_default.ensures c.args.x c.visit.invariant.above r),
    )
