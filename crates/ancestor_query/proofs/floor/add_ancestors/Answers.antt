use Rattle.std.proofs.Common.{arith, ◌≡◌, ◌++◌, ◌∙◌, max, subst, sym}
use Rattle.segment_codec.specs.Lent.{segment_of, parents_left}
use Rattle.span_set.specs.Members.{IsMember, IsCanonical}
use Rattle.ancestor_query.proofs.WindowLemmas.{in-both, pushed-past}
use Rattle.ancestor_query.proofs.Turns.{going-none, going-kept, going-held, going-stop, going-down, going-turn, going-done, going-few, going-one}
use Rattle.ancestor_query.proofs.floor.add_ancestors.Goals as goal

pub visit-init : goal.visit-init
visit-init g c = record {
  going = going-none (g.T.SegmentTable.flats c.args.table.now) (g.T.SegmentTable.ending_at c.args.table.now) (IsMember c.args.set.now) c.args.floor c.args.steps.now.taken
      (g.met.T.SegmentTable.lawful c.args.table.now) (λ level id s e. g.met.T.SegmentTable.endings c.args.table.now level id s e) c.requires.held
      c.args.work.now c.args.answer.now c.requires.work c.requires.answer;
  counted = omega arith;
  looked = λ x m. absurd (subst (λ spans. IsMember spans x) c.requires.answer m);
  canonical = subst IsCanonical (sym c.requires.answer) tt;
  set = c.members_end-end.ensures;
  first = λ whole. c.new-pace.ensures;
}

pub paced_jump-segment-requires : goal.paced_jump-segment-requires
paced_jump-segment-requires g c =
    going-held (g.T.SegmentTable.flats c.args.table.now) (g.T.SegmentTable.ending_at c.args.table.now) (IsMember c.args.set.now) c.args.floor c.args.steps.now.taken
    (g.met.T.SegmentTable.lawful c.args.table.now) (λ level id s e. g.met.T.SegmentTable.endings c.args.table.now level id s e) c.requires.held
    c.visit.frontier c.visit.work c.next_of.new.self c.visit.answer c.visit.steps.taken c.visit.invariant.going c.in-Some.id (c.in-Some.ensures c.args.set.now c.visit.invariant.set)

pub visit-preserved : goal.visit-preserved
visit-preserved g c = record {
  going =
      going-kept (g.T.SegmentTable.flats c.args.table.now) (g.T.SegmentTable.ending_at c.args.table.now) (IsMember c.args.set.now) c.args.floor c.args.steps.now.taken
      (g.met.T.SegmentTable.lawful c.args.table.now) (λ level id s e. g.met.T.SegmentTable.endings c.args.table.now level id s e) c.requires.held
      c.number-low.result (c.next_of.new.self ++ parents_left c.parents.result) c.push_all.new.self c.insert_span.new.self c.paced_jump-segment.new.steps.taken
      (pushed-past c.next_of.new.self c.slide.new.self (parents_left c.parents.result) c.push_all.new.self c.number-low.result c.slide.ensures c.in_ok-push_all.ensures.all)
      (going-turn (g.T.SegmentTable.flats c.args.table.now) (g.T.SegmentTable.ending_at c.args.table.now) (IsMember c.args.set.now) c.args.floor c.args.steps.now.taken
      (g.met.T.SegmentTable.lawful c.args.table.now) (λ level id s e. g.met.T.SegmentTable.endings c.args.table.now level id s e) c.requires.held
      c.visit.frontier c.visit.work c.next_of.new.self c.visit.answer c.visit.steps.taken c.visit.invariant.going c.in-Some.id (c.in-Some.ensures c.args.set.now c.visit.invariant.set)
      (segment_of c.paced_jump-segment.result) c.paced_jump-segment.ensures.jump (λ whole. c.paced_jump-segment.ensures.best (c.visit.invariant.first whole))
      c.from_number-from.result (let m : c.max.result ≡ max (segment_of c.paced_jump-segment.result).low c.args.floor = omega (arith, c.max.ensures, c.number-low.ensures.number, c.low.ensures, c.number-least.ensures.number) in c.from_number-from.ensures ∙ m)
      (omega (arith, c.if-number-least.false, c.number.ensures.number, c.number-least.ensures.number))
      (parents_left c.parents.result) (c.next_of.new.self ++ parents_left c.parents.result) c.insert_span.new.self c.parents.ensures
      (in-both c.next_of.new.self (parents_left c.parents.result)) c.in_ok-insert_span.ensures.members
      c.number-low.result (c.number-low.ensures.number ∙ c.low.ensures) c.paced_jump-segment.new.steps.taken c.paced_jump-segment.ensures.few);
  counted = let b = c.paced_jump-segment.ensures.counted in let k = c.visit.invariant.counted in omega arith;
  looked = λ x m. (let b = c.paced_jump-segment.ensures.looked in let k = c.visit.invariant.counted in omega arith);
  canonical = c.in_ok-insert_span.ensures.canonical;
  set = c.lower_end-end.ensures c.visit.frontier (let o = c.paced_jump-segment.ensures.jump.jump.order in let u = (c.in-Some.ensures c.args.set.now c.visit.invariant.set).greatest.under in let n = c.number-low.ensures.number in let l = c.low.ensures in omega (arith, o, u, n, l)) c.visit.invariant.set;
  first = λ whole.
      let lt = going-down (g.T.SegmentTable.flats c.args.table.now) (g.T.SegmentTable.ending_at c.args.table.now) (IsMember c.args.set.now) c.args.floor c.args.steps.now.taken
      (g.met.T.SegmentTable.lawful c.args.table.now) (λ level id s e. g.met.T.SegmentTable.endings c.args.table.now level id s e) c.requires.held
      c.visit.frontier c.visit.work c.next_of.new.self c.visit.answer c.visit.steps.taken c.visit.invariant.going c.in-Some.id (c.in-Some.ensures c.args.set.now c.visit.invariant.set)
      (segment_of c.paced_jump-segment.result) c.paced_jump-segment.ensures.jump (λ same. c.paced_jump-segment.ensures.best (c.visit.invariant.first same))
      c.from_number-from.result (let m : c.max.result ≡ max (segment_of c.paced_jump-segment.result).low c.args.floor = omega (arith, c.max.ensures, c.number-low.ensures.number, c.low.ensures, c.number-least.ensures.number) in c.from_number-from.ensures ∙ m)
      (omega (arith, c.if-number-least.false, c.number.ensures.number, c.number-least.ensures.number))
      c.number-low.result (c.number-low.ensures.number ∙ c.low.ensures) in
      let top = c.visit.invariant.going.bound in absurd (omega arith);
}

pub returns-clause-members : goal.returns-clause-members
returns-clause-members g c =
    going-done (g.T.SegmentTable.flats c.args.table.now) (g.T.SegmentTable.ending_at c.args.table.now) (IsMember c.args.set.now) c.args.floor c.args.steps.now.taken
    (g.met.T.SegmentTable.lawful c.args.table.now) (λ level id s e. g.met.T.SegmentTable.endings c.args.table.now level id s e) c.requires.held
    c.visit.frontier c.visit.work c.next_of.new.self c.visit.answer c.visit.steps.taken c.visit.invariant.going (c.in_default.ensures c.args.set.now c.visit.invariant.set)

pub returns-clause-few : goal.returns-clause-few
returns-clause-few g c =
    going-few (g.T.SegmentTable.flats c.args.table.now) (g.T.SegmentTable.ending_at c.args.table.now) (IsMember c.args.set.now) c.args.floor c.args.steps.now.taken
    (g.met.T.SegmentTable.lawful c.args.table.now) (λ level id s e. g.met.T.SegmentTable.endings c.args.table.now level id s e) c.requires.held
    c.visit.frontier c.visit.work c.next_of.new.self c.visit.answer c.visit.steps.taken c.visit.invariant.going

pub returns-clause-one : goal.returns-clause-one
returns-clause-one g c = λ x only whole.
    going-one (g.T.SegmentTable.flats c.args.table.now) (g.T.SegmentTable.ending_at c.args.table.now) (IsMember c.args.set.now) c.args.floor c.args.steps.now.taken
    (g.met.T.SegmentTable.lawful c.args.table.now) (λ level id s e. g.met.T.SegmentTable.endings c.args.table.now level id s e) c.requires.held
    c.visit.frontier c.visit.work c.next_of.new.self c.visit.answer c.visit.steps.taken c.visit.invariant.going x (λ z m. (only z).0 m) whole

pub returns-then-number-least-clause-members : goal.returns-then-number-least-clause-members
returns-then-number-least-clause-members g c =
    going-stop (g.T.SegmentTable.flats c.args.table.now) (g.T.SegmentTable.ending_at c.args.table.now) (IsMember c.args.set.now) c.args.floor c.args.steps.now.taken
    (g.met.T.SegmentTable.lawful c.args.table.now) (λ level id s e. g.met.T.SegmentTable.endings c.args.table.now level id s e) c.requires.held
    c.visit.frontier c.visit.work c.next_of.new.self c.visit.answer c.visit.steps.taken c.visit.invariant.going c.in-Some.id (c.in-Some.ensures c.args.set.now c.visit.invariant.set)
    (omega (arith, c.if-number-least.true, c.number.ensures.number, c.number-least.ensures.number))

pub returns-then-number-least-clause-few : goal.returns-then-number-least-clause-few
returns-then-number-least-clause-few g c =
    going-few (g.T.SegmentTable.flats c.args.table.now) (g.T.SegmentTable.ending_at c.args.table.now) (IsMember c.args.set.now) c.args.floor c.args.steps.now.taken
    (g.met.T.SegmentTable.lawful c.args.table.now) (λ level id s e. g.met.T.SegmentTable.endings c.args.table.now level id s e) c.requires.held
    c.visit.frontier c.visit.work c.next_of.new.self c.visit.answer c.visit.steps.taken c.visit.invariant.going

pub returns-then-number-least-clause-one : goal.returns-then-number-least-clause-one
returns-then-number-least-clause-one g c = λ x only whole.
    going-one (g.T.SegmentTable.flats c.args.table.now) (g.T.SegmentTable.ending_at c.args.table.now) (IsMember c.args.set.now) c.args.floor c.args.steps.now.taken
    (g.met.T.SegmentTable.lawful c.args.table.now) (λ level id s e. g.met.T.SegmentTable.endings c.args.table.now level id s e) c.requires.held
    c.visit.frontier c.visit.work c.next_of.new.self c.visit.answer c.visit.steps.taken c.visit.invariant.going x (λ z m. (only z).0 m) whole

pub visit-smaller : goal.visit-smaller
visit-smaller g c =
    let o = c.paced_jump-segment.ensures.jump.jump.order in
    let u = (c.in-Some.ensures c.args.set.now c.visit.invariant.set).greatest.under in
    let n = c.number-low.ensures.number in
    let l = c.low.ensures in
    omega (arith, o, u, n, l)
