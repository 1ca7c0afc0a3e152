use Rattle.std.proofs.Common.{◌≡◌, ◌^◌, ◌+◌, ◌<◌, ◌≤◌, ◌⊎◌, ◌↔◌, ℕ, List, inl, inr, ⊎_elim, sym, subst, arith, []}
use Rattle.id_groups.specs.declared.span.IdSpan.{IdSpan}
use Rattle.segment_codec.specs.Lent.{segment_of, parents_left}
use Rattle.span_set.specs.Members.{IsMember, IsCanonical}
use Rattle.common_ancestor.proofs.OnlyVisits.{OnlyVisits, only-none, only-kept, only-done, turn-held, turn-falls, turn-group, turn-visits}
use Rattle.common_ancestor.proofs.difference.add_only.Goals as goal

pub visit-init : goal.visit-init
visit-init g c =
    let flats = g.T.SegmentTable.flats c.args.table.now in
    let A = IsMember c.args.from.now in let B = IsMember c.args.minus.now in
    record {
      visits = subst (λ t. OnlyVisits flats A B (2 ^ 57) c.args.unvisited.now.mine t c.args.answer.now) (sym c.requires.theirs)
          (subst (λ m. OnlyVisits flats A B (2 ^ 57) m [] c.args.answer.now) (sym c.requires.mine)
          (subst (λ z. OnlyVisits flats A B (2 ^ 57) [] [] z) (sym c.requires.answer)
          (only-none flats (g.met.T.SegmentTable.lawful c.args.table.now) A B c.requires.from c.requires.minus)));
      canonical = subst IsCanonical (sym c.requires.answer) tt;
      counted = omega arith;
      bound = omega arith;
    }

pub jump_above-segment-requires : goal.jump_above-segment-requires
jump_above-segment-requires g c =
    turn-held (g.T.SegmentTable.flats c.args.table.now) (g.met.T.SegmentTable.lawful c.args.table.now) (IsMember c.args.from.now) (IsMember c.args.minus.now)
    c.visit.frontier c.visit.unvisited.mine c.visit.unvisited.theirs c.next_id.new.self c.next_id-reached.new.self c.visit.answer c.visit.invariant.visits
    c.in-Some.next c.next_id-reached.result c.in-Some.ensures c.next_id-reached.ensures c.greater_with-id.result c.greater_with-id.ensures c.requires.from c.requires.minus

pub insert_between-requires : goal.insert_between-requires
insert_between-requires g c =
    let flats = g.T.SegmentTable.flats c.args.table.now in
    let number = c.number.ensures.number in let small = c.number.ensures.small in
    let group = turn-group flats (g.met.T.SegmentTable.lawful c.args.table.now) (IsMember c.args.from.now) (IsMember c.args.minus.now)
    c.visit.frontier c.visit.unvisited.mine c.visit.unvisited.theirs c.next_id.new.self c.next_id-reached.new.self c.visit.answer c.visit.invariant.visits
    c.in-Some.next c.next_id-reached.result c.in-Some.ensures c.next_id-reached.ensures c.greater_with-id.result c.greater_with-id.ensures
    (segment_of c.jump_above-segment.result) c.floor_of-floor.result c.jump_above-segment.ensures.jump c.low-low.result c.first_above-start.result c.low-low.ensures c.first_above-start.ensures in
    record { group = λ lt. let below = group lt in omega (arith, below, number); bound = omega (arith, number, small) }

pub visit-smaller : goal.visit-smaller
visit-smaller g c =
    let flats = g.T.SegmentTable.flats c.args.table.now in
    let lt = turn-falls flats (g.met.T.SegmentTable.lawful c.args.table.now) (IsMember c.args.from.now) (IsMember c.args.minus.now)
    c.visit.frontier c.visit.unvisited.mine c.visit.unvisited.theirs c.next_id.new.self c.next_id-reached.new.self c.visit.answer c.visit.invariant.visits
    c.in-Some.next c.next_id-reached.result c.in-Some.ensures c.next_id-reached.ensures c.greater_with-id.result c.greater_with-id.ensures
    (segment_of c.jump_above-segment.result) c.floor_of-floor.result c.jump_above-segment.ensures.jump c.low-low.result c.first_above-start.result c.low-low.ensures c.first_above-start.ensures in
    omega (arith, lt, c.number-frontier.ensures.number)

-- ids before the one behind an id are those up to it
up-to : (new old : List IdSpan) (low number id : ℕ) → number ≡ id → ((x : ℕ) → IsMember new x ↔ (IsMember old x ⊎ ((low ≤ x) × (x < number + 1))))
    → (x : ℕ) → IsMember new x ↔ (IsMember old x ⊎ ((low ≤ x) × (x ≤ id)))
up-to new old low number id e h x = (
  λ m. ⊎_elim (λ o. inl o) (λ b. let lt = b.1 in inr (b.0, omega (arith, lt, e))) ((h x).0 m),
  λ m. (h x).1 (⊎_elim (λ o. inl o) (λ b. let le = b.1 in inr (b.0, omega (arith, le, e))) m),
)

pub visit-preserved : goal.visit-preserved
visit-preserved g c =
    let flats = g.T.SegmentTable.flats c.args.table.now in
    let A = IsMember c.args.from.now in let B = IsMember c.args.minus.now in
    let small = c.number-frontier.ensures.small in
    record {
      visits = subst (λ f. OnlyVisits flats A B f c.push_either.new.unvisited.mine c.push_either.new.unvisited.theirs c.insert_between.new.self) (sym c.number-frontier.ensures.number)
          (turn-visits flats (g.met.T.SegmentTable.lawful c.args.table.now) A B
          c.visit.frontier c.visit.unvisited.mine c.visit.unvisited.theirs c.next_id.new.self c.next_id-reached.new.self c.visit.answer c.visit.invariant.visits
          c.in-Some.next c.next_id-reached.result c.in-Some.ensures c.next_id-reached.ensures c.greater_with-id.result c.greater_with-id.ensures
          (segment_of c.jump_above-segment.result) c.floor_of-floor.result c.jump_above-segment.ensures.jump c.low-low.result c.first_above-start.result c.low-low.ensures c.first_above-start.ensures
          (parents_left c.parents.result) c.push_either.new.unvisited.mine c.push_either.new.unvisited.theirs c.insert_between.new.self c.floor_of-floor.ensures c.parents.ensures c.in_ok-push_either.ensures (up-to c.insert_between.new.self c.visit.answer c.first_above-start.result c.number.result c.greater_with-id.result c.number.ensures.number c.in_ok-insert_between.ensures.members));
      canonical = c.insert_between.ensures.canonical c.visit.invariant.canonical;
      counted = let more = c.jump_above-segment.ensures.counted in let before = c.visit.invariant.counted in omega arith;
      bound = omega arith;
    }

pub returns-clause-members : goal.returns-clause-members
returns-clause-members g c =
    let flats = g.T.SegmentTable.flats c.args.table.now in
    let lawful = g.met.T.SegmentTable.lawful c.args.table.now in
    let A = IsMember c.args.from.now in let B = IsMember c.args.minus.now in
    let next = c.in_default.ensures in
    only-done flats lawful A B c.visit.frontier c.next_id.new.self c.visit.unvisited.theirs c.visit.answer
    (only-kept flats lawful A B c.visit.frontier c.visit.unvisited.mine c.visit.unvisited.theirs c.next_id.new.self c.visit.unvisited.theirs c.visit.answer next.keeps
    (record { kept = λ x i. i; lost = λ x i lt. i }) c.visit.invariant.visits)
    next.greatest
