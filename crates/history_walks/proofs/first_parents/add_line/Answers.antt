use Rattle.std.proofs.Common.{◌≡◌, ◌↔◌, ◌⊎◌, ◌≤◌, ℕ, arith, ◌∙◌, subst, sym, take}
use Rattle.id_groups.specs.Lists.{IsIn}
use Rattle.segment_codec.specs.Lent.{segment_of}
use Rattle.segment_codec.proofs.Tables.{segment-in}
use Rattle.span_set.specs.Members.{IsMember, IsCanonical}
use Rattle.ancestor_query.proofs.Best.{found-at, looked-up, same-group}
use Rattle.history_walks.proofs.Cut.{cut, cuts, cut-found, cut-held, cut-lawful, cut-line, cut-back}
use Rattle.history_walks.proofs.Going.{Going, going-none, going-held, going-down, going-turn, going-done}
use Rattle.history_walks.proofs.first_parents.add_line.Goals as goal

pub visit-init : goal.visit-init
visit-init g c =
    let flats = g.T.SegmentTable.flats c.args.table.now in
    let lawful = g.met.T.SegmentTable.lawful c.args.table.now in
    record {
      going = going-none (cuts flats) (IsMember c.args.set.now) (cut-lawful flats lawful) (λ x m. cut-held flats x (c.requires.held x m))
          c.args.work.now c.args.answer.now c.requires.work c.requires.answer;
      canonical = subst IsCanonical (sym c.requires.answer) tt;
      counted = omega arith;
    }

pub unwrap-segment-requires : goal.unwrap-segment-requires
unwrap-segment-requires g c =
    let flats = g.T.SegmentTable.flats c.args.table.now in
    let lawful = g.met.T.SegmentTable.lawful c.args.table.now in
    let held = going-held (cuts flats) (IsMember c.args.set.now) (cut-lawful flats lawful) (λ x m. cut-held flats x (c.requires.held x m))
    c.visit.frontier c.visit.work c.next_id.new.self c.visit.answer c.visit.invariant.going c.in-Some.id c.in-Some.ensures in
    looked-up flats c.in-Some.id c.flat.result c.flat.ensures.found (cut-back flats c.in-Some.id held)

pub insert_span-requires : goal.insert_span-requires
insert_span-requires g c =
    let flats = g.T.SegmentTable.flats c.args.table.now in
    let lawful = g.met.T.SegmentTable.lawful c.args.table.now in
    let found = found-at flats c.in-Some.id c.flat.result c.unwrap-segment.result c.unwrap-segment.ensures c.flat.ensures.found in
    let f = segment-in flats c.in-Some.id (segment_of c.unwrap-segment.result) found in
    let ok = (lawful.each (segment_of c.unwrap-segment.result) f.0).segment in
    let low = c.low-low.ensures in let order = f.1.0 in let high = f.1.1 in let valid = ok.valid in
    record {
      order = omega arith;
      group = λ small. let h = same-group (segment_of c.unwrap-segment.result).low (segment_of c.unwrap-segment.result).high ok.one_group (omega arith) in omega arith;
      bound = omega arith;
    }

pub visit-smaller : goal.visit-smaller
visit-smaller g c =
    let flats = g.T.SegmentTable.flats c.args.table.now in
    let lawful = g.met.T.SegmentTable.lawful c.args.table.now in
    let found = found-at flats c.in-Some.id c.flat.result c.unwrap-segment.result c.unwrap-segment.ensures c.flat.ensures.found in
    let down = going-down (cuts flats) (IsMember c.args.set.now) (cut-lawful flats lawful) (λ x m. cut-held flats x (c.requires.held x m))
    c.visit.frontier c.visit.work c.next_id.new.self c.visit.answer c.visit.invariant.going c.in-Some.id c.in-Some.ensures
    (cut (segment_of c.unwrap-segment.result)) (cut-found flats c.in-Some.id (segment_of c.unwrap-segment.result) found) in
    let n = c.number-frontier.ensures.number in let l = c.low-low.ensures in
    omega arith

pub visit-preserved : goal.visit-preserved
visit-preserved g c =
    let flats = g.T.SegmentTable.flats c.args.table.now in
    let lawful = g.met.T.SegmentTable.lawful c.args.table.now in
    let s = segment_of c.unwrap-segment.result in
    let found = found-at flats c.in-Some.id c.flat.result c.unwrap-segment.result c.unwrap-segment.ensures c.flat.ensures.found in
    let low : c.number-frontier.result ≡ s.low = c.number-frontier.ensures.number ∙ c.low-low.ensures in
    let pushed = subst (λ l. (x : ℕ) → IsIn x c.push_first.new.work ↔ (IsIn x c.next_id.new.self ⊎ IsIn x (take 1 l))) c.parents.ensures c.in_ok-push_first.ensures in
    let added = subst (λ l. (z : ℕ) → IsMember c.insert_span.new.self z ↔ (IsMember c.visit.answer z ⊎ ((l ≤ z) × (z ≤ c.in-Some.id)))) c.low-low.ensures c.in_ok-insert_span.ensures.members in
    let turn = going-turn (cuts flats) (IsMember c.args.set.now) (cut-lawful flats lawful) (λ x m. cut-held flats x (c.requires.held x m))
    c.visit.frontier c.visit.work c.next_id.new.self c.visit.answer c.visit.invariant.going c.in-Some.id c.in-Some.ensures
    (cut s) (cut-found flats c.in-Some.id s found) c.push_first.new.work c.insert_span.new.self pushed added in
    record {
      going = subst (λ a. Going (cuts flats) (IsMember c.args.set.now) a c.push_first.new.work c.insert_span.new.self) (sym low) turn;
      canonical = c.in_ok-insert_span.ensures.canonical;
      counted = let k = c.flat.ensures.tick in let b = c.visit.invariant.counted in omega arith;
    }

pub returns-clause-members : goal.returns-clause-members
returns-clause-members g c = λ x.
    let flats = g.T.SegmentTable.flats c.args.table.now in
    let lawful = g.met.T.SegmentTable.lawful c.args.table.now in
    let done = going-done (cuts flats) (IsMember c.args.set.now) (cut-lawful flats lawful) (λ y m. cut-held flats y (c.requires.held y m))
    c.visit.frontier c.visit.work c.next_id.new.self c.visit.answer c.visit.invariant.going c.in_default.ensures x in
    let same = cut-line flats (IsMember c.args.set.now) x in
    (λ m. same.0 (done.0 m), λ l. done.1 (same.1 l))
