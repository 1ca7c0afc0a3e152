use Rattle.std.proofs.Common.{◌∙◌, ◌+◌, map, length, Some, inr, ap, sym, subst, arith}
use Rattle.id_groups.specs.Lists.{AreAllIn}
use Rattle.id_groups.specs.Name.{same_name}
use Rattle.commit_graph.specs.World.{rows_of, names_of, with_pending}
use Rattle.commit_graph.specs.Ids.{id_in}
use Rattle.assign_ids.specs.Numbers.{others_of}
use Rattle.change_parts.specs.Moves.{node_of}
use Rattle.change_parts.specs.Plans.{stored_id}
use Rattle.flush_plan.specs.Flushing.{unknown_fault}
use Rattle.change_parts.proofs.Marking.{all-taken}
use Rattle.change_parts.proofs.Growing.{any-default}
use Rattle.flush_plan.proofs.Finding.{map-at, unknown-at, all-next, numbers-next}
use Rattle.flush_plan.proofs.Looking.{zip-long, look-below, more-below, id-fits}
use Rattle.flush_plan.proofs.plan.head_numbers.Goals as goal

pub returns-in_default-clause-worlds : goal.returns-in_default-clause-worlds
returns-in_default-clause-worlds c = λ w rows f.
    let h = c.index-heads-i.result in
    let lt = c.heads-test.true in
    let none = c.in_default.ensures.worlds w rows f.pending_rows (map-at (stored_id w) c.args.heads.now c.heads.i h c.index-found-i.result c.args.found.now f.found_are lt c.index-heads-i.is c.index-found-i.is) in
    let inv = c.heads.invariant.1 w rows f in
    let same = c.index-heads-i.is ∙ any-default c.args.heads.now c.heads.i h c.index-heads-i-in_default.result lt ∙ sym c.index-heads-i-in_default.is in
    inr (ap unknown_fault (unknown-at (with_pending w rows) c.args.heads.now c.heads.i h lt c.index-heads-i.is inv.0 none) ∙ ap (λ z. unknown_fault (Some z)) same)

pub heads-preserved : goal.heads-preserved
heads-preserved c = (
  λ rows held.
      let lt = c.heads-test.true in
      more-below (c.args.pending.now.first + length rows) c.in-Some.id c.heads.numbers.items c.add_number.new.numbers.items
      (look-below c.args.pending.now c.args.heads.now c.args.found.now rows c.requires c.heads.i c.index-heads-i.result c.index-found-i.result c.in-Some.id lt c.index-heads-i.is c.index-found-i.is (c.in-Some.ensures.small rows held))
      (c.heads.invariant.0 rows held) c.in_ok-add_number.ensures,
  λ w rows f.
      let lt = c.heads-test.true in
      let here = c.in-Some.ensures.worlds w rows f.pending_rows (map-at (stored_id w) c.args.heads.now c.heads.i c.index-heads-i.result c.index-found-i.result c.args.found.now f.found_are lt c.index-heads-i.is c.index-found-i.is) in
      let inv = c.heads.invariant.1 w rows f in (
        all-next (with_pending w rows) c.args.heads.now c.heads.i c.index-heads-i.result lt c.index-heads-i.is inv.0 here.0,
        numbers-next (with_pending w rows) c.args.heads.now c.heads.i c.index-heads-i.result c.heads.numbers.items c.add_number.new.numbers.items c.in-Some.id lt c.index-heads-i.is inv.1 here.1 c.in_ok-add_number.ensures,
      ),
)

pub returns-clause-worlds : goal.returns-clause-worlds
returns-clause-worlds c = λ w rows f.
    let inv = c.heads.invariant.1 w rows f in
    let all = all-taken c.args.heads.now c.heads.i (let ge = c.heads-test.false in omega (arith, ge)) in (
      subst (λ l. AreAllIn l (names_of (rows_of (with_pending w rows)))) all inv.0,
      inv.1 ∙ ap (λ l. others_of (map node_of (map (id_in same_name (with_pending w rows)) l))) all,
    )

pub bounds-found-i : goal.bounds-found-i
bounds-found-i c = let lt = c.heads-test.true in let e = zip-long _ c.args.heads.now c.args.found.now c.requires.found_are in omega (arith, lt, e)

pub add_number-requires : goal.add_number-requires
add_number-requires c =
    let r = c.requires in
    id-fits c.args.pending.now r.rows c.in-Some.id r.held
    (look-below c.args.pending.now c.args.heads.now c.args.found.now r.rows r c.heads.i c.index-heads-i.result c.index-found-i.result c.in-Some.id c.heads-test.true c.index-heads-i.is c.index-found-i.is (c.in-Some.ensures.small r.rows r.held))
