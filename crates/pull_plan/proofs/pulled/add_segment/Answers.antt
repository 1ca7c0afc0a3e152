use Rattle.std.proofs.Common.{◌≡◌, ◌∙◌, ◌≤◌, ◌+◌, ◌-◌, ◌^◌, ◌∷◌, [], ℕ, List, max, take, drop, suc, length, nat_eq, if◌then◌else◌, ap, sym, subst, arith, lit≤}
use Rattle.segment_codec.specs.Record.{Segment}
use Rattle.high_segments.specs.Views.{flats_in}
use Rattle.mirror_set.specs.Fresh.{PlainFresh}
use Rattle.pull_plan.specs.Taken.{AreTaken, MayAdd}
use Rattle.change_parts.proofs.Refusals.{err-match}
use Rattle.pull_plan.proofs.Walking.{row-here, may-add, next-front, name-place, segment-ordered}
use Rattle.pull_plan.proofs.pulled.add_segment.Goals as goal

pub ids-init : goal.ids-init
ids-init c =
    let r = c.requires.rows in
    let e = c.max-id.ensures in
    let l = ap (λ (t : Segment). t.low) c.segment.view_is in
    let o = segment-ordered c.args.newest.now.base (flats_in c.args.newest.now.view) c.args.newest.now.cloned c.args.fresh.now r.0 r.1 r.2 c.args.segment.now r.3 in record {
      behind = omega (arith, e, l);
      inside = omega (arith, e, l);
      end = omega (arith, e, l, o);
      taken = λ w rows m i t. subst (λ n. AreTaken w c.args.newest.now.cloned (take n rows) c.args.ids.now.items c.args.left.now) (let z : max c.args.newest.now.cloned c.args.segment.now.low ≡ c.max-id.result = omega (arith, e, l) in z) t;
    }

pub overflow_cast-id : goal.overflow_cast-id
overflow_cast-id c =
    let r = c.requires.rows in
    let h = ap (λ (t : Segment). t.high) c.segment.view_is in let le = c.ids-test.true in
    let lt = name-place c.args.newest.now.base (flats_in c.args.newest.now.view) c.args.newest.now.cloned c.args.fresh.now r.0 r.1 r.2 c.args.segment.now r.3 c.ids.id c.ids.invariant.inside (omega (arith, h, le)) c.ids.invariant.behind in
    let few = c.requires.names in omega (arith, lt, few)

pub at-name-requires : goal.at-name-requires
at-name-requires c =
    let r = c.requires.rows in
    let h = ap (λ (t : Segment). t.high) c.segment.view_is in let le = c.ids-test.true in
    let lt = name-place c.args.newest.now.base (flats_in c.args.newest.now.view) c.args.newest.now.cloned c.args.fresh.now r.0 r.1 r.2 c.args.segment.now r.3 c.ids.id c.ids.invariant.inside (omega (arith, h, le)) c.ids.invariant.behind in
    let n = ap (λ (f : PlainFresh). length f.names) c.fresh.view_is in omega (arith, lt, n)

pub add_row-requires-clause-row : goal.add_row-requires-clause-row
add_row-requires-clause-row c =
    let r = c.requires.rows in
    let h = ap (λ (t : Segment). t.high) c.segment.view_is in let le = c.ids-test.true in
    let s = c.args.segment.now in
    let here = row-here c.args.newest.now.base (flats_in c.args.newest.now.view) c.args.newest.now.cloned c.args.fresh.now r.0 r.1 r.2 s r.3 c.ids.id c.ids.invariant.inside (omega (arith, h, le)) c.ids.invariant.behind in
    let named = ap (λ (f : PlainFresh). Rattle.std.specs.Prelude.slice_get f.names (c.ids.id - c.args.newest.now.cloned)) (sym c.fresh.view_is) ∙ c.at-name.ensures in
    let numbers = c.parents_in-numbers.ensures.parents ∙ ap (λ n. if nat_eq c.ids.id s.low then s.parents else n ∷ []) c.saturating_sub.ensures in (
      r.0,
      r.1,
      take c.ids.id r.1,
      drop (suc c.ids.id) r.1,
      here.row,
      subst (λ (l : List ℕ). MayAdd c.args.newest.now.base (flats_in c.args.newest.now.view) c.args.newest.now.cloned c.ids.ids.items c.ids.left c.at-name.result.now l r.0 r.1 (take c.ids.id r.1) (drop (suc c.ids.id) r.1) here.row) (sym numbers)
          (may-add c.args.newest.now.base (flats_in c.args.newest.now.view) c.args.newest.now.cloned c.args.fresh.now r.0 r.1 r.2 (if nat_eq c.ids.id s.low then s.parents else (c.ids.id - 1) ∷ []) c.ids.id here c.ids.invariant.behind c.ids.ids.items c.ids.left
          (c.ids.invariant.taken r.0 r.1 r.2 r.3 r.4) c.at-name.result.now named),
    )

pub returns-in_err-add_row : goal.returns-in_err-add_row
returns-in_err-add_row c = λ w rows m i t.
    let h = ap (λ (t : Segment). t.high) c.segment.view_is in let le = c.ids-test.true in
    let s = c.args.segment.now in
    let here = row-here c.args.newest.now.base (flats_in c.args.newest.now.view) c.args.newest.now.cloned c.args.fresh.now w rows m s i c.ids.id c.ids.invariant.inside (omega (arith, h, le)) c.ids.invariant.behind in
    let named = ap (λ (f : PlainFresh). Rattle.std.specs.Prelude.slice_get f.names (c.ids.id - c.args.newest.now.cloned)) (sym c.fresh.view_is) ∙ c.at-name.ensures in
    let numbers = c.parents_in-numbers.ensures.parents ∙ ap (λ n. if nat_eq c.ids.id s.low then s.parents else n ∷ []) c.saturating_sub.ensures in
    err-match c.from_residual.result c.in_err-add_row.field-0.0 _ _ c.from_residual.ensures.1
    (c.in_err-add_row.ensures w rows (take c.ids.id rows) (drop (suc c.ids.id) rows) here.row
    (subst (λ (l : List ℕ). MayAdd c.args.newest.now.base (flats_in c.args.newest.now.view) c.args.newest.now.cloned c.ids.ids.items c.ids.left c.at-name.result.now l w rows (take c.ids.id rows) (drop (suc c.ids.id) rows) here.row) (sym numbers)
    (may-add c.args.newest.now.base (flats_in c.args.newest.now.view) c.args.newest.now.cloned c.args.fresh.now w rows m (if nat_eq c.ids.id s.low then s.parents else (c.ids.id - 1) ∷ []) c.ids.id here c.ids.invariant.behind c.ids.ids.items c.ids.left
    (c.ids.invariant.taken w rows m i t) c.at-name.result.now named)))

pub overflow_add-id : goal.overflow_add-id
overflow_add-id c =
    let r = c.requires.rows in
    let h = ap (λ (t : Segment). t.high) c.segment.view_is in let le = c.ids-test.true in
    let lt = name-place c.args.newest.now.base (flats_in c.args.newest.now.view) c.args.newest.now.cloned c.args.fresh.now r.0 r.1 r.2 c.args.segment.now r.3 c.ids.id c.ids.invariant.inside (omega (arith, h, le)) c.ids.invariant.behind in
    let few = c.requires.names in let b = r.2.beside.cloned_few in let s = r.2.beside.small in let ge = c.ids.invariant.behind in
    let k : 16777216 + 2 ^ 31 + 1 ≤ 2 ^ 63 = lit≤ tt in omega (arith, lt, few, b, s, ge, k)

pub ids-preserved : goal.ids-preserved
ids-preserved c =
    let h = ap (λ (t : Segment). t.high) c.segment.view_is in let le = c.ids-test.true in
    let a = c.ids.invariant.behind in let b = c.ids.invariant.inside in record {
      behind = omega (arith, a);
      inside = omega (arith, b);
      end = omega (arith, h, le);
      taken = λ w rows m i t.
          let s = c.args.segment.now in
          let here = row-here c.args.newest.now.base (flats_in c.args.newest.now.view) c.args.newest.now.cloned c.args.fresh.now w rows m s i c.ids.id c.ids.invariant.inside (omega (arith, h, le)) c.ids.invariant.behind in
          let named = ap (λ (f : PlainFresh). Rattle.std.specs.Prelude.slice_get f.names (c.ids.id - c.args.newest.now.cloned)) (sym c.fresh.view_is) ∙ c.at-name.ensures in
          let numbers = c.parents_in-numbers.ensures.parents ∙ ap (λ n. if nat_eq c.ids.id s.low then s.parents else n ∷ []) c.saturating_sub.ensures in
          next-front c.args.newest.now.base (flats_in c.args.newest.now.view) c.args.newest.now.cloned c.args.fresh.now w rows m (if nat_eq c.ids.id s.low then s.parents else (c.ids.id - 1) ∷ []) c.ids.id here c.add_row.new.ids.items c.add_row.new.left
          (c.in_ok-add_row.ensures w rows (take c.ids.id rows) (drop (suc c.ids.id) rows) here.row
          (subst (λ (l : List ℕ). MayAdd c.args.newest.now.base (flats_in c.args.newest.now.view) c.args.newest.now.cloned c.ids.ids.items c.ids.left c.at-name.result.now l w rows (take c.ids.id rows) (drop (suc c.ids.id) rows) here.row) (sym numbers)
          (may-add c.args.newest.now.base (flats_in c.args.newest.now.view) c.args.newest.now.cloned c.args.fresh.now w rows m (if nat_eq c.ids.id s.low then s.parents else (c.ids.id - 1) ∷ []) c.ids.id here c.ids.invariant.behind c.ids.ids.items c.ids.left
          (c.ids.invariant.taken w rows m i t) c.at-name.result.now named)));
    }

pub returns : goal.returns
returns c = λ w rows m i t.
    let h = ap (λ (t : Segment). t.high) c.segment.view_is in let gt = c.ids-test.false in
    let a = c.ids.invariant.behind in let e = c.ids.invariant.end in
    subst (λ n. AreTaken w c.args.newest.now.cloned (take n rows) c.ids.ids.items c.ids.left) (let z : c.ids.id ≡ max c.args.newest.now.cloned (c.args.segment.now.high + 1) = omega (arith, h, gt, a, e) in z) (c.ids.invariant.taken w rows m i t)
