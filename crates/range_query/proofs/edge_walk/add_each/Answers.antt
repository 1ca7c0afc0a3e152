use Rattle.std.proofs.Common.{◌∙◌, arith, ap, inl, inr, ⊎_elim, refl, sym, subst}
use Rattle.id_groups.specs.Lists.{IsIn}
use Rattle.span_set.specs.Down.{ids_left}
use Rattle.range_query.proofs.EdgeLemmas.{each-first, each-next, each-done}
use Rattle.range_query.proofs.edge_walk.add_each.Goals as goal

pub ids-init : goal.ids-init
ids-init g c = record {
  canonical = λ h. h;
  counted = omega arith;
  sound = λ x m. inl m;
  each = each-first (g.T.SegmentTable.flats c.args.table.now) c.args.set.now c.args.edges.count (ids_left c.into_iter-id-iterator.result) c.args.answer.now
      (ap ids_left c.into_iter-id-iterator.ensures.into_iter_gives ∙ c.ids_down-id-items.ensures);
}

pub add_of-requires-clause-held : goal.add_of-requires-clause-held
add_of-requires-clause-held g c = c.requires.held c.in-Some.id (c.ids.invariant.each.within c.in-Some.id (subst (IsIn c.in-Some.id) (sym c.in-Some.ensures.steps) (inl refl)))

pub add_of-requires-clause-member : goal.add_of-requires-clause-member
add_of-requires-clause-member g c = c.ids.invariant.each.within c.in-Some.id (subst (IsIn c.in-Some.id) (sym c.in-Some.ensures.steps) (inl refl))

pub ids-preserved : goal.ids-preserved
ids-preserved g c = record {
  canonical = λ h. c.add_of.ensures.canonical (c.ids.invariant.canonical h);
  counted = let k = c.add_of.ensures.counted in let b = c.ids.invariant.counted in omega arith;
  sound = λ x m. ⊎_elim (λ n. c.ids.invariant.sound x n) (λ k. inr k) (c.in_ok-add_of.ensures.sound x m);
  each = each-next (g.T.SegmentTable.flats c.args.table.now) c.args.set.now c.args.edges.count c.in-Some.id _ _ c.ids.answer c.add_of.new.answer
      c.in-Some.ensures.steps c.in_ok-add_of.ensures.kept c.in_ok-add_of.ensures.added c.ids.invariant.each;
}

pub returns-clause-added : goal.returns-clause-added
returns-clause-added g c = each-done (g.T.SegmentTable.flats c.args.table.now) c.args.set.now c.args.edges.count _ c.ids.answer c.in-None.ensures.steps.0 c.ids.invariant.each
