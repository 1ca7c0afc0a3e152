use Rattle.std.proofs.Common.{◌≡◌, ◌++◌, ◌∙◌, inl, [], ◌∷◌, ap, append_assoc, arith, refl, subst, sym}
use Rattle.std.specs.List.{AllZip}
use Rattle.id_groups.specs.Lists.{IsIn}
use Rattle.commit_graph.proofs.Down.{in-right}
use Rattle.span_set.specs.Down.{ids_left}
use Rattle.span_set.proofs.Counts.{ids-member}
use Rattle.ancestor_query.specs.Graph.{table_graph}
use Rattle.history_walks.specs.Sides.{AreSidesOf}
use Rattle.history_walks.proofs.Counting.{zip-more}
use Rattle.history_walks.proofs.tips.sides.Goals as goal

pub sides_of-requires-clause-tip : goal.sides_of-requires-clause-tip
sides_of-requires-clause-tip g c =
    let split = c.tips.invariant.split ∙ ap (λ l. c.tips.invariant.done ++ l) c.in-Some.ensures.steps in
    c.requires.tips c.in-Some.tip (ids-member c.args.tips.now c.in-Some.tip
    (subst (IsIn c.in-Some.tip) (sym split) (in-right c.in-Some.tip c.tips.invariant.done (c.in-Some.tip ∷ ids_left c.next.new.self) (inl refl))))

pub tips-preserved : goal.tips-preserved
tips-preserved g c =
    let split = c.tips.invariant.split ∙ ap (λ l. c.tips.invariant.done ++ l) c.in-Some.ensures.steps in
    let regroup : c.tips.invariant.done ++ c.in-Some.tip ∷ ids_left c.next.new.self ≡ (c.tips.invariant.done ++ c.in-Some.tip ∷ []) ++ ids_left c.next.new.self = simp append_assoc in
    let R = AreSidesOf (table_graph (g.T.SegmentTable.flats c.args.table.now)) c.args.base in
    record {
      done = c.tips.invariant.done ++ c.in-Some.tip ∷ [];
      split = split ∙ regroup;
      each = subst (λ l. AllZip R (c.tips.invariant.done ++ c.in-Some.tip ∷ []) l) (sym c.in_ok-push.ensures.items)
          (zip-more R c.tips.invariant.done c.tips.all.items c.in-Some.tip c.in_ok-sides_of.field-0 c.tips.invariant.each c.in_ok-sides_of.ensures.sides);
      counted = let a = c.tips.invariant.counted in let b = c.sides_of.ensures.counted in omega arith;
    }
