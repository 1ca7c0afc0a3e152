use Rattle.std.proofs.lemmas.List.Sorted.{IsPermutation-trans, IsPermutation-sym, IsPermutation-map}
use Rattle.name_index.proofs.Moves.{distinct-moved}
use Rattle.name_index.proofs.laws.any_order.Goals as goal

pub returns : goal.returns
returns c = λ runs all other held moved. record {
  held = held.held;
  in_order = held.in_order;
  same = IsPermutation-trans _ _ _ (IsPermutation-sym _ _ moved) held.same;
  distinct = distinct-moved _ _ (IsPermutation-map (λ n. n.name) _ _ moved) held.distinct;
}
