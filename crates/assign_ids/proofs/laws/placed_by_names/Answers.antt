use Rattle.std.proofs.Common.{[], subst, append-nil, reverse}
use Rattle.commit_graph.proofs.Down.{in-reverse}
use Rattle.assign_ids.specs.Names.{AreNumbered}
use Rattle.assign_ids.proofs.Placings.{IsDown, history-down}
use Rattle.assign_ids.proofs.ByNames.{order-same}
use Rattle.assign_ids.proofs.laws.placed_by_names.Goals as goal

pub returns : goal.returns
returns c = λ rows masters n name parents heads nodes whole numbered older at.
    let down = subst IsDown (append-nil (reverse rows)) (history-down [] rows [] (λ x j. j) (λ x j. j) tt whole) in
    let behind : AreNumbered (reverse rows) masters n name parents = record {
      row = λ k lt. (let r = numbered.row k lt in (r.0, in-reverse r.0 rows r.1, r.2, r.3));
      one = numbered.one;
      apart = numbered.apart;
    } in
    (order-same (reverse rows) masters n name parents down older behind heads nodes at).1
