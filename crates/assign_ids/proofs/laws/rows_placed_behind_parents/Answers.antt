use Rattle.std.proofs.Common.{[], subst, append-nil, reverse}
use Rattle.id_groups.specs.Name.{same_name}
use Rattle.id_groups.proofs.Names.{same_name-exact, same_name-self}
use Rattle.commit_graph.proofs.Down.{in-reverse}
use Rattle.assign_ids.proofs.Placings.{IsDown, history-down, place-behind}
use Rattle.assign_ids.proofs.laws.rows_placed_behind_parents.Goals as goal

pub returns : goal.returns
returns c = λ rows row order h i. place-behind same_name same_name-exact same_name-self (λ _. []) (reverse rows)
    (subst IsDown (append-nil (reverse rows)) (history-down [] rows [] (λ x j. j) (λ x j. j) tt h)) row (in-reverse row rows i) order
