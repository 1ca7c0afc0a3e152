use Rattle.std.proofs.Common.{[]}
use Rattle.id_groups.specs.Name.{same_name}
use Rattle.id_groups.proofs.Names.{same_name-exact, same_name-self}
use Rattle.assign_ids.proofs.Placings.{place-there}
use Rattle.assign_ids.proofs.laws.rows_placed_before.Goals as goal

pub returns : goal.returns
returns c = λ rows order x. place-there same_name same_name-exact same_name-self (λ _. []) rows order x
