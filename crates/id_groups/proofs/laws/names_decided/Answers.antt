use Rattle.id_groups.specs.Name.{same_name}
use Rattle.id_groups.proofs.Listing.{found, missing}
use Rattle.id_groups.proofs.Names.{same_name-exact, same_name-self}
use Rattle.id_groups.proofs.laws.names_decided.Goals as goal

pub returns-clause-found : goal.returns-clause-found
returns-clause-found c = λ a names. found same_name same_name-exact same_name-self a names

pub returns-clause-missing : goal.returns-clause-missing
returns-clause-missing c = λ a names. missing same_name same_name-exact same_name-self a names
