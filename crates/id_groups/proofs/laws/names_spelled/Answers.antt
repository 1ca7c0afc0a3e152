use Rattle.id_groups.proofs.Names.{spelled-name, name_of-spelled, spelled-name_of}
use Rattle.id_groups.proofs.laws.names_spelled.Goals as goal

pub returns-clause-name : goal.returns-clause-name
returns-clause-name c = spelled-name

pub returns-clause-one : goal.returns-clause-one
returns-clause-one c = λ text name. (name_of-spelled text name, spelled-name_of text name)
