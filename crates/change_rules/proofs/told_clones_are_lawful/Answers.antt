use Rattle.remote_rules.proofs.Unbroken.{unbroken-is-lawful}
use Rattle.change_rules.proofs.ToldClones.{told-follows, told-clone}
use Rattle.change_rules.proofs.told_clones_are_lawful.Goals as goal

pub returns-clause-lawful : goal.returns-clause-lawful
returns-clause-lawful c = λ told e formed some fits few. told-follows told ((unbroken-is-lawful told).0 e) formed some fits few

pub returns-clause-honest : goal.returns-clause-honest
returns-clause-honest c = told-clone
