use Rattle.change_rules.proofs.Agreeing.{none-unlike, none-bad}
use Rattle.change_rules.proofs.honest_pulls_agree.Goals as goal

pub returns : goal.returns
returns c = λ payloads w cloned rest more hold mine named. (none-unlike payloads w cloned rest more hold mine named, none-bad payloads w cloned rest more hold mine named)
