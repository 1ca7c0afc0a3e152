use Rattle.command_lines.proofs.CommandLemmas.{no-name}
use Rattle.command_lines.proofs.command.parse_args.Goals as goal

pub returns-in-None-clause-syntax : goal.returns-in-None-clause-syntax
returns-in-None-clause-syntax c = λ _. no-name c.args.args.now c.args.word c.in-Id.is c.in-None.ensures.name
