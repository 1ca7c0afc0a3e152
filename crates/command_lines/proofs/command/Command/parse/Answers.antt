use Rattle.std.proofs.Common.{ap, Err}
use Rattle.std.proofs.lemmas.Result.{err_from_is_err_and}
use Rattle.command_lines.specs.declared.command.CommandFault.TheVariants.{Syntax, Memory}
use Rattle.command_lines.proofs.CommandLemmas.{same-fault, line-text, takes-wants}
use Rattle.command_lines.proofs.command.Command.parse.Goals as goal

pub returns-in_err-verb-clause-syntax : goal.returns-in_err-verb-clause-syntax
returns-in_err-verb-clause-syntax c = λ e s verb h.
    let p = err_from_is_err_and c.from_residual.result c.from_residual.ensures.1 in
    let is = c.in-Some.ensures.some in
    let spelled = line-text c.args.line.now c.in-Some.session c.in-Some.text.now s verb is.0 is.1 h in
    c.in_err-verb.ensures.syntax (ap Err (same-fault c.from_residual.result p.0 c.in_err-verb.field-0.0 Syntax p.1 p.2 e)) verb spelled.0 spelled.1

pub returns-in_err-verb-clause-memory : goal.returns-in_err-verb-clause-memory
returns-in_err-verb-clause-memory c = λ e s verb h.
    let p = err_from_is_err_and c.from_residual.result c.from_residual.ensures.1 in
    let is = c.in-Some.ensures.some in
    let spelled = line-text c.args.line.now c.in-Some.session c.in-Some.text.now s verb is.0 is.1 h in
    takes-wants verb (c.in_err-verb.ensures.memory (ap Err (same-fault c.from_residual.result p.0 c.in_err-verb.field-0.0 Memory p.1 p.2 e)) verb spelled.0 spelled.1)

pub returns-in_err-verb-clause-taken : goal.returns-in_err-verb-clause-taken
returns-in_err-verb-clause-taken c = λ e s verb h.
    let p = err_from_is_err_and c.from_residual.result c.from_residual.ensures.1 in
    let is = c.in-Some.ensures.some in
    let spelled = line-text c.args.line.now c.in-Some.session c.in-Some.text.now s verb is.0 is.1 h in
    c.in_err-verb.ensures.memory (ap Err (same-fault c.from_residual.result p.0 c.in_err-verb.field-0.0 Memory p.1 p.2 e)) verb spelled.0 spelled.1
