use Rattle.std.proofs.Common.{rules}
use Rattle.command_lines.proofs.TextLemmas.{one-digit}
use Rattle.command_lines.proofs.words.number_of.Goals as goal

pub returns-in-len1-clause-some : goal.returns-in-len1-clause-some
returns-in-len1-clause-some c =
    let bound = c.if-is_ascii_digit.ensures.bound in
    let yes = c.if-is_ascii_digit.true in
    one-digit c.args.text.now c.from.result c.in-len1.len_at_least c.in-len1.len_below (search (rules, yes, bound)) (search (rules, yes, bound)) c.from.ensures
