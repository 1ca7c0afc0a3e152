use Rattle.std.proofs.Common.{◌≤◌, length, rules, decimal}
use Rattle.std.proofs.lemmas.Fmt.{length-decimal-le}
use Rattle.command_lines.proofs.PutLemmas.{end-of-buffer}
use Rattle.command_lines.proofs.reply_line.decimal_text.Goals as goal

pub write_digits-digits-requires : goal.write_digits-digits-requires
write_digits-digits-requires c = search (rules, length-decimal-le 20)

pub returns-clause-short : goal.returns-clause-short
returns-clause-short c =
    let short : length (decimal c.args.n) ≤ 20 = search (rules, length-decimal-le 20) in
    end-of-buffer c.write_digits-digits.new.buf c.write_digits-digits.result (length (decimal c.args.n)) c.write_digits-digits.ensures.start short
