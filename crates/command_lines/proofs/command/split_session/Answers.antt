use Rattle.std.proofs.Common.{◌≡◌, ◌+◌, ◌-◌, length, take, drop, arith, sym}
use Rattle.std.proofs.lemmas.Grind.{common_steps}
use Rattle.command_lines.proofs.TextLemmas.{some-blank, number-front, session-line, same-session}
use Rattle.command_lines.proofs.command.split_session.Goals as goal

pub returns-in_default-clause-none : goal.returns-in_default-clause-none
returns-in_default-clause-none c = λ s text small is. some-blank c.args.line.now s text small is (sym c.in_default.ensures)

pub returns-in_default-number_of-clause-none : goal.returns-in_default-number_of-clause-none
returns-in_default-number_of-clause-none c = λ s text small is.
    c.in_default-number_of.ensures.none s (omega (arith, small), number-front c.args.line.now s text small is c.in-Some.len (sym c.in-Some.ensures))

pub returns-then-number-lt-SESSIONS-clause-some : goal.returns-then-number-lt-SESSIONS-clause-some
returns-then-number-lt-SESSIONS-clause-some c =
    let line = c.args.line.now in (
      grind arith,
      session-line line (take (length line - (c.in-Some.len + 1)) (drop (c.in-Some.len + 1) line)) c.in-Some.len c.in-Some-number_of.number (sym c.in-Some.ensures) c.in-Some-number_of.ensures.some.1
          (grind (arith, common_steps)),
    )

pub returns-else-number-lt-SESSIONS-clause-none : goal.returns-else-number-lt-SESSIONS-clause-none
returns-else-number-lt-SESSIONS-clause-none c = λ s text small is.
    let same : c.in-Some-number_of.number ≡ s =
    same-session c.args.line.now c.in-Some.len c.in-Some-number_of.number s text (sym c.in-Some.ensures) c.in-Some-number_of.ensures.some.1 c.in-Some-number_of.ensures.some.0 small is in
    omega (arith, same, small, c.if-number-lt-SESSIONS.false)
