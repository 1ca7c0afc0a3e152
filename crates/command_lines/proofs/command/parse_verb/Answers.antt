use Rattle.std.proofs.Common.{◌+◌, ◌-◌, List, ℕ, length, take, drop, arith, refl, sym, Some, None, append-nil}
use Rattle.std.proofs.lemmas.Grind.{common_steps}
use Rattle.outside.proofs.PartsLemmas.{position-none}
use Rattle.command_lines.proofs.CommandLemmas.{in-parts, ok-parts}
use Rattle.command_lines.proofs.TextLemmas.{blank-split}
use Rattle.command_lines.proofs.command.parse_verb.Goals as goal

abbrev behind : List ℕ → ℕ → List ℕ
behind text len = take (length text - (len + 1)) (drop (len + 1) text)

pub returns-in-Some-clause-ok : goal.returns-in-Some-clause-ok
returns-in-Some-clause-ok c =
    let text = c.args.text.now in
    let len = c.in-Some.len in
    let split = blank-split text (take len text) (behind text len) len (sym c.in-Some.ensures) refl (grind (arith, common_steps)) in
    ok-parts text (take len text) (Some (behind text len)) c.parse_two.result split.1 c.parse_two.ensures.ok

pub returns-in-Some-clause-syntax : goal.returns-in-Some-clause-syntax
returns-in-Some-clause-syntax c = λ e verb built h.
    let text = c.args.text.now in
    let len = c.in-Some.len in
    let split = blank-split text (take len text) (behind text len) len (sym c.in-Some.ensures) refl (grind (arith, common_steps)) in
    c.parse_two.ensures.syntax e verb (in-parts text (take len text) (Some (behind text len)) verb split.0 split.1 built h)

pub returns-in-Some-clause-memory : goal.returns-in-Some-clause-memory
returns-in-Some-clause-memory c = λ e verb built h.
    let text = c.args.text.now in
    let len = c.in-Some.len in
    let split = blank-split text (take len text) (behind text len) len (sym c.in-Some.ensures) refl (grind (arith, common_steps)) in
    c.parse_two.ensures.memory e verb (in-parts text (take len text) (Some (behind text len)) verb split.0 split.1 built h)

pub returns-in-None-clause-syntax : goal.returns-in-None-clause-syntax
returns-in-None-clause-syntax c = λ e verb built h.
    let text = c.args.text.now in
    c.parse_one.ensures.syntax e verb (in-parts text text None verb (position-none 32 text (sym c.in-None.ensures)) (sym (append-nil text)) built h)

pub returns-in-None-clause-memory : goal.returns-in-None-clause-memory
returns-in-None-clause-memory c = λ e verb built h. absurd (c.parse_one.ensures.memory e)
