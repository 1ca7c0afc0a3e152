use Rattle.std.proofs.Common.{ℕ, ◌≤◌, length, length-take, length-drop, arith, ◌+◌, ap, ◌∙◌, refl}
use Rattle.line_io.specs.Reading.{Reading}
use Rattle.line_io.proofs.HeldLemmas.{held-behind}
use Rattle.line_io.proofs.lines.Lines.take_line.Goals as goal

pub returns-clause-rest : goal.returns-clause-rest
returns-clause-rest c =
    let f = c.self-2.inside in
    let same = c.self-2.view_is ∙ c.lend-line.ensures.rest in
    let held = ap (λ (r : Reading). r.held) same in
    let room = ap (λ (r : Reading). r.room) same in
    let over = ap (λ (r : Reading). r.over) same in
    let ended = ap (λ (r : Reading). r.ended) same in
    let fits : f.held_start + (c.args.len + 1) ≤ f.held_end = omega (arith, ap length held, length-take {A = ℕ}, length-drop {A = ℕ}) in
    rw (held-behind f.buffer.items f.held_start f.held_end (c.args.len + 1) fits, held, room, over, ended) refl
