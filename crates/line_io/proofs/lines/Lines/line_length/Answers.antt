use Rattle.std.proofs.Common.{ℕ, ◌≤◌, ◌-◌, length, take, drop, length-take, length-drop, arith, ◌≡◌, ap, sym}
use Rattle.std.proofs.lemmas.List.{take_all}
use Rattle.line_io.specs.Reading.{Reading}
use Rattle.line_io.proofs.HeldLemmas.{held-behind, none-scanned, ends-scanned}
use Rattle.line_io.proofs.lines.Lines.line_length.Goals as goal

pub returns-in-Some-clause-found : goal.returns-in-Some-clause-found
returns-in-Some-clause-found c =
    let f = c.self.inside in
    let held = take (f.held_end - f.held_start) (drop f.held_start f.buffer.items) in
    let same = ap (λ (r : Reading). r.held) c.self.view_is in
    let behind = held-behind f.buffer.items f.held_start f.held_end f.scanned (omega arith) in
    let found = rw (c.deref.ensures.value, behind) at (sym c.in-Some.ensures) in
    let within : f.scanned ≤ length held = omega (arith, length-take (f.held_end - f.held_start) (drop f.held_start f.buffer.items), length-drop f.held_start f.buffer.items) in
    rw (← same) (ends-scanned held f.scanned c.in-Some.ahead within c.self.invariant.7 found)

pub returns-in-None-clause-found : goal.returns-in-None-clause-found
returns-in-None-clause-found c =
    let f = c.self.inside in
    let held = take (f.held_end - f.held_start) (drop f.held_start f.buffer.items) in
    let same = ap (λ (r : Reading). r.held) c.self.view_is in
    let behind = held-behind f.buffer.items f.held_start f.held_end f.scanned (omega arith) in
    let none = rw (c.deref.ensures.value, behind) at (sym c.in-None.ensures) in
    rw (← same) (none-scanned held f.scanned c.self.invariant.7 none)

pub invariant_of-self : goal.invariant_of-self
invariant_of-self c =
    let f = c.self.inside in
    let held = take (f.held_end - f.held_start) (drop f.held_start f.buffer.items) in
    let behind = held-behind f.buffer.items f.held_start f.held_end f.scanned (omega arith) in
    let none = rw (c.deref.ensures.value, behind) at (sym c.in-None.ensures) in
    let i = c.self.invariant in
    let all : take (f.held_end - f.held_start) held ≡ held = take_all (f.held_end - f.held_start) held (omega (arith, length-take {A = ℕ})) in
    (i.0, i.1, i.2, i.3, i.4, i.5, omega arith, rw all (none-scanned held f.scanned i.7 none))
