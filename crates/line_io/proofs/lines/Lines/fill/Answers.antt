use Rattle.std.proofs.Common.{arith, ◌≡◌, ◌≤◌, ◌-◌, [], length, take, drop, length-take, length-drop, List, ℕ, ap, refl}
use Rattle.std.proofs.lemmas.Bool.Decides.{nat_tests}
use Rattle.line_io.specs.Reading.{Reading}
use Rattle.line_io.proofs.HeldLemmas.{refilled, none-more}
use Rattle.line_io.proofs.FillLemmas.{filled-reading, WhereTold-consumed, fills}
use Rattle.line_io.proofs.lines.Lines.fill.Goals as goal

pub invariant_of-self : goal.invariant_of-self
invariant_of-self g c =
    let f = c.self.inside in
    let i = c.self.invariant in
    let out = c.fill.new.out in
    let s = c.make_free-start.result in
    let k = f.held_end - f.held_start in
    let free = c.make_free-start.ensures in
    let r = refilled f.buffer c.deref_mut.result.now c.make_free-start.new.buffer c.deref_mut-2.result.now out f.held_start s k i.0 c.deref_mut.ensures.value free.len c.deref_mut-2.ensures.value free.moved (omega arith) (omega arith) in
    rw (r.whole, r.still) (r.buffer, omega arith, omega arith, i.3, i.4, i.5, omega arith, i.7)

pub invariant_of-self-2 : goal.invariant_of-self-2
invariant_of-self-2 g c =
    let f = c.self.inside in
    let i = c.self.invariant in
    let out = c.fill.new.out in
    let s = c.make_free-start.result in
    let k = f.held_end - f.held_start in
    let free = c.make_free-start.ensures in
    let r = refilled f.buffer c.deref_mut.result.now c.make_free-start.new.buffer c.deref_mut-2.result.now out f.held_start s k i.0 c.deref_mut.ensures.value free.len c.deref_mut-2.ensures.value free.moved (omega arith) (omega arith) in
    let bound : c.in_ok-count.count ≤ length out = omega (arith, c.in_ok-count.ensures.bound) in
    let kept = c.min-kept.result in
    let came = r.came kept (omega (arith, bound, c.min-kept.ensures)) in
    let held = take k (drop f.held_start f.buffer.items) in
    let size : length held ≡ k = omega (arith, length-take k (drop f.held_start f.buffer.items), length-drop f.held_start f.buffer.items, i.0, i.2) in
    let within : f.scanned ≤ length held = omega (arith, size, i.6) in
    rw (r.whole, came) (r.buffer, omega arith, omega (arith, bound, c.min-kept.ensures), i.3, i.4, λ e. grind (arith, nat_tests, c.min-kept.ensures), omega arith, none-more held (take kept out) f.scanned within i.7)

pub returns-clause-bytes : goal.returns-clause-bytes
returns-clause-bytes g c =
    let f = c.self.inside in
    let i = c.self.invariant in
    let out = c.fill.new.out in
    let s = c.make_free-start.result in
    let k = f.held_end - f.held_start in
    let free = c.make_free-start.ensures in
    let r = refilled f.buffer c.deref_mut.result.now c.make_free-start.new.buffer c.deref_mut-2.result.now out f.held_start s k i.0 c.deref_mut.ensures.value free.len c.deref_mut-2.ensures.value free.moved (omega arith) (omega arith) in
    let bound : c.in_ok-count.count ≤ length out = omega (arith, c.in_ok-count.ensures.bound) in
    let kept = c.min-kept.result in
    let came = r.came kept (omega (arith, bound, c.min-kept.ensures)) in
    let held = take k (drop f.held_start f.buffer.items) in
    let size : length held ≡ k = omega (arith, length-take k (drop f.held_start f.buffer.items), length-drop f.held_start f.buffer.items, i.0, i.2) in
    let n = c.in_ok-count.count in
    let got = take n out in
    let count : length got ≡ n = omega (arith, bound, length-take n out) in
    let text : f.text_end - f.text_start ≡ 0 = omega (arith, ap length (ap (λ (r : Reading). r.text) c.self.view_is), ap length c.requires.no_text, length-take {A = ℕ}, length-drop {A = ℕ}) in
    let all : length c.deref_mut.result.now ≡ 65536 = omega (arith, ap (λ (xs : List ℕ). length xs) c.deref_mut.ensures.value, i.0) in
    let space = free.free (omega (arith, size, all, c.requires.space, ap length (ap (λ (r : Reading). r.held) c.self.view_is))) in
    rw (← c.self.view_is, r.whole, text) (WhereTold-consumed _ _ got n (length out) _ c.in_ok-count.ensures.bytes (omega (arith, space, all, r.size))
    (λ after ends. fills _ _ got after n count (filled-reading (record { held = held; text = []; room = f.room; over = f.over; ended = f.ended }) _ [] out n kept bound c.min-kept.ensures came refl) ends))
