use Rattle.std.proofs.Common.{rules, arith, ◌≡◌, length, ◌≤◌, ◌+◌, List, ℕ, drop, take, ◌++◌}
use Rattle.std.proofs.lemmas.List.{take-append-drop, drop_all, take_at, drop-drop}
use Rattle.std.proofs.lemmas.Grind.{common_steps}
use Rattle.line_io.proofs.memory_source.MemorySourceSource.fill.Goals as goal

-- what is put at the front of a buffer, and what is left behind it
given : (s got rest : List ℕ) (at n : ℕ) → got ≡ take n (drop at s) → at + n ≤ length s
    → drop at s ≡ take n (got ++ rest) ++ drop (at + n) s
given s got rest at n e fits =
    let back = drop-drop n at s in
    let len : length got ≡ n = grind (arith, common_steps, e) in
    let seam = take_at got rest n len in
    let parts = take-append-drop n (drop at s) in
    cc

pub returns-clause-bytes : goal.returns-clause-bytes
returns-clause-bytes c =
    let n = c.min-count.result in
    let at = c.self.inside.at in
    let s = c.self.inside.bytes.items in
    let parts = given s c.copy_from_slice.new.self (drop n c.args.out.now) at n (search rules) (omega arith) in
    (rw (← c.self.view_is) parts, λ none room. drop_all (at + n) s (omega arith))
