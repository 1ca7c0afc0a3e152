use Rattle.std.proofs.Common.{◌≡◌, ◌≤◌, ◌++◌, ap, subst, ◌∙◌, sym, arith, List, Vec, ℕ, length, take, drop, append_assoc}
use Rattle.std.specs.List.{flat_map}
use Rattle.std.specs.declared.alloc.Global.{Global}
use Rattle.link_memory.proofs.Over.{nothing-comes}
use Rattle.link_memory.proofs.coming.Coming.take.Goals as goal

pub returns-clause-parts : goal.returns-clause-parts
returns-clause-parts c =
    let rest = flat_map (λ (f : Vec ℕ Global). f.items) c.move_on.new.later.items in
    let out = take c.take_part.result c.take_part.new.out in
    let parts = subst (λ (l : List ℕ). drop c.move_on.new.at l ≡ out ++ drop c.take_part.new.at l) c.deref.ensures.value c.take_part.ensures.parts in
    rw (← c.self.view_is) (sym c.move_on.ensures.same ∙ ap (λ (l : List ℕ). l ++ rest) parts ∙ append_assoc out (drop c.take_part.new.at c.move_on.new.first.items) rest)

pub returns-clause-end : goal.returns-clause-end
returns-clause-end c = λ none.
    let over = subst (λ (l : List ℕ). length l ≤ c.move_on.new.at) c.deref.ensures.value (c.take_part.ensures.end none) in
    let moved = c.take_part.ensures.moved in
    nothing-comes c.take_part.new.at c.move_on.new.first.items c.move_on.new.later.items (omega (arith, over, moved)) (c.move_on.ensures.end over)
