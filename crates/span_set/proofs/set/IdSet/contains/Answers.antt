use Rattle.std.proofs.Common.{arith, subst, length, take, drop, ◌≤◌, le_refl}
use Rattle.std.proofs.lemmas.Bool.{leb-true, le-leb, ltb-true}
use Rattle.span_set.specs.Places.{BeginAbove, BeginWithin}
use Rattle.span_set.proofs.Below.{contains-at, none-behind}
use Rattle.span_set.proofs.set.IdSet.contains.Goals as goal

pub returns-then-at-len : goal.returns-then-at-len
returns-then-at-len c =
    let xs = c.self.inside.spans.items in
    let n = c.count_begin_above-at.result in
    let above = subst (λ l. BeginAbove c.args.id (take n l)) c.deref.ensures.value c.count_begin_above-at.ensures.above in
    let rest = subst (λ l. BeginWithin c.args.id (drop n l)) c.deref.ensures.value c.count_begin_above-at.ensures.rest in
    let both = contains-at c.args.id n xs c.index.result.now c.self.invariant (omega (arith, c.self.inside.spans.ok.0, c.len.ensures, c.if-at-len.true)) above rest c.index.ensures in
    let number = c.number.ensures.number in let high = c.number-then-at-len.ensures.number in
    rw (← c.self.view_is) (λ t. both.0 (let le = leb-true _ _ t in omega arith), λ m. le-leb _ _ (let le = both.1 m in omega arith))

pub returns-else-at-len : goal.returns-else-at-len
returns-else-at-len c =
    let xs = c.self.inside.spans.items in
    let n = c.count_begin_above-at.result in
    let above = subst (λ l. BeginAbove c.args.id (take n l)) c.deref.ensures.value c.count_begin_above-at.ensures.above in
    let le : length xs ≤ n = omega (arith, c.self.inside.spans.ok.0, c.len.ensures, c.if-at-len.false) in
    rw (← c.self.view_is) (λ t. absurd (let lt = ltb-true _ _ t in omega arith), λ m. absurd (none-behind c.args.id n xs le above c.args.id (le_refl _) m))
