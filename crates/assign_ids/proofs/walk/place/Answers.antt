use Rattle.std.proofs.Common.{◌≡◌, ◌≤◌, ℕ, ◌∙◌, sym, ap, subst}
use Rattle.assign_ids.specs.Numbers.{AreBelow}
use Rattle.assign_ids.specs.Progress.{Progress}
use Rattle.assign_ids.proofs.NumberLemmas.{below-at, all-heads}
use Rattle.assign_ids.proofs.walk.place.Goals as goal

pub place_head-requires-clause-head : goal.place_head-requires-clause-head
place_head-requires-clause-head g c =
    let size : c.size_above.result ≡ c.heads.order.size = sym (c.heads.invariant.size ∙ ap (λ (p : Progress). p.size) c.in_ok-order.ensures) in
    below-at c.heads.order.size c.args.heads.now c.heads.head-index c.heads-test.true (subst (λ (n : ℕ). AreBelow n c.args.heads.now) size c.size_above.ensures.above)

pub returns : goal.returns
returns g c = λ n below.
    let size : c.size_above.result ≡ c.in_ok-order.order.size = sym (ap (λ (p : Progress). p.size) c.in_ok-order.ensures) in
    c.into_numbers.ensures ∙ all-heads (g.G.ParentsOf.parents c.args.graph.now) c.in_ok-order.order.size c.requires c.args.heads.now c.heads.head-index c.heads.order.numbers c.heads-test.false
    c.heads.invariant.numbers (subst (λ (n : ℕ). AreBelow n c.args.heads.now) size c.size_above.ensures.above)
    (subst (λ (m : ℕ). (n : ℕ) → AreBelow n c.args.heads.now → m ≤ n) size c.size_above.ensures.least) n below
