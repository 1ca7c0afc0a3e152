use Rattle.std.proofs.Common.{arith, ◌≡◌, ◌-◌, length, sym, subst}
use Rattle.std.proofs.lemmas.Bool.{leb-true, le-leb}
use Rattle.span_set.specs.Members.{IsMember}
use Rattle.range_query.proofs.RisingLemmas.{last-holds}
use Rattle.range_query.proofs.rising.Rising.contains.Goals as goal

pub returns-then-number : goal.returns-then-number
returns-then-number c =
    let xs = c.self.inside.spans.items in
    let some : c.len-n.result ≡ length xs = omega (arith, c.len-n.ensures, c.self.inside.spans.ok.0) in
    let n = c.if-n-gt0.true in
    let id = c.number-then-number.ensures.number in
    let high = c.number-then-number-2.ensures.number in
    let both = last-holds xs (c.len-n.result - 1) c.index.result.now c.index-then-number.result.now c.args.id c.self.invariant (omega arith) c.index.ensures c.index-then-number.ensures
    (omega (arith, c.if-number.true, c.number.ensures.number, c.number-then-n-gt0.ensures.number)) in (
      λ t. subst (λ l. IsMember l c.args.id) c.self.view_is (both.0 (let le = leb-true _ _ t in omega arith)),
      λ m. le-leb _ _ (let le = both.1 (subst (λ l. IsMember l c.args.id) (sym c.self.view_is) m) in omega arith),
    )
