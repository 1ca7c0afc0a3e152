use Rattle.std.proofs.Common.{arith, ◌≡◌, ◌-◌, length, sym, subst}
use Rattle.std.proofs.lemmas.Bool.{ltb-true, lt-ltb}
use Rattle.range_query.specs.Parts.{StandBelow}
use Rattle.range_query.proofs.RisingLemmas.{last-under}
use Rattle.range_query.proofs.rising.Rising.ends_below.Goals as goal

pub returns-else-n-eq0 : goal.returns-else-n-eq0
returns-else-n-eq0 c =
    let xs = c.self.inside.spans.items in
    let some : c.len-n.result ≡ length xs = omega (arith, c.len-n.ensures, c.self.inside.spans.ok.0) in
    let n = c.if-n-eq0.false in
    let high = c.number.ensures.number in
    let both = last-under xs (c.len-n.result - 1) c.index.result.now c.args.bound c.self.invariant (omega arith) c.index.ensures in (
      λ t. subst (StandBelow c.args.bound) c.self.view_is (both.0 (let lt = ltb-true _ _ t in omega arith)),
      λ all. lt-ltb _ _ (let lt = both.1 (subst (StandBelow c.args.bound) (sym c.self.view_is) all) in omega arith),
    )
