use Rattle.segment_codec.proofs.Known.{passed, lent-order, lent-numbers, lent-whole}
use Rattle.segment_codec.proofs.passing.pass_short.Goals as goal

pub invariant_of-segment : goal.invariant_of-segment
invariant_of-segment c =
    let r = c.requires in
    let head = c.in_ok-head.head in
    let parents = c.split_at.result.0.now in
    let after = c.in_ok-rest.rest.now in
    let p = passed c.args.bytes.now c.in_ok-head.behind.now parents after head r.0 r.1 r.2 r.3 c.in_ok-head.ensures c.in_ok-rest.ensures.rest c.split_at.ensures.front in
    let order = lent-order r.0 r.1 head parents after r.2 p in
    let lent = lent-numbers r.0 r.1 head parents after r.2 p in
    record { order = order.0; valid = order.1; spelled = lent.0; below = lent.1 }

pub returns : goal.returns
returns c = λ s rest is whole.
    let head = c.in_ok-head.head in
    let parents = c.split_at.result.0.now in
    let after = c.in_ok-rest.rest.now in
    let p = passed c.args.bytes.now c.in_ok-head.behind.now parents after head s rest is whole c.in_ok-head.ensures c.in_ok-rest.ensures.rest c.split_at.ensures.front in
    (lent-whole s rest head parents after is p, p.after_is)
