use Rattle.std.proofs.Common.{sym, ap, ◌∙◌}
use Rattle.segment_codec.specs.Reading.{head_at}
use Rattle.segment_codec.proofs.Records.{head-of-record}
use Rattle.segment_codec.proofs.Known.{passed, lent-numbers, lent-whole}
use Rattle.segment_codec.proofs.passing.pass_long.Goals as goal

pub unreachable-requires : goal.unreachable-requires
unreachable-requires c =
    let r = c.requires in
    let again = sym c.in_default.ensures.exact ∙ ap head_at r.3 ∙ head-of-record r.0 r.1 r.2 in
    absurd cc

pub invariant_of-segment : goal.invariant_of-segment
invariant_of-segment c =
    let r = c.requires in
    let order = c.in-Some.ensures.order in
    let p = passed c.args.bytes.now c.in-Some.behind.now c.split_at.result.0.now c.behind_numbers-rest.result.now c.in-Some.head r.0 r.1 r.2 r.3
    c.in-Some.ensures.exact c.behind_numbers-rest.ensures.rest c.split_at.ensures.front in
    let lent = lent-numbers r.0 r.1 c.in-Some.head c.split_at.result.0.now c.behind_numbers-rest.result.now r.2 p in
    record { order = order.0; valid = order.1; spelled = lent.0; below = lent.1 }

pub returns : goal.returns
returns c = λ s rest is whole.
    let p = passed c.args.bytes.now c.in-Some.behind.now c.split_at.result.0.now c.behind_numbers-rest.result.now c.in-Some.head s rest is whole
    c.in-Some.ensures.exact c.behind_numbers-rest.ensures.rest c.split_at.ensures.front in
    (lent-whole s rest c.in-Some.head c.split_at.result.0.now c.behind_numbers-rest.result.now is p, p.after_is)
