use Rattle.std.proofs.Common.{◌+◌, ◌*◌, refl, arith}
use Rattle.segment_codec.proofs.Numbers.{IsBytes}
use Rattle.segment_codec.proofs.Short.{last-at, more-at, short-number}
use Rattle.segment_codec.proofs.number.read_short.Goals as goal

pub returns-in-len1-up : goal.returns-in-len1-up
returns-in-len1-up c =
    let bytes = c.args.bytes.now in
    let small = c.if-one-lt-MORE.true in
    let one = last-at bytes 0 c.in-len1-up.len_at_least small in
    short-number bytes 1 _ c.from.result c.from.ensures (omega (arith, small)) one

pub returns-in-len2-up : goal.returns-in-len2-up
returns-in-len2-up c =
    let bytes = c.args.bytes.now in
    let fits : IsBytes bytes = λ i. omega (arith, c.type_inv.bytes i) in
    let len = c.in-len2-up.len_at_least in
    let last = c.if-ends_several.ensures.0 refl in let some = last.0 in let small = last.1 in
    let two = last-at bytes 1 len small in
    let one = more-at bytes 0 _ _ fits (omega (arith, len)) c.if-one-lt-MORE.false some two in
    let value = c.two_groups.ensures in
    short-number bytes 2 _ c.two_groups.result (omega (arith, value, small)) (omega (arith, small)) one

pub returns-in-len3-up : goal.returns-in-len3-up
returns-in-len3-up c =
    let bytes = c.args.bytes.now in
    let fits : IsBytes bytes = λ i. omega (arith, c.type_inv.bytes i) in
    let len = c.in-len3-up.len_at_least in
    let last = c.if-ends_several-2.ensures.0 refl in let some = last.0 in let small = last.1 in
    let three = last-at bytes 2 len small in
    let two = more-at bytes 1 _ _ fits (omega (arith, len)) c.if-two-ge-MORE.true some three in
    let one = more-at bytes 0 _ _ fits (omega (arith, len)) c.if-one-lt-MORE.false (omega (arith, some)) two in
    let low = c.from-in-len3-up.ensures in let high = c.two_groups-high.ensures in
    short-number bytes 3 _ (c.from-in-len3-up.result + 128 * c.two_groups-high.result) (omega (arith, low, high, small)) (omega (arith, small)) one

pub returns-in-len4-up : goal.returns-in-len4-up
returns-in-len4-up c =
    let bytes = c.args.bytes.now in
    let fits : IsBytes bytes = λ i. omega (arith, c.type_inv.bytes i) in
    let len = c.in-len4-up.len_at_least in
    let last = c.if-ends_several-3.ensures.0 refl in let some = last.0 in let small = last.1 in
    let four = last-at bytes 3 len small in
    let three = more-at bytes 2 _ _ fits (omega (arith, len)) c.if-three-ge-MORE.true some four in
    let two = more-at bytes 1 _ _ fits (omega (arith, len)) c.if-two-ge-MORE-2.true (omega (arith, some)) three in
    let one = more-at bytes 0 _ _ fits (omega (arith, len)) c.if-one-lt-MORE.false (omega (arith, some)) two in
    let low = c.two_groups-in-len4-up.ensures in let high = c.two_groups-high-in-len4-up.ensures in
    short-number bytes 4 _ (c.two_groups-in-len4-up.result + 16384 * c.two_groups-high-in-len4-up.result) (omega (arith, low, high, small)) (omega (arith, small)) one
