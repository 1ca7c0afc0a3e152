use Rattle.std.proofs.Common.{arith}
use Rattle.segment_codec.proofs.Known.{known-front, known-head}
use Rattle.segment_codec.proofs.passing.read_known.Goals as goal

pub overflow_sub-head : goal.overflow_sub-head
overflow_sub-head c =
    let r = c.requires in
    let f = known-front c.args.bytes.now r.0 r.1 r.2 r.3 c.if-span-ge128.false c.if-count-ge128.false in
    let high = c.from_be_bytes-high.ensures in let span = c.from.ensures in let high_is = f.high_is in let span_is = f.span_is in
    omega (arith, high, span, high_is, span_is)

pub returns : goal.returns
returns c =
    let r = c.requires in
    known-head c.args.bytes.now c.from_be_bytes-high.result c.from.result c.from-2.result r.0 r.1 r.2 r.3
    c.if-span-ge128.false c.if-count-ge128.false c.from_be_bytes-high.ensures c.from.ensures c.from-2.ensures
