use Rattle.std.proofs.Common.{sym, arith}
use Rattle.segment_codec.proofs.Heads.{short-read}
use Rattle.segment_codec.proofs.head.read_short_head.Goals as goal

pub returns-clause-exact : goal.returns-clause-exact
returns-clause-exact c =
    let len = c.in-len12-up.len_at_least in
    short-read c.args.bytes.now c.from_be_bytes-high.result c.from-span.result c.from-count.result (omega (arith, len)) c.if-span-ge128.false c.if-count-ge128.false
    c.from_be_bytes-high.ensures c.from-span.ensures c.from-count.ensures (sym c.if-not-is_valid_head.ensures)
