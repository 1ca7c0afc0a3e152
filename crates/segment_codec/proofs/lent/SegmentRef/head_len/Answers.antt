use Rattle.std.proofs.Common.{◌-◌, arith}
use Rattle.segment_codec.specs.Lent.{segment_of}
use Rattle.segment_codec.proofs.Lengths.{flat-head, number-fits}
use Rattle.segment_codec.proofs.lent.SegmentRef.head_len.Goals as goal

pub overflow_add-result : goal.overflow_add-result
overflow_add-result c = let e = c.number_len.ensures in omega (arith, e, number-fits (c.args.self.now.high - c.args.self.now.low))

pub overflow_add-result-2 : goal.overflow_add-result-2
overflow_add-result-2 c = let e = c.number_len.ensures in omega (arith, e, number-fits (c.args.self.now.high - c.args.self.now.low))

pub returns : goal.returns
returns c = let e = c.number_len.ensures in omega (arith, e, flat-head (segment_of c.args.self.now) c.requires)
