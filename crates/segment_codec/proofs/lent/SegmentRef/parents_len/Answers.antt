use Rattle.std.proofs.Common.{ap, length, arith}
use Rattle.segment_codec.specs.Lent.{segment_of}
use Rattle.segment_codec.proofs.Lengths.{flat-short}
use Rattle.segment_codec.proofs.lent.SegmentRef.parents_len.Goals as goal

pub returns-clause-short : goal.returns-clause-short
returns-clause-short c = λ h. let spelled = ap length c.args.self.now.spelled in let short = flat-short (segment_of c.args.self.now) h in omega (arith, spelled, short)
