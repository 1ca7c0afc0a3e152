use Rattle.std.proofs.Common.{◌^◌, sym, arith}
use Rattle.batch_codec.proofs.Ascending.{ascend-wider}
use Rattle.batch_codec.proofs.section.read_known.Goals as goal

pub invariant_of-section : goal.invariant_of-section
invariant_of-section c = record {
  size = c.in_ok-entries.ensures.len;
  ascending = let le = c.requires.after in ascend-wider c.args.before c.args.after 0 (2 ^ 57) _ (omega arith) (omega (arith, le)) (sym c.if-not-ascend.ensures);
}
