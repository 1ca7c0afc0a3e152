use Rattle.std.proofs.Common.{sym}
use Rattle.batch_codec.proofs.Entries.{knowns-length}
use Rattle.batch_codec.proofs.lent.KnownSlice.len.Goals as goal

pub returns : goal.returns
returns c = sym (knowns-length c.args.self.now.count c.args.self.now.bytes.now)
