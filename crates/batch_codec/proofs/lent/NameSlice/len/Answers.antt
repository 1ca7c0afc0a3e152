use Rattle.std.proofs.Common.{sym}
use Rattle.batch_codec.proofs.Entries.{names-length}
use Rattle.batch_codec.proofs.lent.NameSlice.len.Goals as goal

pub returns : goal.returns
returns c = sym (names-length c.args.self.now.count c.args.self.now.bytes.now)
