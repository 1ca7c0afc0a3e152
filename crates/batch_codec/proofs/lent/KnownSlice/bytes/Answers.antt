use Rattle.std.proofs.Common.{◌*◌, ap, sym, ◌∙◌}
use Rattle.batch_codec.proofs.Entries.{knowns-length}
use Rattle.batch_codec.proofs.lent.KnownSlice.bytes.Goals as goal

pub returns-clause-size : goal.returns-clause-size
returns-clause-size c = c.args.self.now.size ∙ ap (λ n. 28 * n) (sym (knowns-length c.args.self.now.count c.args.self.now.bytes.now))
