use Rattle.std.proofs.Common.{sym}
use Rattle.flat_segments.proofs.Looking.{flats-length}
use Rattle.flat_segments.proofs.view.FlatView.master_flat_count.Goals as goal

pub returns : goal.returns
returns c = let v = c.args.self.now in sym (flats-length v.master.bytes.now v.master.end v.master.entries.now)
