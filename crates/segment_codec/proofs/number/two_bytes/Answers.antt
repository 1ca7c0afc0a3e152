use Rattle.std.proofs.Common.{◌/◌, sym, refl}
use Rattle.segment_codec.proofs.Nine.{two-groups}
use Rattle.segment_codec.proofs.number.two_bytes.Goals as goal

pub returns : goal.returns
returns c =
    let r = c.requires in
    let n = c.args.number in
    rw c.with_more.ensures (sym (two-groups n (n / 128) r.0 r.1 refl))
