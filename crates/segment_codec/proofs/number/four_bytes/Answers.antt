use Rattle.std.proofs.Common.{◌/◌, sym, refl}
use Rattle.segment_codec.proofs.Nine.{four-groups}
use Rattle.segment_codec.proofs.number.four_bytes.Goals as goal

pub returns : goal.returns
returns c =
    let r = c.requires in
    let n = c.args.number in
    rw (c.with_more.ensures, c.with_more-2.ensures, c.with_more-3.ensures) (sym (four-groups n (n / 128) (n / 128 / 128) (n / 128 / 128 / 128) r.0 r.1 refl refl refl))
