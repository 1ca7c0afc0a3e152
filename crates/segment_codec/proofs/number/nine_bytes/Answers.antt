use Rattle.std.proofs.Common.{◌/◌, sym, refl}
use Rattle.segment_codec.proofs.Nine.{nine-groups}
use Rattle.segment_codec.proofs.number.nine_bytes.Goals as goal

pub returns : goal.returns
returns c =
    let r = c.requires in
    let n = c.args.number in
    let n1 = n / 128 in
    let n2 = n1 / 128 in
    let n3 = n2 / 128 in
    let n4 = n3 / 128 in
    let n5 = n4 / 128 in
    let n6 = n5 / 128 in
    let n7 = n6 / 128 in
    rw (c.with_more.ensures, c.with_more-2.ensures, c.with_more-3.ensures, c.with_more-4.ensures, c.with_more-5.ensures, c.with_more-6.ensures, c.with_more-7.ensures, c.with_more-8.ensures)
    (sym (nine-groups n n1 n2 n3 n4 n5 n6 n7 (n7 / 128) r.0 r.1 refl refl refl refl refl refl refl refl))
