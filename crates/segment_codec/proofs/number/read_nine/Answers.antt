use Rattle.std.proofs.Common.{refl, arith}
use Rattle.segment_codec.proofs.Short.{fits-so, last-first}
use Rattle.segment_codec.proofs.number.read_nine.Goals as goal

pub returns-in-len1-up : goal.returns-in-len1-up
returns-in-len1-up c =
    let last = c.if-ends_several.ensures.0 refl in let some = last.0 in let small = last.1 in
    let low = c.in_ok-low.ensures in let middle = c.in_ok-middle.ensures in
    let one = c.from.ensures in
    let end = last-first c.in_ok-middle.rest.now c.in-len1-up.len_at_least small in
    let behind = middle.1 _ _ some end in
    let whole = low.1 _ _ (omega (arith, some)) behind in
    let low_fits = low.0 in let middle_fits = middle.0 in
    fits-so c.args.bytes.now _ _ _ (omega (arith, one)) (omega (arith, low_fits, middle_fits, small)) whole
