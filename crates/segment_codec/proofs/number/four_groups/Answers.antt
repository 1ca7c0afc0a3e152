use Rattle.std.proofs.Common.{sym, ap, ◌∙◌, arith}
use Rattle.std.proofs.lemmas.List.{take_rest}
use Rattle.segment_codec.specs.Reading.{long_number_at}
use Rattle.segment_codec.proofs.Numbers.{IsBytes}
use Rattle.segment_codec.proofs.Short.{four-more}
use Rattle.segment_codec.proofs.number.four_groups.Goals as goal

pub returns-in-len4-up : goal.returns-in-len4-up
returns-in-len4-up c =
    let bytes = c.args.bytes.now in
    let fits : IsBytes bytes = λ i. omega (arith, c.type_inv.bytes i) in
    let low = c.two_groups.ensures in let high = c.two_groups-high.ensures in (
      omega (arith, low, high),
      λ n rest some behind. four-more bytes _ n rest fits c.in-len4-up.len_at_least
          c.if-one-ge-MORE.true c.if-two-ge-MORE.true c.if-three-ge-MORE.true c.if-four-ge-MORE.true
          (omega (arith, low, high)) some (ap long_number_at (sym (take_rest bytes 4)) ∙ behind),
    )
