use Rattle.std.proofs.Common.{◌++◌, ◌∷◌, [], ◌∙◌, ◌%◌, ◌+◌, ◌/◌, ap, sym, arith}
use Rattle.segment_codec.specs.Number.{number_bytes}
use Rattle.segment_codec.proofs.Numbers.{number_next, number_last}
use Rattle.segment_codec.proofs.Fronts.{front-more, written-more}
use Rattle.segment_codec.proofs.number.write_groups.Goals as goal

pub groups-preserved : goal.groups-preserved
groups-preserved c =
    let n = c.groups.rest in
    let next = number_next n (omega (arith, c.groups-test.true)) (omega arith) in
    rw (c.in_ok-push.ensures.items) (record {
      whole = written-more c.groups.out.items (n % 128 + 128) (number_bytes (n / 128)) ∙ ap (λ z. c.groups.out.items ++ z) (sym next) ∙ c.groups.invariant.whole;
      front = front-more _ _ ((n % 128 + 128) ∷ []) c.groups.invariant.front;
    })

pub returns-clause-ok : goal.returns-clause-ok
returns-clause-ok c =
    let last = number_last c.groups.rest (omega (arith, c.groups-test.false)) in
    c.in_ok-push-2.ensures.items ∙ ap (λ z. c.groups.out.items ++ z) (sym last) ∙ c.groups.invariant.whole
