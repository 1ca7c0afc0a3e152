use Rattle.std.proofs.Common.{◌<◌, ◌∙◌, ℕ, refl, ap, sym, subst, arith}
use Rattle.std.specs.List.{flat_map, AllByRecursion}
use Rattle.segment_codec.specs.Number.{number_bytes, numbers_in}
use Rattle.segment_codec.proofs.Lengths.{parents-are}
use Rattle.segment_codec.proofs.lent.SegmentRef.of_level.Goals as goal

pub invariant_of-result : goal.invariant_of-result
invariant_of-result c =
    let small = c.number.ensures.small in
    let ns = c.requires.parents.0 in
    let are = parents-are c.args.low ns c.args.parents.now (omega (arith, c.number.ensures.number, small)) c.requires.parents.1 c.requires.parents.2 in
    record {
      order = omega (arith, c.requires.order, c.number.ensures.number, c.number-2.ensures.number);
      valid = omega (arith, c.number-2.ensures.number, c.number-2.ensures.small);
      spelled = c.requires.parents.2 ∙ ap (flat_map number_bytes) (sym are);
      below = subst (λ (n : ℕ). AllByRecursion (λ p. p < n) (numbers_in c.args.parents.now)) (sym c.number.ensures.number)
          (subst (AllByRecursion (λ p. p < c.args.low)) (sym are) c.requires.parents.1);
    }

pub returns : goal.returns
returns c =
    λ ns below is.
    let are = parents-are c.args.low ns c.args.parents.now (omega (arith, c.number.ensures.number, c.number.ensures.small)) below is in
    rw (c.number.ensures.number, c.number-2.ensures.number, are) refl
