use Rattle.std.proofs.Common.{◌++◌, ◌∷◌, ◌-◌, ◌∙◌, List, ℕ, sym, ap}
use Rattle.std.specs.Int.{w64, to_be_bytes}
use Rattle.segment_codec.specs.Number.{number_bytes, numbers_in}
use Rattle.segment_codec.specs.Record.{flags_of}
use Rattle.segment_codec.proofs.stripping.short_front.Goals as goal

pub returns : goal.returns
returns c =
    let s = c.args.segment in
    let parents = numbers_in s.parents.now in
    let written : ℕ → ℕ → List ℕ = λ flags count. flags ∷ s.level ∷ to_be_bytes w64 s.high ++ (number_bytes (s.high - s.low) ++ number_bytes count) in
    c.short_head.ensures
    ∙ ap (λ f. written f c.count_numbers-count.result) (c.flags_for-flags.ensures parents (sym c.count_numbers-count.ensures))
    ∙ ap (λ n. written (flags_of parents) n) c.count_numbers-count.ensures
