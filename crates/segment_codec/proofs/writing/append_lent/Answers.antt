use Rattle.std.proofs.Common.{◌≡◌, ◌++◌, ◌∷◌, ◌-◌, List, ℕ, length, sym, ap, ◌∙◌}
use Rattle.std.specs.List.{flat_map}
use Rattle.std.specs.Int.{w64, to_be_bytes}
use Rattle.std.proofs.lemmas.Result.{on_ok_weaker}
use Rattle.segment_codec.specs.Number.{number_bytes, numbers_in}
use Rattle.segment_codec.specs.Record.{segment_bytes, flags_of}
use Rattle.segment_codec.proofs.Fronts.{written-parents}
use Rattle.segment_codec.proofs.writing.append_lent.Goals as goal

pub returns-clause-ok : goal.returns-clause-ok
unfolding segment_bytes
returns-clause-ok c =
    let out = c.args.out.now.items in
    let bytes = c.args.parents.rest.now in
    let parents = numbers_in bytes in
    let written : ℕ → ℕ → ℕ → ℕ → ℕ → List ℕ = λ flags high last low count. out ++ (flags ∷ 0 ∷ to_be_bytes w64 high ++ (number_bytes (last - low) ++ number_bytes count)) in
    let head : c.append_head.new.out.items ≡ written (flags_of parents) c.args.high c.args.high c.args.low (length parents) =
    c.in_ok-append_head.ensures.ok
    ∙ ap (λ (f : ℕ). written f c.number-3.result c.number.result c.number-2.result c.count_numbers-count.result) (c.flags_for.ensures parents (sym c.count_numbers-count.ensures))
    ∙ ap (λ (h : ℕ). written (flags_of parents) h c.number.result c.number-2.result c.count_numbers-count.result) c.number-3.ensures.number
    ∙ ap (λ (h : ℕ). written (flags_of parents) c.args.high h c.number-2.result c.count_numbers-count.result) c.number.ensures.number
    ∙ ap (λ (l : ℕ). written (flags_of parents) c.args.high c.args.high l c.count_numbers-count.result) c.number-2.ensures.number
    ∙ ap (λ (n : ℕ). written (flags_of parents) c.args.high c.args.high c.args.low n) c.count_numbers-count.ensures in
    on_ok_weaker c.append_bytes.result (λ last.
    written-parents out c.append_head.new.out.items c.append_bytes.new.out.items
    (to_be_bytes w64 c.args.high) (number_bytes (c.args.high - c.args.low)) (number_bytes (length parents)) (flat_map number_bytes parents) (flags_of parents) 0 head
    (last ∙ ap (λ (z : List ℕ). c.append_head.new.out.items ++ z) c.args.parents.spelled))
    c.append_bytes.ensures.ok
