use Rattle.std.proofs.Common.{ap, sym, ◌∙◌, arith, length, take, cond, lt-ltb, le-ltb}
use Rattle.std.specs.Int.{w64, from_be_bytes}
use Rattle.name_index.specs.Runs.{leading}
use Rattle.name_index.proofs.entry.leading.Goals as goal

pub returns-in-Some : goal.returns-in-Some
unfolding leading
returns-in-Some c =
    let bytes = c.args.bytes.now in
    let whole = c.in-Some.ensures.cases.2 in
    c.from_be_bytes.ensures ∙ ap (from_be_bytes w64) c.in-Some.ensures.cases.0 ∙ sym (ap (λ b. cond b 0 (from_be_bytes w64 (take 8 bytes))) (le-ltb (length bytes) 8 (omega (arith, whole))))

pub returns-in-None : goal.returns-in-None
unfolding leading
returns-in-None c =
    let bytes = c.args.bytes.now in
    let short = c.in-None.ensures.cases in
    sym (ap (λ b. cond b 0 (from_be_bytes w64 (take 8 bytes))) (lt-ltb (length bytes) 8 short))
