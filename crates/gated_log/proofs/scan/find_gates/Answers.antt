use Rattle.std.proofs.Common.{◌+◌, List, ℕ, sym, ◌∙◌, ap, subst, take, arith}
use Rattle.std.proofs.lemmas.List.{take_rest}
use Rattle.std.specs.Int.{w64, from_be_bytes}
use Rattle.gated_log.proofs.Scanning.{IsScanned, scanned_more}
use Rattle.gated_log.proofs.scan.find_gates.Goals as goal

pub gates-preserved : goal.gates-preserved
gates-preserved c =
    subst (λ (o : List ℕ). IsScanned c.args.bytes.now o (c.gates.at + (9 + c.number-size.result))) (sym c.in_ok-push.ensures.items)
    (scanned_more c.args.bytes.now c.gates.open_gates.items c.gates.at c.number-size.result (λ i. omega (arith, c.type_inv.bytes i)) c.gates.invariant c.gates-test.true (omega arith)
    (c.number-size.ensures ∙ ap (λ (l : List ℕ). from_be_bytes w64 (take 8 l)) (take_rest c.args.bytes.now (c.gates.at + 1))) c.number-size.type_inv (omega arith))
