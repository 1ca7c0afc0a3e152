use Rattle.std.proofs.Common.{◌≡◌, ◌<◌, ◌∙◌, ℕ, length, inr, ap, arith}
use Rattle.change_rules.specs.Change.{text_of, told_change}
use Rattle.clone_plan.specs.Cloning.{told_count}
use Rattle.change_parts.proofs.Refusals.{err-match}
use Rattle.clone_plan.proofs.ToldPlans.{some-log}
use Rattle.clone_plan.proofs.cloning.some_told.Goals as goal

pub returns-in_err-check-clause-told : goal.returns-in_err-check-clause-told
returns-in_err-check-clause-told c =
    let told = c.args.cloned.now in
    let n = c.requires.count in let s = c.requires.some in
    let some : 0 < told_count told = omega (arith, n, s) in
    let len = c.len.ensures in let ok = c.in_ok-payload.payload.ok.0 in let size = ap (length {A = ℕ}) c.in_ok-payload.ensures.payload in
    let written : c.len.result ≡ length (text_of (told_change told)) = omega (arith, len, ok, size) in
    err-match c.from_residual-in_err-check.result c.in_err-check.field-0.0 _ _ c.from_residual-in_err-check.ensures.1
    (inr (some-log c.args.limits (length c.args.bytes.now) c.len.result told some written ∙ c.in_err-check.ensures.err))
