use Rattle.std.proofs.Common.{◌≡◌, ◌<◌, ◌+◌, ◌∙◌, ◌++◌, ℕ, length, Some, refl, sym, ap, inr, arith}
use Rattle.change_rules.specs.declared.Limit.TheVariants.{Log}
use Rattle.change_parts.specs.declared.fault.PlanFault.TheVariants.{Emptied}
use Rattle.change_parts.specs.Plans.{over, length_with}
use Rattle.change_parts.proofs.Refusals.{above-zero, err-match}
use Rattle.change_parts.proofs.Refusals.{over-none}
use Rattle.strip_plan.proofs.StripMeans.{refused-empty, stays-none, stays-plan, stays-next, refused, in-grammar, log-with, goes-plan, goes-next}
use Rattle.strip_plan.proofs.strip.stripped_change.Goals as goal

pub returns-then-before-others-eq0-clause-worlds : goal.returns-then-before-others-eq0-clause-worlds
returns-then-before-others-eq0-clause-worlds c = λ added w given payload m is.
    inr (refused-empty added (c.args.names.now.stored.now ++ c.args.names.now.pending.now) c.args.graph.now (c.args.names.now.count + c.args.names.now.more) c.args.before c.args.kept.now w given m c.args.limits c.args.log payload c.if-before-others-eq0.true ∙ ap (λ k. Some (Emptied (c.args.before + k))) (sym c.from-n.ensures))

pub returns-then-others-n-clause-worlds : goal.returns-then-others-n-clause-worlds
returns-then-others-n-clause-worlds c = λ added w given payload m is.
    let some : 0 < c.args.before + length c.args.kept.now = above-zero (c.args.before + length c.args.kept.now) c.if-before-others-eq0.false in
    let all = c.if-others-n.true ∙ c.from-n.ensures in
    (stays-none added (c.args.names.now.stored.now ++ c.args.names.now.pending.now) c.args.graph.now (c.args.names.now.count + c.args.names.now.more) c.args.before c.args.kept.now w given m c.args.limits c.args.log payload is some all, stays-plan added (c.args.names.now.stored.now ++ c.args.names.now.pending.now) c.args.graph.now (c.args.names.now.count + c.args.names.now.more) c.args.before c.args.kept.now w given m payload is all _ c.empty.ensures refl refl refl)

pub returns-then-others-n-clause-stored : goal.returns-then-others-n-clause-stored
returns-then-others-n-clause-stored c = λ added w given m.
    stays-next added (c.args.names.now.stored.now ++ c.args.names.now.pending.now) c.args.graph.now (c.args.names.now.count + c.args.names.now.more) c.args.before c.args.kept.now w given m c.args.limits c.args.log (c.if-others-n.true ∙ c.from-n.ensures) _ c.empty.ensures refl refl refl

pub stripped_payload-requires-clause-payload : goal.stripped_payload-requires-clause-payload
stripped_payload-requires-clause-payload c = λ ids a.
    let r = c.requires.strip in let added = r.0 in let w = r.1 in let given = r.2 in let m = r.3 in
    let some : 0 < c.args.before + length c.args.kept.now = above-zero (c.args.before + length c.args.kept.now) c.if-before-others-eq0.false in
    in-grammar added (c.args.names.now.stored.now ++ c.args.names.now.pending.now) c.args.graph.now (c.args.names.now.count + c.args.names.now.more) c.args.before c.args.kept.now w given m some ids a

pub returns-in_err-check-clause-worlds : goal.returns-in_err-check-clause-worlds
returns-in_err-check-clause-worlds c = λ added w given payload m is.
    let some : 0 < c.args.before + length c.args.kept.now = above-zero (c.args.before + length c.args.kept.now) c.if-before-others-eq0.false in
    let h : length c.args.kept.now ≡ c.args.names.now.count + c.args.names.now.more → ⊥ = λ e. c.if-others-n.false (e ∙ sym c.from-n.ensures) in
    let p = c.in_ok-payload.ensures in let len = c.len.ensures in let ok = c.in_ok-payload.payload.ok.0 in
    let log = log-with added (c.args.names.now.stored.now ++ c.args.names.now.pending.now) c.args.graph.now (c.args.names.now.count + c.args.names.now.more) c.args.before c.args.kept.now w given m c.args.log payload is h p.0 p.1 c.in_ok-payload.payload.items p.2 in
    let sum : length_with c.args.log payload ≡ c.args.log + 9 + c.len.result = omega (arith, log, len, ok) in
    err-match c.from_residual-in_err-check.result c.in_err-check.field-0.0 _ _ c.from_residual-in_err-check.ensures.1
    (inr (refused added (c.args.names.now.stored.now ++ c.args.names.now.pending.now) c.args.graph.now (c.args.names.now.count + c.args.names.now.more) c.args.before c.args.kept.now w given m c.args.limits c.args.log payload some ∙ ap (λ x. over c.args.limits.log x Log) sum ∙ c.in_err-check.ensures.err))

pub returns-clause-worlds : goal.returns-clause-worlds
returns-clause-worlds c = λ added w given payload m is.
    let some : 0 < c.args.before + length c.args.kept.now = above-zero (c.args.before + length c.args.kept.now) c.if-before-others-eq0.false in
    let h : length c.args.kept.now ≡ c.args.names.now.count + c.args.names.now.more → ⊥ = λ e. c.if-others-n.false (e ∙ sym c.from-n.ensures) in
    let p = c.in_ok-payload.ensures in let len = c.len.ensures in let ok = c.in_ok-payload.payload.ok.0 in
    let log = log-with added (c.args.names.now.stored.now ++ c.args.names.now.pending.now) c.args.graph.now (c.args.names.now.count + c.args.names.now.more) c.args.before c.args.kept.now w given m c.args.log payload is h p.0 p.1 c.in_ok-payload.payload.items p.2 in
    let sum : length_with c.args.log payload ≡ c.args.log + 9 + c.len.result = omega (arith, log, len, ok) in (
      refused added (c.args.names.now.stored.now ++ c.args.names.now.pending.now) c.args.graph.now (c.args.names.now.count + c.args.names.now.more) c.args.before c.args.kept.now w given m c.args.limits c.args.log payload some ∙ ap (λ x. over c.args.limits.log x Log) sum ∙ c.in_ok-check.ensures.ok,
      goes-plan added (c.args.names.now.stored.now ++ c.args.names.now.pending.now) c.args.graph.now (c.args.names.now.count + c.args.names.now.more) c.args.before c.args.kept.now w given m payload is h p.0 p.1 _ (c.of.ensures ∙ p.2) refl refl refl,
    )

pub returns-clause-stored : goal.returns-clause-stored
returns-clause-stored c = λ added w given m.
    let some : 0 < c.args.before + length c.args.kept.now = above-zero (c.args.before + length c.args.kept.now) c.if-before-others-eq0.false in
    let p = c.in_ok-payload.ensures in let len = c.len.ensures in let ok = c.in_ok-payload.payload.ok.0 in
    let size = ap (length {A = ℕ}) c.of.ensures in
    let fits = over-none c.args.limits.log (c.args.log + 9 + c.len.result) Log c.in_ok-check.ensures.ok in
    goes-next added (c.args.names.now.stored.now ++ c.args.names.now.pending.now) c.args.graph.now (c.args.names.now.count + c.args.names.now.more) c.args.before c.args.kept.now w given m c.args.limits c.args.log some p.0 p.1 _ (c.of.ensures ∙ p.2) refl refl refl (omega (arith, size, len, ok, fits))
