use Rattle.std.proofs.Common.{arith, ◌≡◌, ◌<◌, ◌⊎◌, ◌↔◌, ◌-◌, ◌∙◌, length, get_or, refl, ℕ, subst, sym, ap, List}
use Rattle.std.specs.Prelude.{slice_set}
use Rattle.std.proofs.lemmas.List.{get_or_default}
use Rattle.id_groups.specs.declared.span.IdSpan.{IdSpan}
use Rattle.id_groups.specs.Span.{IsInSpan}
use Rattle.span_set.specs.Members.{IsMember}
use Rattle.range_query.specs.Rising.{IsRising}
use Rattle.range_query.specs.Parts.{StandBelow}
use Rattle.range_query.proofs.RisingLemmas.{push-rising, push-members, joined-rising, joined-members}
use Rattle.range_query.proofs.rising.Rising.push.Goals as goal

-- two reads at one place
same-low : (xs : List IdSpan) (k : ℕ) (a b : IdSpan) → k < length xs → a ≡ get_or xs k a → b ≡ get_or xs k b → a.low ≡ b.low
same-low xs k a b lt ea eb = ap (λ (s : IdSpan). s.low) (ea ∙ get_or_default xs k a b lt ∙ sym eb)

pub invariant_of-self : goal.invariant_of-self
invariant_of-self c =
    let xs = c.self.inside.spans.items in
    let some : c.len-n.result ≡ length xs = omega (arith, c.len-n.ensures, c.self.inside.spans.ok.0) in
    let n = c.if-n-gt0.true in
    joined-rising xs (c.len-n.result - 1) c.index.result.now (record { low = c.index-then-joins.result.now.low; high = c.args.span.high }) c.args.span (omega arith) c.index.ensures
    (same-low xs (c.len-n.result - 1) c.index-then-joins.result.now c.index.result.now (omega arith) c.index-then-joins.ensures c.index.ensures) refl (c.joins.ensures.0 c.if-joins.true) c.self.invariant c.requires.span

pub returns-then-joins : goal.returns-then-joins
returns-then-joins c = λ x.
    let xs = c.self.inside.spans.items in
    let some : c.len-n.result ≡ length xs = omega (arith, c.len-n.ensures, c.self.inside.spans.ok.0) in
    let n = c.if-n-gt0.true in
    let m : IdSpan = record { low = c.index-then-joins.result.now.low; high = c.args.span.high } in
    subst (λ l. IsMember (slice_set xs (c.len-n.result - 1) m) x ↔ (IsMember l x ⊎ IsInSpan x c.args.span)) c.self.view_is
    (joined-members xs (c.len-n.result - 1) c.index.result.now m c.args.span (omega arith) c.index.ensures
    (same-low xs (c.len-n.result - 1) c.index-then-joins.result.now c.index.result.now (omega arith) c.index-then-joins.ensures c.index.ensures) refl (c.joins.ensures.0 c.if-joins.true) c.self.invariant c.requires.span x)

pub invariant_of-self-2 : goal.invariant_of-self-2
invariant_of-self-2 c =
    let xs = c.self.inside.spans.items in
    subst IsRising (sym c.in_ok-push.ensures.items) (push-rising c.args.span xs c.self.invariant c.requires.span (subst (StandBelow c.args.span.low) (sym c.self.view_is) c.requires.over))

pub returns : goal.returns
returns c = λ x.
    let xs = c.self.inside.spans.items in
    subst (λ l. IsMember c.push.new.self.items x ↔ (IsMember l x ⊎ IsInSpan x c.args.span)) c.self.view_is
    (subst (λ l. IsMember l x ↔ (IsMember xs x ⊎ IsInSpan x c.args.span)) (sym c.in_ok-push.ensures.items) (push-members c.args.span xs x))
