use Rattle.std.proofs.Common.{arith, ◌≡◌, ◌-◌, ◌∙◌, sym, subst, length, List, [], ◌∷◌, suc, ◌≤◌, false, true≢false, ℕ}
use Rattle.std.specs.Prelude.{◌==◌}
use Rattle.id_groups.specs.declared.span.IdSpan.{IdSpan}
use Rattle.span_set.specs.Members.{IsMember}
use Rattle.range_query.proofs.Pieces.{lowest-at, lowest-member}
use Rattle.range_query.proofs.place.lowest_of.Goals as goal

not-empty : (xs : List IdSpan) → (length xs == 0) ≡ false → length xs ≡ suc (length xs - 1)
not-empty [] e = absurd (true≢false e)
not-empty (x ∷ xs) e = omega arith

pub returns : goal.returns
returns c =
    let xs = c.args.spans.now in
    let r = c.index-spans-spans.result in
    let long = not-empty xs (sym c.is_empty.ensures ∙ c.if-is_empty.false) in
    subst (λ (s : IdSpan). IsMember xs s.low × ((x : ℕ) → IsMember xs x → s.low ≤ x)) c.index-spans-spans.is
    (lowest-member xs (length xs - 1) r c.requires long c.index-spans-spans.is, λ x m. lowest-at xs (length xs - 1) r x c.requires long c.index-spans-spans.is m)
