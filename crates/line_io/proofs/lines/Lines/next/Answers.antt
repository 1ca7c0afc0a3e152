use Rattle.std.proofs.Common.{◌⊎◌, inl, inr, lt_of_le_of_lt, Bool, rules, arith, ◌≡◌, ℕ, List, refl, sym, ◌∙◌, ap, true, false}
use Rattle.line_io.specs.Reading.{Reading}
use Rattle.std.specs.Prelude.{◌||◌}
use Rattle.std.proofs.lemmas.Result.{err_from_is_err_and}
use Rattle.outside.specs.Parts.{HasNone}
use Rattle.outside.proofs.ToldLemmas.{WhereTold-same, WhereTold-join, WhereTold-map, WhereTold-keeps}
use Rattle.line_io.proofs.NextLemmas.{skips-start, next-found, next-limit, skips-space, space-free, space-same, space-budget, space-fewer, skips-fill, next-read, next-rest, done-rest, fills-out, out-kept}
use Rattle.line_io.proofs.lines.Lines.next.Goals as goal
use Rattle.line_io.proofs.lines.Lines.next.Goals.{then-make_space, else-make_space}

-- where no line feed is held now and the source has not ended, so it was at first
first-free : {A : Type 0} {now first : List ℕ} {n f : Bool} → (A × (now ≡ first) × (n ≡ f)) ⊎ (HasNone 10 first × (f ≡ false))
    → HasNone 10 now → n ≡ false → HasNone 10 first × (f ≡ false)
first-free (inl h) free going = (rw (← h.1) free, sym h.2 ∙ going)
first-free (inr h) free going = h

pub turns-init : goal.turns-init
turns-init g c = record {
  told = WhereTold-same (g.S.Source.left c.args.source.now) _ (λ before. rw c.clear_text.ensures (skips-start c.args.self.now before));
  out = WhereTold-same (g.S.Source.left c.args.source.now) _ (λ before. rw c.clear_text.ensures (λ h. h));
  later = search rules;
  no_more = rw c.clear_text.ensures (omega arith);
  fewer = λ e. cc e;
  no_text = rw c.clear_text.ensures refl;
  first = inl (refl, rw c.clear_text.ensures refl, rw c.clear_text.ensures refl);
}

pub returns-in-Some-clause-line : goal.returns-in-Some-clause-line
returns-in-Some-clause-line g c =
    WhereTold-map _ _ _ _
    (λ before after h. next-found c.args.self.now before c.turns.self c.take_line.new.self after c.turns.is_skipping c.in-Some.len c.take_line.result h
    c.in-Some.ensures.found (rw c.line_length.ensures.same at c.take_line.ensures.lent) (rw c.line_length.ensures.same at c.take_line.ensures.rest))
    c.turns.invariant.told

pub returns-then-is_over-clause-line : goal.returns-then-is_over-clause-line
returns-then-is_over-clause-line g c =
    let same = c.in_default.ensures.same in
    let over : c.turns.self.over ≡ true = rw same at (sym c.if-is_over.ensures.over) in
    let room : c.turns.self.room ≡ 0 = rw same at (c.if-is_over.ensures.no_room refl) in
    WhereTold-map _ _ _ _
    (λ before after h. next-limit c.args.self.now before c.turns.self after c.turns.is_skipping h c.in_default.ensures.found over room)
    c.turns.invariant.told

pub returns-then-is_ended-clause-line : goal.returns-then-is_ended-clause-line
returns-then-is_ended-clause-line g c =
    let same = c.in_default.ensures.same in
    let under : c.turns.self.over ≡ false = rw same at (sym c.if-is_over.ensures.over) in
    let ended : c.turns.self.ended ≡ true = rw same at (sym c.if-is_ended.ensures) in
    let lent = rw same at c.take_rest.ensures.lent in
    let rest = rw same at c.take_rest.ensures.rest in
    WhereTold-map _ _ _ _
    (λ before after h. next-rest c.args.self.now before c.turns.self c.take_rest.new.self after c.turns.is_skipping c.take_rest.result h
    c.in_default.ensures.found under ended lent rest)
    c.turns.invariant.told

pub returns-then-is_ended-clause-done : goal.returns-then-is_ended-clause-done
returns-then-is_ended-clause-done g c =
    let same = c.in_default.ensures.same in
    let under : c.turns.self.over ≡ false = rw same at (sym c.if-is_over.ensures.over) in
    let ended : c.turns.self.ended ≡ true = rw same at (sym c.if-is_ended.ensures) in
    λ e. done-rest c.turns.self c.take_rest.new.self c.turns.is_skipping c.take_rest.result (cc e) under ended
    (rw same at c.take_rest.ensures.lent) (rw same at c.take_rest.ensures.rest)

pub turns-preserved : goal.turns-preserved
turns-preserved g c =
    let same = c.in_default.ensures.same in
    let free = c.in_default.ensures.found in
    let under : c.turns.self.over ≡ false = rw same at (sym c.if-is_over.ensures.over) in
    let going : c.turns.self.ended ≡ false = rw same at (sym c.if-is_ended.ensures) in
    let space = c.make_space.new.self in
    let made = rw same at c.make_space.ensures in
    let kept = space-same c.make_space.result c.turns.self space made in
    let skipping : c.if-make_space.is_skipping ≡ (c.make_space.result || c.turns.is_skipping) =
    elim c.if-make_space.branch [
      | then-make_space w ↦ rw (w.is_skipping-is, w.if-make_space.true) refl
      | else-make_space w ↦ rw (w.is_skipping-is, w.if-make_space.false) refl
    ] in
    record {
      told = WhereTold-join (g.S.Source.left c.args.source.now) (g.S.Source.left c.turns.source) (g.S.Source.left c.fill.new.source) _ _ _
          (λ before mid after h fill. rw skipping (skips-fill c.args.self.now before space c.fill.new.self mid after _
          (skips-space c.args.self.now before c.turns.self space mid c.turns.is_skipping c.make_space.result h free made)
          (kept.0 ∙ under) (kept.1 ∙ going) fill))
          c.turns.invariant.told c.in_ok-fill.ensures.bytes;
      out = WhereTold-join (g.S.Source.left c.args.source.now) (g.S.Source.left c.turns.source) (g.S.Source.left c.fill.new.source) _ _ _
          (λ before mid after h fill was. fills-out space c.fill.new.self mid after fill)
          c.turns.invariant.out c.in_ok-fill.ensures.bytes;
      later = search rules;
      no_more = omega (arith, c.in_ok-fill.ensures.budget, space-budget c.make_space.result c.turns.self space made, c.turns.invariant.no_more);
      fewer = λ e. lt_of_le_of_lt c.in_ok-fill.ensures.budget
          (space-fewer c.make_space.result c.turns.is_skipping c.turns.self space _ made c.turns.invariant.no_more c.turns.invariant.fewer (sym skipping ∙ e));
      no_text = c.fill.ensures.no_text;
      first = inr (first-free c.turns.invariant.first free going);
    }

pub returns-in_err-fill-clause-line : goal.returns-in_err-fill-clause-line
returns-in_err-fill-clause-line g c =
    let p = err_from_is_err_and c.from_residual.result c.from_residual.ensures.1 in
    let same = c.in_default.ensures.same in
    let free = c.in_default.ensures.found in
    let under : c.turns.self.over ≡ false = rw same at (sym c.if-is_over.ensures.over) in
    let going : c.turns.self.ended ≡ false = rw same at (sym c.if-is_ended.ensures) in
    let space = c.make_space.new.self in
    let made = rw same at c.make_space.ensures in
    let kept = space-same c.make_space.result c.turns.self space made in
    let space_free = space-free c.make_space.result c.turns.self space free made in
    rw (p.1, p.2) (WhereTold-join (g.S.Source.left c.args.source.now) (g.S.Source.left c.turns.source) (g.S.Source.left c.fill.new.source) _ _ _
    (λ before mid after h still. next-read c.args.self.now before space mid after (c.make_space.result || c.turns.is_skipping)
    (skips-space c.args.self.now before c.turns.self space mid c.turns.is_skipping c.make_space.result h free made) space_free (kept.1 ∙ going) still)
    c.turns.invariant.told (WhereTold-keeps _ _ c.in_err-fill.ensures.bytes))

pub returns-in-Some-clause-end : goal.returns-in-Some-clause-end
returns-in-Some-clause-end g c =
    let rest = rw c.line_length.ensures.same at c.take_line.ensures.rest in
    WhereTold-map _ _ _ _
    (λ before after h. out-kept c.args.self.now c.turns.self c.take_line.new.self before after (ap (λ (r : Reading). r.ended) rest) h)
    c.turns.invariant.out

pub returns-then-is_ended-clause-end : goal.returns-then-is_ended-clause-end
returns-then-is_ended-clause-end g c =
    let rest = rw c.in_default.ensures.same at c.take_rest.ensures.rest in
    WhereTold-map _ _ _ _
    (λ before after h. out-kept c.args.self.now c.turns.self c.take_rest.new.self before after (ap (λ (r : Reading). r.ended) rest) h)
    c.turns.invariant.out
