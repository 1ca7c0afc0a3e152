use Rattle.std.proofs.Common.{◌≡◌, ◌++◌, ◌∙◌, ℕ, List, [], Option, None, flat_map, sym, subst, true≢false, Bor}
use Rattle.std.specs.Prelude.{MatchOption}
use Rattle.std.proofs.lemmas.List.{append-nil}
use Rattle.segment_codec.specs.Record.{segment_bytes}
use Rattle.segment_rules.specs.NewLevels.{new_levels}
use Rattle.high_segments.specs.Storing.{CameSince}
use Rattle.high_segments.proofs.levels.Levels.are_since.Goals as goal

what-none : {X : Type 0} (o : Option X) (A : Type 0) (B : X → Type 0) → o ≡ None → MatchOption o A B → A
what-none o A B e h = subst (λ z. MatchOption z A B) e h

pub returns-in-None : goal.returns-in-None
returns-in-None c = λ old new s.
    let never = what-none c.strip_new.result ((rest : List ℕ) → c.args.bytes.now ≡ flat_map segment_bytes (new_levels old new) ++ rest → ⊥)
    (λ (rest : Bor (List ℕ)). c.args.bytes.now ≡ flat_map segment_bytes (new_levels old new) ++ rest.now) c.in-None.is
    (c.strip_new.ensures old new (subst (λ l. CameSince c.args.mark.now.marks l old new) (sym c.lend.ensures) s)) in (
      λ t. absurd (true≢false (sym t)),
      λ e. absurd (never [] (e ∙ sym (append-nil (flat_map segment_bytes (new_levels old new))))),
    )
