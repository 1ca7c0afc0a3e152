-- Runs, one behind another.
use Rattle.std.proofs.Common.{◌≡◌, ◌⊎◌, ℕ, Bool, true, false, inl, inr, List, [], ◌∷◌, ◌++◌, sym, ap, subst, subst₂}
use Rattle.std.specs.Bool.{MatchBool}
use Rattle.std.specs.List.{AllByRecursion, AllZip}
use Rattle.id_groups.specs.Name.{Name, IsName, SpellsName}
use Rattle.id_groups.proofs.Names.{spelled-name}
use Rattle.line_io.specs.Lines.{is_silent, is_too_long}
use Rattle.change_rules.specs.declared.Limits.{Limits}
use Rattle.step_rules.specs.State.{State, IsState, IsHeld}
use Rattle.step_rules.specs.Served.{IsServed}
use Rattle.step_rules.specs.Step.{CommandStep}
use Rattle.change_rules.specs.Standard.{AreLimits}
use Rattle.step_rules.proofs.Held.{step-held}
use Rattle.step_rules.proofs.Served.{step-served}
use Rattle.step_rules.specs.Verb.{Verb, IsVerb, Add, Flush, Reload, Discard, Query, Count, IdOf, Status, Levels, Clone, Pull, Strip, CountMirrors, Drop}
use Rattle.step_rules.proofs.Kept.{step-state}
use Rattle.step_rules.specs.Reply.{Reply, LongLine}
use Rattle.run_rules.specs.Grammar.{SpellsVerb}
use Rattle.run_rules.specs.Run.{Run, Step, Commands, IsNoCommand, IsUnread}

-- a choice by a test goes over to another one, side by side
pub match-map : (b : Bool) {P Q R S : Type 0} → (P → R) → (Q → S) → MatchBool b P Q → MatchBool b R S
match-map true f g h = f h
match-map false f g h = g h

module _ (limits : Limits) where
  pub run-append : (a b c : State) (v w : List (List ℕ)) (r s : List Reply) → Run limits a v r b → Run limits b w s c → Run limits a (v ++ w) (r ++ s) c
  run-append a b c [] w r s h k = subst₂ (λ x y. Run limits y w (x ++ s) c) (sym h.0) h.1 k
  run-append a b c (line ∷ v) w r s h k =
      match-map (is_silent line)
      (λ g. run-append a b c v w r s g k)
      (λ g. (g.0, g.1 ++ s, g.2, ap (λ x. x ++ s) g.3, g.4, run-append g.2 b c v w g.1 s g.5 k))
      h

spelled-names : (words : List (List ℕ)) (names : List Name) → AllZip SpellsName words names → AllByRecursion IsName names
spelled-names [] [] h = tt
spelled-names [] (name ∷ names) h = absurd h
spelled-names (word ∷ words) [] h = absurd h
spelled-names (word ∷ words) (name ∷ names) h = (spelled-name word name h.0, spelled-names words names h.1)

-- what a line spells has names of 20 bytes
pub spelled-verb : (text : List ℕ) (verb : Verb) → SpellsVerb text verb → IsVerb verb
spelled-verb text (Add name parents) h = (spelled-names h.1.0 (name ∷ parents) h.1.1, h.0)
spelled-verb text (Flush heads) h = spelled-names h.0 heads h.1
spelled-verb text (Strip names) h = h.0
spelled-verb text Reload h = tt
spelled-verb text Discard h = tt
spelled-verb text (Query e) h = tt
spelled-verb text (Count e) h = tt
spelled-verb text (IdOf name) h = tt
spelled-verb text Status h = tt
spelled-verb text Levels h = tt
spelled-verb text Clone h = tt
spelled-verb text Pull h = tt
spelled-verb text CountMirrors h = tt
spelled-verb text (Drop k) h = tt

-- what each command keeps, a run keeps
module _ (limits : Limits) (P : State → Type 0) (keep : (st st' : State) (s : ℕ) (verb : Verb) (reply : Reply) → P st → IsVerb verb → CommandStep limits st s verb reply st' → P st') where
  step-kept : (st st' : State) (line : List ℕ) (reply : Reply) → P st → Step limits st line reply st' → P st'
  step-kept st st' line reply h step = by_test (is_too_long line) step
    where
      by_test : (b : Bool) → MatchBool b ((reply ≡ LongLine) × (st' ≡ st)) (Commands limits st line reply st' ⊎ (IsNoCommand st line reply st' ⊎ IsUnread st line reply st')) → P st'
      by_test true g = subst P (sym g.1) h
      by_test false (inl c) = keep st st' c.0 c.1 reply h (spelled-verb c.2.0 c.1 c.2.2) c.3
      by_test false (inr (inl n)) = subst P (sym n.2) h
      by_test false (inr (inr u)) = subst P (sym u.2) h

  pub run-keeps : (st st' : State) (lines : List (List ℕ)) (replies : List Reply) → P st → Run limits st lines replies st' → P st'
  run-keeps st st' [] replies h r = subst P (sym r.1) h
  run-keeps st st' (line ∷ lines) replies h r =
      by_test (is_silent line) r (λ g. run-keeps st st' lines replies h g)
      (λ g. run-keeps g.2 st' lines g.1 (step-kept st g.2 line g.0 h g.4) g.5)
    where
      by_test : (b : Bool)
          → MatchBool b (Run limits st lines replies st')
          ((reply : Reply) × (more : List Reply) × (mid : State) × (replies ≡ reply ∷ more) × Step limits st line reply mid × Run limits mid lines more st')
          → (Run limits st lines replies st' → P st')
          → (((reply : Reply) × (more : List Reply) × (mid : State) × (replies ≡ reply ∷ more) × Step limits st line reply mid × Run limits mid lines more st') → P st') → P st'
      by_test true g f k = f g
      by_test false g f k = k g

pub one-kept : (limits : Limits) (st st' : State) (line : List ℕ) (reply : Reply) → IsState st → Step limits st line reply st' → IsState st'
one-kept limits st st' line reply h step = step-kept limits IsState (λ a b s verb reply k v step. step-state limits a s k verb reply b v step) st st' line reply h step

pub run-kept : (limits : Limits) (st st' : State) (lines : List (List ℕ)) (replies : List Reply) → IsState st → Run limits st lines replies st' → IsState st'
run-kept limits st st' lines replies h r = run-keeps limits IsState (λ a b s verb reply k v step. step-state limits a s k verb reply b v step) st st' lines replies h r

-- all that holds of a state, of its log and of its mirrors
pub record IsWhole (limits : Limits) (st : State) : Type 0 where
  pub state : IsState st
  pub held : IsHeld limits st.store
  pub served : IsServed st

pub run-whole : (limits : Limits) (st st' : State) (lines : List (List ℕ)) (replies : List Reply) → AreLimits limits → IsWhole limits st → Run limits st lines replies st' → IsWhole limits st'
run-whole limits st st' lines replies fair h r =
    run-keeps limits (IsWhole limits) (λ a b s verb reply k v step. record {
      state = step-state limits a s k.state verb reply b v step;
      held = step-held limits fair a s k.state k.held verb reply b step;
      served = step-served limits a s k.state k.served verb reply b step;
    }) st st' lines replies h r
