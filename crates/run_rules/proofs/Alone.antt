-- What a session has after a run in which its own lines leave it.
use Rattle.std.proofs.Common.{◌≡◌, ◌≢◌, ◌⊎◌, ◌<◌, ℕ, Bool, true, false, inl, inr, List, [], ◌∷◌, nat_eq, refl, sym, ap, ◌∙◌, subst, true≢false}
use Rattle.std.proofs.lemmas.Bool.{eqb-true, eq-eqb}
use Rattle.std.specs.Bool.{MatchBool}
use Rattle.id_groups.specs.Lists.{IsIn}
use Rattle.line_io.specs.Lines.{is_silent, is_too_long}
use Rattle.change_rules.specs.declared.Limits.{Limits}
use Rattle.step_rules.specs.State.{State, Stored, IsState, base_of, view_of, pending_of, session}
use Rattle.step_rules.specs.Verb.{Verb, Add, Flush, Reload, Discard, Query, Count, IdOf, Status, Levels, Clone, Pull, Strip, CountMirrors, Drop}
use Rattle.step_rules.specs.Reply.{Reply, LongLine}
use Rattle.step_rules.specs.Step.{CommandStep}
use Rattle.step_rules.specs.Isolation.{moves_session, changes_view}
use Rattle.step_rules.proofs.Sessions.{IsPlaced, shape-others, command-shape}
use Rattle.step_rules.proofs.Staying.{step-quiet, step-stays}
use Rattle.step_rules.proofs.Kept.{step-state}
use Rattle.run_rules.specs.Alone.{HasNone}
use Rattle.run_rules.specs.Grammar.{SpellsCommand}
use Rattle.run_rules.specs.Run.{Run, Step, Commands, IsNoCommand, IsUnread}
use Rattle.run_rules.proofs.Runs.{run-kept, one-kept}

placed : (st : State) → IsState st → IsPlaced st.store
placed st h = ((λ s. (h.store.sessions s).base), h.store.sixteen)

-- a command that leaves all that its session sees leaves it on its world
pub fewer : (verb : Verb) → changes_view verb ≡ false → moves_session verb ≡ false
fewer (Add name parents) q = refl
fewer Discard q = refl
fewer (Flush heads) q = q
fewer (Strip names) q = q
fewer Reload q = q
fewer Clone q = q
fewer Pull q = q
fewer (Query e) q = q
fewer (Count e) q = q
fewer (IdOf name) q = q
fewer Status q = q
fewer Levels q = q
fewer CountMirrors q = q
fewer (Drop k) q = q

-- what a command of this session keeps by its verb, and each command of another one, lines keep that have no other verb of it
module _ {A : Type 0} (limits : Limits) (s : ℕ) (kind : Verb → Bool) (f : Stored → A)
    (own : (st st' : State) (verb : Verb) (reply : Reply) → IsState st → s < 16 → kind verb ≡ false → CommandStep limits st s verb reply st' → f st'.store ≡ f st.store)
    (others : (st st' : State) (k : ℕ) (verb : Verb) (reply : Reply) → IsState st → s ≢ k → CommandStep limits st k verb reply st' → f st'.store ≡ f st.store) where
  command-alone : (st st' : State) (line : List ℕ) (reply : Reply) → IsState st → ((verb : Verb) → SpellsCommand line s verb → kind verb ≡ false)
      → (k : ℕ) (verb : Verb) → SpellsCommand line k verb → CommandStep limits st k verb reply st' → f st'.store ≡ f st.store
  command-alone st st' line reply h none k verb spells step = by_test (nat_eq k s) refl
    where
      by_test : (b : Bool) → nat_eq k s ≡ b → f st'.store ≡ f st.store
      by_test true e =
          let same = eqb-true k s e in
          let its = subst (λ n. SpellsCommand line n verb) same spells in
          own st st' verb reply h (its.1.0) (none verb its) (subst (λ n. CommandStep limits st n verb reply st') same step)
      by_test false e = others st st' k verb reply h (λ same. true≢false (sym (eq-eqb k s (sym same)) ∙ e)) step

  line-alone : (st st' : State) (line : List ℕ) (reply : Reply) → IsState st → ((verb : Verb) → SpellsCommand line s verb → kind verb ≡ false)
      → Step limits st line reply st' → f st'.store ≡ f st.store
  line-alone st st' line reply h none step = by_test (is_too_long line) step
    where
      by_test : (b : Bool) → MatchBool b ((reply ≡ LongLine) × (st' ≡ st)) (Commands limits st line reply st' ⊎ (IsNoCommand st line reply st' ⊎ IsUnread st line reply st')) → f st'.store ≡ f st.store
      by_test true g = ap (λ (z : State). f z.store) g.1
      by_test false (inl c) = command-alone st st' line reply h none c.0 c.1 c.2 c.3
      by_test false (inr (inl n)) = ap (λ (z : State). f z.store) n.2
      by_test false (inr (inr u)) = ap (λ (z : State). f z.store) u.2

  pub lines-alone : (st st' : State) (lines : List (List ℕ)) (replies : List Reply) → IsState st → HasNone kind s lines → Run limits st lines replies st' → f st'.store ≡ f st.store
  lines-alone st st' [] replies h none r = ap (λ (z : State). f z.store) r.1
  lines-alone st st' (line ∷ lines) replies h none r =
      by_test (is_silent line) r (λ g. lines-alone st st' lines replies h (λ l v i. none l v (inr i)) g)
      (λ g. lines-alone g.2 st' lines g.1 (one-kept limits st g.2 line g.0 h g.4) (λ l v i. none l v (inr i)) g.5
      ∙ line-alone st g.2 line g.0 h (λ v. none line v (inl refl)) g.4)
    where
      by_test : (b : Bool)
          → MatchBool b (Run limits st lines replies st')
          ((reply : Reply) × (more : List Reply) × (mid : State) × (replies ≡ reply ∷ more) × Step limits st line reply mid × Run limits mid lines more st')
          → (Run limits st lines replies st' → f st'.store ≡ f st.store)
          → (((reply : Reply) × (more : List Reply) × (mid : State) × (replies ≡ reply ∷ more) × Step limits st line reply mid × Run limits mid lines more st') → f st'.store ≡ f st.store)
          → f st'.store ≡ f st.store
      by_test true g a b = a g
      by_test false g a b = b g

others-keep : (limits : Limits) (s : ℕ) (st st' : State) (k : ℕ) (verb : Verb) (reply : Reply) → IsState st → s ≢ k → CommandStep limits st k verb reply st'
    → (base_of st'.store s ≡ base_of st.store s) × (pending_of st'.store s ≡ pending_of st.store s)
others-keep limits s st st' k verb reply h ne step =
    shape-others st.store k st'.store (placed st h) (command-shape limits st k (placed st h) verb reply st' step) s ne

pub base-alone : (limits : Limits) (st st' : State) (lines : List (List ℕ)) (replies : List Reply) (s : ℕ) → IsState st → Run limits st lines replies st'
    → HasNone moves_session s lines → base_of st'.store s ≡ base_of st.store s
base-alone limits st st' lines replies s h r none =
    lines-alone limits s moves_session (λ x. base_of x s) (λ a b verb reply is lt q step. step-stays limits a s is.store.sixteen lt verb reply b q step)
    (λ a b k verb reply is ne step. (others-keep limits s a b k verb reply is ne step).0) st st' lines replies h none r

pub pending-alone : (limits : Limits) (st st' : State) (lines : List (List ℕ)) (replies : List Reply) (s : ℕ) → IsState st → Run limits st lines replies st'
    → HasNone changes_view s lines → pending_of st'.store s ≡ pending_of st.store s
pending-alone limits st st' lines replies s h r none =
    lines-alone limits s changes_view (λ x. pending_of x s) (λ a b verb reply is lt q step. ap (λ z. pending_of z s) (step-quiet limits a s verb reply b q step))
    (λ a b k verb reply is ne step. (others-keep limits s a b k verb reply is ne step).1) st st' lines replies h none r
