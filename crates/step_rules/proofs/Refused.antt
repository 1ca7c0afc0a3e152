-- What a refusal leaves.
use Rattle.std.proofs.Common.{◌≡◌, ℕ, Bool, true, false, inl, inr, List, length, nat_lt, Option, Some, None, refl, sym, ap, ◌∙◌, true≢false, MatchOption}
use Rattle.std.specs.Bool.{MatchBool}
use Rattle.id_groups.specs.Name.{Name, same_name}
use Rattle.commit_graph.specs.World.{Row, World}
use Rattle.commit_graph.specs.Ids.{id_in}
use Rattle.change_rules.specs.declared.Limits.{Limits}
use Rattle.change_rules.specs.Pull.{pulled}
use Rattle.change_rules.specs.Change.{clone_change}
use Rattle.change_rules.specs.Tables.{cloned_count}
use Rattle.remote_rules.specs.Mirror.{Mirror}
use Rattle.remote_rules.specs.Known.{master_alone, master_world}
use Rattle.remote_rules.specs.Calls.{IsCloned, IsPulled}
use Rattle.remote_rules.specs.CloneData.{KnownName}
use Rattle.remote_rules.specs.declared.MirrorFault.{MirrorFault}
use Rattle.step_rules.specs.declared.Refusal.{Refusal}
use Rattle.step_rules.specs.declared.Refusal.TheVariants as why
use Rattle.step_rules.specs.State.{State, Stored, view_of}
use Rattle.step_rules.specs.Verb.{Verb, Add, Flush, Reload, Discard, Query, Count, IdOf, Status, Levels, Clone, Pull, Strip, CountMirrors, Drop}
use Rattle.step_rules.specs.Reply.{Reply, Refused, Added, Old, Listed, Dropped, Cloned, Pulled}
use Rattle.step_rules.specs.Worlds.{has, after_change, after_flush, with_added}
use Rattle.step_rules.specs.Tests.{first_some}
use Rattle.step_rules.specs.Asking.{refusal_for}
use Rattle.step_rules.specs.Step.{IsTold, TakesFrom, Clones, Pulls, AnsweredFirst, Answers, CommandStep, GoesOutside, IsRefused, UnlessRefused, clone_tests, pull_tests, without}

-- whether a reply is a refusal
abbrev is_refusal : Reply → Bool
is_refusal (Refused r) = true
is_refusal _ = false

not-told : (reply other : Reply) → is_refusal reply ≡ true → is_refusal other ≡ false → reply ≡ other → ⊥
not-told reply other e f g = true≢false (sym e ∙ ap is_refusal g ∙ f)

module _ (limits : Limits) (st : State) (s : ℕ) (reply : Reply) (no : is_refusal reply ≡ true) where
  told-kept : (verb : Verb) (now : Stored) → IsTold st.store s verb reply now → now ≡ st.store
  told-kept (Add name parents) now t = by_test (has (view_of st.store s) name) t
    where
      by_test : (b : Bool) → MatchBool b ((reply ≡ Old (id_in same_name (view_of st.store s) name)) × (now ≡ st.store))
          ((reply ≡ Added (id_in same_name (view_of (with_added st.store s name parents) s) name)) × (now ≡ with_added st.store s name parents)) → now ≡ st.store
      by_test true g = g.1
      by_test false g = absurd (not-told reply _ no refl g.0)
  told-kept (Flush heads) now t = absurd (not-told reply _ no refl t.0)
  told-kept (Strip names) now t = absurd (not-told reply _ no refl t.0)
  told-kept Reload now t = absurd (not-told reply _ no refl t.0)
  told-kept Discard now t = absurd (not-told reply _ no refl t.0)
  told-kept (Count e) now t = t.3
  told-kept (IdOf name) now t = t.1
  told-kept Status now t = t.1
  told-kept Levels now t = t.1
  told-kept (Query e) now t = absurd t
  told-kept Clone now t = absurd t
  told-kept Pull now t = absurd t
  told-kept CountMirrors now t = absurd t
  told-kept (Drop k) now t = absurd t

  unless-kept : (rs : List (Option Refusal)) (Goes : Reply → Stored → Type 0) (now : Stored) → (Goes reply now → now ≡ st.store) → UnlessRefused rs st.store Goes reply now → now ≡ st.store
  unless-kept rs Goes now f (inl g) = by_test (first_some rs) g
    where
      by_test : (o : Option Refusal) → MatchOption o (Goes reply now) (λ refusal. IsRefused st.store refusal reply now) → now ≡ st.store
      by_test None g = f g
      by_test (Some r) g = g.1
  unless-kept rs Goes now f (inr m) = m.1

  taken-kept : (Does : Mirror → Mirror → Type 0) (Makes : World Name → Reply → Stored → Type 0) (mirrors : List Mirror) (found : List KnownName) (st' : State)
      → ((r : World Name) → Makes r reply st'.store → st'.store ≡ st.store) → TakesFrom Does Makes st mirrors found reply st' → st'.store ≡ st.store
  taken-kept Does Makes mirrors found st' f (end, new, asks, out, ends) = by_end end ends
    where
      by_end : (o : Option MirrorFault) → MatchOption o ((rows : List (Row Name)) × AnsweredFirst new rows × Makes (master_world rows) reply st'.store) (λ fault. IsRefused st.store (refusal_for fault) reply st'.store) → st'.store ≡ st.store
      by_end None g = f (master_world g.0) g.2
      by_end (Some x) g = g.1

  answers-kept : (verb : Verb) (mirrors : List Mirror) (found : List KnownName) (st' : State) → Answers limits st s verb mirrors found reply st' → st'.store ≡ st.store
  answers-kept (Add name parents) mirrors found st' a = told-kept (Add name parents) st'.store a.0
  answers-kept (Flush heads) mirrors found st' a = told-kept (Flush heads) st'.store a.0
  answers-kept (Strip names) mirrors found st' a = told-kept (Strip names) st'.store a.0
  answers-kept Reload mirrors found st' a = told-kept Reload st'.store a.0
  answers-kept Discard mirrors found st' a = told-kept Discard st'.store a.0
  answers-kept (Count e) mirrors found st' a = told-kept (Count e) st'.store a.0
  answers-kept (IdOf name) mirrors found st' a = told-kept (IdOf name) st'.store a.0
  answers-kept Status mirrors found st' a = told-kept Status st'.store a.0
  answers-kept Levels mirrors found st' a = told-kept Levels st'.store a.0
  answers-kept (Query e) mirrors found st' a = by_test a.2 a.7
    where
      by_test : (o : Option Refusal) → MatchOption o ((reply ≡ Listed a.0) × (st'.store ≡ st.store)) (λ refusal. IsRefused st.store refusal reply st'.store) → st'.store ≡ st.store
      by_test None g = g.1
      by_test (Some r) g = g.1
  answers-kept Clone mirrors found st' a =
      taken-kept IsCloned (Clones limits st.store s) mirrors found st'
      (λ r. unless-kept (clone_tests limits st.store r) (λ told now. (told ≡ Cloned (length r.master)) × (now ≡ after_change st.store s (master_alone r) (clone_change r))) st'.store
      (λ g. absurd (not-told reply _ no refl g.0))) a
  answers-kept Pull mirrors found st' a =
      taken-kept (IsPulled (cloned_count st.store.payloads)) (Pulls limits st.store s) mirrors found st'
      (λ r. unless-kept (pull_tests limits st.store r)
      (λ told now. (told ≡ Pulled (length (pulled same_name st.store.stored r).master) (length (pulled same_name st.store.stored r).others)) × (now ≡ after_flush st.store s (pulled same_name st.store.stored r))) st'.store
      (λ g. absurd (not-told reply _ no refl g.0))) a
  answers-kept CountMirrors mirrors found st' a = ap (λ (z : State). z.store) a.1
  answers-kept (Drop k) mirrors found st' a = by_test (nat_lt k (length mirrors)) a
    where
      by_test : (b : Bool) → MatchBool b ((reply ≡ Dropped (length (without k mirrors))) × (st' ≡ record st { outside = record st.outside { mirrors = without k mirrors } })) ((reply ≡ Refused why.NoRemote) × (st' ≡ st))
          → st'.store ≡ st.store
      by_test true g = ap (λ (z : State). z.store) g.1
      by_test false g = ap (λ (z : State). z.store) g.1

  pub refused-kept : (verb : Verb) (st' : State) → CommandStep limits st s verb reply st' → st'.store ≡ st.store
  refused-kept verb st' (verdict, mirrors, found, tries, ends) = by_test verdict ends
    where
      by_test : (o : Option Refusal) → MatchOption o (Answers limits st s verb mirrors found reply st') (λ refusal. IsRefused st.store refusal reply st'.store × GoesOutside st.outside mirrors found st'.outside) → st'.store ≡ st.store
      by_test None a = answers-kept verb mirrors found st' a
      by_test (Some r) a = a.0.1
