-- Commands that leave their session on its world, or all that is stored as it was.
use Rattle.std.proofs.Common.{◌≡◌, ◌<◌, ℕ, Bool, true, false, List, [], ◌∷◌, ◌++◌, length, nat_lt, Option, Some, None, refl, sym, ap, ◌∙◌, subst, MatchOption, true≢false}
use Rattle.std.specs.Bool.{MatchBool}
use Rattle.id_groups.specs.Name.{Name, same_name}
use Rattle.commit_graph.specs.World.{Row, World}
use Rattle.commit_graph.specs.Ids.{id_in}
use Rattle.set_expr.specs.Expr.{Expr}
use Rattle.change_rules.specs.declared.Limits.{Limits}
use Rattle.remote_rules.specs.CloneData.{KnownName}
use Rattle.remote_rules.specs.Mirror.{Mirror}
use Rattle.step_rules.specs.declared.Refusal.{Refusal}
use Rattle.step_rules.specs.declared.Refusal.TheVariants as why
use Rattle.step_rules.specs.State.{State, Stored, Session, session, pending_of, base_of, view_of, with_session}
use Rattle.step_rules.specs.Verb.{Verb, Add, Flush, Reload, Discard, Query, Count, IdOf, Status, Levels, Clone, Pull, Strip, CountMirrors, Drop}
use Rattle.step_rules.specs.Reply.{Reply, Added, Old, Listed, Dropped, Refused}
use Rattle.step_rules.specs.Worlds.{has, with_added}
use Rattle.step_rules.specs.Step.{IsTold, Lists, Answers, CommandStep, GoesOutside, IsRefused, without}
use Rattle.step_rules.specs.Isolation.{moves_session, changes_view}
use Rattle.step_rules.proofs.Sessions.{base-changed}

told-quiet : (st : Stored) (s : ℕ) (verb : Verb) (reply : Reply) (now : Stored) → changes_view verb ≡ false → IsTold st s verb reply now → now ≡ st
told-quiet st s (Add name parents) reply now q t = absurd (true≢false q)
told-quiet st s (Flush heads) reply now q t = absurd (true≢false q)
told-quiet st s (Strip names) reply now q t = absurd (true≢false q)
told-quiet st s Reload reply now q t = absurd (true≢false q)
told-quiet st s Discard reply now q t = absurd (true≢false q)
told-quiet st s (Count e) reply now q t = t.3
told-quiet st s (IdOf name) reply now q t = t.1
told-quiet st s Status reply now q t = t.1
told-quiet st s Levels reply now q t = t.1
told-quiet st s (Query e) reply now q t = absurd t
told-quiet st s Clone reply now q t = absurd t
told-quiet st s Pull reply now q t = absurd t
told-quiet st s CountMirrors reply now q t = absurd t
told-quiet st s (Drop k) reply now q t = absurd t

module _ (limits : Limits) (st : State) (s : ℕ) where
  lists-quiet : (e : Expr Name) (mirrors : List Mirror) (found : List KnownName) (reply : Reply) (st' : State) → Lists limits st s e mirrors found reply st' → st'.store ≡ st.store
  lists-quiet e mirrors found reply st' a = by_test a.2 a.7
    where
      by_test : (o : Option Refusal) → MatchOption o ((reply ≡ Listed a.0) × (st'.store ≡ st.store)) (λ refusal. IsRefused st.store refusal reply st'.store) → st'.store ≡ st.store
      by_test None g = g.1
      by_test (Some r) g = g.1

  answers-quiet : (verb : Verb) (mirrors : List Mirror) (found : List KnownName) (reply : Reply) (st' : State) → changes_view verb ≡ false
      → Answers limits st s verb mirrors found reply st' → st'.store ≡ st.store
  answers-quiet (Add name parents) mirrors found reply st' q a = absurd (true≢false q)
  answers-quiet (Flush heads) mirrors found reply st' q a = absurd (true≢false q)
  answers-quiet (Strip names) mirrors found reply st' q a = absurd (true≢false q)
  answers-quiet Reload mirrors found reply st' q a = absurd (true≢false q)
  answers-quiet Discard mirrors found reply st' q a = absurd (true≢false q)
  answers-quiet (Query e) mirrors found reply st' q a = lists-quiet e mirrors found reply st' a
  answers-quiet (Count e) mirrors found reply st' q a = told-quiet st.store s (Count e) reply st'.store q a.0
  answers-quiet (IdOf name) mirrors found reply st' q a = told-quiet st.store s (IdOf name) reply st'.store q a.0
  answers-quiet Status mirrors found reply st' q a = told-quiet st.store s Status reply st'.store q a.0
  answers-quiet Levels mirrors found reply st' q a = told-quiet st.store s Levels reply st'.store q a.0
  answers-quiet Clone mirrors found reply st' q a = absurd (true≢false q)
  answers-quiet Pull mirrors found reply st' q a = absurd (true≢false q)
  answers-quiet CountMirrors mirrors found reply st' q a = ap (λ (z : State). z.store) a.1
  answers-quiet (Drop k) mirrors found reply st' q a = by_test (nat_lt k (length mirrors)) a
    where
      by_test : (b : Bool) → MatchBool b ((reply ≡ Dropped (length (without k mirrors))) × (st' ≡ record st { outside = record st.outside { mirrors = without k mirrors } })) ((reply ≡ Refused why.NoRemote) × (st' ≡ st))
          → st'.store ≡ st.store
      by_test true g = ap (λ (z : State). z.store) g.1
      by_test false g = ap (λ (z : State). z.store) g.1

  -- what a step keeps where its answer keeps it
  step-keeps : (P : Stored → Type 0) (verb : Verb) (reply : Reply) (st' : State) → P st.store
      → ((mirrors : List Mirror) (found : List KnownName) → Answers limits st s verb mirrors found reply st' → P st'.store)
      → CommandStep limits st s verb reply st' → P st'.store
  step-keeps P verb reply st' h f (verdict, mirrors, found, tries, ends) = by_test verdict ends
    where
      by_test : (o : Option Refusal) → MatchOption o (Answers limits st s verb mirrors found reply st') (λ refusal. IsRefused st.store refusal reply st'.store × GoesOutside st.outside mirrors found st'.outside)
          → P st'.store
      by_test None a = f mirrors found a
      by_test (Some r) a = subst P (sym a.0.1) h

  pub step-quiet : (verb : Verb) (reply : Reply) (st' : State) → changes_view verb ≡ false → CommandStep limits st s verb reply st' → st'.store ≡ st.store
  step-quiet verb reply st' q = step-keeps (λ now. now ≡ st.store) verb reply st' refl (λ mirrors found a. answers-quiet verb mirrors found reply st' q a)

  module _ (e : length st.store.sessions ≡ 16) (lt : s < 16) where
    added-stays : (name : Name) (parents : List Name) (reply : Reply) (now : Stored) → IsTold st.store s (Add name parents) reply now → base_of now s ≡ base_of st.store s
    added-stays name parents reply now t = by_test (has (view_of st.store s) name) t
      where
        by_test : (b : Bool) → MatchBool b ((reply ≡ Old (id_in same_name (view_of st.store s) name)) × (now ≡ st.store))
            ((reply ≡ Added (id_in same_name (view_of (with_added st.store s name parents) s) name)) × (now ≡ with_added st.store s name parents)) → base_of now s ≡ base_of st.store s
        by_test true g = ap (λ z. base_of z s) g.1
        by_test false g = ap (λ z. base_of z s) g.1
            ∙ base-changed st.store s (record { base = (session st.store s).base; pending = pending_of st.store s ++ record { name = name; parents = parents } ∷ [] }) e lt

    answers-stay : (verb : Verb) (mirrors : List Mirror) (found : List KnownName) (reply : Reply) (st' : State) → moves_session verb ≡ false
        → Answers limits st s verb mirrors found reply st' → base_of st'.store s ≡ base_of st.store s
    answers-stay (Add name parents) mirrors found reply st' q a = added-stays name parents reply st'.store a.0
    answers-stay Discard mirrors found reply st' q a = ap (λ z. base_of z s) a.0.1 ∙ base-changed st.store s (record { base = (session st.store s).base; pending = [] }) e lt
    answers-stay (Flush heads) mirrors found reply st' q a = absurd (true≢false q)
    answers-stay (Strip names) mirrors found reply st' q a = absurd (true≢false q)
    answers-stay Reload mirrors found reply st' q a = absurd (true≢false q)
    answers-stay Clone mirrors found reply st' q a = absurd (true≢false q)
    answers-stay Pull mirrors found reply st' q a = absurd (true≢false q)
    answers-stay (Query e) mirrors found reply st' q a = ap (λ z. base_of z s) (answers-quiet (Query e) mirrors found reply st' q a)
    answers-stay (Count e) mirrors found reply st' q a = ap (λ z. base_of z s) (answers-quiet (Count e) mirrors found reply st' q a)
    answers-stay (IdOf name) mirrors found reply st' q a = ap (λ z. base_of z s) (answers-quiet (IdOf name) mirrors found reply st' q a)
    answers-stay Status mirrors found reply st' q a = ap (λ z. base_of z s) (answers-quiet Status mirrors found reply st' q a)
    answers-stay Levels mirrors found reply st' q a = ap (λ z. base_of z s) (answers-quiet Levels mirrors found reply st' q a)
    answers-stay CountMirrors mirrors found reply st' q a = ap (λ z. base_of z s) (answers-quiet CountMirrors mirrors found reply st' q a)
    answers-stay (Drop k) mirrors found reply st' q a = ap (λ z. base_of z s) (answers-quiet (Drop k) mirrors found reply st' q a)

    pub step-stays : (verb : Verb) (reply : Reply) (st' : State) → moves_session verb ≡ false → CommandStep limits st s verb reply st' → base_of st'.store s ≡ base_of st.store s
    step-stays verb reply st' q = step-keeps (λ now. base_of now s ≡ base_of st.store s) verb reply st' refl (λ mirrors found a. answers-stay verb mirrors found reply st' q a)
