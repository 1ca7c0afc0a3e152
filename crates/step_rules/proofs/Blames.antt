-- What holds of mirrors through a command, and where the command is refused because all failed.
use Rattle.std.proofs.Common.{◌≡◌, ℕ, Bool, true, false, inl, inr, List, [], ◌∷◌, ◌++◌, length, nat_lt, Option, Some, None, is_some, refl, sym, ap, subst, subst₂, ◌∙◌, ⊎_elim, MatchOption, true≢false}
use Rattle.std.specs.Bool.{MatchBool}
use Rattle.std.specs.List.{AllByRecursion}
use Rattle.id_groups.specs.Name.{Name, same_name}
use Rattle.commit_graph.specs.World.{Row, World}
use Rattle.commit_graph.specs.Ids.{id_in}
use Rattle.change_rules.specs.Pull.{pulled}
use Rattle.change_rules.specs.Change.{clone_change}
use Rattle.remote_rules.specs.Known.{master_alone, master_world}
use Rattle.change_rules.specs.declared.Limits.{Limits}
use Rattle.change_rules.specs.declared.Limit.TheVariants as limit
use Rattle.change_rules.specs.Rebase.{first_conflict}
use Rattle.change_rules.specs.Tables.{cloned_count}
use Rattle.remote_rules.specs.CloneData.{KnownName}
use Rattle.remote_rules.specs.Mirror.{Mirror}
use Rattle.remote_rules.specs.Calls.{IsAskedFor, IsCloned, IsPulled}
use Rattle.remote_rules.specs.declared.MirrorFault.{MirrorFault}
use Rattle.remote_rules.specs.declared.MirrorFault.TheVariants as fault
use Rattle.remote_rules.specs.Asking.{IsOneAsk, AsksInTurn}
use Rattle.step_rules.specs.declared.Refusal.{Refusal}
use Rattle.step_rules.specs.declared.Refusal.TheVariants as why
use Rattle.step_rules.specs.State.{State, Stored, view_of}
use Rattle.step_rules.specs.Verb.{Verb, Add, Flush, Reload, Discard, Query, Count, IdOf, Status, Levels, Clone, Pull, Strip, CountMirrors, Drop}
use Rattle.step_rules.specs.Reply.{Reply, Added, Old, Flushed, Pulled, Stripped, Cloned, Reloaded, Discarded, Listed, Counted, Identified, Sizes, LevelSizes, Dropped, Refused, NoCommand, LongLine, IsMismatch}
use Rattle.step_rules.specs.Worlds.{has, after_change, after_flush, with_added}
use Rattle.step_rules.specs.Tests.{Test, first_some, tests}
use Rattle.step_rules.specs.Asking.{refusal_for, refused_by, TriesAll}
use Rattle.step_rules.specs.Step.{IsTold, TakesFrom, Clones, Pulls, AnsweredFirst, Answers, CommandStep, GoesOutside, IsRefused, UnlessRefused, MayWantMemory, answer_tests, clone_tests, pull_tests, without}
use Rattle.step_rules.proofs.Unblamed.{IsNoFailure, if-no, full-no, conflict-no, list-no, tests-no}

-- what asks keep, and what holds when all mirrors of one failed
abbrev pub Keeping : (List Mirror → Type 0) → (ℕ → List Mirror → Type 0) → (Mirror → Mirror → Type 0) → Type 0
Keeping P F Does = (old new : List Mirror) (end : Option MirrorFault) → IsOneAsk Does old end new → P old → P new × ((n : ℕ) → end ≡ Some (fault.AllFailed n) → F n new)

module _ (P : List Mirror → Type 0) (F : ℕ → List Mirror → Type 0) (when_asked : (count : ℕ) → Keeping P F (IsAskedFor count)) (when_cloned : Keeping P F IsCloned) (when_pulled : (from : ℕ) → Keeping P F (IsPulled from))
    (when_dropped : (k : ℕ) (xs : List Mirror) → P xs → P (without k xs)) where
  -- the mirrors are to blame for a refusal only where that holds of them
  abbrev Blames : List Mirror → Option Refusal → Type 0
  Blames mirrors (Some (why.Remote n)) = F n mirrors
  Blames mirrors (Some (why.MismatchPath x n)) = ⊥
  Blames mirrors (Some (why.MismatchNames n k)) = ⊥
  Blames mirrors (Some (why.MismatchClone n)) = ⊥
  Blames mirrors (Some (why.MismatchRow n)) = ⊥
  Blames mirrors _ = Unit {0}

  no-blame : (mirrors : List Mirror) (o : Option Refusal) → IsNoFailure o → Blames mirrors o
  no-blame mirrors None h = tt
  no-blame mirrors (Some (why.Remote n)) h = absurd h
  no-blame mirrors (Some (why.Unknown x)) h = tt
  no-blame mirrors (Some (why.Twice x)) h = tt
  no-blame mirrors (Some (why.Differs x)) h = tt
  no-blame mirrors (Some (why.Conflict x)) h = tt
  no-blame mirrors (Some (why.Full l n)) h = tt
  no-blame mirrors (Some (why.Answer n)) h = tt
  no-blame mirrors (Some (why.NotEmpty n k)) h = tt
  no-blame mirrors (Some (why.Pending n)) h = tt
  no-blame mirrors (Some why.NoRemote) h = tt
  no-blame mirrors (Some (why.MismatchPath x n)) h = absurd h
  no-blame mirrors (Some (why.MismatchNames n k)) h = absurd h
  no-blame mirrors (Some (why.MismatchClone n)) h = absurd h
  no-blame mirrors (Some (why.MismatchRow n)) h = absurd h
  no-blame mirrors (Some (why.InMaster x)) h = tt
  no-blame mirrors (Some (why.Lost x)) h = tt
  no-blame mirrors (Some (why.Emptied n)) h = tt
  no-blame mirrors (Some why.Memory) h = tt

  turns-kept : (answered : ℕ) (counts : List ℕ) (old new : List Mirror) (end : Option MirrorFault) → AsksInTurn answered counts old end new → P old → P new × ((n : ℕ) → end ≡ Some (fault.AllFailed n) → F n new)
  turns-kept answered [] old new end t h = (subst P (sym t.2) h, λ n e. absurd (true≢false (sym (ap is_some (sym t.1 ∙ e)))))
  turns-kept answered (count ∷ counts) old new end (inl t) h = let a = when_asked count old new (Some t.0) t.3 h in (a.0, λ n e. a.1 n (sym t.1 ∙ e))
  turns-kept answered (count ∷ counts) old new end (inr t) h = turns-kept t.1 counts t.0 new end t.4 (when_asked count old t.0 None t.3 h).0

  ended : (mirrors : List Mirror) (end : Option MirrorFault) (refusal : Option Refusal) → ((n : ℕ) → end ≡ Some (fault.AllFailed n) → F n mirrors) → IsNoFailure refusal → Blames mirrors (refused_by end refusal)
  ended mirrors None refusal f h = no-blame mirrors refusal h
  ended mirrors (Some fault.NoRemote) refusal f h = tt
  ended mirrors (Some (fault.AllFailed n)) refusal f h = f n refl
  ended mirrors (Some fault.Memory) refusal f h = tt

  tries-kept : (W : Type 0) (old new : List Mirror) (tests : List Test) (verdict : Option Refusal) (gained : List KnownName) → AllByRecursion (λ t. IsNoFailure t.refusal) tests → TriesAll W old tests verdict new gained
      → P old → P new × Blames new verdict
  tries-kept W old new [] verdict gained r t h = (subst P (sym t.0) h, ⊎_elim (λ e. subst (Blames new) (sym e) tt) (λ m. subst (Blames new) (sym m.1) tt) t.2)
  tries-kept W old new (test ∷ more) verdict gained r (inl t) h = (subst P (sym t.0) h, subst (Blames new) (sym t.3) tt)
  tries-kept W old new (test ∷ more) verdict gained r (inr t) h =
      let turn = turns-kept t.3.0 t.3.2.0 old t.1 t.3.1 t.3.2.4 h in
      behind t.0 t.4 turn.0 (subst (Blames t.1) (sym t.3.4) (ended t.1 t.3.1 test.refusal turn.1 r.0)) (λ here g k. tries-kept W t.1 new more verdict here r.1 g k)
    where
      behind : (first : Option Refusal)
          → MatchOption first ((b : List KnownName) × (gained ≡ t.2 ++ b) × TriesAll W t.1 more verdict new b) (λ refusal. (verdict ≡ Some refusal) × (new ≡ t.1) × (gained ≡ t.2))
          → P t.1 → Blames t.1 first → ((here : List KnownName) → TriesAll W t.1 more verdict new here → P t.1 → P new × Blames new verdict) → P new × Blames new verdict
      behind None g k f rec = rec g.0 g.2 k
      behind (Some x) g k f rec = (subst P (sym g.1) k, subst₂ Blames (sym g.1) (sym g.0) f)

  -- the mirrors are to blame for a reply that is such a refusal
  abbrev BlamesReply : List Mirror → Reply → Type 0
  BlamesReply mirrors (Refused r) = Blames mirrors (Some r)
  BlamesReply mirrors _ = Unit {0}

  no-mismatch : (mirrors : List Mirror) (reply : Reply) → BlamesReply mirrors reply → IsMismatch reply → ⊥
  no-mismatch mirrors (Refused (why.Unknown x)) h i = i
  no-mismatch mirrors (Refused (why.Twice x)) h i = i
  no-mismatch mirrors (Refused (why.Differs x)) h i = i
  no-mismatch mirrors (Refused (why.Conflict x)) h i = i
  no-mismatch mirrors (Refused (why.Full l n)) h i = i
  no-mismatch mirrors (Refused (why.Answer n)) h i = i
  no-mismatch mirrors (Refused (why.NotEmpty n k)) h i = i
  no-mismatch mirrors (Refused (why.Pending n)) h i = i
  no-mismatch mirrors (Refused why.NoRemote) h i = i
  no-mismatch mirrors (Refused (why.Remote n)) h i = i
  no-mismatch mirrors (Refused (why.InMaster x)) h i = i
  no-mismatch mirrors (Refused (why.Lost x)) h i = i
  no-mismatch mirrors (Refused (why.Emptied n)) h i = i
  no-mismatch mirrors (Refused why.Memory) h i = i
  no-mismatch mirrors (Refused (why.MismatchPath x n)) h i = h
  no-mismatch mirrors (Refused (why.MismatchNames n k)) h i = h
  no-mismatch mirrors (Refused (why.MismatchClone n)) h i = h
  no-mismatch mirrors (Refused (why.MismatchRow n)) h i = h
  no-mismatch mirrors (Added n) h i = i
  no-mismatch mirrors (Old n) h i = i
  no-mismatch mirrors (Flushed n k) h i = i
  no-mismatch mirrors (Pulled n k) h i = i
  no-mismatch mirrors (Stripped n k) h i = i
  no-mismatch mirrors (Cloned n) h i = i
  no-mismatch mirrors (Reloaded n) h i = i
  no-mismatch mirrors (Discarded n) h i = i
  no-mismatch mirrors (Listed x) h i = i
  no-mismatch mirrors (Counted n) h i = i
  no-mismatch mirrors (Identified n) h i = i
  no-mismatch mirrors (Sizes n k l) h i = i
  no-mismatch mirrors (LevelSizes x) h i = i
  no-mismatch mirrors (Dropped n) h i = i
  no-mismatch mirrors NoCommand h i = i
  no-mismatch mirrors LongLine h i = i

  module _ (limits : Limits) (st : State) (s : ℕ) (steady : P st.outside.mirrors) (reply : Reply) (st' : State) where
    told-no : (verb : Verb) → IsTold st.store s verb reply st'.store → BlamesReply st'.outside.mirrors reply
    told-no (Add name parents) t = by_test (has (view_of st.store s) name) t
      where
        by_test : (b : Bool) → MatchBool b ((reply ≡ Old (id_in same_name (view_of st.store s) name)) × (st'.store ≡ st.store))
            ((reply ≡ Added (id_in same_name (view_of (with_added st.store s name parents) s) name)) × (st'.store ≡ with_added st.store s name parents)) → BlamesReply st'.outside.mirrors reply
        by_test true g = subst (BlamesReply st'.outside.mirrors) (sym g.0) tt
        by_test false g = subst (BlamesReply st'.outside.mirrors) (sym g.0) tt
    told-no (Flush heads) t = subst (BlamesReply st'.outside.mirrors) (sym t.0) tt
    told-no (Strip names) t = subst (BlamesReply st'.outside.mirrors) (sym t.0) tt
    told-no Reload t = subst (BlamesReply st'.outside.mirrors) (sym t.0) tt
    told-no Discard t = subst (BlamesReply st'.outside.mirrors) (sym t.0) tt
    told-no (Count e) t = subst (BlamesReply st'.outside.mirrors) (sym t.2) tt
    told-no (IdOf name) t = subst (BlamesReply st'.outside.mirrors) (sym t.0) tt
    told-no Status t = subst (BlamesReply st'.outside.mirrors) (sym t.0) tt
    told-no Levels t = subst (BlamesReply st'.outside.mirrors) (sym t.0) tt
    told-no (Query e) t = absurd t
    told-no Clone t = absurd t
    told-no Pull t = absurd t
    told-no CountMirrors t = absurd t
    told-no (Drop k) t = absurd t

    unless-no : (rs : List (Option Refusal)) (Goes : Reply → Stored → Type 0) → AllByRecursion IsNoFailure rs → (Goes reply st'.store → BlamesReply st'.outside.mirrors reply) → UnlessRefused rs st.store Goes reply st'.store → BlamesReply st'.outside.mirrors reply
    unless-no rs Goes h f (inl g) = by_test (first_some rs) (list-no rs h) g
      where
        by_test : (o : Option Refusal) → IsNoFailure o → MatchOption o (Goes reply st'.store) (λ refusal. IsRefused st.store refusal reply st'.store) → BlamesReply st'.outside.mirrors reply
        by_test None k g = f g
        by_test (Some r) k g = subst (BlamesReply st'.outside.mirrors) (sym g.0) (no-blame st'.outside.mirrors (Some r) k)
    unless-no rs Goes h f (inr m) = subst (BlamesReply st'.outside.mirrors) (sym m.0) tt

    taken-no : (Does : Mirror → Mirror → Type 0) (keeps : Keeping P F Does) (Makes : World Name → Reply → Stored → Type 0) (mirrors : List Mirror) (found : List KnownName) → P mirrors
        → ((r : World Name) → Makes r reply st'.store → BlamesReply st'.outside.mirrors reply) → TakesFrom Does Makes st mirrors found reply st' → P st'.outside.mirrors × BlamesReply st'.outside.mirrors reply
    taken-no Does keeps Makes mirrors found k f (end, new, asks, out, ends) =
        let a = keeps mirrors new end asks k in (subst P (sym out.mirrors_are) a.0, by_end end a.1 ends)
      where
        by_end : (o : Option MirrorFault) → ((n : ℕ) → o ≡ Some (fault.AllFailed n) → F n new)
            → MatchOption o ((rows : List (Row Name)) × AnsweredFirst new rows × Makes (master_world rows) reply st'.store) (λ fault. IsRefused st.store (refusal_for fault) reply st'.store) → BlamesReply st'.outside.mirrors reply
        by_end None h g = f (master_world g.0) g.2
        by_end (Some fault.NoRemote) h g = subst (BlamesReply st'.outside.mirrors) (sym g.0) tt
        by_end (Some (fault.AllFailed n)) h g = subst (BlamesReply st'.outside.mirrors) (sym g.0) (subst (F n) (sym out.mirrors_are) (h n refl))
        by_end (Some fault.Memory) h g = subst (BlamesReply st'.outside.mirrors) (sym g.0) tt

    answers-no : (verb : Verb) (mirrors : List Mirror) (found : List KnownName) → P mirrors → Answers limits st s verb mirrors found reply st' → P st'.outside.mirrors × BlamesReply st'.outside.mirrors reply
    answers-no (Add name parents) mirrors found k a = (subst P (sym a.1.mirrors_are) k, told-no (Add name parents) a.0)
    answers-no (Flush heads) mirrors found k a = (subst P (sym a.1.mirrors_are) k, told-no (Flush heads) a.0)
    answers-no (Strip names) mirrors found k a = (subst P (sym a.1.mirrors_are) k, told-no (Strip names) a.0)
    answers-no Reload mirrors found k a = (subst P (sym a.1.mirrors_are) k, told-no Reload a.0)
    answers-no Discard mirrors found k a = (subst P (sym a.1.mirrors_are) k, told-no Discard a.0)
    answers-no (Count e) mirrors found k a = (subst P (sym a.1.mirrors_are) k, told-no (Count e) a.0)
    answers-no (IdOf name) mirrors found k a = (subst P (sym a.1.mirrors_are) k, told-no (IdOf name) a.0)
    answers-no Status mirrors found k a = (subst P (sym a.1.mirrors_are) k, told-no Status a.0)
    answers-no Levels mirrors found k a = (subst P (sym a.1.mirrors_are) k, told-no Levels a.0)
    answers-no (Query e) mirrors found k (names, is, verdict, new, fetched, tries, out, ends) =
        let t = tries-kept (Unit {0}) mirrors new (answer_tests limits st s found names) verdict fetched (if-no _ (why.Answer (length names)) tt, (tt, tt)) tries k in
        (subst P (sym out.mirrors_are) t.0, by_test verdict (subst (λ l. Blames l verdict) (sym out.mirrors_are) t.1) ends)
      where
        by_test : (o : Option Refusal) → Blames st'.outside.mirrors o → MatchOption o ((reply ≡ Listed names) × (st'.store ≡ st.store)) (λ refusal. IsRefused st.store refusal reply st'.store) → BlamesReply st'.outside.mirrors reply
        by_test None h g = subst (BlamesReply st'.outside.mirrors) (sym g.0) tt
        by_test (Some r) h g = subst (BlamesReply st'.outside.mirrors) (sym g.0) h
    answers-no Clone mirrors found k a =
        taken-no IsCloned when_cloned (Clones limits st.store s) mirrors found k
        (λ r. unless-no (clone_tests limits st.store r) (λ told now. (told ≡ Cloned (length r.master)) × (now ≡ after_change st.store s (master_alone r) (clone_change r)))
        (full-no limit.Heads _ _, (full-no limit.Master _ _, (full-no limit.Log _ _, tt))) (λ g. subst (BlamesReply st'.outside.mirrors) (sym g.0) tt)) a
    answers-no Pull mirrors found k a =
        taken-no (IsPulled (cloned_count st.store.payloads)) (when_pulled (cloned_count st.store.payloads)) (Pulls limits st.store s) mirrors found k
        (λ r. unless-no (pull_tests limits st.store r)
        (λ told now. (told ≡ Pulled (length (pulled same_name st.store.stored r).master) (length (pulled same_name st.store.stored r).others)) × (now ≡ after_flush st.store s (pulled same_name st.store.stored r)))
        (conflict-no (first_conflict same_name st.store.stored r.master), (full-no limit.Master _ _, (full-no limit.Log _ _, tt))) (λ g. subst (BlamesReply st'.outside.mirrors) (sym g.0) tt)) a
    answers-no CountMirrors mirrors found k a = (subst (λ (z : State). P z.outside.mirrors) (sym a.1) steady, subst (BlamesReply st'.outside.mirrors) (sym a.0) tt)
    answers-no (Drop n) mirrors found k a = by_test (nat_lt n (length mirrors)) a
      where
        by_test : (b : Bool) → MatchBool b ((reply ≡ Dropped (length (without n mirrors))) × (st' ≡ record st { outside = record st.outside { mirrors = without n mirrors } })) ((reply ≡ Refused why.NoRemote) × (st' ≡ st))
            → P st'.outside.mirrors × BlamesReply st'.outside.mirrors reply
        by_test true g = (subst (λ (z : State). P z.outside.mirrors) (sym g.1) (when_dropped n mirrors k), subst (BlamesReply st'.outside.mirrors) (sym g.0) tt)
        by_test false g = (subst (λ (z : State). P z.outside.mirrors) (sym g.1) steady, subst (BlamesReply st'.outside.mirrors) (sym g.0) tt)

    pub step-kept : (verb : Verb) → CommandStep limits st s verb reply st' → P st'.outside.mirrors × ((n : ℕ) → reply ≡ Refused (why.Remote n) → F n st'.outside.mirrors) × (IsMismatch reply → ⊥)
    step-kept verb (verdict, mirrors, found, tries, ends) =
        let t = tries-kept (MayWantMemory verb) st.outside.mirrors mirrors (tests limits st.store s verb) verdict found (tests-no st.store s limits verb) tries steady in
        let r = by_test verdict t.0 t.1 ends in
        (r.0, (λ n e. subst (BlamesReply st'.outside.mirrors) e r.1), no-mismatch st'.outside.mirrors reply r.1)
      where
        by_test : (o : Option Refusal) → P mirrors → Blames mirrors o
            → MatchOption o (Answers limits st s verb mirrors found reply st') (λ refusal. IsRefused st.store refusal reply st'.store × GoesOutside st.outside mirrors found st'.outside) → P st'.outside.mirrors × BlamesReply st'.outside.mirrors reply
        by_test None k h a = answers-no verb mirrors found k a
        by_test (Some x) k h a = (subst P (sym a.1.mirrors_are) k, subst (BlamesReply st'.outside.mirrors) (sym a.0.0) (subst (λ l. Blames l (Some x)) (sym a.1.mirrors_are) h))
