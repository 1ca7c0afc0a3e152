-- Each command leaves a state.
use Rattle.std.proofs.Common.{◌≡◌, ◌⊎◌, Bool, true, false, cond, ℕ, zero, suc, inl, inr, List, [], ◌∷◌, ◌++◌, length, map, filter, take, drop, nat_lt, Option, Some, None, is_some, true≢false, refl, sym, ap, subst, ⊎_elim, le_refl, MatchOption, arith, zero-le, append-nil}
use Rattle.std.specs.Bool.{MatchBool}
use Rattle.std.specs.List.{AllByRecursion}
use Rattle.id_groups.specs.Lists.{IsIn}
use Rattle.id_groups.specs.Name.{Name, same_name}
use Rattle.commit_graph.specs.World.{Row, World, IsNamedWorld, GrowsMaster}
use Rattle.commit_graph.specs.Ids.{id_in}
use Rattle.commit_graph.proofs.Histories.{in-append}
use Rattle.commit_graph.proofs.Naming.{grows-self}
use Rattle.set_expr.specs.Expr.{commits_in}
use Rattle.batch_codec.specs.Payload.{Payload}
use Rattle.change_rules.specs.declared.Limits.{Limits}
use Rattle.change_rules.specs.Strip.{stripped}
use Rattle.change_rules.specs.Pull.{pulled}
use Rattle.change_rules.specs.Change.{flush_change, clone_change}
use Rattle.change_rules.specs.Tables.{cloned_count}
use Rattle.remote_rules.specs.CloneData.{KnownName}
use Rattle.remote_rules.specs.Mirror.{Mirror}
use Rattle.remote_rules.specs.Known.{master_alone, master_world}
use Rattle.remote_rules.specs.Honest.{IsSoundMirror}
use Rattle.remote_rules.specs.Calls.{IsCloned, IsPulled}
use Rattle.remote_rules.specs.declared.MirrorFault.{MirrorFault}
use Rattle.step_rules.specs.declared.Refusal.{Refusal}
use Rattle.step_rules.specs.declared.Refusal.TheVariants as why
use Rattle.step_rules.specs.State.{State, Stored, IsState, IsStore, IsOutside, IsLazyName, at_start, session, pending_of, base_of, view_of}
use Rattle.step_rules.specs.Verb.{Verb, IsVerb, Add, Flush, Reload, Discard, Query, Count, IdOf, Status, Levels, Clone, Pull, Strip, CountMirrors, Drop}
use Rattle.step_rules.specs.Reply.{Reply, Refused, Added, Old, Listed, Dropped, Cloned, Pulled}
use Rattle.step_rules.specs.Asked.{found_as, lazy_among}
use Rattle.step_rules.specs.Worlds.{has, flush_of, after_change, after_flush, with_added}
use Rattle.step_rules.specs.Tests.{plain, looked_up, unknown, pending_test, rebase_tests, not_strippable, first_some, refused_first, tests}
use Rattle.step_rules.specs.Asking.{refusal_for}
use Rattle.step_rules.specs.Step.{IsTold, TakesFrom, Clones, Pulls, AnsweredFirst, Answers, CommandStep, GoesOutside, IsRefused, UnlessRefused, MayWantMemory, answer_tests, clone_tests, pull_tests, without}
use Rattle.step_rules.proofs.Trying.{Outer, tried-all}
use Rattle.step_rules.proofs.Own.{refusals}
use Rattle.step_rules.proofs.Sessions.{newest-now}
use Rattle.step_rules.proofs.States.{start-state}
use Rattle.step_rules.proofs.Soundness.{AreSound, asks-sound, tries-sound, sound-append}
use Rattle.step_rules.proofs.Steps.{step-store, not-tested, clone-empty, flushed-world}
use Rattle.step_rules.proofs.Cached.{FindsRight, gained-right, plain-right, named-right, right-append, found-cached, cached-change, flush-late, outside-kept}

filter-back : {X : Type 0} (f : X → Bool) (x : X) (xs : List X) → IsIn x (filter f xs) → IsIn x xs
filter-back f x [] i = i
filter-back f x (y ∷ xs) i = by_test (f y) i (filter-back f x xs)
  where
    by_test : (b : Bool) → IsIn x (cond b (y ∷ filter f xs) (filter f xs)) → (IsIn x (filter f xs) → IsIn x xs) → IsIn x (y ∷ xs)
    by_test true (inl e) rec = inl e
    by_test true (inr j) rec = inr (rec j)
    by_test false j rec = inr (rec j)

sound-take : (n : ℕ) (xs : List Mirror) → AreSound xs → AreSound (take n xs)
sound-take zero xs h = tt
sound-take (suc n) [] h = tt
sound-take (suc n) (x ∷ xs) h = (h.0, sound-take n xs h.1)

sound-drop : (n : ℕ) (xs : List Mirror) → AreSound xs → AreSound (drop n xs)
sound-drop zero xs h = h
sound-drop (suc n) [] h = tt
sound-drop (suc n) (x ∷ xs) h = sound-drop n xs h.1

module _ (st : Stored) (s : ℕ) (h : IsStore st) where
  base-grows : GrowsMaster (base_of st s) st.stored
  base-grows = subst (GrowsMaster (base_of st s)) (newest-now st) (h.grows (session st s).base (length st.past) (h.sessions s).base (le_refl _))

  all-looked : (w : World Name) → GrowsMaster w st.stored → (refuse : Name → Option Refusal) (names : List Name) → AllByRecursion (FindsRight (IsLazyName st)) (map (looked_up st s w refuse) names)
  all-looked w g refuse [] = tt
  all-looked w g refuse (name ∷ names) = (named-right (IsLazyName st) _ (found_as st w name) (refuse name) (found-cached st w g name), all-looked w g refuse names)

  all-pending : (rows : List (Row Name)) → AllByRecursion (FindsRight (IsLazyName st)) (map (pending_test st s) rows)
  all-pending [] = tt
  all-pending (row ∷ rows) = (named-right (IsLazyName st) _ (found_as st st.stored row.name) None (found-cached st st.stored (grows-self st.stored) row.name), all-pending rows)

  free : (refusal : Option Refusal) → FindsRight (IsLazyName st) (plain refusal)
  free refusal = plain-right (IsLazyName st) refusal

  rebase-right : AllByRecursion (FindsRight (IsLazyName st)) (rebase_tests st s)
  rebase-right = right-append (IsLazyName st) (map (pending_test st s) (pending_of st s)) _ (all-pending (pending_of st s)) ((λ k i. absurd i), ((λ k i. absurd i), tt))

  tests-right : (limits : Limits) (verb : Verb) → AllByRecursion (FindsRight (IsLazyName st)) (tests limits st s verb)
  tests-right limits (Add name parents) = (
    named-right (IsLazyName st) _ (found_as st (base_of st s) name) None (found-cached st (base_of st s) base-grows name),
    right-append (IsLazyName st) (map (looked_up st s (base_of st s) (unknown (view_of st s))) parents) _ (all-looked (base_of st s) base-grows (unknown (view_of st s)) parents)
        ((λ k i. absurd i), ((λ k i. absurd i), ((λ k i. absurd i), tt))),
  )
  tests-right limits (Flush heads) =
      right-append (IsLazyName st) (map (looked_up st s st.stored _) heads ++ rebase_tests st s) _
      (right-append (IsLazyName st) (map (looked_up st s st.stored _) heads) (rebase_tests st s) (all-looked st.stored (grows-self st.stored) _ heads) rebase-right)
      ((λ k i. absurd i), ((λ k i. absurd i), ((λ k i. absurd i), tt)))
  tests-right limits Reload = rebase-right
  tests-right limits (Query e) = all-looked (base_of st s) base-grows (unknown (view_of st s)) (commits_in e)
  tests-right limits (Count e) = all-looked (base_of st s) base-grows (unknown (view_of st s)) (commits_in e)
  tests-right limits (IdOf name) = all-looked (base_of st s) base-grows (unknown (view_of st s)) (name ∷ [])
  tests-right limits (Strip names) = (
    (λ k i. absurd i),
    right-append (IsLazyName st) (map (looked_up st s st.stored (not_strippable st.stored)) names) _ (all-looked st.stored (grows-self st.stored) (not_strippable st.stored) names)
        ((λ k i. absurd i), ((λ k i. absurd i), tt)),
  )
  tests-right limits Clone = ((λ k i. absurd i), ((λ k i. absurd i), tt))
  tests-right limits Pull = ((λ k i. absurd i), tt)
  tests-right limits Discard = tt
  tests-right limits Status = tt
  tests-right limits Levels = tt
  tests-right limits CountMirrors = tt
  tests-right limits (Drop k) = tt

  lazy-right : (w : World Name) → GrowsMaster w st.stored → (names : List Name) (k : KnownName) → IsIn k (lazy_among st w names) → IsLazyName st k
  lazy-right w g [] k i = absurd i
  lazy-right w g (name ∷ names) k i = ⊎_elim (λ j. found-cached st w g name k j) (λ j. lazy-right w g names k j) (in-append k (found_as st w name) (lazy_among st w names) i)

module _ (limits : Limits) (st : State) (s : ℕ) (h : IsState st) where
  same-cached : (now : Stored) → now ≡ st.store → (k : KnownName) → IsLazyName st.store k → IsLazyName now k
  same-cached now e k c = subst (λ z. IsLazyName z k) (sym e) c

  -- what a command leaves that asks nothing more
  told-cached : (verb : Verb) (reply : Reply) (now : Stored) → first_some (refusals limits (base_of st.store s) (pending_of st.store s) st.store.stored verb) ≡ None → IsTold st.store s verb reply now
      → (k : KnownName) → IsLazyName st.store k → IsLazyName now k
  told-cached (Add name parents) reply now none t k c = by_test (has (view_of st.store s) name) t
    where
      by_test : (b : Bool) → MatchBool b ((reply ≡ Old (id_in same_name (view_of st.store s) name)) × (now ≡ st.store))
          ((reply ≡ Added (id_in same_name (view_of (with_added st.store s name parents) s) name)) × (now ≡ with_added st.store s name parents)) → IsLazyName now k
      by_test true g = same-cached now g.1 k c
      by_test false g = subst (λ z. IsLazyName z k) (sym g.1) c
  told-cached (Flush heads) reply now none t k c =
      subst (λ z. IsLazyName z k) (sym t.1) (cached-change st.store (flush_of st.store s heads) (flush_change st.store.stored (flush_of st.store s heads)) (flushed-world st.store s h.store limits heads none).1
      (flush-late st.store.stored (flush_of st.store s heads)) s k c)
  told-cached (Strip names) reply now none t k c =
      subst (λ z. IsLazyName z k) (sym t.1) (cached-change st.store (stripped same_name st.store.stored names) (flush_change st.store.stored (stripped same_name st.store.stored names)) ([], sym (append-nil st.store.stored.master))
      (flush-late st.store.stored (stripped same_name st.store.stored names)) s k c)
  told-cached Reload reply now none t k c = subst (λ z. IsLazyName z k) (sym t.1) c
  told-cached Discard reply now none t k c = subst (λ z. IsLazyName z k) (sym t.1) c
  told-cached (Count e) reply now none t k c = same-cached now t.3 k c
  told-cached (IdOf name) reply now none t k c = same-cached now t.1 k c
  told-cached Status reply now none t k c = same-cached now t.1 k c
  told-cached Levels reply now none t k c = same-cached now t.1 k c
  told-cached (Query e) reply now none t k c = absurd t
  told-cached Clone reply now none t k c = absurd t
  told-cached Pull reply now none t k c = absurd t
  told-cached CountMirrors reply now none t k c = absurd t
  told-cached (Drop n) reply now none t k c = absurd t

  unless-cached : (rs : List (Option Refusal)) (Goes : Reply → Stored → Type 0) (reply : Reply) (now : Stored) → (Goes reply now → (k : KnownName) → IsLazyName st.store k → IsLazyName now k)
      → UnlessRefused rs st.store Goes reply now → (k : KnownName) → IsLazyName st.store k → IsLazyName now k
  unless-cached rs Goes reply now f (inl g) k c = by_test (first_some rs) g
    where
      by_test : (o : Option Refusal) → MatchOption o (Goes reply now) (λ refusal. IsRefused st.store refusal reply now) → IsLazyName now k
      by_test None g = f g k c
      by_test (Some r) g = same-cached now g.1 k c
  unless-cached rs Goes reply now f (inr m) k c = same-cached now m.1 k c

  module _ (mirrors : List Mirror) (found : List KnownName) (sound : AreSound mirrors) (right : (k : KnownName) → IsIn k found → IsLazyName st.store k) where
    goes : (now : State) (new : List Mirror) → AreSound new → ((k : KnownName) → IsLazyName st.store k → IsLazyName now.store k) → GoesOutside st.outside new found now.outside → IsOutside now.store now.outside
    goes now new all on g = outside-kept st.store now.store st.outside now.outside new found h.outside all right on g

    taken-outside : (Does : Mirror → Mirror → Type 0) (keeps : (m asked : Mirror) → Does m asked → IsSoundMirror m → IsSoundMirror asked) (Makes : World Name → Reply → Stored → Type 0) (reply : Reply) (st' : State)
        → ((r : World Name) → Makes r reply st'.store → (k : KnownName) → IsLazyName st.store k → IsLazyName st'.store k) → TakesFrom Does Makes st mirrors found reply st' → IsOutside st'.store st'.outside
    taken-outside Does keeps Makes reply st' f (end, new, asks, out, ends) = goes st' new (asks-sound Does keeps mirrors new end asks sound) (by_end end ends) out
      where
        by_end : (o : Option MirrorFault) → MatchOption o ((rows : List (Row Name)) × AnsweredFirst new rows × Makes (master_world rows) reply st'.store) (λ fault. IsRefused st.store (refusal_for fault) reply st'.store)
            → (k : KnownName) → IsLazyName st.store k → IsLazyName st'.store k
        by_end None g = f (master_world g.0) g.2
        by_end (Some x) g = same-cached st'.store g.1

    answers-outside : (verb : Verb) (reply : Reply) (st' : State) → first_some (refusals limits (base_of st.store s) (pending_of st.store s) st.store.stored verb) ≡ None
        → Answers limits st s verb mirrors found reply st' → IsOutside st'.store st'.outside
    answers-outside (Add name parents) reply st' none a = goes st' mirrors sound (told-cached (Add name parents) reply st'.store none a.0) a.1
    answers-outside (Flush heads) reply st' none a = goes st' mirrors sound (told-cached (Flush heads) reply st'.store none a.0) a.1
    answers-outside (Strip names) reply st' none a = goes st' mirrors sound (told-cached (Strip names) reply st'.store none a.0) a.1
    answers-outside Reload reply st' none a = goes st' mirrors sound (told-cached Reload reply st'.store none a.0) a.1
    answers-outside Discard reply st' none a = goes st' mirrors sound (told-cached Discard reply st'.store none a.0) a.1
    answers-outside (Count e) reply st' none a = goes st' mirrors sound (told-cached (Count e) reply st'.store none a.0) a.1
    answers-outside (IdOf name) reply st' none a = goes st' mirrors sound (told-cached (IdOf name) reply st'.store none a.0) a.1
    answers-outside Status reply st' none a = goes st' mirrors sound (told-cached Status reply st'.store none a.0) a.1
    answers-outside Levels reply st' none a = goes st' mirrors sound (told-cached Levels reply st'.store none a.0) a.1
    answers-outside (Query e) reply st' none (names, is, verdict, new, fetched, tries, out, ends) =
        outside-kept st.store st'.store st.outside st'.outside new (found ++ fetched) h.outside (tries-sound (Unit {0}) mirrors new (answer_tests limits st s found names) verdict fetched tries sound)
        (λ k i. ⊎_elim (right k) (gained-right (IsLazyName st.store) (Unit {0}) mirrors new (answer_tests limits st s found names) verdict fetched
        ((λ x j. absurd j), ((λ x j. lazy-right st.store s h.store (base_of st.store s) (base-grows st.store s h.store) names x (filter-back _ x (lazy_among st.store (base_of st.store s) names) j)), tt)) tries k)
        (in-append k found fetched i))
        (by_test verdict ends) out
      where
        by_test : (o : Option Refusal) → MatchOption o ((reply ≡ Listed names) × (st'.store ≡ st.store)) (λ refusal. IsRefused st.store refusal reply st'.store) → (k : KnownName) → IsLazyName st.store k → IsLazyName st'.store k
        by_test None g = same-cached st'.store g.1
        by_test (Some r) g = same-cached st'.store g.1
    answers-outside Clone reply st' none a =
        taken-outside IsCloned (λ m n d. d.keeps.sound) (Clones limits st.store s) reply st'
        (λ r. unless-cached (clone_tests limits st.store r) (λ told now. (told ≡ Cloned (length r.master)) × (now ≡ after_change st.store s (master_alone r) (clone_change r))) reply st'.store
        (λ g k c. let empty = clone-empty limits st s h.store h.outside.mirrors none in
        subst (λ z. IsLazyName z k) (sym g.1) (cached-change st.store (master_alone r) (clone_change r) (r.master, ap (λ l. l ++ r.master) (sym empty))
        (λ n lt. absurd (let l = ap length empty in omega (arith, lt, l))) s k c))) a
    answers-outside Pull reply st' none a =
        taken-outside (IsPulled (cloned_count st.store.payloads)) (λ m n d. d.keeps.sound) (Pulls limits st.store s) reply st'
        (λ r. unless-cached (pull_tests limits st.store r)
        (λ told now. (told ≡ Pulled (length (pulled same_name st.store.stored r).master) (length (pulled same_name st.store.stored r).others)) × (now ≡ after_flush st.store s (pulled same_name st.store.stored r))) reply st'.store
        (λ g k c. subst (λ z. IsLazyName z k) (sym g.1) (cached-change st.store (pulled same_name st.store.stored r) (flush_change st.store.stored (pulled same_name st.store.stored r)) (_, refl)
        (flush-late st.store.stored (pulled same_name st.store.stored r)) s k c))) a
    answers-outside CountMirrors reply st' none a = subst (λ (z : State). IsOutside z.store z.outside) (sym a.1) h.outside
    answers-outside (Drop n) reply st' none a = by_test (nat_lt n (length mirrors)) a
      where
        dropped : IsOutside st.store (record st.outside { mirrors = without n mirrors })
        dropped = record {
          few = h.outside.few;
          names = h.outside.names;
          mirrors = sound-append (take n mirrors) (drop (suc n) mirrors) (sound-take n mirrors sound) (sound-drop (suc n) mirrors sound);
        }

        by_test : (b : Bool) → MatchBool b ((reply ≡ Dropped (length (without n mirrors))) × (st' ≡ record st { outside = record st.outside { mirrors = without n mirrors } })) ((reply ≡ Refused why.NoRemote) × (st' ≡ st))
            → IsOutside st'.store st'.outside
        by_test true g = subst (λ (z : State). IsOutside z.store z.outside) (sym g.1) dropped
        by_test false g = subst (λ (z : State). IsOutside z.store z.outside) (sym g.1) h.outside

  step-outside : (verb : Verb) (reply : Reply) (st' : State) → CommandStep limits st s verb reply st' → IsOutside st'.store st'.outside
  step-outside verb reply st' (verdict, mirrors, found, tries, ends) =
      by_test verdict (tried-all (MayWantMemory verb) st.outside.mirrors mirrors (tests limits st.store s verb) verdict found tries) ends
    where
      sound : AreSound mirrors
      sound = tries-sound (MayWantMemory verb) st.outside.mirrors mirrors (tests limits st.store s verb) verdict found tries h.outside.mirrors

      right : (k : KnownName) → IsIn k found → IsLazyName st.store k
      right = gained-right (IsLazyName st.store) (MayWantMemory verb) st.outside.mirrors mirrors (tests limits st.store s verb) verdict found (tests-right st.store s h.store limits verb) tries

      by_test : (o : Option Refusal) → (o ≡ refused_first (tests limits st.store s verb)) ⊎ Outer o
          → MatchOption o (Answers limits st s verb mirrors found reply st') (λ refusal. IsRefused st.store refusal reply st'.store × GoesOutside st.outside mirrors found st'.outside) → IsOutside st'.store st'.outside
      by_test None t a = answers-outside mirrors found sound right verb reply st' (not-tested limits st.store s verb t) a
      by_test (Some r) t a = goes mirrors found sound right st' mirrors sound (same-cached st'.store a.0.1) a.1

  pub step-state : (verb : Verb) (reply : Reply) (st' : State) → IsVerb verb → CommandStep limits st s verb reply st' → IsState st'
  step-state verb reply st' v step = record { store = step-store limits st s h.store h.outside.mirrors verb reply st' v step; outside = step-outside verb reply st' step }

pub start-is : (w : World Name) (payloads : List Payload) (room : ℕ) (mirrors : List Mirror) → IsNamedWorld w → AreSound mirrors → IsState (at_start w payloads room mirrors)
start-is w payloads room mirrors h sound = record { store = start-state w payloads h; outside = record { few = ([], zero-le, λ id e. absurd (true≢false (sym e))); names = λ id name e. absurd (true≢false (sym (ap is_some e))); mirrors = sound } }
