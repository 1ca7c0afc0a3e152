-- Mirrors serve what is stored through each command.
use Rattle.std.proofs.Common.{◌≡◌, ◌≤◌, ◌⊎◌, ℕ, zero, suc, Bool, true, false, inl, inr, List, [], ◌∷◌, ◌++◌, length, take, nat_lt, Option, Some, None, refl, sym, ap, subst, ◌∙◌, ⊎_elim, MatchOption, arith, length-append, append-nil, le_refl, if◌then◌else◌, suc-le-suc, le_trans}
use Rattle.std.specs.Bool.{MatchBool}
use Rattle.id_groups.specs.Lists.{IsIn}
use Rattle.id_groups.specs.Name.{Name, same_name}
use Rattle.commit_graph.specs.World.{Row, World, GrowsMaster}
use Rattle.commit_graph.specs.Ids.{id_in}
use Rattle.commit_graph.proofs.Naming.{each, all-each}
use Rattle.batch_codec.specs.Payload.{Payload}
use Rattle.change_rules.specs.declared.Limits.{Limits}
use Rattle.change_rules.specs.Strip.{stripped}
use Rattle.change_rules.specs.Pull.{pulled}
use Rattle.change_rules.specs.Change.{flush_change, clone_change}
use Rattle.change_rules.specs.Tables.{cloned_count}
use Rattle.remote_rules.specs.CloneData.{KnownName}
use Rattle.remote_rules.specs.Mirror.{Mirror}
use Rattle.remote_rules.specs.Known.{master_alone, master_world}
use Rattle.remote_rules.specs.Calls.{IsCloned, IsPulled}
use Rattle.remote_rules.specs.Serving.{IsServing, AreAlike, AllServe}
use Rattle.remote_rules.specs.declared.MirrorFault.{MirrorFault}
use Rattle.step_rules.specs.declared.Refusal.{Refusal}
use Rattle.step_rules.specs.declared.Refusal.TheVariants as why
use Rattle.step_rules.specs.State.{State, Stored, IsState, pending_of, base_of, view_of, on_newest, with_stored}
use Rattle.step_rules.specs.Served.{IsServed}
use Rattle.step_rules.specs.Verb.{Verb, Add, Flush, Reload, Discard, Query, Count, IdOf, Status, Levels, Clone, Pull, Strip, CountMirrors, Drop}
use Rattle.step_rules.specs.Reply.{Reply, Refused, Added, Old, Listed, Dropped, Cloned, Pulled}
use Rattle.step_rules.specs.Worlds.{has, same_world, flush_of, after_change, after_flush, with_added}
use Rattle.step_rules.specs.Tests.{first_some, refused_first, tests}
use Rattle.step_rules.specs.Asking.{refusal_for}
use Rattle.step_rules.specs.Step.{IsTold, TakesFrom, Clones, Pulls, AnsweredFirst, Answers, CommandStep, GoesOutside, IsRefused, UnlessRefused, MayWantMemory, answer_tests, clone_tests, pull_tests, without}
use Rattle.step_rules.proofs.Trying.{Outer, tried-all}
use Rattle.step_rules.proofs.Own.{refusals}
use Rattle.step_rules.proofs.Steps.{not-tested, clone-empty, flushed-world}
use Rattle.step_rules.proofs.Origins.{GoesTo, ComeFrom, asks-from, tries-from, all-serve-on}

-- the same of payloads, a world and mirrors
abbrev Served : List Payload → World Name → List Mirror → Type 0
Served payloads w mirrors = (cloned_count payloads ≤ length w.master) × AllServe (cloned_count payloads) w mirrors

-- a payload that is no clone leaves the count
count-kept : (payloads : List Payload) (old new : World Name) → cloned_count (payloads ++ flush_change old new ∷ []) ≡ cloned_count payloads
count-kept [] old new = refl
count-kept (p ∷ payloads) old new = refl

-- a clone has the count, if none is there yet
count-cloned : (payloads : List Payload) (r : World Name) → (cloned_count (payloads ++ clone_change r ∷ []) ≡ length r.master) ⊎ (cloned_count (payloads ++ clone_change r ∷ []) ≡ cloned_count payloads)
count-cloned [] r = inl refl
count-cloned (p ∷ payloads) r = inr refl

take-front : {X : Type 0} (n : ℕ) (xs ys : List X) → n ≤ length xs → take n (xs ++ ys) ≡ take n xs
take-front zero xs ys le = refl
take-front (suc n) [] ys le = absurd (omega (arith, le))
take-front (suc n) (x ∷ xs) ys le = ap (λ l. x ∷ l) (take-front n xs ys (omega (arith, le)))

in-take : {X : Type 0} (n : ℕ) (xs : List X) (x : X) → IsIn x (take n xs) → IsIn x xs
in-take zero xs x i = absurd i
in-take (suc n) [] x i = absurd i
in-take (suc n) (y ∷ xs) x (inl e) = inl e
in-take (suc n) (y ∷ xs) x (inr i) = inr (in-take n xs x i)

-- where the master goes on and the count stays
grown-served : (payloads more : List Payload) (w new : World Name) (mirrors : List Mirror) → Served payloads w mirrors → cloned_count more ≡ cloned_count payloads → GrowsMaster w new → Served more new mirrors
grown-served payloads more w new mirrors h e grown =
    let longer = ap length grown.1 ∙ length-append w.master grown.0 in
    let least = h.0 in (
      subst (λ n. n ≤ length new.master) (sym e) (omega (arith, longer, least)),
      record {
        each = all-each (IsServing (cloned_count more) new) mirrors (λ m i. let s = each (IsServing (cloned_count payloads) w) mirrors h.1.each m i in
            (s.0, s.1, s.2, λ row j. s.3 row (subst (IsIn row) (ap (λ n. take n new.master) e ∙ ap (take (cloned_count payloads)) grown.1 ∙ take-front (cloned_count payloads) w.master grown.0 least) j)));
        first_clone = λ z. h.1.first_clone (omega (arith, longer, z));
      },
    )

-- after a change
changed-served : (st : Stored) (s : ℕ) (new : World Name) (payload : Payload) (mirrors : List Mirror) → Served st.payloads st.stored mirrors → Served (st.payloads ++ payload ∷ []) new mirrors
    → Served (after_change st s new payload).payloads (after_change st s new payload).stored mirrors
changed-served st s new payload mirrors h k = by_test (same_world new st.stored)
  where
    by_test : (b : Bool) → Served (if b then on_newest st s [] else on_newest (with_stored st new payload) s []).payloads (if b then on_newest st s [] else on_newest (with_stored st new payload) s []).stored mirrors
    by_test true = h
    by_test false = k

flush-served : (st : Stored) (s : ℕ) (new : World Name) (mirrors : List Mirror) → Served st.payloads st.stored mirrors → GrowsMaster st.stored new → Served (after_flush st s new).payloads (after_flush st s new).stored mirrors
flush-served st s new mirrors h grown = changed-served st s new (flush_change st.stored new) mirrors h (grown-served st.payloads (st.payloads ++ flush_change st.stored new ∷ []) st.stored new mirrors h (count-kept st.payloads st.stored new) grown)

abbrev or_this : {X : Type 0} → X → Option X → X
or_this d None = d
or_this d (Some x) = x

in-none : {X : Type 0} (x : X) (n : ℕ) (xs : List X) → n ≤ 0 → IsIn x (take n xs) → ⊥
in-none x zero xs le i = i
in-none x (suc n) xs le i = absurd (omega (arith, le))

some-of : {X : Type 0} (x y : X) → Some x ≡ Some y → x ≡ y
some-of x y e = ap (or_this x) e

-- all that is cloned is served by who was cloned, and by who is like it
cloned-serves : (r : List (Row Name)) (mirrors : List Mirror) → AnsweredFirst mirrors r → ((length mirrors ≤ 1) ⊎ AreAlike mirrors) → (m : Mirror) → IsIn m mirrors → (q : List (Row Name)) → m.master ≡ Some q
    → (row : Row Name) → IsIn row r → IsIn row q
cloned-serves r [] a c m i q t row j = absurd i
cloned-serves r (x ∷ more) a (inl le) m (inl e) q t row j = subst (IsIn row) (some-of r q (sym a ∙ ap (λ (z : Mirror). z.master) (sym e) ∙ t)) j
cloned-serves r (x ∷ []) a (inl le) m (inr i) q t row j = absurd i
cloned-serves r (x ∷ y ∷ more) a (inl le) m (inr i) q t row j = absurd (omega (arith, le))
cloned-serves r (x ∷ more) a (inr alike) m i q t row j = alike.1 x m r q (inl refl) i a t row j

clone-served : (st : Stored) (s : ℕ) (r : World Name) (mirrors : List Mirror) → Served st.payloads st.stored mirrors → st.stored.master ≡ [] → AnsweredFirst mirrors r.master
    → Served (after_change st s (master_alone r) (clone_change r)).payloads (after_change st s (master_alone r) (clone_change r)).stored mirrors
clone-served st s r mirrors h empty a = changed-served st s (master_alone r) (clone_change r) mirrors h (⊎_elim whole none (count-cloned st.payloads r))
  where
    choice : (length mirrors ≤ 1) ⊎ AreAlike mirrors
    choice = h.1.first_clone (ap length empty)

    whole : cloned_count (st.payloads ++ clone_change r ∷ []) ≡ length r.master → Served (st.payloads ++ clone_change r ∷ []) (master_alone r) mirrors
    whole e = (
      subst (λ n. n ≤ length r.master) (sym e) (le_refl _),
      record {
        each = all-each (IsServing (cloned_count (st.payloads ++ clone_change r ∷ [])) (master_alone r)) mirrors (λ m i. let k = each (IsServing (cloned_count st.payloads) st.stored) mirrors h.1.each m i in
            (k.0, k.1, k.2, λ row j. cloned-serves r.master mirrors a (h.1.first_clone (ap length empty)) m i k.0 k.1 row (in-take (cloned_count (st.payloads ++ clone_change r ∷ [])) r.master row j)));
        first_clone = λ z. h.1.first_clone (ap length empty);
      },
    )

    none : cloned_count (st.payloads ++ clone_change r ∷ []) ≡ cloned_count st.payloads → Served (st.payloads ++ clone_change r ∷ []) (master_alone r) mirrors
    none e =
        let zero_count : cloned_count st.payloads ≤ 0 = (let a = h.0 in let b = ap length empty in omega (arith, a, b)) in (
          (let f = e in omega (arith, f, zero_count)),
          record {
            each = all-each (IsServing (cloned_count (st.payloads ++ clone_change r ∷ [])) (master_alone r)) mirrors (λ m i. let k = each (IsServing (cloned_count st.payloads) st.stored) mirrors h.1.each m i in
                (k.0, k.1, k.2, λ row j. absurd (in-none row (cloned_count (st.payloads ++ clone_change r ∷ [])) r.master (let f = e in omega (arith, f, zero_count)) j)));
            first_clone = λ z. h.1.first_clone (ap length empty);
          },
        )

-- a mirror less
pub without-in : (k : ℕ) (xs : List Mirror) (m : Mirror) → IsIn m (without k xs) → IsIn m xs
without-in zero [] m i = i
without-in zero (x ∷ xs) m i = inr i
without-in (suc k) [] m i = i
without-in (suc k) (x ∷ xs) m (inl e) = inl e
without-in (suc k) (x ∷ xs) m (inr i) = inr (without-in k xs m i)

without-length : (k : ℕ) (xs : List Mirror) → length (without k xs) ≤ length xs
without-length zero [] = le_refl 0
without-length zero (x ∷ xs) = (let n : length xs ≤ length xs = le_refl (length xs) in omega (arith, n))
without-length (suc k) [] = le_refl 0
without-length (suc k) (x ∷ xs) = suc-le-suc (without-length k xs)

dropped-served : (cloned : ℕ) (w : World Name) (k : ℕ) (mirrors : List Mirror) → AllServe cloned w mirrors → AllServe cloned w (without k mirrors)
dropped-served cloned w k mirrors h = record {
  each = all-each (IsServing cloned w) (without k mirrors) (λ m i. each (IsServing cloned w) mirrors h.each m (without-in k mirrors m i));
  first_clone = λ e. ⊎_elim (λ le. inl (le_trans (without-length k mirrors) le))
      (λ a. inr (
        all-each (λ (m : Mirror). m.settled ≡ true) (without k mirrors) (λ m i. each (λ (m : Mirror). m.settled ≡ true) mirrors a.0 m (without-in k mirrors m i)),
        λ m n q r i j. a.1 m n q r (without-in k mirrors m i) (without-in k mirrors n j),
      )) (h.first_clone e);
}

module _ (limits : Limits) (st : State) (s : ℕ) (h : IsState st) (served : IsServed st) where
  -- the part of a state that serving is about
  abbrev IsNow : Stored → List Mirror → Type 0
  IsNow now mirrors = Served now.payloads now.stored mirrors

  same-now : (now : Stored) (mirrors : List Mirror) → now ≡ st.store → IsNow st.store mirrors → IsNow now mirrors
  same-now now mirrors e k = subst (λ z. IsNow z mirrors) (sym e) k

  told-now : (verb : Verb) (reply : Reply) (now : Stored) (mirrors : List Mirror) → first_some (refusals limits (base_of st.store s) (pending_of st.store s) st.store.stored verb) ≡ None
      → IsTold st.store s verb reply now → IsNow st.store mirrors → IsNow now mirrors
  told-now (Add name parents) reply now mirrors none t k = by_test (has (view_of st.store s) name) t
    where
      by_test : (b : Bool) → MatchBool b ((reply ≡ Old (id_in same_name (view_of st.store s) name)) × (now ≡ st.store))
          ((reply ≡ Added (id_in same_name (view_of (with_added st.store s name parents) s) name)) × (now ≡ with_added st.store s name parents)) → IsNow now mirrors
      by_test true g = same-now now mirrors g.1 k
      by_test false g = subst (λ z. IsNow z mirrors) (sym g.1) k
  told-now (Flush heads) reply now mirrors none t k =
      subst (λ z. IsNow z mirrors) (sym t.1) (flush-served st.store s (flush_of st.store s heads) mirrors k (flushed-world st.store s h.store limits heads none).1)
  told-now (Strip names) reply now mirrors none t k =
      subst (λ z. IsNow z mirrors) (sym t.1) (flush-served st.store s (stripped same_name st.store.stored names) mirrors k ([], sym (append-nil st.store.stored.master)))
  told-now Reload reply now mirrors none t k = subst (λ z. IsNow z mirrors) (sym t.1) k
  told-now Discard reply now mirrors none t k = subst (λ z. IsNow z mirrors) (sym t.1) k
  told-now (Count e) reply now mirrors none t k = same-now now mirrors t.3 k
  told-now (IdOf name) reply now mirrors none t k = same-now now mirrors t.1 k
  told-now Status reply now mirrors none t k = same-now now mirrors t.1 k
  told-now Levels reply now mirrors none t k = same-now now mirrors t.1 k
  told-now (Query e) reply now mirrors none t k = absurd t
  told-now Clone reply now mirrors none t k = absurd t
  told-now Pull reply now mirrors none t k = absurd t
  told-now CountMirrors reply now mirrors none t k = absurd t
  told-now (Drop n) reply now mirrors none t k = absurd t

  on : (old new : List Mirror) → ComeFrom old new → IsNow st.store old → IsNow st.store new
  on old new f k = (k.0, all-serve-on (cloned_count st.store.payloads) st.store.stored old new f k.1)

  unless-now : (rs : List (Option Refusal)) (Goes : Reply → Stored → Type 0) (reply : Reply) (now : Stored) (mirrors : List Mirror) → (Goes reply now → IsNow now mirrors) → IsNow st.store mirrors
      → UnlessRefused rs st.store Goes reply now → IsNow now mirrors
  unless-now rs Goes reply now mirrors f k (inl g) = by_test (first_some rs) g
    where
      by_test : (o : Option Refusal) → MatchOption o (Goes reply now) (λ refusal. IsRefused st.store refusal reply now) → IsNow now mirrors
      by_test None g = f g
      by_test (Some r) g = same-now now mirrors g.1 k
  unless-now rs Goes reply now mirrors f k (inr m) = same-now now mirrors m.1 k

  made : (st' : State) (mirrors : List Mirror) → st'.outside.mirrors ≡ mirrors → IsNow st'.store mirrors → IsServed st'
  made st' mirrors e k = let n = subst (λ l. IsNow st'.store l) (sym e) k in record { cloned = n.0; mirrors = n.1 }

  taken-now : (Does : Mirror → Mirror → Type 0) (goes : (m asked : Mirror) → Does m asked → GoesTo m asked) (Makes : World Name → Reply → Stored → Type 0) (mirrors : List Mirror) (found : List KnownName) (reply : Reply) (st' : State)
      → IsNow st.store mirrors → ((rows : List (Row Name)) (new : List Mirror) → AnsweredFirst new rows → IsNow st.store new → Makes (master_world rows) reply st'.store → IsNow st'.store new) → TakesFrom Does Makes st mirrors found reply st' → IsServed st'
  taken-now Does goes Makes mirrors found reply st' k f (end, new, asks, out, ends) =
      made st' new out.mirrors_are (by_end end ends (on mirrors new (asks-from Does goes mirrors new end asks) k))
    where
      by_end : (o : Option MirrorFault) → MatchOption o ((rows : List (Row Name)) × AnsweredFirst new rows × Makes (master_world rows) reply st'.store) (λ fault. IsRefused st.store (refusal_for fault) reply st'.store) → IsNow st.store new → IsNow st'.store new
      by_end None g l = f g.0 new g.1 l g.2
      by_end (Some x) g l = same-now st'.store new g.1 l

  answers-now : (verb : Verb) (mirrors : List Mirror) (found : List KnownName) (reply : Reply) (st' : State) → first_some (refusals limits (base_of st.store s) (pending_of st.store s) st.store.stored verb) ≡ None
      → IsNow st.store mirrors → Answers limits st s verb mirrors found reply st' → IsServed st'
  answers-now (Add name parents) mirrors found reply st' none k a = made st' mirrors a.1.mirrors_are (told-now (Add name parents) reply st'.store mirrors none a.0 k)
  answers-now (Flush heads) mirrors found reply st' none k a = made st' mirrors a.1.mirrors_are (told-now (Flush heads) reply st'.store mirrors none a.0 k)
  answers-now (Strip names) mirrors found reply st' none k a = made st' mirrors a.1.mirrors_are (told-now (Strip names) reply st'.store mirrors none a.0 k)
  answers-now Reload mirrors found reply st' none k a = made st' mirrors a.1.mirrors_are (told-now Reload reply st'.store mirrors none a.0 k)
  answers-now Discard mirrors found reply st' none k a = made st' mirrors a.1.mirrors_are (told-now Discard reply st'.store mirrors none a.0 k)
  answers-now (Count e) mirrors found reply st' none k a = made st' mirrors a.1.mirrors_are (told-now (Count e) reply st'.store mirrors none a.0 k)
  answers-now (IdOf name) mirrors found reply st' none k a = made st' mirrors a.1.mirrors_are (told-now (IdOf name) reply st'.store mirrors none a.0 k)
  answers-now Status mirrors found reply st' none k a = made st' mirrors a.1.mirrors_are (told-now Status reply st'.store mirrors none a.0 k)
  answers-now Levels mirrors found reply st' none k a = made st' mirrors a.1.mirrors_are (told-now Levels reply st'.store mirrors none a.0 k)
  answers-now (Query e) mirrors found reply st' none k (names, is, verdict, new, fetched, tries, out, ends) =
      made st' new out.mirrors_are (by_test verdict ends (on mirrors new (tries-from (Unit {0}) mirrors new (answer_tests limits st s found names) verdict fetched tries) k))
    where
      by_test : (o : Option Refusal) → MatchOption o ((reply ≡ Listed names) × (st'.store ≡ st.store)) (λ refusal. IsRefused st.store refusal reply st'.store) → IsNow st.store new → IsNow st'.store new
      by_test None g l = same-now st'.store new g.1 l
      by_test (Some r) g l = same-now st'.store new g.1 l
  answers-now Clone mirrors found reply st' none k a =
      taken-now IsCloned (λ m asked d. record { settled = d.keeps.settled; master = d.master; tells = d.keeps.tells_master; sound = d.keeps.sound }) (Clones limits st.store s) mirrors found reply st' k
      (λ rows new front l. let r : World Name = master_world rows in unless-now (clone_tests limits st.store r) (λ told now. (told ≡ Cloned (length r.master)) × (now ≡ after_change st.store s (master_alone r) (clone_change r))) reply st'.store new
      (λ g. subst (λ z. IsNow z new) (sym g.1) (clone-served st.store s r new l (clone-empty limits st s h.store h.outside.mirrors none) front)) l) a
  answers-now Pull mirrors found reply st' none k a =
      taken-now (IsPulled (cloned_count st.store.payloads)) (λ m asked d. record { settled = d.keeps.settled; master = d.master; tells = d.keeps.tells_master; sound = d.keeps.sound }) (Pulls limits st.store s) mirrors found reply st' k
      (λ rows new front l. let r : World Name = master_world rows in unless-now (pull_tests limits st.store r)
      (λ told now. (told ≡ Pulled (length (pulled same_name st.store.stored r).master) (length (pulled same_name st.store.stored r).others)) × (now ≡ after_flush st.store s (pulled same_name st.store.stored r))) reply st'.store new
      (λ g. subst (λ z. IsNow z new) (sym g.1) (flush-served st.store s (pulled same_name st.store.stored r) new l (_, refl))) l) a
  answers-now CountMirrors mirrors found reply st' none k a = subst IsServed (sym a.1) served
  answers-now (Drop n) mirrors found reply st' none k a = by_test (nat_lt n (length mirrors)) a
    where
      by_test : (b : Bool) → MatchBool b ((reply ≡ Dropped (length (without n mirrors))) × (st' ≡ record st { outside = record st.outside { mirrors = without n mirrors } })) ((reply ≡ Refused why.NoRemote) × (st' ≡ st)) → IsServed st'
      by_test true g = subst IsServed (sym g.1) (record { cloned = k.0; mirrors = dropped-served (cloned_count st.store.payloads) st.store.stored n mirrors k.1 })
      by_test false g = subst IsServed (sym g.1) served

  pub step-served : (verb : Verb) (reply : Reply) (st' : State) → CommandStep limits st s verb reply st' → IsServed st'
  step-served verb reply st' (verdict, mirrors, found, tries, ends) =
      by_test verdict (tried-all (MayWantMemory verb) st.outside.mirrors mirrors (tests limits st.store s verb) verdict found tries) ends
    where
      by_test : (o : Option Refusal) → (o ≡ refused_first (tests limits st.store s verb)) ⊎ Outer o
          → MatchOption o (Answers limits st s verb mirrors found reply st') (λ refusal. IsRefused st.store refusal reply st'.store × GoesOutside st.outside mirrors found st'.outside) → IsServed st'
      by_test None t a =
          answers-now verb mirrors found reply st' (not-tested limits st.store s verb t)
          (on st.outside.mirrors mirrors (tries-from (MayWantMemory verb) st.outside.mirrors mirrors (tests limits st.store s verb) verdict found tries) (served.cloned, served.mirrors)) a
      by_test (Some r) t a =
          made st' mirrors a.1.mirrors_are (same-now st'.store mirrors a.0.1
          (on st.outside.mirrors mirrors (tries-from (MayWantMemory verb) st.outside.mirrors mirrors (tests limits st.store s verb) verdict found tries) (served.cloned, served.mirrors)))
