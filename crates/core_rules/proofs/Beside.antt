-- A command of a session does the same beside other sessions.
use Rattle.std.proofs.Common.{◌≡◌, ◌≢◌, ◌<◌, ℕ, Bool, true, false, inl, inr, List, [], ◌∷◌, ◌++◌, length, nat_lt, Option, Some, None, refl, sym, ap, ◌∙◌, subst, MatchOption, if◌then◌else◌, length-set}
use Rattle.std.specs.Prelude.{⊤}
use Rattle.std.proofs.lemmas.List.{get_or-set_same, get_or-set_other}
use Rattle.std.specs.Bool.{MatchBool}
use Rattle.id_groups.specs.Name.{Name, same_name}
use Rattle.commit_graph.specs.World.{Row, World, with_pending}
use Rattle.commit_graph.specs.Graph.{graph_of}
use Rattle.commit_graph.specs.Ids.{id_in}
use Rattle.set_expr.specs.Expr.{Expr}
use Rattle.set_expr.specs.Meaning.{IsAnswer}
use Rattle.batch_codec.specs.Payload.{Payload}
use Rattle.change_rules.specs.declared.Limits.{Limits}
use Rattle.change_rules.specs.Rebase.{left_of}
use Rattle.change_rules.specs.Flush.{flushed}
use Rattle.change_rules.specs.Strip.{stripped}
use Rattle.change_rules.specs.Pull.{pulled}
use Rattle.change_rules.specs.Tables.{cloned_count}
use Rattle.change_rules.specs.Change.{flush_change, clone_change}
use Rattle.remote_rules.specs.CloneData.{KnownName}
use Rattle.remote_rules.specs.Mirror.{Mirror}
use Rattle.remote_rules.specs.Known.{master_alone, master_world}
use Rattle.remote_rules.specs.Calls.{IsCloned, IsPulled}
use Rattle.remote_rules.specs.declared.MirrorFault.{MirrorFault}
use Rattle.step_rules.specs.declared.Refusal.{Refusal}
use Rattle.step_rules.specs.declared.Refusal.TheVariants as why
use Rattle.step_rules.specs.State.{State, Stored, Outside, Session, new_session, session, view_of, world_at, with_session, on_newest, with_stored}
use Rattle.step_rules.specs.Verb.{Verb, Add, Flush, Reload, Discard, Query, Count, IdOf, Status, Levels, Clone, Pull, Strip, CountMirrors, Drop}
use Rattle.step_rules.specs.Reply.{Reply, Added, Old, Flushed, Pulled, Stripped, Cloned, Reloaded, Discarded, Listed, Identified, Sizes, LevelSizes, Dropped, Refused}
use Rattle.step_rules.specs.Worlds.{has, same_world, after_flush, after_change, with_added}
use Rattle.step_rules.specs.Tests.{Test, first_some, tests}
use Rattle.step_rules.specs.Asking.{refusal_for, TriesAll}
use Rattle.step_rules.specs.Step.{IsTold, Lists, TakesFrom, Clones, Pulls, Answers, AnsweredFirst, CommandStep, GoesOutside, IsRefused, UnlessRefused, MayWantMemory, answer_tests, clone_tests, pull_tests, without}
use Rattle.segment_rules.specs.Levels.{level_counts_of}
use Rattle.commit_graph.specs.Ids.{parent_ids}

-- the store with these sessions
abbrev pub beside : Stored → List Session → Stored
beside st l = record { past = st.past; stored = st.stored; payloads = st.payloads; sessions = l }

-- what a command makes of a store
pub data Effect : Type 0 where
  Leaves : Effect
  Puts : Session → Effect
  Adds : World Name → Payload → Effect

abbrev pub applied : Effect → Stored → ℕ → Stored
applied Leaves st s = st
applied (Puts x) st s = with_session st s x
applied (Adds new payload) st s = on_newest (with_stored st new payload) s []

abbrev change_effect : Stored → World Name → Payload → Effect
change_effect st new payload = if same_world new st.stored then Puts (record { base = length st.past; pending = [] }) else Adds new payload

applied-change : (st : Stored) (s : ℕ) (new : World Name) (payload : Payload) → applied (change_effect st new payload) st s ≡ after_change st s new payload
applied-change st s new payload = by_test (same_world new st.stored)
  where
    by_test : (b : Bool) → applied (if b then Puts (record { base = length st.past; pending = [] }) else Adds new payload) st s ≡ (if b then on_newest st s [] else on_newest (with_stored st new payload) s [])
    by_test true = refl
    by_test false = refl

-- ---- what it makes of the sessions

pub length-applied : (ef : Effect) (st : Stored) (s : ℕ) → length (applied ef st s).sessions ≡ length st.sessions
length-applied Leaves st s = refl
length-applied (Puts x) st s = length-set st.sessions s x
length-applied (Adds new payload) st s = length-set st.sessions s (record { base = length (st.past ++ st.stored ∷ []); pending = [] })

pub applied-other : (ef : Effect) (st : Stored) (s k : ℕ) → k ≢ s → session (applied ef st s) k ≡ session st k
applied-other Leaves st s k ne = refl
applied-other (Puts x) st s k ne = get_or-set_other st.sessions s k x new_session ne
applied-other (Adds new payload) st s k ne = get_or-set_other st.sessions s k (record { base = length (st.past ++ st.stored ∷ []); pending = [] }) new_session ne

-- the rest is the same beside other sessions
pub applied-beside : (ef : Effect) (c : Stored) (l : List Session) (s t : ℕ) → applied ef (beside c l) t ≡ beside (applied ef c s) (applied ef (beside c l) t).sessions
applied-beside Leaves c l s t = refl
applied-beside (Puts x) c l s t = refl
applied-beside (Adds new payload) c l s t = refl

pub applied-own : (ef : Effect) (c : Stored) (l : List Session) (s t : ℕ) → s < length c.sessions → t < length l → session (beside c l) t ≡ session c s
    → session (applied ef (beside c l) t) t ≡ session (applied ef c s) s
applied-own Leaves c l s t lts ltt e = e
applied-own (Puts x) c l s t lts ltt e = get_or-set_same l t x new_session ltt ∙ sym (get_or-set_same c.sessions s x new_session lts)
applied-own (Adds new payload) c l s t lts ltt e =
    let x : Session = record { base = length (c.past ++ c.stored ∷ []); pending = [] } in
    get_or-set_same l t x new_session ltt ∙ sym (get_or-set_same c.sessions s x new_session lts)

-- ---- the tests

-- the store with this session alone
abbrev alone : Stored → Session → Stored
alone st x = record { past = st.past; stored = st.stored; payloads = st.payloads; sessions = x ∷ [] }

tests-alone : (limits : Limits) (st : Stored) (s : ℕ) (verb : Verb) → tests limits st s verb ≡ tests limits (alone st (session st s)) 0 verb
tests-alone limits st s (Add name parents) = refl
tests-alone limits st s (Flush heads) = refl
tests-alone limits st s Reload = refl
tests-alone limits st s Discard = refl
tests-alone limits st s (Query e) = refl
tests-alone limits st s (Count e) = refl
tests-alone limits st s (IdOf name) = refl
tests-alone limits st s Status = refl
tests-alone limits st s Levels = refl
tests-alone limits st s Clone = refl
tests-alone limits st s Pull = refl
tests-alone limits st s (Strip names) = refl
tests-alone limits st s CountMirrors = refl
tests-alone limits st s (Drop k) = refl

-- ---- the command

module _ (limits : Limits) (st : State) (l : List Session) (s t : ℕ) (e : session (beside st.store l) t ≡ session st.store s) (lts : s < length st.store.sessions) (ltt : t < length l) where
  abbrev c : Stored
  c = st.store

  abbrev j : Stored
  j = beside st.store l

  abbrev there : State
  there = record { store = beside st.store l; outside = st.outside }

  abbrev after : Effect → Outside → State
  after ef out = record { store = applied ef (beside st.store l) t; outside = out }

  -- one effect on both, and what holds beside the others
  abbrev Goes : Stored → (Stored → Type 0) → Type 0
  Goes now P = (ef : Effect) × (now ≡ applied ef st.store s) × P (applied ef (beside st.store l) t)

  -- what a session sees
  abbrev seen : Session → World Name
  seen x = with_pending (world_at st.store x.base) x.pending

  abbrev with_row : Name → List Name → Session → Session
  with_row name parents x = record { base = x.base; pending = x.pending ++ record { name = name; parents = parents } ∷ [] }

  tests-there : (verb : Verb) → tests limits j t verb ≡ tests limits c s verb
  tests-there verb = tests-alone limits j t verb ∙ ap (λ (x : Session). tests limits (alone c x) 0 verb) e ∙ sym (tests-alone limits c s verb)

  changes : (F : Session → World Name) (payload : World Name → Payload) (R : World Name → Reply) (reply : Reply) (now : Stored)
      → (reply ≡ R (F (session c s))) × (now ≡ after_change c s (F (session c s)) (payload (F (session c s))))
      → Goes now (λ z. (reply ≡ R (F (session j t))) × (z ≡ after_change j t (F (session j t)) (payload (F (session j t)))))
  changes F payload R reply now g =
      let new = F (session c s) in
      let ef = change_effect c new (payload new) in (
        ef,
        g.1 ∙ sym (applied-change c s new (payload new)),
        subst (λ (x : Session). (reply ≡ R (F x)) × (applied ef j t ≡ after_change j t (F x) (payload (F x)))) (sym e) (g.0, applied-change j t new (payload new)),
      )

  puts : (X : Session → Session) (R : Session → Reply) (reply : Reply) (now : Stored) → (reply ≡ R (session c s)) × (now ≡ with_session c s (X (session c s)))
      → Goes now (λ z. (reply ≡ R (session j t)) × (z ≡ with_session j t (X (session j t))))
  puts X R reply now g =
      (Puts (X (session c s)), g.1, subst (λ (x : Session). (reply ≡ R x) × (with_session j t (X (session c s)) ≡ with_session j t (X x))) (sym e) (g.0, refl))

  stays : (P : Session → Type 0) (now : Stored) → P (session c s) × (now ≡ c) → Goes now (λ z. P (session j t) × (z ≡ j))
  stays P now g = (Leaves, g.1, (subst P (sym e) g.0, refl))

  added-here : (name : Name) (parents : List Name) → view_of (with_added c s name parents) s ≡ seen (with_row name parents (session c s))
  added-here name parents = ap seen (get_or-set_same c.sessions s (with_row name parents (session c s)) new_session lts)

  added-there : (name : Name) (parents : List Name) → view_of (with_added j t name parents) t ≡ seen (with_row name parents (session j t))
  added-there name parents = ap seen (get_or-set_same l t (with_row name parents (session j t)) new_session ltt)

  abbrev AddedThere : Name → List Name → Reply → Stored → Bool → Type 0
  AddedThere name parents reply z b =
      MatchBool b
      ((reply ≡ Old (id_in same_name (view_of j t) name)) × (z ≡ j))
      ((reply ≡ Added (id_in same_name (view_of (with_added j t name parents) t) name)) × (z ≡ with_added j t name parents))

  added : (name : Name) (parents : List Name) (reply : Reply) (now : Stored) (b : Bool) → has (view_of c s) name ≡ b
      → MatchBool b ((reply ≡ Old (id_in same_name (view_of c s) name)) × (now ≡ c)) ((reply ≡ Added (id_in same_name (view_of (with_added c s name parents) s) name)) × (now ≡ with_added c s name parents))
      → Goes now (λ z. AddedThere name parents reply z (has (view_of j t) name))
  added name parents reply now true h g = (
    Leaves,
    g.1,
    subst (AddedThere name parents reply j) (sym (ap (λ (x : Session). has (seen x) name) e ∙ h))
        (subst (λ (x : Session). reply ≡ Old (id_in same_name (seen x) name)) (sym e) g.0, refl),
  )
  added name parents reply now false h g = (
    Puts (with_row name parents (session c s)),
    g.1,
    subst (AddedThere name parents reply (with_session j t (with_row name parents (session c s)))) (sym (ap (λ (x : Session). has (seen x) name) e ∙ h)) (
      g.0 ∙ ap (λ w. Added (id_in same_name w name)) (added-here name parents ∙ sym (added-there name parents ∙ ap (λ (x : Session). seen (with_row name parents x)) e)),
      ap (λ (x : Session). with_session j t (with_row name parents x)) (sym e),
    ),
  )

  told : (verb : Verb) (reply : Reply) (now : Stored) → IsTold c s verb reply now → Goes now (λ z. IsTold j t verb reply z)
  told (Add name parents) reply now g = added name parents reply now (has (view_of c s) name) refl g
  told (Flush heads) reply now g =
      changes (λ x. flushed same_name (with_pending c.stored (left_of same_name c.stored x.pending)) heads) (λ w. flush_change c.stored w) (λ w. Flushed (length w.master) (length w.others)) reply now g
  told (Strip names) reply now g = changes (λ x. stripped same_name c.stored names) (λ w. flush_change c.stored w) (λ w. Stripped (length w.master) (length w.others)) reply now g
  told Reload reply now g =
      puts (λ x. record { base = length c.past; pending = left_of same_name c.stored x.pending }) (λ x. Reloaded (length (left_of same_name c.stored x.pending))) reply now g
  told Discard reply now g = puts (λ x. record { base = x.base; pending = [] }) (λ x. Discarded (length x.pending)) reply now g
  told (Count q) reply now g = (Leaves, g.3, (g.0, subst (λ (x : Session). IsAnswer (graph_of same_name (seen x)) q g.0) (sym e) g.1, g.2, refl))
  told (IdOf name) reply now g = stays (λ x. reply ≡ Identified (id_in same_name (seen x) name)) now g
  told Status reply now g = stays (λ x. reply ≡ Sizes (length (world_at c x.base).master) (length (world_at c x.base).others) (length x.pending)) now g
  told Levels reply now g = stays (λ x. reply ≡ LevelSizes (level_counts_of (parent_ids same_name c.stored c.stored.master))) now g
  told (Query q) reply now g = absurd g
  told Clone reply now g = absurd g
  told Pull reply now g = absurd g
  told CountMirrors reply now g = absurd g
  told (Drop k) reply now g = absurd g

  -- a query
  lists : (q : Expr Name) (mirrors : List Mirror) (found : List KnownName) (reply : Reply) (st' : State) → Lists limits st s q mirrors found reply st'
      → (ef : Effect) × (st'.store ≡ applied ef c s) × Lists limits there t q mirrors found reply (after ef st'.outside)
  lists q mirrors found reply st' (names, is, verdict, new, fetched, tries, out, ends) =
      let same = by_end verdict ends in (
        Leaves,
        same.0,
        (
          names,
          subst (λ (x : Session). IsAnswer (graph_of same_name (seen x)) q names) (sym e) is,
          verdict,
          new,
          fetched,
          subst (λ (x : Session). TriesAll ⊤ mirrors (answer_tests limits (record { store = alone c x; outside = st.outside }) 0 found names) verdict new fetched) (sym e) tries,
          out,
          same.1,
        ),
      )
    where
      by_end : (o : Option Refusal) → MatchOption o ((reply ≡ Listed names) × (st'.store ≡ st.store)) (λ refusal. IsRefused st.store refusal reply st'.store)
          → (st'.store ≡ st.store) × MatchOption o ((reply ≡ Listed names) × (beside st.store l ≡ beside st.store l)) (λ refusal. IsRefused (beside st.store l) refusal reply (beside st.store l))
      by_end None g = (g.1, (g.0, refl))
      by_end (Some r) g = (g.1, (g.0, refl))

  unless : (refusals : List (Option Refusal)) (Here There : Reply → Stored → Type 0) (reply : Reply) (now : Stored) → (Here reply now → Goes now (There reply))
      → UnlessRefused refusals c Here reply now → Goes now (UnlessRefused refusals j There reply)
  unless refusals Here There reply now f (inr g) = (Leaves, g.1, inr (g.0, refl))
  unless refusals Here There reply now f (inl g) = let b = by_test (first_some refusals) g in (b.0, b.1, inl b.2)
    where
      by_test : (o : Option Refusal) → MatchOption o (Here reply now) (λ refusal. IsRefused st.store refusal reply now)
          → (ef : Effect) × (now ≡ applied ef st.store s) × MatchOption o (There reply (applied ef (beside st.store l) t)) (λ refusal. IsRefused (beside st.store l) refusal reply (applied ef (beside st.store l) t))
      by_test None g = f g
      by_test (Some r) g = (Leaves, g.1, (g.0, refl))

  takes-from : (Asks : Mirror → Mirror → Type 0) (Here There : World Name → Reply → Stored → Type 0)
      → ((r : World Name) (reply : Reply) (now : Stored) → Here r reply now → Goes now (There r reply))
      → (mirrors : List Mirror) (found : List KnownName) (reply : Reply) (st' : State) → TakesFrom Asks Here st mirrors found reply st'
      → (ef : Effect) × (st'.store ≡ applied ef c s) × TakesFrom Asks There there mirrors found reply (after ef st'.outside)
  takes-from Asks Here There f mirrors found reply st' (end, new, asked, out, ends) = let b = by_end end ends in (b.0, b.1, (end, new, asked, out, b.2))
    where
      by_end : (o : Option MirrorFault)
          → MatchOption o ((rows : List (Row Name)) × AnsweredFirst new rows × Here (master_world rows) reply st'.store) (λ fault. IsRefused st.store (refusal_for fault) reply st'.store)
          → (ef : Effect) × (st'.store ≡ applied ef st.store s)
          × MatchOption o ((rows : List (Row Name)) × AnsweredFirst new rows × There (master_world rows) reply (applied ef (beside st.store l) t))
          (λ fault. IsRefused (beside st.store l) (refusal_for fault) reply (applied ef (beside st.store l) t))
      by_end None g = let m = f (master_world g.0) reply st'.store g.2 in (m.0, m.1, (g.0, g.1, m.2))
      by_end (Some fault) g = (Leaves, g.1, (g.0, refl))

  clones : (r : World Name) (reply : Reply) (now : Stored) → Clones limits c s r reply now → Goes now (Clones limits j t r reply)
  clones r reply now g =
      unless (clone_tests limits c r)
      (λ told z. (told ≡ Cloned (length r.master)) × (z ≡ after_change c s (master_alone r) (clone_change r)))
      (λ told z. (told ≡ Cloned (length r.master)) × (z ≡ after_change j t (master_alone r) (clone_change r))) reply now
      (λ h. changes (λ x. master_alone r) (λ w. clone_change r) (λ w. Cloned (length r.master)) reply now h) g

  pulls : (r : World Name) (reply : Reply) (now : Stored) → Pulls limits c s r reply now → Goes now (Pulls limits j t r reply)
  pulls r reply now g =
      let new = pulled same_name c.stored r in
      unless (pull_tests limits c r)
      (λ told z. (told ≡ Pulled (length new.master) (length new.others)) × (z ≡ after_flush c s new))
      (λ told z. (told ≡ Pulled (length new.master) (length new.others)) × (z ≡ after_flush j t new)) reply now
      (λ h. changes (λ x. pulled same_name c.stored r) (λ w. flush_change c.stored w) (λ w. Pulled (length w.master) (length w.others)) reply now h) g

  abbrev GoesAll : Verb → List Mirror → List KnownName → Reply → State → Type 0
  GoesAll verb mirrors found reply st' = (ef : Effect) × (st'.store ≡ applied ef c s) × Answers limits there t verb mirrors found reply (after ef st'.outside)

  only-told : (verb : Verb) (mirrors : List Mirror) (found : List KnownName) (reply : Reply) (st' : State) → IsTold c s verb reply st'.store × GoesOutside st.outside mirrors found st'.outside
      → (ef : Effect) × (st'.store ≡ applied ef c s) × (IsTold j t verb reply (applied ef j t) × GoesOutside st.outside mirrors found st'.outside)
  only-told verb mirrors found reply st' a = let g = told verb reply st'.store a.0 in (g.0, g.1, (g.2, a.1))

  answers : (verb : Verb) (mirrors : List Mirror) (found : List KnownName) (reply : Reply) (st' : State) → Answers limits st s verb mirrors found reply st' → GoesAll verb mirrors found reply st'
  answers (Add name parents) mirrors found reply st' a = only-told (Add name parents) mirrors found reply st' a
  answers (Flush heads) mirrors found reply st' a = only-told (Flush heads) mirrors found reply st' a
  answers (Strip names) mirrors found reply st' a = only-told (Strip names) mirrors found reply st' a
  answers Reload mirrors found reply st' a = only-told Reload mirrors found reply st' a
  answers Discard mirrors found reply st' a = only-told Discard mirrors found reply st' a
  answers (Count q) mirrors found reply st' a = only-told (Count q) mirrors found reply st' a
  answers (IdOf name) mirrors found reply st' a = only-told (IdOf name) mirrors found reply st' a
  answers Status mirrors found reply st' a = only-told Status mirrors found reply st' a
  answers Levels mirrors found reply st' a = only-told Levels mirrors found reply st' a
  answers (Query q) mirrors found reply st' a = lists q mirrors found reply st' a
  answers Clone mirrors found reply st' a = takes-from IsCloned (Clones limits c s) (Clones limits j t) clones mirrors found reply st' a
  answers Pull mirrors found reply st' a = takes-from (IsPulled (cloned_count c.payloads)) (Pulls limits c s) (Pulls limits j t) pulls mirrors found reply st' a
  answers CountMirrors mirrors found reply st' a =
      (Leaves, ap (λ (z : State). z.store) a.1, (a.0, ap (λ (o : Outside). after Leaves o) (ap (λ (z : State). z.outside) a.1)))
  answers (Drop k) mirrors found reply st' a = by_test (nat_lt k (length mirrors)) a
    where
      by_test : (b : Bool)
          → MatchBool b ((reply ≡ Dropped (length (without k mirrors))) × (st' ≡ record st { outside = record st.outside { mirrors = without k mirrors } })) ((reply ≡ Refused why.NoRemote) × (st' ≡ st))
          → (ef : Effect) × (st'.store ≡ applied ef st.store s)
          × MatchBool b ((reply ≡ Dropped (length (without k mirrors))) × (after ef st'.outside ≡ record there { outside = record there.outside { mirrors = without k mirrors } }))
          ((reply ≡ Refused why.NoRemote) × (after ef st'.outside ≡ there))
      by_test true g = (Leaves, ap (λ (z : State). z.store) g.1, (g.0, ap (λ (o : Outside). after Leaves o) (ap (λ (z : State). z.outside) g.1)))
      by_test false g = (Leaves, ap (λ (z : State). z.store) g.1, (g.0, ap (λ (o : Outside). after Leaves o) (ap (λ (z : State). z.outside) g.1)))

  pub step-beside : (verb : Verb) (reply : Reply) (st' : State) → CommandStep limits st s verb reply st'
      → (ef : Effect) × (st'.store ≡ applied ef c s) × CommandStep limits there t verb reply (after ef st'.outside)
  step-beside verb reply st' (verdict, mirrors, found, tries, ends) =
      let b = by_test verdict ends in (
        b.0,
        b.1,
        (
          verdict,
          mirrors,
          found,
          subst (λ (ts : List Test). TriesAll (MayWantMemory verb) st.outside.mirrors ts verdict mirrors found) (sym (tests-there verb)) tries,
          b.2,
        ),
      )
    where
      by_test : (o : Option Refusal)
          → MatchOption o (Answers limits st s verb mirrors found reply st') (λ refusal. IsRefused st.store refusal reply st'.store × GoesOutside st.outside mirrors found st'.outside)
          → (ef : Effect) × (st'.store ≡ applied ef st.store s)
          × MatchOption o (Answers limits there t verb mirrors found reply (after ef st'.outside))
          (λ refusal. IsRefused (beside st.store l) refusal reply (applied ef (beside st.store l) t) × GoesOutside st.outside mirrors found st'.outside)
      by_test None a = answers verb mirrors found reply st' a
      by_test (Some r) a = (Leaves, a.0.1, ((a.0.0, refl), a.1))
