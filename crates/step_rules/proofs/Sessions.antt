-- How a command changes its own session, and leaves the others.
use Rattle.std.proofs.Common.{◌≡◌, ◌≢◌, ◌+◌, ◌≤◌, ◌<◌, ◌⊎◌, ℕ, zero, suc, Bool, true, false, inl, inr, List, [], ◌∷◌, ◌++◌, length, nat_lt, get_or, set, replicate, Option, Some, None, refl, sym, ap, ◌∙◌, subst, arith, MatchOption, if◌then◌else◌, length-append, length-set, le_refl}
use Rattle.std.proofs.lemmas.List.{get_or-set_same, get_or-set_other}
use Rattle.std.proofs.Math.ListN.{get_or-append}
use Rattle.std.proofs.Math.Seq.{get_or-append_seam}
use Rattle.std.specs.Bool.{MatchBool}
use Rattle.id_groups.specs.Name.{Name, same_name}
use Rattle.commit_graph.specs.World.{Row, World, empty_world}
use Rattle.set_expr.specs.Expr.{Expr}
use Rattle.batch_codec.specs.Payload.{Payload}
use Rattle.change_rules.specs.declared.Limits.{Limits}
use Rattle.change_rules.specs.Strip.{stripped}
use Rattle.change_rules.specs.Pull.{pulled}
use Rattle.change_rules.specs.Rebase.{left_of}
use Rattle.change_rules.specs.Change.{flush_change, clone_change}
use Rattle.change_rules.specs.Tables.{cloned_count}
use Rattle.remote_rules.specs.Mirror.{Mirror}
use Rattle.remote_rules.specs.Known.{master_alone, master_world}
use Rattle.remote_rules.specs.Calls.{IsCloned, IsPulled}
use Rattle.remote_rules.specs.CloneData.{KnownName}
use Rattle.remote_rules.specs.declared.MirrorFault.{MirrorFault}
use Rattle.step_rules.specs.declared.Refusal.{Refusal}
use Rattle.step_rules.specs.State.{State, Stored, Session, new_session, start, session, pending_of, world_at, base_of, view_of, with_session, on_newest, with_stored}
use Rattle.step_rules.specs.Verb.{Verb, Add, Flush, Reload, Discard, Query, Count, IdOf, Status, Levels, Clone, Pull, Strip, CountMirrors, Drop}
use Rattle.step_rules.specs.Reply.{Reply, Added, Old, Listed, Dropped, Refused, Cloned, Pulled}
use Rattle.step_rules.specs.declared.Refusal.TheVariants as why
use Rattle.step_rules.specs.Worlds.{has, same_world, flush_of, after_flush, after_change, with_added}
use Rattle.step_rules.specs.Step.{IsTold, Lists, TakesFrom, Clones, Pulls, Answers, AnsweredFirst, CommandStep, GoesOutside, IsRefused, UnlessRefused, without, clone_tests, pull_tests}
use Rattle.step_rules.specs.Asking.{refusal_for}
use Rattle.commit_graph.specs.Ids.{id_in}
use Rattle.step_rules.specs.Tests.{first_some}
use Rattle.step_rules.proofs.Own.{newest_of}

-- sixteen sessions, each on a world that was stored
abbrev pub IsPlaced : Stored → Type 0
IsPlaced st = ((s : ℕ) → (session st s).base ≤ length st.past) × (length st.sessions ≡ 16)

-- what a command of a session may make of the store
abbrev pub Shape : Stored → ℕ → Stored → Type 0
Shape st s now =
    (now ≡ st)
    ⊎ (((x : Session) × (x.base ≤ length st.past) × (now ≡ with_session st s x))
    ⊎ ((new : World Name) × (payload : Payload) × (rows : List (Row Name)) × (now ≡ on_newest (with_stored st new payload) s rows)))

-- copies of the default are the default everywhere
pub copies : (n k : ℕ) (d : Session) → get_or (replicate n d) k d ≡ d
copies zero k d = refl
copies (suc n) zero d = refl
copies (suc n) (suc k) d = copies n k d

pub start-placed : (w : World Name) (payloads : List Payload) → IsPlaced (start w payloads)
start-placed w payloads = ((λ s. subst (λ (x : Session). x.base ≤ 0) (sym (copies 16 s new_session)) (le_refl _)), refl)

-- the session's world in a list of worlds, which grew at its end
pub newest-now : (st : Stored) → world_at st (length st.past) ≡ st.stored
newest-now st = get_or-append_seam st.past st.stored [] empty_world

pub world_at-stored : (st : Stored) (new : World Name) (payload : Payload) (i : ℕ) → i ≤ length st.past → world_at (with_stored st new payload) i ≡ world_at st i
world_at-stored st new payload i le = get_or-append (st.past ++ st.stored ∷ []) (new ∷ []) empty_world i
    (let e : length (st.past ++ st.stored ∷ []) ≡ length st.past + 1 = length-append st.past (st.stored ∷ []) in omega (arith, e, le))

-- a session that was changed, and the others
pub changed : (st : Stored) (s : ℕ) (x : Session) → length st.sessions ≡ 16 → s < 16 → session (with_session st s x) s ≡ x
changed st s x e lt = get_or-set_same st.sessions s x new_session (omega (arith, e, lt))

pub unchanged : (st : Stored) (s k : ℕ) (x : Session) → k ≢ s → session (with_session st s x) k ≡ session st k
unchanged st s k x ne = get_or-set_other st.sessions s k x new_session ne

pub base-changed : (st : Stored) (s : ℕ) (x : Session) → length st.sessions ≡ 16 → s < 16 → base_of (with_session st s x) s ≡ world_at st x.base
base-changed st s x e lt = ap (λ (y : Session). world_at st y.base) (changed st s x e lt)

pub pending-changed : (st : Stored) (s : ℕ) (x : Session) → length st.sessions ≡ 16 → s < 16 → pending_of (with_session st s x) s ≡ x.pending
pending-changed st s x e lt = ap (λ (y : Session). y.pending) (changed st s x e lt)

pub base-newest : (st : Stored) (s : ℕ) (rows : List (Row Name)) → length st.sessions ≡ 16 → s < 16 → base_of (on_newest st s rows) s ≡ st.stored
base-newest st s rows e lt = base-changed st s (record { base = length st.past; pending = rows }) e lt ∙ newest-now st

pub pending-newest : (st : Stored) (s : ℕ) (rows : List (Row Name)) → length st.sessions ≡ 16 → s < 16 → pending_of (on_newest st s rows) s ≡ rows
pending-newest st s rows e lt = pending-changed st s (record { base = length st.past; pending = rows }) e lt

-- after a change the session is on its world, or on the stored one that is the same
pub change-has : (st : Stored) (s : ℕ) (new : World Name) (payload : Payload) → length st.sessions ≡ 16 → s < 16
    → (base_of (after_change st s new payload) s ≡ newest_of st.stored new) × (pending_of (after_change st s new payload) s ≡ [])
change-has st s new payload e lt = by_test (same_world new st.stored)
  where
    by_test : (b : Bool) → (base_of (if b then on_newest st s [] else on_newest (with_stored st new payload) s []) s ≡ (if b then st.stored else new))
        × (pending_of (if b then on_newest st s [] else on_newest (with_stored st new payload) s []) s ≡ [])
    by_test true = (base-newest st s [] e lt, pending-newest st s [] e lt)
    by_test false = (base-newest (with_stored st new payload) s [] e lt, pending-newest (with_stored st new payload) s [] e lt)

newest-bound : (st : Stored) → length st.past ≤ length (st.past ++ st.stored ∷ [])
newest-bound st = let e : length (st.past ++ st.stored ∷ []) ≡ length st.past + 1 = length-append st.past (st.stored ∷ []) in omega (arith, e)

-- a session of a changed list, by its number
with-placed : (st : Stored) (s : ℕ) (x : Session) → IsPlaced st → x.base ≤ length st.past → IsPlaced (with_session st s x)
with-placed st s x h le = ((λ k. set-bound st.sessions s k h.0), length-set st.sessions s x ∙ h.1)
  where
    set-bound : (xs : List Session) (i k : ℕ) → ((j : ℕ) → (get_or xs j new_session).base ≤ length st.past) → (get_or (set xs i x) k new_session).base ≤ length st.past
    set-bound [] i k g = g k
    set-bound (y ∷ xs) zero zero g = le
    set-bound (y ∷ xs) zero (suc k) g = g (suc k)
    set-bound (y ∷ xs) (suc i) zero g = g zero
    set-bound (y ∷ xs) (suc i) (suc k) g = set-bound xs i k (λ j. g (suc j))

stored-placed : (st : Stored) (new : World Name) (payload : Payload) → IsPlaced st → IsPlaced (with_stored st new payload)
stored-placed st new payload h = ((λ s. let a = h.0 s in let b = newest-bound st in omega (arith, a, b)), h.1)

pub shape-placed : (st : Stored) (s : ℕ) (now : Stored) → IsPlaced st → Shape st s now → IsPlaced now
shape-placed st s now h (inl e) = subst IsPlaced (sym e) h
shape-placed st s now h (inr (inl (x, le, e))) = subst IsPlaced (sym e) (with-placed st s x h le)
shape-placed st s now h (inr (inr (new, payload, rows, e))) =
    subst IsPlaced (sym e) (with-placed (with_stored st new payload) s (record { base = length (st.past ++ st.stored ∷ []); pending = rows }) (stored-placed st new payload h) (le_refl _))

-- the other sessions keep what they have
pub shape-others : (st : Stored) (s : ℕ) (now : Stored) → IsPlaced st → Shape st s now → (k : ℕ) → k ≢ s → (base_of now k ≡ base_of st k) × (pending_of now k ≡ pending_of st k)
shape-others st s now h (inl e) k ne = (ap (λ z. base_of z k) e, ap (λ z. pending_of z k) e)
shape-others st s now h (inr (inl (x, le, e))) k ne =
    let same = unchanged st s k x ne in
    (ap (λ z. base_of z k) e ∙ ap (λ (y : Session). world_at st y.base) same, ap (λ z. pending_of z k) e ∙ ap (λ (y : Session). y.pending) same)
shape-others st s now h (inr (inr (new, payload, rows, e))) k ne =
    let newest : Session = record { base = length (st.past ++ st.stored ∷ []); pending = rows } in
    let same = unchanged (with_stored st new payload) s k newest ne in (
      ap (λ z. base_of z k) e ∙ ap (λ (y : Session). world_at (with_stored st new payload) y.base) same ∙ world_at-stored st new payload (session st k).base (h.0 k),
      ap (λ z. pending_of z k) e ∙ ap (λ (y : Session). y.pending) same,
    )

pub change-shape : (st : Stored) (s : ℕ) (new : World Name) (payload : Payload) → Shape st s (after_change st s new payload)
change-shape st s new payload = by_test (same_world new st.stored)
  where
    by_test : (b : Bool) → Shape st s (if b then on_newest st s [] else on_newest (with_stored st new payload) s [])
    by_test true = inr (inl (record { base = length st.past; pending = [] }, le_refl _, refl))
    by_test false = inr (inr (new, payload, [], refl))

to-shape : (st : Stored) (s : ℕ) (now that : Stored) → now ≡ that → Shape st s that → Shape st s now
to-shape st s now that e h = subst (Shape st s) (sym e) h

module _ (st : Stored) (s : ℕ) (h : IsPlaced st) where
  told-shape : (verb : Verb) (reply : Reply) (now : Stored) → IsTold st s verb reply now → Shape st s now
  told-shape (Add name parents) reply now t = by_test (has (view_of st s) name) t
    where
      by_test : (b : Bool) → MatchBool b ((reply ≡ Old (id_in same_name (view_of st s) name)) × (now ≡ st))
          ((reply ≡ Added (id_in same_name (view_of (with_added st s name parents) s) name)) × (now ≡ with_added st s name parents)) → Shape st s now
      by_test true g = inl g.1
      by_test false g = to-shape st s now (with_added st s name parents) g.1 (inr (inl (record { base = (session st s).base; pending = pending_of st s ++ record { name = name; parents = parents } ∷ [] }, h.0 s, refl)))
  told-shape (Flush heads) reply now t = to-shape st s now _ t.1 (change-shape st s (flush_of st s heads) (flush_change st.stored (flush_of st s heads)))
  told-shape (Strip names) reply now t = to-shape st s now _ t.1 (change-shape st s (stripped same_name st.stored names) (flush_change st.stored (stripped same_name st.stored names)))
  told-shape Reload reply now t = to-shape st s now _ t.1 (inr (inl (record { base = length st.past; pending = left_of same_name st.stored (pending_of st s) }, le_refl _, refl)))
  told-shape Discard reply now t = to-shape st s now _ t.1 (inr (inl (record { base = (session st s).base; pending = [] }, h.0 s, refl)))
  told-shape (Count e) reply now t = inl t.3
  told-shape (IdOf name) reply now t = inl t.1
  told-shape Status reply now t = inl t.1
  told-shape Levels reply now t = inl t.1
  told-shape (Query e) reply now t = absurd t
  told-shape Clone reply now t = absurd t
  told-shape Pull reply now t = absurd t
  told-shape CountMirrors reply now t = absurd t
  told-shape (Drop k) reply now t = absurd t

  unless-shape : (refusals : List (Option Refusal)) (Goes : Reply → Stored → Type 0) (reply : Reply) (now : Stored) → (Goes reply now → Shape st s now) → UnlessRefused refusals st Goes reply now → Shape st s now
  unless-shape refusals Goes reply now f (inl g) = by_test (first_some refusals) g
    where
      by_test : (o : Option Refusal) → MatchOption o (Goes reply now) (λ refusal. IsRefused st refusal reply now) → Shape st s now
      by_test None g = f g
      by_test (Some r) g = inl g.1
  unless-shape refusals Goes reply now f (inr m) = inl m.1

takes-shape : (Does : Mirror → Mirror → Type 0) (Makes : World Name → Reply → Stored → Type 0) (st : State) (s : ℕ) (mirrors : List Mirror) (found : List KnownName) (reply : Reply) (st' : State)
    → ((r : World Name) → Makes r reply st'.store → Shape st.store s st'.store) → TakesFrom Does Makes st mirrors found reply st' → Shape st.store s st'.store
takes-shape Does Makes st s mirrors found reply st' f t = by_end t.0 t.4
  where
    by_end : (end : Option MirrorFault) → MatchOption end ((rows : List (Row Name)) × AnsweredFirst t.1 rows × Makes (master_world rows) reply st'.store) (λ fault. IsRefused st.store (refusal_for fault) reply st'.store) → Shape st.store s st'.store
    by_end None g = f (master_world g.0) g.2
    by_end (Some x) g = inl g.1

module _ (limits : Limits) (st : State) (s : ℕ) (h : IsPlaced st.store) where
  lists-shape : (e : Expr Name) (mirrors : List Mirror) (found : List KnownName) (reply : Reply) (st' : State) → Lists limits st s e mirrors found reply st' → Shape st.store s st'.store
  lists-shape e mirrors found reply st' a = by_test a.2 a.7
    where
      by_test : (o : Option Refusal) → MatchOption o ((reply ≡ Listed a.0) × (st'.store ≡ st.store)) (λ refusal. IsRefused st.store refusal reply st'.store) → Shape st.store s st'.store
      by_test None g = inl g.1
      by_test (Some r) g = inl g.1

  clone-shape : (r : World Name) (reply : Reply) (now : Stored) → Clones limits st.store s r reply now → Shape st.store s now
  clone-shape r reply now = unless-shape st.store s h (clone_tests limits st.store r)
      (λ reply st'. (reply ≡ Cloned (length r.master)) × (st' ≡ after_change st.store s (master_alone r) (clone_change r))) reply now
      (λ g. to-shape st.store s now _ g.1 (change-shape st.store s (master_alone r) (clone_change r)))

  pull-shape : (r : World Name) (reply : Reply) (now : Stored) → Pulls limits st.store s r reply now → Shape st.store s now
  pull-shape r reply now =
      let new = pulled same_name st.store.stored r in
      unless-shape st.store s h (pull_tests limits st.store r)
      (λ reply st'. (reply ≡ Pulled (length new.master) (length new.others)) × (st' ≡ after_flush st.store s new)) reply now
      (λ g. to-shape st.store s now _ g.1 (change-shape st.store s (pulled same_name st.store.stored r) (flush_change st.store.stored (pulled same_name st.store.stored r))))

  answers-shape : (verb : Verb) (mirrors : List Mirror) (found : List KnownName) (reply : Reply) (st' : State) → Answers limits st s verb mirrors found reply st' → Shape st.store s st'.store
  answers-shape (Add name parents) mirrors found reply st' a = told-shape st.store s h (Add name parents) reply st'.store a.0
  answers-shape (Flush heads) mirrors found reply st' a = told-shape st.store s h (Flush heads) reply st'.store a.0
  answers-shape (Strip names) mirrors found reply st' a = told-shape st.store s h (Strip names) reply st'.store a.0
  answers-shape Reload mirrors found reply st' a = told-shape st.store s h Reload reply st'.store a.0
  answers-shape Discard mirrors found reply st' a = told-shape st.store s h Discard reply st'.store a.0
  answers-shape (Query e) mirrors found reply st' a = lists-shape e mirrors found reply st' a
  answers-shape (Count e) mirrors found reply st' a = told-shape st.store s h (Count e) reply st'.store a.0
  answers-shape (IdOf name) mirrors found reply st' a = told-shape st.store s h (IdOf name) reply st'.store a.0
  answers-shape Status mirrors found reply st' a = told-shape st.store s h Status reply st'.store a.0
  answers-shape Levels mirrors found reply st' a = told-shape st.store s h Levels reply st'.store a.0
  answers-shape Clone mirrors found reply st' a = takes-shape IsCloned (Clones limits st.store s) st s mirrors found reply st' (λ r. clone-shape r reply st'.store) a
  answers-shape Pull mirrors found reply st' a =
      takes-shape (IsPulled (cloned_count st.store.payloads)) (Pulls limits st.store s) st s mirrors found reply st' (λ r. pull-shape r reply st'.store) a
  answers-shape CountMirrors mirrors found reply st' a = inl (ap (λ (z : State). z.store) a.1)
  answers-shape (Drop k) mirrors found reply st' a = by_test (nat_lt k (length mirrors)) a
    where
      by_test : (b : Bool) → MatchBool b ((reply ≡ Dropped (length (without k mirrors))) × (st' ≡ record st { outside = record st.outside { mirrors = without k mirrors } })) ((reply ≡ Refused why.NoRemote) × (st' ≡ st))
          → Shape st.store s st'.store
      by_test true g = inl (ap (λ (z : State). z.store) g.1)
      by_test false g = inl (ap (λ (z : State). z.store) g.1)

  pub command-shape : (verb : Verb) (reply : Reply) (st' : State) → CommandStep limits st s verb reply st' → Shape st.store s st'.store
  command-shape verb reply st' (verdict, mirrors, found, tries, ends) = by_test verdict ends
    where
      by_test : (o : Option Refusal) → MatchOption o (Answers limits st s verb mirrors found reply st') (λ refusal. IsRefused st.store refusal reply st'.store × GoesOutside st.outside mirrors found st'.outside)
          → Shape st.store s st'.store
      by_test None a = answers-shape verb mirrors found reply st' a
      by_test (Some r) a = inl a.0.1
