-- A session's step, told by what the session has.
use Rattle.std.proofs.Common.{◌≡◌, ◌<◌, not, ◌⊎◌, ℕ, Bool, true, false, inl, inr, List, [], ◌∷◌, ◌++◌, length, map, nat_lt, Option, Some, None, refl, sym, ap, ap₂, ◌∙◌, subst, MatchOption, true≢false, is_some, if◌then◌else◌, append_assoc, append-nil}
use Rattle.std.proofs.lemmas.List.{map-append}
use Rattle.std.specs.Bool.{MatchBool}
use Rattle.std.specs.Option.{option_map}
use Rattle.id_groups.specs.Name.{Name, same_name}
use Rattle.commit_graph.specs.World.{Row, World, rows_of, with_pending}
use Rattle.commit_graph.specs.Ids.{id_in}
use Rattle.set_expr.specs.Expr.{Expr, commits_in}
use Rattle.change_rules.specs.declared.Limits.{Limits}
use Rattle.change_rules.specs.declared.Limit.TheVariants as limit
use Rattle.change_rules.specs.Strip.{stripped}
use Rattle.change_rules.specs.Pull.{pulled}
use Rattle.change_rules.specs.Rebase.{left_of, first_conflict, first_lost}
use Rattle.change_rules.specs.Change.{flush_change, clone_change}
use Rattle.change_rules.specs.Tables.{cloned_count}
use Rattle.remote_rules.specs.CloneData.{KnownName}
use Rattle.remote_rules.specs.Mirror.{Mirror}
use Rattle.remote_rules.specs.Known.{master_alone, master_world}
use Rattle.remote_rules.specs.Calls.{IsCloned, IsPulled}
use Rattle.remote_rules.specs.declared.MirrorFault.{MirrorFault}
use Rattle.remote_rules.specs.declared.MirrorFault.TheVariants as fault
use Rattle.step_rules.specs.declared.Refusal.{Refusal}
use Rattle.step_rules.specs.declared.Refusal.TheVariants as why
use Rattle.step_rules.specs.State.{State, Stored, Session, session, pending_of, base_of, view_of, with_pending_rows, on_newest}
use Rattle.step_rules.specs.Verb.{Verb, Add, Flush, Reload, Discard, Query, Count, IdOf, Status, Levels, Clone, Pull, Strip, CountMirrors, Drop}
use Rattle.step_rules.specs.Reply.{Reply, Added, Old, Listed, Dropped, Cloned, Pulled, Refused}
use Rattle.step_rules.specs.Worlds.{has, flush_of, after_flush, after_change, log_after, with_added}
use Rattle.step_rules.specs.Tests.{Test, plain, named, looked_up, unknown, full, pending_test, rebase_tests, not_strippable, first_some, refused_first, refuse_if, tests}
use Rattle.step_rules.specs.Asking.{refusal_for}
use Rattle.step_rules.specs.Step.{IsTold, Lists, TakesFrom, Clones, Pulls, AnsweredFirst, Answers, CommandStep, GoesOutside, IsRefused, UnlessRefused, MayWantMemory, answer_tests, without}
use Rattle.step_rules.specs.Isolation.{IsOwn, first_master, master_in_front, reads_stored, takes_master}
use Rattle.step_rules.proofs.Trying.{Outer, tried-all}
use Rattle.step_rules.proofs.Own.{refusals, newest_of, taking, Has, OwnAnswer, OwnStep}
use Rattle.step_rules.proofs.Sessions.{IsPlaced, base-changed, pending-changed, base-newest, pending-newest, change-has}

first-same : {X : Type 0} (xs ys zs : List (Option X)) → first_some ys ≡ first_some zs → first_some (xs ++ ys) ≡ first_some (xs ++ zs)
first-same [] ys zs e = e
first-same (None ∷ xs) ys zs e = first-same xs ys zs e
first-same (Some x ∷ xs) ys zs e = refl

named-refusal : (asked : Bool) (finds : List KnownName) (refusal : Option Refusal) → (named asked finds refusal).refusal ≡ refusal
named-refusal true finds refusal = refl
named-refusal false finds refusal = refl

-- the test for a full log, where there is one
abbrev pub log_part : Limits → Stored → ℕ → Verb → List (Option Refusal)
log_part limits st s (Flush heads) = full limit.Log limits.log (log_after st (flush_of st s heads) (flush_change st.stored (flush_of st s heads))) ∷ []
log_part limits st s (Strip names) = full limit.Log limits.log (log_after st (stripped same_name st.stored names) (flush_change st.stored (stripped same_name st.stored names))) ∷ []
log_part limits st s _ = []

module _ (st : Stored) (s : ℕ) where
  looked : (w : World Name) (refuse : Name → Option Refusal) (names : List Name) → map (λ (t : Test). t.refusal) (map (looked_up st s w refuse) names) ≡ map refuse names
  looked w refuse [] = refl
  looked w refuse (name ∷ names) = ap₂ (λ a b. a ∷ b) (named-refusal _ _ (refuse name)) (looked w refuse names)

  -- looking up pending names refuses nothing
  pending-free : (rows : List (Row Name)) (ys : List (Option Refusal)) → first_some (map (λ (t : Test). t.refusal) (map (pending_test st s) rows) ++ ys) ≡ first_some ys
  pending-free [] ys = refl
  pending-free (row ∷ rows) ys =
      ap (λ o. first_some (o ∷ map (λ (t : Test). t.refusal) (map (pending_test st s) rows) ++ ys)) (named-refusal _ _ None) ∙ pending-free rows ys

  rebase-first : (ys : List Test) (zs : List (Option Refusal)) → map (λ (t : Test). t.refusal) ys ≡ zs
      → first_some (map (λ (t : Test). t.refusal) (rebase_tests st s ++ ys))
      ≡ first_some (option_map why.Conflict (first_conflict same_name st.stored (pending_of st s)) ∷ option_map why.Lost (first_lost same_name st.stored (pending_of st s)) ∷ zs)
  rebase-first ys zs e =
      let behind : List Test = plain (option_map why.Conflict (first_conflict same_name st.stored (pending_of st s))) ∷ plain (option_map why.Lost (first_lost same_name st.stored (pending_of st s))) ∷ [] in
      ap (λ l. first_some (map (λ (t : Test). t.refusal) l)) (append_assoc (map (pending_test st s) (pending_of st s)) behind ys)
      ∙ ap first_some (map-append (λ (t : Test). t.refusal) (map (pending_test st s) (pending_of st s)) (behind ++ ys))
      ∙ pending-free (pending_of st s) (map (λ (t : Test). t.refusal) (behind ++ ys))
      ∙ ap (λ l. first_some (option_map why.Conflict (first_conflict same_name st.stored (pending_of st s)) ∷ option_map why.Lost (first_lost same_name st.stored (pending_of st s)) ∷ l)) e

  -- the first refusal is that of the plain tests, or for a full log
  pub first-tests : (limits : Limits) (verb : Verb) → refused_first (tests limits st s verb) ≡ first_some (refusals limits (base_of st s) (pending_of st s) st.stored verb ++ log_part limits st s verb)
  first-tests limits (Add name parents) =
      let more : List Test = plain _ ∷ plain _ ∷ plain _ ∷ [] in
      ap₂ (λ a b. first_some (a ∷ b)) (named-refusal _ _ None)
      (map-append (λ (t : Test). t.refusal) (map (looked_up st s (base_of st s) (unknown (view_of st s))) parents) more
      ∙ ap (λ l. l ++ map (λ (t : Test). t.refusal) more) (looked (base_of st s) (unknown (view_of st s)) parents))
      ∙ ap first_some (sym (append-nil (refusals limits (base_of st s) (pending_of st s) st.stored (Add name parents))))
  first-tests limits (Flush heads) =
      let lookups : List Test = map (looked_up st s st.stored (unknown (with_pending st.stored (pending_of st s)))) heads in
      let new = flush_of st s heads in
      let more : List Test = plain (full limit.Others limits.others (length new.others)) ∷ plain (full limit.Master limits.master (length new.master)) ∷ plain (full limit.Log limits.log (log_after st new (flush_change st.stored new))) ∷ [] in
      ap (λ l. first_some (map (λ (t : Test). t.refusal) l)) (append_assoc lookups (rebase_tests st s) more)
      ∙ ap first_some (map-append (λ (t : Test). t.refusal) lookups (rebase_tests st s ++ more)
      ∙ ap (λ l. l ++ map (λ (t : Test). t.refusal) (rebase_tests st s ++ more)) (looked st.stored (unknown (with_pending st.stored (pending_of st s))) heads))
      ∙ first-same (map (unknown (with_pending st.stored (pending_of st s))) heads) _ _ (rebase-first more (map (λ (t : Test). t.refusal) more) refl)
      ∙ ap first_some (sym (append_assoc (map (unknown (with_pending st.stored (pending_of st s))) heads) _ (log_part limits st s (Flush heads))))
  first-tests limits Reload = ap (λ l. first_some (map (λ (t : Test). t.refusal) l)) (sym (append-nil (rebase_tests st s))) ∙ rebase-first [] [] refl
  first-tests limits (Query e) = ap first_some (looked (base_of st s) (unknown (view_of st s)) (commits_in e) ∙ sym (append-nil (map (unknown (view_of st s)) (commits_in e))))
  first-tests limits (Count e) = ap first_some (looked (base_of st s) (unknown (view_of st s)) (commits_in e) ∙ sym (append-nil (map (unknown (view_of st s)) (commits_in e))))
  first-tests limits (IdOf name) = ap (λ o. first_some (o ∷ [])) (named-refusal _ _ (unknown (view_of st s) name))
  first-tests limits (Strip names) =
      let lookups : List Test = map (looked_up st s st.stored (not_strippable st.stored)) names in
      let new = stripped same_name st.stored names in
      let empty = refuse_if (not (nat_lt 0 (length (rows_of new)))) (why.Emptied (length (rows_of st.stored))) in
      let more : List Test = plain empty ∷ plain (full limit.Log limits.log (log_after st new (flush_change st.stored new))) ∷ [] in
      ap (λ l. first_some (refuse_if (nat_lt 0 (length (pending_of st s))) (why.Pending (length (pending_of st s))) ∷ l))
      (map-append (λ (t : Test). t.refusal) lookups more
      ∙ ap (λ l. l ++ map (λ (t : Test). t.refusal) more) (looked st.stored (not_strippable st.stored) names)
      ∙ sym (append_assoc (map (not_strippable st.stored) names) (empty ∷ []) (log_part limits st s (Strip names))))
  first-tests limits Clone = refl
  first-tests limits Pull = refl
  first-tests limits Discard = refl
  first-tests limits Status = refl
  first-tests limits Levels = refl
  first-tests limits CountMirrors = refl
  first-tests limits (Drop k) = refl

-- a reply for its own sake is no refusal for the mirrors or for memory
not-outer : (r : Refusal) (reply : Reply) → reply ≡ Refused r → IsOwn reply → Outer (Some r) → ⊥
not-outer why.NoRemote reply e own o = subst IsOwn e own
not-outer (why.Remote n) reply e own o = subst IsOwn e own
not-outer why.Memory reply e own o = subst IsOwn e own
not-outer (why.Unknown n) reply e own o = o
not-outer (why.Twice n) reply e own o = o
not-outer (why.Differs n) reply e own o = o
not-outer (why.Conflict n) reply e own o = o
not-outer (why.Full what n) reply e own o = o
not-outer (why.Answer n) reply e own o = o
not-outer (why.NotEmpty m n) reply e own o = o
not-outer (why.Pending n) reply e own o = o
not-outer (why.MismatchPath n k) reply e own o = o
not-outer (why.MismatchNames n k) reply e own o = o
not-outer (why.MismatchClone n) reply e own o = o
not-outer (why.MismatchRow n) reply e own o = o
not-outer (why.InMaster n) reply e own o = o
not-outer (why.Lost n) reply e own o = o
not-outer (why.Emptied n) reply e own o = o

-- nor one for a full log
own-first : (rs : List (Option Refusal)) (n most : ℕ) (P Q : Type 0) (reply : Reply) → IsOwn reply
    → MatchOption (first_some (rs ++ full limit.Log most n ∷ [])) P (λ r. (reply ≡ Refused r) × Q) → MatchOption (first_some rs) P (λ r. (reply ≡ Refused r) × Q)
own-first [] n most P Q reply own g = by_test (nat_lt most n) g
  where
    by_test : (b : Bool) → MatchOption (first_some ((if b then Some (why.Full limit.Log most) else None) ∷ [])) P (λ r. (reply ≡ Refused r) × Q) → P
    by_test true g = absurd (subst IsOwn g.0 own)
    by_test false g = g
own-first (None ∷ rs) n most P Q reply own g = own-first rs n most P Q reply own g
own-first (Some r ∷ rs) n most P Q reply own g = g

match-option : {X : Type 0} (o : Option X) (P Q : Type 0) (F G : X → Type 0) → (P → Q) → ((x : X) → F x → G x) → MatchOption o P F → MatchOption o Q G
match-option None P Q F G f g h = f h
match-option (Some x) P Q F G f g h = g x h

in-front : (mirrors : List Mirror) (rows : List (Row Name)) → AnsweredFirst mirrors rows → first_master mirrors ≡ Some rows
in-front [] rows a = absurd a
in-front (m ∷ more) rows a = a

module _ (limits : Limits) (st : State) (s : ℕ) (h : IsPlaced st.store) (lt : s < 16) (reply : Reply) (own : IsOwn reply) (st' : State) where
  abbrev b : World Name
  b = base_of st.store s

  abbrev p : List (Row Name)
  p = pending_of st.store s

  abbrev w : World Name
  w = st.store.stored

  abbrev b' : World Name
  b' = base_of st'.store s

  abbrev p' : List (Row Name)
  p' = pending_of st'.store s

  has-same : st'.store ≡ st.store → Has b p b' p'
  has-same e = (ap (λ z. base_of z s) e, ap (λ z. pending_of z s) e)

  has-of : (that : Stored) (c : World Name) (q : List (Row Name)) → st'.store ≡ that → base_of that s ≡ c → pending_of that s ≡ q → Has c q b' p'
  has-of that c q e f g = (ap (λ z. base_of z s) e ∙ f, ap (λ z. pending_of z s) e ∙ g)

  has-change : (new : World Name) (payload : _) → st'.store ≡ after_change st.store s new payload → Has (newest_of w new) [] b' p'
  has-change new payload e = let c = change-has st.store s new payload h.1 lt in has-of (after_change st.store s new payload) (newest_of w new) [] e c.0 c.1

  has-rows : (rows : List (Row Name)) → st'.store ≡ with_pending_rows st.store s rows → Has b rows b' p'
  has-rows rows e =
      let x : Session = record { base = (session st.store s).base; pending = rows } in
      has-of (with_pending_rows st.store s rows) b rows e (base-changed st.store s x h.1 lt) (pending-changed st.store s x h.1 lt)

  told-own : (m : Option (List (Row Name))) (verb : Verb) → IsTold st.store s verb reply st'.store → OwnAnswer limits b p w m verb reply b' p'
  told-own m (Add name parents) t = by_test (has (view_of st.store s) name) t
    where
      rows : List (Row Name)
      rows = p ++ record { name = name; parents = parents } ∷ []

      x : Session
      x = record { base = (session st.store s).base; pending = p ++ record { name = name; parents = parents } ∷ [] }

      by_test : (c : Bool)
          → MatchBool c ((reply ≡ Old (id_in same_name (view_of st.store s) name)) × (st'.store ≡ st.store))
          ((reply ≡ Added (id_in same_name (view_of (with_added st.store s name parents) s) name)) × (st'.store ≡ with_added st.store s name parents))
          → MatchBool c ((reply ≡ Old (id_in same_name (with_pending b p) name)) × Has b p b' p')
          ((reply ≡ Added (id_in same_name (with_pending b (p ++ record { name = name; parents = parents } ∷ [])) name)) × Has b (p ++ record { name = name; parents = parents } ∷ []) b' p')
      by_test true g = (g.0, has-same g.1)
      by_test false g = (
        g.0 ∙ ap₂ (λ c q. Added (id_in same_name (with_pending c q) name)) (base-changed st.store s x h.1 lt) (pending-changed st.store s x h.1 lt),
        has-rows (p ++ record { name = name; parents = parents } ∷ []) g.1,
      )
  told-own m (Flush heads) t = (t.0, has-change (flush_of st.store s heads) (flush_change w (flush_of st.store s heads)) t.1)
  told-own m (Strip names) t = (t.0, has-change (stripped same_name w names) (flush_change w (stripped same_name w names)) t.1)
  told-own m Reload t = (t.0, has-of (on_newest st.store s (left_of same_name w p)) w (left_of same_name w p) t.1 (base-newest st.store s (left_of same_name w p) h.1 lt) (pending-newest st.store s (left_of same_name w p) h.1 lt))
  told-own m Discard t = (t.0, has-rows [] t.1)
  told-own m (Count e) t = (t.0, t.1, t.2, has-same t.3)
  told-own m (IdOf name) t = (t.0, has-same t.1)
  told-own m Status t = (t.0, has-same t.1)
  told-own m Levels t = (t.0, has-same t.1)
  told-own m (Query e) t = absurd t
  told-own m Clone t = absurd t
  told-own m Pull t = absurd t
  told-own m CountMirrors t = absurd t
  told-own m (Drop k) t = absurd t

  lists-own : (m : Option (List (Row Name))) (e : Expr Name) (mirrors : List Mirror) (found : List KnownName) → Lists limits st s e mirrors found reply st' → OwnAnswer limits b p w m (Query e) reply b' p'
  lists-own m e mirrors found (names, is, verdict, new, fetched, tries, out, ends) =
      let r = by_test (refuse_if (nat_lt limits.answer (length names)) (why.Answer (length names))) verdict (tried-all (Unit {0}) mirrors new (answer_tests limits st s found names) verdict fetched tries) ends in
      (names, is, r.0, r.1)
    where
      by_test : (o v : Option Refusal) → (v ≡ first_some (o ∷ None ∷ [])) ⊎ Outer v
          → MatchOption v ((reply ≡ Listed names) × (st'.store ≡ st.store)) (λ refusal. IsRefused st.store refusal reply st'.store)
          → MatchOption o (reply ≡ Listed names) (λ r. reply ≡ Refused r) × Has b p b' p'
      by_test None None t g = (g.0, has-same g.1)
      by_test None (Some r) (inl f) g = absurd (true≢false (ap is_some f))
      by_test None (Some r) (inr o) g = absurd (not-outer r reply g.0 own o)
      by_test (Some x) None (inl f) g = absurd (true≢false (sym (ap is_some f)))
      by_test (Some x) None (inr o) g = absurd o
      by_test (Some x) (Some r) (inl f) g =
          let k = subst (λ v. MatchOption v ((reply ≡ Listed names) × (st'.store ≡ st.store)) (λ refusal. IsRefused st.store refusal reply st'.store)) f g in (k.0, has-same k.1)
      by_test (Some x) (Some r) (inr o) g = absurd (not-outer r reply g.0 own o)

  -- what was taken of a mirror that answered
  taken-own : (verb : Verb) (Does : Mirror → Mirror → Type 0) (Makes : World Name → Reply → Stored → Type 0) (Gives : List (Row Name) → Type 0) (mirrors : List Mirror) (found : List KnownName)
      → ((r : World Name) → Makes r reply st'.store → Gives r.master) → TakesFrom Does Makes st mirrors found reply st' → (rows : List (Row Name)) × (master_in_front st' ≡ Some rows) × Gives rows
  taken-own verb Does Makes Gives mirrors found f (end, new, asks, out, ends) = by_end end ends
    where
      by_end : (o : Option MirrorFault) → MatchOption o ((rows : List (Row Name)) × AnsweredFirst new rows × Makes (master_world rows) reply st'.store) (λ fault. IsRefused st.store (refusal_for fault) reply st'.store)
          → (rows : List (Row Name)) × (master_in_front st' ≡ Some rows) × Gives rows
      by_end None g = (g.0, ap first_master out.mirrors_are ∙ in-front new g.0 g.1, f (master_world g.0) g.2)
      by_end (Some fault.NoRemote) g = absurd (not-outer why.NoRemote reply g.0 own tt)
      by_end (Some (fault.AllFailed n)) g = absurd (not-outer (why.Remote n) reply g.0 own tt)
      by_end (Some fault.Memory) g = absurd (not-outer why.Memory reply g.0 own tt)

  unless-own : (rs : List (Option Refusal)) (n : ℕ) (Goes : Reply → Stored → Type 0) (P : Type 0) → (Goes reply st'.store → P)
      → UnlessRefused (rs ++ full limit.Log limits.log n ∷ []) st.store Goes reply st'.store → MatchOption (first_some rs) P (λ r. (reply ≡ Refused r) × Has b p b' p')
  unless-own rs n Goes P f (inl g) =
      own-first rs n limits.log P (Has b p b' p') reply own
      (match-option (first_some (rs ++ full limit.Log limits.log n ∷ [])) (Goes reply st'.store) P (λ refusal. IsRefused st.store refusal reply st'.store) (λ r. (reply ≡ Refused r) × Has b p b' p')
      f (λ r k. (k.0, has-same k.1)) g)
  unless-own rs n Goes P f (inr m) = absurd (not-outer why.Memory reply m.0 own tt)

  answers-own : (verb : Verb) (mirrors : List Mirror) (found : List KnownName) → Answers limits st s verb mirrors found reply st' → OwnAnswer limits b p w (master_in_front st') verb reply b' p'
  answers-own (Add name parents) mirrors found a = told-own (master_in_front st') (Add name parents) a.0
  answers-own (Flush heads) mirrors found a = told-own (master_in_front st') (Flush heads) a.0
  answers-own (Strip names) mirrors found a = told-own (master_in_front st') (Strip names) a.0
  answers-own Reload mirrors found a = told-own (master_in_front st') Reload a.0
  answers-own Discard mirrors found a = told-own (master_in_front st') Discard a.0
  answers-own (Query e) mirrors found a = lists-own (master_in_front st') e mirrors found a
  answers-own (Count e) mirrors found a = told-own (master_in_front st') (Count e) a.0
  answers-own (IdOf name) mirrors found a = told-own (master_in_front st') (IdOf name) a.0
  answers-own Status mirrors found a = told-own (master_in_front st') Status a.0
  answers-own Levels mirrors found a = told-own (master_in_front st') Levels a.0
  answers-own Clone mirrors found a =
      taken-own Clone IsCloned (Clones limits st.store s)
      (λ rows. MatchOption (first_some (taking limits w rows Clone)) ((reply ≡ Cloned (length rows)) × Has (newest_of w (master_world rows)) [] b' p') (λ r. (reply ≡ Refused r) × Has b p b' p'))
      mirrors found
      (λ r. unless-own (taking limits w r.master Clone) (log_after st.store (master_alone r) (clone_change r))
      (λ told now. (told ≡ Cloned (length r.master)) × (now ≡ after_change st.store s (master_alone r) (clone_change r)))
      ((reply ≡ Cloned (length r.master)) × Has (newest_of w (master_world r.master)) [] b' p')
      (λ g. (g.0, has-change (master_alone r) (clone_change r) g.1)))
      a
  answers-own Pull mirrors found a =
      taken-own Pull (IsPulled (cloned_count st.store.payloads)) (Pulls limits st.store s)
      (λ rows. MatchOption (first_some (taking limits w rows Pull))
      ((reply ≡ Pulled (length (pulled same_name w (master_world rows)).master) (length (pulled same_name w (master_world rows)).others)) × Has (newest_of w (pulled same_name w (master_world rows))) [] b' p')
      (λ r. (reply ≡ Refused r) × Has b p b' p'))
      mirrors found
      (λ r. unless-own (taking limits w r.master Pull) (log_after st.store (pulled same_name w r) (flush_change w (pulled same_name w r)))
      (λ told now. (told ≡ Pulled (length (pulled same_name w r).master) (length (pulled same_name w r).others)) × (now ≡ after_flush st.store s (pulled same_name w r)))
      ((reply ≡ Pulled (length (pulled same_name w (master_world r.master)).master) (length (pulled same_name w (master_world r.master)).others)) × Has (newest_of w (pulled same_name w (master_world r.master))) [] b' p')
      (λ g. (g.0, has-change (pulled same_name w r) (flush_change w (pulled same_name w r)) g.1)))
      a
  answers-own CountMirrors mirrors found a = has-same (ap (λ (z : State). z.store) a.1)
  answers-own (Drop k) mirrors found a = by_test (nat_lt k (length mirrors)) a
    where
      by_test : (c : Bool) → MatchBool c ((reply ≡ Dropped (length (without k mirrors))) × (st' ≡ record st { outside = record st.outside { mirrors = without k mirrors } })) ((reply ≡ Refused why.NoRemote) × (st' ≡ st)) → Has b p b' p'
      by_test true g = has-same (ap (λ (z : State). z.store) g.1)
      by_test false g = has-same (ap (λ (z : State). z.store) g.1)

  -- the command's tests and its answer, where it is answered for its own sake
  pub command-own : (verb : Verb) → CommandStep limits st s verb reply st' → OwnStep limits b p w (master_in_front st') verb reply b' p'
  command-own verb (verdict, mirrors, found, tries, ends) =
      by_log verb (subst (λ o. MatchOption o (OwnAnswer limits b p w (master_in_front st') verb reply b' p') (λ r. (reply ≡ Refused r) × Has b p b' p'))
      (first-tests st.store s limits verb) (by_test verdict (tried-all (MayWantMemory verb) st.outside.mirrors mirrors (tests limits st.store s verb) verdict found tries) ends))
    where
      by_test : (v : Option Refusal) → (v ≡ refused_first (tests limits st.store s verb)) ⊎ Outer v
          → MatchOption v (Answers limits st s verb mirrors found reply st') (λ refusal. IsRefused st.store refusal reply st'.store × GoesOutside st.outside mirrors found st'.outside)
          → MatchOption (refused_first (tests limits st.store s verb)) (OwnAnswer limits b p w (master_in_front st') verb reply b' p') (λ r. (reply ≡ Refused r) × Has b p b' p')
      by_test None (inl e) g = subst (λ o. MatchOption o (OwnAnswer limits b p w (master_in_front st') verb reply b' p') (λ r. (reply ≡ Refused r) × Has b p b' p')) e (answers-own verb mirrors found g)
      by_test (Some r) (inl e) g = subst (λ o. MatchOption o (OwnAnswer limits b p w (master_in_front st') verb reply b' p') (λ r. (reply ≡ Refused r) × Has b p b' p')) e (g.0.0, has-same g.0.1)
      by_test None (inr o) g = absurd o
      by_test (Some r) (inr o) g = absurd (not-outer r reply g.0.0 own o)

      no-log : (verb : Verb) → log_part limits st.store s verb ≡ []
          → MatchOption (first_some (refusals limits b p w verb ++ log_part limits st.store s verb)) (OwnAnswer limits b p w (master_in_front st') verb reply b' p') (λ r. (reply ≡ Refused r) × Has b p b' p')
          → OwnStep limits b p w (master_in_front st') verb reply b' p'
      no-log verb e g = subst (λ l. MatchOption (first_some l) (OwnAnswer limits b p w (master_in_front st') verb reply b' p') (λ r. (reply ≡ Refused r) × Has b p b' p'))
          (ap (λ l. refusals limits b p w verb ++ l) e ∙ append-nil (refusals limits b p w verb)) g

      by_log : (verb : Verb) → MatchOption (first_some (refusals limits b p w verb ++ log_part limits st.store s verb)) (OwnAnswer limits b p w (master_in_front st') verb reply b' p') (λ r. (reply ≡ Refused r) × Has b p b' p')
          → OwnStep limits b p w (master_in_front st') verb reply b' p'
      by_log (Flush heads) g = own-first (refusals limits b p w (Flush heads)) _ limits.log _ (Has b p b' p') reply own g
      by_log (Strip names) g = own-first (refusals limits b p w (Strip names)) _ limits.log _ (Has b p b' p') reply own g
      by_log (Add name parents) g = no-log (Add name parents) refl g
      by_log Reload g = no-log Reload refl g
      by_log Discard g = no-log Discard refl g
      by_log (Query e) g = no-log (Query e) refl g
      by_log (Count e) g = no-log (Count e) refl g
      by_log (IdOf name) g = no-log (IdOf name) refl g
      by_log Status g = no-log Status refl g
      by_log Levels g = no-log Levels refl g
      by_log Clone g = no-log Clone refl g
      by_log Pull g = no-log Pull refl g
      by_log CountMirrors g = no-log CountMirrors refl g
      by_log (Drop k) g = no-log (Drop k) refl g

-- a command that doesn't look at the stored world is told the same over another one
pub own-elsewhere : (limits : Limits) (b : World Name) (p : List (Row Name)) (v w : World Name) (m : Option (List (Row Name))) (verb : Verb) (reply : Reply) (b' : World Name) (p' : List (Row Name))
    → (reads_stored verb ≡ true → v ≡ w) → OwnStep limits b p v m verb reply b' p' → OwnStep limits b p w m verb reply b' p'
own-elsewhere limits b p v w m (Add name parents) reply b' p' f h = h
own-elsewhere limits b p v w m (Flush heads) reply b' p' f h = subst (λ z. OwnStep limits b p z m (Flush heads) reply b' p') (f refl) h
own-elsewhere limits b p v w m (Strip names) reply b' p' f h = subst (λ z. OwnStep limits b p z m (Strip names) reply b' p') (f refl) h
own-elsewhere limits b p v w m Reload reply b' p' f h = subst (λ z. OwnStep limits b p z m Reload reply b' p') (f refl) h
own-elsewhere limits b p v w m Discard reply b' p' f h = h
own-elsewhere limits b p v w m (Query e) reply b' p' f h = h
own-elsewhere limits b p v w m (Count e) reply b' p' f h = h
own-elsewhere limits b p v w m (IdOf name) reply b' p' f h = h
own-elsewhere limits b p v w m Status reply b' p' f h = h
own-elsewhere limits b p v w m Levels reply b' p' f h = subst (λ z. OwnStep limits b p z m Levels reply b' p') (f refl) h
own-elsewhere limits b p v w m Clone reply b' p' f h = subst (λ z. OwnStep limits b p z m Clone reply b' p') (f refl) h
own-elsewhere limits b p v w m Pull reply b' p' f h = subst (λ z. OwnStep limits b p z m Pull reply b' p') (f refl) h
own-elsewhere limits b p v w m CountMirrors reply b' p' f h = h
own-elsewhere limits b p v w m (Drop k) reply b' p' f h = h

-- and by another mirror's master, where the command takes none or is refused before
pub own-other : (limits : Limits) (b : World Name) (p : List (Row Name)) (w : World Name) (m n : Option (List (Row Name))) (verb : Verb) (reply : Reply) (b' : World Name) (p' : List (Row Name))
    → (takes_master verb ≡ true → first_some (refusals limits b p w verb) ≡ None → m ≡ n) → OwnStep limits b p w m verb reply b' p' → OwnStep limits b p w n verb reply b' p'
own-other limits b p w m n verb reply b' p' f h = by_test (first_some (refusals limits b p w verb)) refl h
  where
    answer : (verb : Verb) → (takes_master verb ≡ true → m ≡ n) → OwnAnswer limits b p w m verb reply b' p' → OwnAnswer limits b p w n verb reply b' p'
    answer (Add name parents) e a = a
    answer (Flush heads) e a = a
    answer (Strip names) e a = a
    answer Reload e a = a
    answer Discard e a = a
    answer (Query x) e a = a
    answer (Count x) e a = a
    answer (IdOf name) e a = a
    answer Status e a = a
    answer Levels e a = a
    answer Clone e a = (a.0, sym (e refl) ∙ a.1, a.2)
    answer Pull e a = (a.0, sym (e refl) ∙ a.1, a.2)
    answer CountMirrors e a = a
    answer (Drop k) e a = a

    by_test : (o : Option Refusal) → first_some (refusals limits b p w verb) ≡ o
        → MatchOption o (OwnAnswer limits b p w m verb reply b' p') (λ r. (reply ≡ Refused r) × Has b p b' p')
        → MatchOption (first_some (refusals limits b p w verb)) (OwnAnswer limits b p w n verb reply b' p') (λ r. (reply ≡ Refused r) × Has b p b' p')
    by_test None e a = subst (λ o. MatchOption o (OwnAnswer limits b p w n verb reply b' p') (λ r. (reply ≡ Refused r) × Has b p b' p')) (sym e) (answer verb (λ t. f t e) a)
    by_test (Some r) e a = subst (λ o. MatchOption o (OwnAnswer limits b p w n verb reply b' p') (λ r. (reply ≡ Refused r) × Has b p b' p')) (sym e) a

-- a clone and a pull have no test for the log among their first ones
pub taking-tests : (limits : Limits) (st : Stored) (s : ℕ) (verb : Verb) → takes_master verb ≡ true
    → refused_first (tests limits st s verb) ≡ first_some (refusals limits (base_of st s) (pending_of st s) st.stored verb)
taking-tests limits st s Clone e = refl
taking-tests limits st s Pull e = refl
taking-tests limits st s (Add name parents) e = absurd (true≢false (sym e))
taking-tests limits st s (Flush heads) e = absurd (true≢false (sym e))
taking-tests limits st s (Strip names) e = absurd (true≢false (sym e))
taking-tests limits st s Reload e = absurd (true≢false (sym e))
taking-tests limits st s Discard e = absurd (true≢false (sym e))
taking-tests limits st s (Query x) e = absurd (true≢false (sym e))
taking-tests limits st s (Count x) e = absurd (true≢false (sym e))
taking-tests limits st s (IdOf name) e = absurd (true≢false (sym e))
taking-tests limits st s Status e = absurd (true≢false (sym e))
taking-tests limits st s Levels e = absurd (true≢false (sym e))
taking-tests limits st s CountMirrors e = absurd (true≢false (sym e))
taking-tests limits st s (Drop k) e = absurd (true≢false (sym e))
