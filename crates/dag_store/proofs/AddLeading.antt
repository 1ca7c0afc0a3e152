-- An add is a step of the state.
use Rattle.std.proofs.Common.{◌≡◌, ◌<◌, ◌+◌, ℕ, zero, suc, Bool, true, false, List, [], ◌∷◌, ◌++◌, take, Some, None, Result, Ok, Err, set, refl, sym, ap, ap₂, subst, ◌∙◌, append_assoc}
use Rattle.std.specs.Prelude.{OnErr}
use Rattle.std.specs.Result.{OnOk}
use Rattle.std.specs.Bool.{MatchBool}
use Rattle.id_groups.specs.Name.{Name, same_name}
use Rattle.commit_graph.specs.World.{Row, World, with_pending}
use Rattle.commit_graph.specs.Ids.{id_in}
use Rattle.gated_log.specs.Held.{Held}
use Rattle.name_map.specs.Added.{payloads_of}
use Rattle.change_rules.specs.declared.Limits.{Limits}
use Rattle.payload_tables.specs.Kept.{PlainTables}
use Rattle.remote_rules.specs.Mirror.{Mirror}
use Rattle.lazy_names.specs.Cache.{PlainCache}
use Rattle.step_rules.specs.declared.Refusal.{Refusal}
use Rattle.step_rules.specs.State.{State, Stored, session, pending_of, base_of, view_of}
use Rattle.step_rules.specs.Verb.{IsVerb, Add}
use Rattle.step_rules.specs.Reply.{Added as IsAdded, Old as IsOld, Refused}
use Rattle.step_rules.specs.Worlds.{has, with_added}
use Rattle.step_rules.specs.Tests.{plain, unknown, twice, differs, tests}
use Rattle.step_rules.specs.Asking.{TriesAll}
use Rattle.step_rules.proofs.Sessions.{base-changed, pending-changed}
use Rattle.store_queries.specs.declared.adding.Added.{Added}
use Rattle.store_queries.specs.declared.adding.Added.TheVariants.{New, Old}
use Rattle.store_plans.specs.Sessions.{PlainSession, base_added}
use Rattle.dag_store.specs.Kept.{PlainStore, IsKept, session_at, no_cache, sixteen}
use Rattle.dag_store.specs.Stands.{IsAnswerable, Stands, StandsBeside}
use Rattle.store_plans.specs.Looking.{AreRight, AsksAlike, IsSoundCache, refusal_in, seen_tests, IsSeen}
use Rattle.store_queries.specs.Adding.{AddsRow, add_tests, room_test}
use Rattle.dag_store.specs.Steps.{Leads, add_reply}
use Rattle.store_queries.proofs.AddingWorlds.{pending-named}
use Rattle.dag_store.proofs.Leading.{leads-to, next-goes, payloads-are, right-base, session-seen, sound-of, test-same, tests-same}
use Rattle.dag_store.proofs.Standing.{stands-with}

-- a session that is put back
pub set-back : (xs : List PlainSession) (s : ℕ) → set xs s (session_at xs s) ≡ xs
set-back [] s = refl
set-back (x ∷ xs) zero = refl
set-back (x ∷ xs) (suc s) = ap (λ l. x ∷ l) (set-back xs s)

by-has : (b c : Bool) (P Q : Type 0) → b ≡ c → MatchBool c P Q → MatchBool b P Q
by-has b c P Q e h = subst (λ z. MatchBool z P Q) (sym e) h

pub on-err-any : {X F : Type 0} {P : Type 0} (r : Result X F) → P → OnErr r P
on-err-any (Ok v) p = tt
on-err-any (Err e) p = p

pub on-ok-any : {X F : Type 0} {P : Type 0} (r : Result X F) → P → OnOk r P
on-ok-any (Ok v) p = p
on-ok-any (Err e) p = tt

module _ (log : Held) (tables : PlainTables) (sessions : List PlainSession) (limits : Limits) (k : IsKept log tables sessions limits) (s : ℕ) (lt : s < sixteen) (a b : PlainCache) (old new : List Mirror) (began : ℕ)
    (name : Name) (parents : List Name) (good : IsVerb (Add name parents)) (r : Result Added Refusal) (next : PlainSession) where
  abbrev pub had : PlainCache → PlainStore
  had c = record { log = log; sessions = sessions; limits = limits; cache = c }

  abbrev pub has_now : ℕ → PlainStore
  has_now n = record { log = log; sessions = set sessions n next; limits = limits; cache = b }

  abbrev Adds : PlainSession → World Name → List (Row Name) → Type 0
  Adds x w rows = AddsRow limits.pending x (payloads_of (base_added k.added x)) w rows name parents old new a b r next

  tests-are : (st : Stored) (h : Stands began (record { log = log; sessions = sessions; limits = limits; cache = no_cache }) st) → tests limits st s (Add name parents)
      ≡ add_tests (payloads_of (base_added k.added (session_at sessions s))) (base_of st s) (pending_of st s) name parents ++ room_test limits.pending (base_of st s) (pending_of st s) name ∷ []
  tests-are st h =
      let room = room_test limits.pending (base_of st s) (pending_of st s) name in
      let own = plain (twice [] parents) ∷ plain (differs (view_of st s) name parents) ∷ [] in
      ap₂ (λ t l. t ∷ l) (test-same log tables sessions limits k began st h s lt (λ _. None) name)
      (ap (λ l. l ++ (own ++ room ∷ [])) (tests-same log tables sessions limits k began st h s lt (unknown (view_of st s)) parents)
      ∙ sym (append_assoc (seen_tests (payloads_of (base_added k.added (session_at sessions s))) (base_of st s) (pending_of st s) parents) own (room ∷ [])))

  add-asks : (st : Stored) (h : Stands began (record { log = log; sessions = sessions; limits = limits; cache = no_cache }) st) → Adds (session_at sessions s) (base_of st s) (pending_of st s)
      → AsksAlike (take (began + (session st s).base) st.payloads) (base_of st s) (tests limits st s (Add name parents)) old new (refusal_in r)
  add-asks st h f =
      subst (λ p. AsksAlike p (base_of st s) (tests limits st s (Add name parents)) old new (refusal_in r)) (payloads-are log tables sessions limits k began st h s lt)
      (subst (λ t. AsksAlike (payloads_of (base_added k.added (session_at sessions s))) (base_of st s) t old new (refusal_in r)) (sym (tests-are st h)) (f.tried.gained, f.tried.told))

  add-leads : (st : State) (h : StandsBeside began (record { log = log; sessions = sessions; limits = limits; cache = a }) old st) → IsAnswerable st → IsSoundCache b
      → AddsRow limits.pending (session_at sessions s) (payloads_of (base_added k.added (session_at sessions s))) (base_of st.store s) (pending_of st.store s) name parents old new a b r next
      → Leads began limits st s (Add name parents) (add_reply r) (has_now s) new
  add-leads st h served sound f = by_result r f
    where
      serving : AreRight (payloads_of (base_added k.added (session_at sessions s))) (base_of st.store s) old
      serving = right-base log tables sessions limits k s lt a old began st h served

      tried : (r : Result Added Refusal) (f : AddsRow limits.pending (session_at sessions s) (payloads_of (base_added k.added (session_at sessions s))) (base_of st.store s) (pending_of st.store s) name parents old new a b r next)
          → TriesAll (Unit {0}) st.outside.mirrors (tests limits st.store s (Add name parents)) (refusal_in r) new f.tried.gained
      tried r f = subst (λ m. TriesAll (Unit {0}) m (tests limits st.store s (Add name parents)) (refusal_in r) new f.tried.gained) (sym h.outside_of.mirrors_are)
          (subst (λ t. TriesAll (Unit {0}) old t (refusal_in r) new f.tried.gained) (sym (tests-are st.store h.stored)) (f.tried.serving serving))

      same : next ≡ session_at sessions s → Stands began (record { log = log; sessions = set sessions s next; limits = limits; cache = b }) st.store
      same e = subst (λ l. Stands began (record { log = log; sessions = l; limits = limits; cache = b }) st.store) (sym (ap (set sessions s) e ∙ set-back sessions s)) h.stored

      one-more : (id : ℕ) → AddsRow limits.pending (session_at sessions s) (payloads_of (base_added k.added (session_at sessions s))) (base_of st.store s) (pending_of st.store s) name parents old new a b (Ok (New id)) next
          → Stands began (record { log = log; sessions = set sessions s next; limits = limits; cache = b }) (with_added st.store s name parents)
      one-more id f =
          let fine = h.stored.state.sessions s in
          let one = h.stored.sessions s lt in
          let rows = pending_of st.store s ++ record { name = name; parents = parents } ∷ [] in
          stands-with began (record { log = log; sessions = sessions; limits = limits; cache = b }) st.store s next (record { base = (session st.store s).base; pending = rows }) lt k.count h.stored
          (record { base = fine.base; view = pending-named (base_of st.store s) next.pending rows (h.stored.state.worlds (session st.store s).base fine.base) (f.right serving).2 })
          (record { payloads = ap (λ (q : PlainSession). q.payloads) f.leaves ∙ one.payloads; pending = (f.right serving).2 })

      by_result : (r : Result Added Refusal) → AddsRow limits.pending (session_at sessions s) (payloads_of (base_added k.added (session_at sessions s))) (base_of st.store s) (pending_of st.store s) name parents old new a b r next
          → Leads began limits st s (Add name parents) (add_reply r) (record { log = log; sessions = set sessions s next; limits = limits; cache = b }) new
      by_result (Ok (New id)) f =
          let row : Row Name = record { name = name; parents = parents } in
          let right = f.right serving in
          let sees = ap₂ (λ v (l : List (Row Name)). id_in same_name (with_pending v l) name)
          (base-changed st.store s (record { base = (session st.store s).base; pending = pending_of st.store s ++ row ∷ [] }) h.stored.state.sixteen lt)
          (pending-changed st.store s (record { base = (session st.store s).base; pending = pending_of st.store s ++ row ∷ [] }) h.stored.state.sixteen lt) in
          leads-to limits began (had a) st s (Add name parents) old new b h sound good (IsAdded id) f.tried.gained (with_added st.store s name parents) (has_now s) refl (one-more id f) f.tried.keeps (
            None,
            new,
            f.tried.gained,
            tried (Ok (New id)) f,
            (
              by-has (has (view_of st.store s) name) false _ _ right.0 (ap IsAdded (right.1 ∙ sym sees), refl),
              next-goes a b old new st h.outside_of sound f.tried.gained f.tried.keeps,
            ),
          )
      by_result (Ok (Old id)) f =
          let right = f.right serving in
          leads-to limits began (had a) st s (Add name parents) old new b h sound good (IsOld id) f.tried.gained st.store (has_now s) refl (same f.leaves) f.tried.keeps (
            None,
            new,
            f.tried.gained,
            tried (Ok (Old id)) f,
            (
              by-has (has (view_of st.store s) name) true _ _ right.0 (ap IsOld right.1, refl),
              next-goes a b old new st h.outside_of sound f.tried.gained f.tried.keeps,
            ),
          )
      by_result (Err refusal) f = leads-to limits began (had a) st s (Add name parents) old new b h sound good (Refused refusal) f.tried.gained st.store (has_now s) refl (same f.leaves) f.tried.keeps
          (Some refusal, new, f.tried.gained, tried (Err refusal) f, ((refl, refl), next-goes a b old new st h.outside_of sound f.tried.gained f.tried.keeps))

  -- the same of a store as it is seen, and a session that was indexed
  pub add-leads-at : (q : PlainStore) → had a ≡ q → (x : PlainSession) → x ≡ session_at sessions s → (n : ℕ) → n ≡ s → (st : State) → StandsBeside began q old st → IsAnswerable st → (IsSoundCache a → IsSoundCache b)
      → ((w : World Name) (rows : List (Row Name)) → IsSeen k.added x w rows → Adds x w rows) → Leads began q.limits st s (Add name parents) (add_reply r) (has_now n) new
  add-leads-at q view x there n at = subst
      (λ (q : PlainStore). (st : State) → StandsBeside began q old st → IsAnswerable st → (IsSoundCache a → IsSoundCache b) → ((w : World Name) (rows : List (Row Name)) → IsSeen k.added x w rows → Adds x w rows)
      → Leads began q.limits st s (Add name parents) (add_reply r) (has_now n) new) view
      (subst (λ (x : PlainSession). (st : State) → StandsBeside began (had a) old st → IsAnswerable st → (IsSoundCache a → IsSoundCache b) → ((w : World Name) (rows : List (Row Name)) → IsSeen k.added x w rows → Adds x w rows)
      → Leads began limits st s (Add name parents) (add_reply r) (has_now n) new) (sym there)
      (subst (λ m. (st : State) → StandsBeside began (had a) old st → IsAnswerable st → (IsSoundCache a → IsSoundCache b)
      → ((w : World Name) (rows : List (Row Name)) → IsSeen k.added (session_at sessions s) w rows → Adds (session_at sessions s) w rows)
      → Leads began limits st s (Add name parents) (add_reply r) (has_now m) new) (sym at)
      (λ st h served sound f. add-leads st h served (sound (sound-of began (had a) old st h)) (f (base_of st.store s) (pending_of st.store s) (session-seen log tables sessions limits k began st.store h.stored s lt)))))

  pub add-asks-at : (q : PlainStore) → had a ≡ q → (x : PlainSession) → x ≡ session_at sessions s → (st : Stored) → Stands began q st → ((w : World Name) (rows : List (Row Name)) → IsSeen k.added x w rows → Adds x w rows)
      → AsksAlike (take (began + (session st s).base) st.payloads) (base_of st s) (tests q.limits st s (Add name parents)) old new (refusal_in r)
  add-asks-at q view x there = subst
      (λ (q : PlainStore). (st : Stored) → Stands began q st → ((w : World Name) (rows : List (Row Name)) → IsSeen k.added x w rows → Adds x w rows)
      → AsksAlike (take (began + (session st s).base) st.payloads) (base_of st s) (tests q.limits st s (Add name parents)) old new (refusal_in r)) view
      (subst (λ (x : PlainSession). (st : Stored) → Stands began (had a) st → ((w : World Name) (rows : List (Row Name)) → IsSeen k.added x w rows → Adds x w rows)
      → AsksAlike (take (began + (session st s).base) st.payloads) (base_of st s) (tests limits st s (Add name parents)) old new (refusal_in r)) (sym there)
      (λ st h f. add-asks st h (f (base_of st s) (pending_of st s) (session-seen log tables sessions limits k began st h s lt))))
