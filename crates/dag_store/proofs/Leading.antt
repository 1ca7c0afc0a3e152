-- A call that looks names up is a step of the state.
use Rattle.std.proofs.Common.{◌≡◌, ◌<◌, ◌≤◌, ◌+◌, ◌&&◌, ℕ, zero, suc, Bool, true, false, inl, inr, ◌⊎◌, List, [], ◌∷◌, ◌++◌, length, map, flat_map, take, drop, nat_eq, Option, Some, None, Result, Ok, Err, is_some, refl, sym, ap, ap₂, subst, ◌∙◌, ⊎_elim, arith, true≢false, if◌then◌else◌, le_refl, length-append}
use Rattle.std.specs.Prelude.{◌↔◌}
use Rattle.std.proofs.lemmas.List.{length-map}
use Rattle.id_groups.specs.Lists.{IsIn, AreAllIn, AreDistinct, is_in}
use Rattle.id_groups.specs.Name.{Name, same_name}
use Rattle.commit_graph.specs.World.{Row, World, GrowsMaster, names_of}
use Rattle.commit_graph.specs.Ids.{id_in}
use Rattle.commit_graph.proofs.Naming.{each, all-each}
use Rattle.batch_codec.specs.Payload.{Payload}
use Rattle.change_rules.specs.Lawful.{AreLawful}
use Rattle.gated_log.specs.Held.{Held}
use Rattle.name_map.specs.Added.{payloads_of}
use Rattle.change_rules.specs.declared.Limits.{Limits}
use Rattle.change_rules.specs.Lazy.{is_lazy}
use Rattle.change_rules.specs.Tables.{cloned_count}
use Rattle.payload_tables.specs.Kept.{PlainTables}
use Rattle.payload_tables.proofs.Lists.{same-self, same-exact}
use Rattle.remote_rules.specs.CloneData.{KnownName}
use Rattle.remote_rules.specs.Mirror.{Mirror}
use Rattle.remote_rules.specs.Serving.{IsServing}
use Rattle.lazy_names.specs.Cache.{Entry, PlainCache, Keeps, cached_ids}
use Rattle.step_rules.specs.declared.Refusal.{Refusal}
use Rattle.step_rules.specs.State.{State, Stored, Outside, Cache, session, base_of, pending_of, view_of}
use Rattle.step_rules.specs.Verb.{Verb, IsVerb, Count, IdOf}
use Rattle.step_rules.specs.Reply.{Reply, Refused, Counted, Identified}
use Rattle.step_rules.specs.Asked.{found_as, lazy_among}
use Rattle.step_rules.specs.Tests.{named, looked_up, unknown, tests}
use Rattle.step_rules.specs.Asking.{TriesAll}
use Rattle.step_rules.specs.Step.{CommandStep, GoesOutside}
use Rattle.step_rules.proofs.Kept.{step-state}
use Rattle.step_rules.proofs.Sessions.{newest-now}
use Rattle.store_plans.specs.Sessions.{PlainSession, base_added}
use Rattle.dag_store.specs.Kept.{PlainStore, IsKept, session_at, no_cache, sixteen}
use Rattle.dag_store.specs.Stands.{IsAnswerable, Stands, IsOutsideOf, StandsBeside}
use Rattle.store_plans.specs.Looking.{AreRight, AsksAlike, IsSoundCache, entries_of, found_in, refusal_in, test_in, FindsOne, IsSeen}
use Rattle.store_queries.specs.Querying.{Evaluates}
use Rattle.dag_store.specs.Steps.{CountStep, Leads, id_reply}
use Rattle.set_expr.specs.Expr.{Expr, commits_in}
use Rattle.set_query.specs.declared.evaluation.Answer.{Answer}
use Rattle.span_set.specs.Members.{ids_of as span_ids}
use Rattle.store_queries.proofs.Printing.{ids-length, in-ids}
use Rattle.dag_store.proofs.Sees.{asked-same, base-are, base-holds, behind-base, lazy-front, lazy-same, none-before, stored-holds}

-- ---- a cache as a map

-- the first name of an id
abbrev pub cache_of : List Entry → Cache
cache_of [] id = None
cache_of (e ∷ entries) id = if nat_eq e.0 id then Some e.1 else cache_of entries id

has-entry : (es : List Entry) (id : ℕ) (name : Name) → cache_of es id ≡ Some name → IsIn (id, name) es
has-entry [] id name e = absurd (true≢false (sym (ap is_some e)))
has-entry (x ∷ es) id name e = by_key (nat_eq x.0 id) refl e (has-entry es id name)
  where
    by_key : (b : Bool) → nat_eq x.0 id ≡ b → (if b then Some x.1 else cache_of es id) ≡ Some name → (cache_of es id ≡ Some name → IsIn (id, name) es) → IsIn (id, name) (x ∷ es)
    by_key true t f rec = let same = same-exact x.0 id t in let is : x.1 ≡ name = cc in inl (ap₂ {C = Entry} (λ a b. (a, b)) (sym same) (sym is))
    by_key false t f rec = inr (rec f)

entry-has : (es : List Entry) → AreDistinct (cached_ids es) → (id : ℕ) (name : Name) → IsIn (id, name) es → cache_of es id ≡ Some name
entry-has [] d id name i = absurd i
entry-has (x ∷ es) d id name (inl e) =
    let same : x.0 ≡ id = sym (ap (λ (z : Entry). z.0) e) in
    ap (λ b. if b then Some x.1 else cache_of es id) (ap (λ n. nat_eq n id) same ∙ same-self id) ∙ ap (λ (z : Entry). Some z.1) (sym e)
entry-has (x ∷ es) d id name (inr i) = by_key (nat_eq x.0 id) refl (entry-has es d.1 id name i)
  where
    by_key : (b : Bool) → nat_eq x.0 id ≡ b → cache_of es id ≡ Some name → (if b then Some x.1 else cache_of es id) ≡ Some name
    by_key true t f = absurd (d.0 (subst (λ n. IsIn n (cached_ids es)) (sym (same-exact x.0 id t)) (in-ids es id name i)))
    by_key false t f = f

some-of : (o : Option Name) → is_some o ≡ true → (name : Name) × (o ≡ Some name)
some-of None e = absurd (true≢false (sym e))
some-of (Some name) e = (name, refl)

-- ---- what is outside after look-ups

pub in-gained : (found : List KnownName) (id : ℕ) (name : Name) → IsIn (id, name) (entries_of found) → IsIn {X = KnownName} (record { id = id; name = name }) found
in-gained [] id name i = i
in-gained (k ∷ found) id name (inl e) = inl (ap {B = KnownName} (λ (z : Entry). record { id = z.0; name = z.1 }) e)
in-gained (k ∷ found) id name (inr i) = inr (in-gained found id name i)

gained-ids : (found : List KnownName) (ids : List ℕ) → AreAllIn (map (λ (k : KnownName). k.id) found) ids → (e : Entry) → IsIn e (entries_of found) → IsIn e.0 ids
gained-ids [] ids h e i = absurd i
gained-ids (k ∷ found) ids h e (inl f) = subst (λ n. IsIn n ids) (sym (ap (λ (z : Entry). z.0) f)) h.0
gained-ids (k ∷ found) ids h e (inr i) = gained-ids found ids h.1 e i

abbrev next_cache : Cache → List KnownName → PlainCache → Cache
next_cache old [] now = old
next_cache old (k ∷ found) now = cache_of now.entries

abbrev pub outside_next : Outside → List Mirror → List KnownName → PlainCache → Outside
outside_next old new found now = record { cache = next_cache old.cache found now; room = old.room; mirrors = new }

module _ (a b : PlainCache) (old new : List Mirror) (st : State) (h : IsOutsideOf a old st) (sound : IsSoundCache b) where
  same-entries : Keeps [] a b → (e : Entry) → IsIn e a.entries → IsIn e b.entries
  same-entries k e i = ⊎_elim (λ j. j)
      (λ r. ⊎_elim (λ p. absurd p.2)
      (λ m. absurd (let over = m (cached_ids a.entries) (λ x j. in-ids a.entries x.0 x.1 j) (λ x j. absurd j) in let le = h.fits in let len = ids-length a.entries in omega (arith, over, le, len))) r)
      (k.old e i)

  pub next-has : (found : List KnownName) → Keeps (entries_of found) a b → (id : ℕ) (name : Name) → ((next_cache st.outside.cache found b) id ≡ Some name) ↔ IsIn (id, name) b.entries
  next-has [] k id name = (
    (λ e. same-entries k (id, name) ((h.has id name).0 e)),
    (λ i. ⊎_elim (λ j. (h.has id name).1 j) (λ j. absurd j) (k.new (id, name) i)),
  )
  next-has (x ∷ found) k id name = ((λ e. has-entry b.entries id name e), (λ i. entry-has b.entries sound.once id name i))

  pub next-goes : (found : List KnownName) → Keeps (entries_of found) a b → GoesOutside st.outside new found (outside_next st.outside new found b)
  next-goes [] k = record { mirrors_are = refl; room = refl; cache = refl }
  next-goes (x ∷ found) k = record {
    mirrors_are = refl;
    room = refl;
    cache = record {
      from = λ id name e. ⊎_elim (λ j. inl ((h.has id name).1 j)) (λ j. inr (in-gained (x ∷ found) id name j)) (k.new (id, name) (has-entry b.entries id name e));
      few = (
        cached_ids b.entries,
        (let c = k.capacity in let r = h.room in let f = sound.fits in let l = ids-length b.entries in omega (arith, c, r, f, l)),
        λ id e. let n = some-of (cache_of b.entries id) e in in-ids b.entries id n.0 (has-entry b.entries id n.0 n.1),
      );
      goes = λ id was none. gone id was none;
    };
  }
    where
      gone : (id : ℕ) → is_some (st.outside.cache id) ≡ true → cache_of b.entries id ≡ None → (ids : List ℕ) → ((n : ℕ) → is_some (st.outside.cache n) ≡ true → IsIn n ids)
          → AreAllIn (map (λ (c : KnownName). c.id) (x ∷ found)) ids → st.outside.room < length ids
      gone id was none ids all put =
          let n = some-of (st.outside.cache id) was in
          let i = (h.has id n.0).0 n.1 in
          ⊎_elim
          (λ j. absurd (none-some (entry-has b.entries sound.once id n.0 j)))
          (λ r. ⊎_elim
          (λ p. absurd (none-some (entry-has b.entries sound.once id p.1 p.3)))
          (λ m. let over = m ids (λ e j. all e.0 (ap is_some ((h.has e.0 e.1).1 j))) (λ e j. gained-ids (x ∷ found) ids put e j) in let room = h.room in omega (arith, over, room)) r)
          (k.old (id, n.0) i)
        where
          none-some : {name : Name} → cache_of b.entries id ≡ Some name → ⊥
          none-some {name} e = true≢false (sym (ap is_some (sym none ∙ e)))

-- ---- a step, and the state after it

module _ (limits : Limits) (began : ℕ) (kept : PlainStore) (st : State) (s : ℕ) (verb : Verb) (old new : List Mirror) (b : PlainCache) (h : StandsBeside began kept old st) (sound : IsSoundCache b) (good : IsVerb verb) where
  -- the store stands for the state that the step leads to
  pub leads-to : (reply : Reply) (found : List KnownName) (now : Stored) (after : PlainStore) → after.cache ≡ b → Stands began after now → Keeps (entries_of found) kept.cache b
      → CommandStep limits st s verb reply (record { store = now; outside = outside_next st.outside new found b }) → Leads began limits st s verb reply after new
  leads-to reply found now after is stands keeps step =
      let next : State = record { store = now; outside = outside_next st.outside new found b } in
      let state = step-state limits st s (record { store = h.stored.state; outside = h.outside_of.outside }) verb reply next good step in (
        next,
        step,
        record {
          stored = stands;
          outside_of = subst (λ c. IsOutsideOf c new next) (sym is) (record {
            has = next-has kept.cache b old new st h.outside_of sound found keeps;
            once = sound.once;
            fits = sound.fits;
            room = h.outside_of.room ∙ sym keeps.capacity;
            mirrors_are = refl;
            outside = state.outside;
          });
        },
      )

-- what an answer over what is stored rests on
pub right-now : (st : State) → IsAnswerable st → AreRight st.store.payloads st.store.stored st.outside.mirrors
right-now st (inl none) = inl none
right-now st (inr served) = inr served.mirrors.each

-- ---- the tests of a session's names

cloned-front : (xs ys : List Payload) → (cloned_count xs ≡ cloned_count (xs ++ ys)) ⊎ (cloned_count xs ≡ 0)
cloned-front [] ys = inr refl
cloned-front (p ∷ xs) ys = inl refl

take-within : {X : Type 0} (n : ℕ) (xs ys : List X) (x : X) → IsIn x (take n xs) → IsIn x (take n (xs ++ ys))
take-within zero xs ys x i = i
take-within (suc n) [] ys x i = absurd i
take-within (suc n) (y ∷ xs) ys x (inl e) = inl e
take-within (suc n) (y ∷ xs) ys x (inr i) = inr (take-within n xs ys x i)

module _ (log : Held) (tables : PlainTables) (sessions : List PlainSession) (limits : Limits) (k : IsKept log tables sessions limits) (began : ℕ) (st : Stored)
    (h : Stands began (record { log = log; sessions = sessions; limits = limits; cache = no_cache }) st) (s : ℕ) (lt : s < sixteen) where
  abbrev front : List Payload
  front = payloads_of (base_added k.added (session_at sessions s))

  abbrev behind : List Payload
  behind = drop (began + (session st s).base) st.payloads

  pub session-seen : IsSeen k.added (session_at sessions s) (base_of st s) (pending_of st s)
  session-seen =
      let holds = base-holds log tables sessions limits k began st h s lt in
      record { stand = holds.stand; world = holds.world; pending_rows = (h.sessions s lt).pending; view = (h.state.sessions s).view }

  lawful : AreLawful [] (payloads_of (base_added k.added (session_at sessions s)) ++ drop (began + (session st s).base) st.payloads)
  lawful = subst (AreLawful []) (behind-base log tables sessions limits k began st h s lt) (stored-holds log tables sessions limits k began st h).lawful

  pub found-same : (name : Name) → found_as st (base_of st s) name ≡ found_in (payloads_of (base_added k.added (session_at sessions s))) (base_of st s) name
  found-same name =
      ap (λ (b : Bool). if is_master && b then record { id = id_in same_name (base_of st s) name; name = name } ∷ [] else [])
      (ap (λ l. is_lazy l (base_of st s) (id_in same_name (base_of st s) name)) (behind-base log tables sessions limits k began st h s lt)
      ∙ lazy-front (payloads_of (base_added k.added (session_at sessions s))) (drop (began + (session st s).base) st.payloads) (base_of st s) lawful (base-holds log tables sessions limits k began st h s lt).stand
      (id_in same_name (base_of st s) name))
    where
      is_master : Bool
      is_master = is_in same_name name (names_of (base_of st s).master)

  pub lazy-found : (names : List Name) → lazy_among st (base_of st s) names ≡ flat_map (found_in (payloads_of (base_added k.added (session_at sessions s))) (base_of st s)) names
  lazy-found [] = refl
  lazy-found (name ∷ names) = ap₂ (λ x y. x ++ y) (found-same name) (lazy-found names)

  pub test-same : (refuse : Name → Option Refusal) (name : Name) → looked_up st s (base_of st s) refuse name ≡ test_in (payloads_of (base_added k.added (session_at sessions s))) (base_of st s) (pending_of st s) refuse name
  test-same refuse name = ap₂ (λ b l. named b l (refuse name)) (asked-same log tables sessions limits k began st h s lt name) (found-same name)

  pub tests-same : (refuse : Name → Option Refusal) (names : List Name)
      → map (looked_up st s (base_of st s) refuse) names ≡ map (test_in (payloads_of (base_added k.added (session_at sessions s))) (base_of st s) (pending_of st s) refuse) names
  tests-same refuse [] = refl
  tests-same refuse (x ∷ names) = ap₂ (λ t l. t ∷ l) (test-same refuse x) (tests-same refuse names)

  pub grown : GrowsMaster (base_of st s) st.stored
  grown = subst (λ v. GrowsMaster (base_of st s) v) (newest-now st) (h.state.grows (session st s).base (length st.past) (h.state.sessions s).base (le_refl _))

  -- what an answer over what is stored rests on, an answer over the session's base rests on too
  pub base-served : (mirrors : List Mirror) → AreRight st.payloads st.stored mirrors → AreRight (payloads_of (base_added k.added (session_at sessions s))) (base_of st s) mirrors
  base-served mirrors (inl none) =
      let longer : length (base_of st s).master ≤ length st.stored.master = (let e = ap (length {A = Row Name}) grown.1 ∙ length-append (base_of st s).master grown.0 in omega (arith, e)) in
      inl (sym (lazy-same log tables sessions limits k began st h s lt) ∙ none-before st.payloads (base_of st s) st.stored longer none)
  base-served mirrors (inr all) = inr (all-each (IsServing (cloned_count front) (base_of st s)) mirrors (λ m i. let q = each (IsServing (cloned_count st.payloads) st.stored) mirrors all m i in
      (q.0, q.1, q.2, λ row j. q.3 row (within row j))))
    where
      within : (row : Row Name) → IsIn row (take (cloned_count front) (base_of st s).master) → IsIn row (take (cloned_count st.payloads) st.stored.master)
      within row j = ⊎_elim
          (λ e. subst (λ n. IsIn row (take n st.stored.master)) (e ∙ ap cloned_count (sym (behind-base log tables sessions limits k began st h s lt)))
          (subst (λ l. IsIn row (take (cloned_count front) l)) (sym grown.1) (take-within (cloned_count front) (base_of st s).master grown.0 row j)))
          (λ e. absurd (subst (λ n. IsIn row (take n (base_of st s).master)) e j))
          (cloned-front front behind)

  pub payloads-are : payloads_of (base_added k.added (session_at sessions s)) ≡ take (began + (session st s).base) st.payloads
  payloads-are = base-are log tables sessions limits k began st h s lt

-- the cache of a store that stands for a state
pub sound-of : (began : ℕ) (kept : PlainStore) (mirrors : List Mirror) (st : State) → StandsBeside began kept mirrors st → IsSoundCache kept.cache
sound-of began kept mirrors st h = record { once = h.outside_of.once; fits = h.outside_of.fits }

-- what an answer over a session's base rests on, of a state that the store stands for
pub right-base : (log : Held) (tables : PlainTables) (sessions : List PlainSession) (limits : Limits) (k : IsKept log tables sessions limits) (s : ℕ) (lt : s < sixteen) (a : PlainCache) (old : List Mirror) (began : ℕ) (st : State)
    → StandsBeside began (record { log = log; sessions = sessions; limits = limits; cache = a }) old st → IsAnswerable st → AreRight (payloads_of (base_added k.added (session_at sessions s))) (base_of st.store s) old
right-base log tables sessions limits k s lt a old began st h right =
    base-served log tables sessions limits k began st.store h.stored s lt old (subst (AreRight st.store.payloads st.store.stored) h.outside_of.mirrors_are (right-now st right))

-- ---- the id of a name

module _ (log : Held) (tables : PlainTables) (sessions : List PlainSession) (limits : Limits) (k : IsKept log tables sessions limits) (s : ℕ) (lt : s < sixteen) (a b : PlainCache) (old new : List Mirror) (began : ℕ)
    (name : Name) (r : Result ℕ Refusal) where
  abbrev pub kept_with : PlainCache → PlainStore
  kept_with c = record { log = log; sessions = sessions; limits = limits; cache = c }

  pub id-asks : (st : Stored) (h : Stands began (record { log = log; sessions = sessions; limits = limits; cache = no_cache }) st)
      → FindsOne (payloads_of (base_added k.added (session_at sessions s))) (base_of st s) (pending_of st s) name old new a b r
      → AsksAlike (take (began + (session st s).base) st.payloads) (base_of st s) (tests limits st s (IdOf name)) old new (refusal_in r)
  id-asks st h f =
      subst (λ p. AsksAlike p (base_of st s) (tests limits st s (IdOf name)) old new (refusal_in r)) (payloads-are log tables sessions limits k began st h s lt)
      (subst (λ t. AsksAlike (payloads_of (base_added k.added (session_at sessions s))) (base_of st s) t old new (refusal_in r)) (sym (tests-same log tables sessions limits k began st h s lt (unknown (view_of st s)) (name ∷ [])))
      (f.tried.gained, f.tried.told))

  pub id-leads : (st : State) (h : StandsBeside began (record { log = log; sessions = sessions; limits = limits; cache = a }) old st) → IsAnswerable st → IsSoundCache b
      → FindsOne (payloads_of (base_added k.added (session_at sessions s))) (base_of st.store s) (pending_of st.store s) name old new a b r
      → Leads began limits st s (IdOf name) (id_reply r) (record { log = log; sessions = sessions; limits = limits; cache = b }) new
  id-leads st h served sound f = by_result r f
    where
      serving : AreRight (payloads_of (base_added k.added (session_at sessions s))) (base_of st.store s) old
      serving = right-base log tables sessions limits k s lt a old began st h served

      tried : (r : Result ℕ Refusal) (f : FindsOne (payloads_of (base_added k.added (session_at sessions s))) (base_of st.store s) (pending_of st.store s) name old new a b r)
          → TriesAll (Unit {0}) st.outside.mirrors (tests limits st.store s (IdOf name)) (refusal_in r) new f.tried.gained
      tried r f = subst (λ m. TriesAll (Unit {0}) m (tests limits st.store s (IdOf name)) (refusal_in r) new f.tried.gained) (sym h.outside_of.mirrors_are)
          (subst (λ t. TriesAll (Unit {0}) old t (refusal_in r) new f.tried.gained) (sym (tests-same log tables sessions limits k began st.store h.stored s lt (unknown (view_of st.store s)) (name ∷ []))) (f.tried.serving serving))

      by_result : (r : Result ℕ Refusal) → FindsOne (payloads_of (base_added k.added (session_at sessions s))) (base_of st.store s) (pending_of st.store s) name old new a b r
          → Leads began limits st s (IdOf name) (id_reply r) (record { log = log; sessions = sessions; limits = limits; cache = b }) new
      by_result (Ok id) f = leads-to limits began (kept_with a) st s (IdOf name) old new b h sound tt (Identified id) f.tried.gained st.store (kept_with b) refl h.stored f.tried.keeps
          (None, new, f.tried.gained, tried (Ok id) f, ((ap Identified (f.right serving), refl), next-goes a b old new st h.outside_of sound f.tried.gained f.tried.keeps))
      by_result (Err refusal) f = leads-to limits began (kept_with a) st s (IdOf name) old new b h sound tt (Refused refusal) f.tried.gained st.store (kept_with b) refl h.stored f.tried.keeps
          (Some refusal, new, f.tried.gained, tried (Err refusal) f, ((refl, refl), next-goes a b old new st h.outside_of sound f.tried.gained f.tried.keeps))

  -- the same of a store as it is seen, and a session that was indexed
  pub id-leads-at : (q : PlainStore) → kept_with a ≡ q → (x : PlainSession) → x ≡ session_at sessions s → (st : State) → StandsBeside began q old st → IsAnswerable st → (IsSoundCache a → IsSoundCache b)
      → ((w : World Name) (rows : List (Row Name)) → IsSeen k.added x w rows → FindsOne (payloads_of (base_added k.added x)) w rows name old new a b r)
      → Leads began q.limits st s (IdOf name) (id_reply r) (kept_with b) new
  id-leads-at q view x there = subst
      (λ (q : PlainStore). (st : State) → StandsBeside began q old st → IsAnswerable st → (IsSoundCache a → IsSoundCache b)
      → ((w : World Name) (rows : List (Row Name)) → IsSeen k.added x w rows → FindsOne (payloads_of (base_added k.added x)) w rows name old new a b r)
      → Leads began q.limits st s (IdOf name) (id_reply r) (kept_with b) new) view
      (subst (λ (x : PlainSession). (st : State) → StandsBeside began (kept_with a) old st → IsAnswerable st → (IsSoundCache a → IsSoundCache b)
      → ((w : World Name) (rows : List (Row Name)) → IsSeen k.added x w rows → FindsOne (payloads_of (base_added k.added x)) w rows name old new a b r)
      → Leads began limits st s (IdOf name) (id_reply r) (kept_with b) new) (sym there)
      (λ st h served sound f. id-leads st h served (sound (sound-of began (kept_with a) old st h)) (f (base_of st.store s) (pending_of st.store s) (session-seen log tables sessions limits k began st.store h.stored s lt))))

  pub id-asks-at : (q : PlainStore) → kept_with a ≡ q → (x : PlainSession) → x ≡ session_at sessions s → (st : Stored) → Stands began q st
      → ((w : World Name) (rows : List (Row Name)) → IsSeen k.added x w rows → FindsOne (payloads_of (base_added k.added x)) w rows name old new a b r)
      → AsksAlike (take (began + (session st s).base) st.payloads) (base_of st s) (tests q.limits st s (IdOf name)) old new (refusal_in r)
  id-asks-at q view x there = subst
      (λ (q : PlainStore). (st : Stored) → Stands began q st
      → ((w : World Name) (rows : List (Row Name)) → IsSeen k.added x w rows → FindsOne (payloads_of (base_added k.added x)) w rows name old new a b r)
      → AsksAlike (take (began + (session st s).base) st.payloads) (base_of st s) (tests q.limits st s (IdOf name)) old new (refusal_in r)) view
      (subst (λ (x : PlainSession). (st : Stored) → Stands began (kept_with a) st
      → ((w : World Name) (rows : List (Row Name)) → IsSeen k.added x w rows → FindsOne (payloads_of (base_added k.added x)) w rows name old new a b r)
      → AsksAlike (take (began + (session st s).base) st.payloads) (base_of st s) (tests limits st s (IdOf name)) old new (refusal_in r)) (sym there)
      (λ st h f. id-asks st h (f (base_of st s) (pending_of st s) (session-seen log tables sessions limits k began st h s lt))))

-- ---- how many members there are

module _ (log : Held) (tables : PlainTables) (sessions : List PlainSession) (limits : Limits) (k : IsKept log tables sessions limits) (s : ℕ) (lt : s < sixteen) (a b : PlainCache) (old new : List Mirror) (began : ℕ)
    (e : Expr Name) (r : Result Answer Refusal) where
  abbrev plain_with : PlainCache → PlainStore
  plain_with c = record { log = log; sessions = sessions; limits = limits; cache = c }

  abbrev Members : PlainSession → World Name → List (Row Name) → Type 0
  Members x w rows = Evaluates (payloads_of (base_added k.added x)) w rows e old new a b r

  count-asks : (st : Stored) (h : Stands began (record { log = log; sessions = sessions; limits = limits; cache = no_cache }) st)
      → Evaluates (payloads_of (base_added k.added (session_at sessions s))) (base_of st s) (pending_of st s) e old new a b r
      → AsksAlike (take (began + (session st s).base) st.payloads) (base_of st s) (tests limits st s (Count e)) old new (refusal_in r)
  count-asks st h f =
      subst (λ p. AsksAlike p (base_of st s) (tests limits st s (Count e)) old new (refusal_in r)) (payloads-are log tables sessions limits k began st h s lt)
      (subst (λ t. AsksAlike (payloads_of (base_added k.added (session_at sessions s))) (base_of st s) t old new (refusal_in r)) (sym (tests-same log tables sessions limits k began st h s lt (unknown (view_of st s)) (commits_in e)))
      (f.tried.gained, f.tried.told))

  count-leads : (st : State) (h : StandsBeside began (record { log = log; sessions = sessions; limits = limits; cache = a }) old st) → IsAnswerable st → IsSoundCache b
      → Evaluates (payloads_of (base_added k.added (session_at sessions s))) (base_of st.store s) (pending_of st.store s) e old new a b r
      → CountStep began limits st s e r (record { log = log; sessions = sessions; limits = limits; cache = b }) new
  count-leads st h served sound f = by_result r f
    where
      tried : (r : Result Answer Refusal) (f : Evaluates (payloads_of (base_added k.added (session_at sessions s))) (base_of st.store s) (pending_of st.store s) e old new a b r)
          → TriesAll (Unit {0}) st.outside.mirrors (tests limits st.store s (Count e)) (refusal_in r) new f.tried.gained
      tried r f = subst (λ m. TriesAll (Unit {0}) m (tests limits st.store s (Count e)) (refusal_in r) new f.tried.gained) (sym h.outside_of.mirrors_are)
          (subst (λ t. TriesAll (Unit {0}) old t (refusal_in r) new f.tried.gained) (sym (tests-same log tables sessions limits k began st.store h.stored s lt (unknown (view_of st.store s)) (commits_in e))) (f.tried.serving (right-base log tables sessions limits k s lt a old began st h served)))

      by_result : (r : Result Answer Refusal) → Evaluates (payloads_of (base_added k.added (session_at sessions s))) (base_of st.store s) (pending_of st.store s) e old new a b r
          → CountStep began limits st s e r (record { log = log; sessions = sessions; limits = limits; cache = b }) new
      by_result (Ok answer) f =
          let (names, is, ids, there) = f.right (right-base log tables sessions limits k s lt a old began st h served) in
          let count : length (span_ids answer.set) ≡ length names = ap (length {A = ℕ}) ids ∙ length-map names (id_in same_name (view_of st.store s)) in (
            names,
            leads-to limits began (plain_with a) st s (Count e) old new b h sound tt (Counted (length (span_ids answer.set))) f.tried.gained st.store (plain_with b) refl h.stored f.tried.keeps
                (None, new, f.tried.gained, tried (Ok answer) f, ((names, is, ap Counted count, refl), next-goes a b old new st h.outside_of sound f.tried.gained f.tried.keeps)),
            is,
            ids,
          )
      by_result (Err refusal) f = leads-to limits began (plain_with a) st s (Count e) old new b h sound tt (Refused refusal) f.tried.gained st.store (plain_with b) refl h.stored f.tried.keeps
          (Some refusal, new, f.tried.gained, tried (Err refusal) f, ((refl, refl), next-goes a b old new st h.outside_of sound f.tried.gained f.tried.keeps))

  pub count-leads-at : (q : PlainStore) → plain_with a ≡ q → (x : PlainSession) → x ≡ session_at sessions s → (st : State) → StandsBeside began q old st → IsAnswerable st → (IsSoundCache a → IsSoundCache b)
      → ((w : World Name) (rows : List (Row Name)) → IsSeen k.added x w rows → Members x w rows) → CountStep began q.limits st s e r (plain_with b) new
  count-leads-at q view x there = subst
      (λ (q : PlainStore). (st : State) → StandsBeside began q old st → IsAnswerable st → (IsSoundCache a → IsSoundCache b) → ((w : World Name) (rows : List (Row Name)) → IsSeen k.added x w rows → Members x w rows)
      → CountStep began q.limits st s e r (plain_with b) new) view
      (subst (λ (x : PlainSession). (st : State) → StandsBeside began (plain_with a) old st → IsAnswerable st → (IsSoundCache a → IsSoundCache b) → ((w : World Name) (rows : List (Row Name)) → IsSeen k.added x w rows → Members x w rows)
      → CountStep began limits st s e r (plain_with b) new) (sym there)
      (λ st h served sound f. count-leads st h served (sound (sound-of began (plain_with a) old st h)) (f (base_of st.store s) (pending_of st.store s) (session-seen log tables sessions limits k began st.store h.stored s lt))))

  pub count-asks-at : (q : PlainStore) → plain_with a ≡ q → (x : PlainSession) → x ≡ session_at sessions s → (st : Stored) → Stands began q st → ((w : World Name) (rows : List (Row Name)) → IsSeen k.added x w rows → Members x w rows)
      → AsksAlike (take (began + (session st s).base) st.payloads) (base_of st s) (tests q.limits st s (Count e)) old new (refusal_in r)
  count-asks-at q view x there = subst
      (λ (q : PlainStore). (st : Stored) → Stands began q st → ((w : World Name) (rows : List (Row Name)) → IsSeen k.added x w rows → Members x w rows)
      → AsksAlike (take (began + (session st s).base) st.payloads) (base_of st s) (tests q.limits st s (Count e)) old new (refusal_in r)) view
      (subst (λ (x : PlainSession). (st : Stored) → Stands began (plain_with a) st → ((w : World Name) (rows : List (Row Name)) → IsSeen k.added x w rows → Members x w rows)
      → AsksAlike (take (began + (session st s).base) st.payloads) (base_of st s) (tests limits st s (Count e)) old new (refusal_in r)) (sym there)
      (λ st h f. count-asks st h (f (base_of st s) (pending_of st s) (session-seen log tables sessions limits k began st h s lt))))

  -- what a session sees of each state
  pub seen-at : (q : PlainStore) → plain_with a ≡ q → (x : PlainSession) → x ≡ session_at sessions s → (st : Stored) → Stands began q st → IsSeen k.added x (base_of st s) (pending_of st s)
  seen-at q view x there = subst (λ (q : PlainStore). (st : Stored) → Stands began q st → IsSeen k.added x (base_of st s) (pending_of st s)) view
      (subst (λ (x : PlainSession). (st : Stored) → Stands began (plain_with a) st → IsSeen k.added x (base_of st s) (pending_of st s)) (sym there) (λ st h. session-seen log tables sessions limits k began st h s lt))

  pub serves-at : (q : PlainStore) → plain_with a ≡ q → (x : PlainSession) → x ≡ session_at sessions s → (st : State) → StandsBeside began q old st → IsAnswerable st → AreRight (payloads_of (base_added k.added x)) (base_of st.store s) old
  serves-at q view x there = subst (λ (q : PlainStore). (st : State) → StandsBeside began q old st → IsAnswerable st → AreRight (payloads_of (base_added k.added x)) (base_of st.store s) old) view
      (subst (λ (x : PlainSession). (st : State) → StandsBeside began (plain_with a) old st → IsAnswerable st → AreRight (payloads_of (base_added k.added x)) (base_of st.store s) old) (sym there) (λ st h served. right-base log tables sessions limits k s lt a old began st h served))
