-- A query is a step of the state.
use Rattle.std.proofs.Common.{◌≡◌, ◌≤◌, ◌<◌, ◌+◌, ◌^◌, ◌&&◌, not, ℕ, suc, Bool, true, false, inl, inr, ◌⊎◌, List, [], ◌∷◌, ◌++◌, length, map, take, nat_eq, nat_lt, slice_get, Option, Some, None, is_some, Result, Ok, Err, refl, sym, ap, ap₂, subst, subst₂, ◌∙◌, ⊎_elim, arith, zero-le, lit≤, true≢false, if◌then◌else◌, append-nil, lt-ltb}
use Rattle.std.specs.Prelude.{IfOk, IsErrAnd}
use Rattle.std.specs.List.{AllByRecursion}
use Rattle.std.proofs.lemmas.Bool.{le-ltb, ltb-true}
use Rattle.std.proofs.lemmas.List.{length-map, map-append}
use Rattle.id_groups.specs.Lists.{IsIn, AreAllIn, AreDistinct, is_in}
use Rattle.id_groups.specs.Name.{Name, same_name}
use Rattle.id_groups.specs.Id.{other_id}
use Rattle.id_groups.proofs.Names.{same_name-exact, same_name-self}
use Rattle.id_groups.proofs.Listing.{and_true, found, there}
use Rattle.commit_graph.specs.World.{Row, World, names_of, rows_of}
use Rattle.commit_graph.specs.Ids.{id_in, place_of}
use Rattle.commit_graph.proofs.Down.{in-left, in-right}
use Rattle.commit_graph.proofs.Histories.{in-append}
use Rattle.commit_graph.proofs.Naming.{each}
use Rattle.segment_codec.proofs.Tables.{le_or_lt}
use Rattle.span_set.specs.Members.{AreUnder, IsDescending, ids_of}
use Rattle.batch_codec.specs.Payload.{Payload, Known}
use Rattle.gated_log.specs.Held.{Held}
use Rattle.name_map.specs.Added.{payloads_of}
use Rattle.change_rules.specs.declared.Limits.{Limits}
use Rattle.change_rules.specs.Lazy.{is_lazy}
use Rattle.change_rules.specs.Tables.{known_in}
use Rattle.remote_trait.specs.Honest.{IsNamed}
use Rattle.remote_rules.specs.CloneData.{KnownName}
use Rattle.remote_rules.specs.Mirror.{Mirror}
use Rattle.remote_rules.specs.declared.MirrorFault.{MirrorFault}
use Rattle.remote_rules.specs.declared.MirrorFault.TheVariants as mirror
use Rattle.payload_tables.specs.Kept.{PlainTables}
use Rattle.payload_tables.proofs.Lists.{get-front, same-exact, same-self}
use Rattle.lazy_names.specs.Cache.{Entry, PlainCache, Keeps, cached_ids}
use Rattle.lazy_names.specs.Fetching.{IsCacheOf}
use Rattle.lazy_names.specs.declared.fetched.FetchedName.{FetchedName}
use Rattle.lazy_names.proofs.Caches.{keeps-then}
use Rattle.set_expr.specs.Expr.{Expr, commits_in}
use Rattle.set_query.specs.declared.evaluation.Answer.{Answer}
use Rattle.step_rules.specs.declared.Refusal.{Refusal}
use Rattle.step_rules.specs.declared.Refusal.TheVariants as why
use Rattle.step_rules.specs.State.{State, Stored, IsLazyName, session, base_of, pending_of, view_of}
use Rattle.step_rules.specs.Verb.{Query}
use Rattle.step_rules.specs.Reply.{Listed, Refused}
use Rattle.step_rules.specs.Asked.{found_as, is_asked, is_cached, lazy_among}
use Rattle.step_rules.specs.Tests.{plain, looked_up, unknown, refuse_if, tests}
use Rattle.step_rules.specs.Asking.{TriesAll, refusal_for}
use Rattle.step_rules.specs.Step.{answer_tests, printing_test}
use Rattle.step_rules.proofs.Cached.{FindsRight, found-cached, gained-right, named-right}
use Rattle.store_queries.specs.declared.query.Found.{Found}
use Rattle.store_plans.specs.Sessions.{PlainSession, base_added}
use Rattle.dag_store.specs.Kept.{PlainStore, IsKept, session_at, no_cache, sixteen}
use Rattle.dag_store.specs.Stands.{IsAnswerable, Stands, StandsBeside}
use Rattle.store_plans.specs.Looking.{AreRight, AsksAlike, IsSoundCache, entries_of, found_in, refusal_in, seen_tests, IsSeen}
use Rattle.store_queries.specs.Querying.{AreNamesIn, AsksQuery, Evaluates, Fetches, FetchesSo, FindsMembers, IsRightEnd, Prints, absent_ids, absent_of, lazy_ids, printing}
use Rattle.store_queries.specs.Names.{known_name}
use Rattle.dag_store.specs.Steps.{Leads, QueryStep}
use Rattle.store_queries.proofs.AddingWorlds.{seen-small}
use Rattle.store_plans.proofs.Asking.{get-name, master-id}
use Rattle.store_plans.proofs.Heads.{filtered, from-map, kept}
use Rattle.dag_store.proofs.Leading.{found-same, grown, in-gained, leads-to, next-goes, payloads-are, right-base, session-seen, sound-of, tests-same}
use Rattle.change_rules.proofs.Cloned.{get-some}
use Rattle.store_queries.proofs.Printing.{asked-most, distinct-filter, entry-at, fewer, in-ids, prints-so, told-so, wanted-most}
use Rattle.store_plans.proofs.Trials.{tried-serves, tries-append, tries-plain, tries-stop}

-- ---- a cache that takes in less

-- Of those that were put in, the ones that it had, or that stand among the others, needn't be told.
keeps-less : (xs ys zs : List Entry) (a c : PlainCache) → Keeps (xs ++ ys) a c → ((e : Entry) → IsIn e ys → IsIn e a.entries ⊎ IsIn e (xs ++ zs))
    → ((id : ℕ) (name x y : Name) → IsIn (id, name) ys → IsIn (id, x) a.entries → IsIn (id, y) c.entries → y ≡ x) → Keeps (xs ++ zs) a c
keeps-less xs ys zs a c k had one = record {
  capacity = k.capacity;
  new = λ e i. ⊎_elim (λ j. inl j) (λ j. ⊎_elim (λ l. inr (in-left e xs zs l)) (λ l. had e l) (in-append e xs ys j)) (k.new e i);
  old = λ e i. ⊎_elim (λ j. inl j)
      (λ r. ⊎_elim
      (λ p. ⊎_elim (λ l. inr (inl (p.0, p.1, in-left (e.0, p.0) xs zs l, p.3)))
      (λ l. inl (subst (λ n. IsIn (e.0, n) c.entries) (one e.0 p.0 e.1 p.1 l i p.3) p.3)) (in-append (e.0, p.0) xs ys p.2))
      (λ m. inr (inr (λ ids all new. m ids all (λ x j. ⊎_elim (λ l. new x (in-left x xs zs l)) (λ l. ⊎_elim (λ o. all x o) (λ o. new x o) (had x l)) (in-append x xs ys j))))) r)
      (k.old e i);
  grows = k.grows;
}

-- ---- lists of names with their ids

under-in : (x y : ℕ) (xs : List ℕ) → AreUnder x xs → IsIn y xs → y < x
under-in x y [] u i = absurd i
under-in x y (z ∷ xs) u (inl e) = let lt = u.0 in omega (arith, lt, e)
under-in x y (z ∷ xs) u (inr i) = under-in x y xs u.1 i

descending-distinct : (xs : List ℕ) → IsDescending xs → AreDistinct xs
descending-distinct [] d = tt
descending-distinct (x ∷ xs) d = ((λ i. let lt = under-in x x xs d.0 i in omega (arith, lt)), descending-distinct xs d.1)

same-name-of : (rows : List (Row Name)) (id : ℕ) (x y : Name) → IsNamed rows id x → IsNamed rows id y → x ≡ y
same-name-of rows id x y n o = let same : n.row ≡ o.row = some-row n.row o.row (sym n.there ∙ o.there) in sym n.named ∙ ap (λ (r : Row Name). r.name) same ∙ o.named
  where
    some-row : (r q : Row Name) → Some r ≡ Some q → r ≡ q
    some-row r q e = cc

same-known : (k q : KnownName) → k.id ≡ q.id → k.name ≡ q.name → k ≡ q
same-known k q e f = ap₂ {C = KnownName} (λ i n. record { id = i; name = n }) e f

same-list : (rows : List (Row Name)) (xs ys : List KnownName) → map (λ (k : KnownName). k.id) xs ≡ map (λ (k : KnownName). k.id) ys → ((k : KnownName) → IsIn k xs → IsNamed rows k.id k.name) → ((k : KnownName) → IsIn k ys → IsNamed rows k.id k.name) → xs ≡ ys
same-list rows [] [] e f g = refl
same-list rows [] (y ∷ ys) e f g = absurd (cc e)
same-list rows (x ∷ xs) [] e f g = absurd (cc e)
same-list rows (x ∷ xs) (y ∷ ys) e f g =
    let first : x.id ≡ y.id = cc e in
    let more : map (λ (k : KnownName). k.id) xs ≡ map (λ (k : KnownName). k.id) ys = cc e in
    ap₂ (λ k l. k ∷ l) (same-known x y first (same-name-of rows y.id x.name y.name (subst (λ n. IsNamed rows n x.name) first (f x (inl refl))) (g y (inl refl)))) (same-list rows xs ys more (λ k i. f k (inr i)) (λ k i. g k (inr i)))

absent-same : (cache : PlainCache) (ks : List KnownName) → length (absent_of cache ks) ≡ length (absent_ids cache (map (λ (k : KnownName). k.id) ks))
absent-same cache [] = refl
absent-same cache (k ∷ ks) = by_test (not (is_in nat_eq k.id (map (λ (e : Entry). e.0) cache.entries))) (absent-same cache ks)
  where
    by_test : (b : Bool) → length (absent_of cache ks) ≡ length (absent_ids cache (map (λ (k : KnownName). k.id) ks))
        → length (if b then k ∷ absent_of cache ks else absent_of cache ks) ≡ length (if b then k.id ∷ absent_ids cache (map (λ (k : KnownName). k.id) ks) else absent_ids cache (map (λ (k : KnownName). k.id) ks))
    by_test true e = ap suc e
    by_test false e = e

-- no fetch is refused for an answer's length
never-long : (all answered : ℕ) (end : Option MirrorFault) (r : Result (List FetchedName) Refusal) → FetchesSo all answered end r → (n : ℕ) → refusal_in r ≡ Some (why.Answer n) → ⊥
never-long all answered end (Ok fetched) ends n o = true≢false (sym (ap is_some o))
never-long all answered end (Err refusal) ends n o =
    let is : refusal ≡ why.Answer n = some-same refusal (why.Answer n) o in
    let f = subst (λ z. FetchesSo all answered end (Err z)) is ends in
    other f.0 f.2
  where
    some-same : (x y : Refusal) → Some x ≡ Some y → x ≡ y
    some-same x y e = cc

    other : (fault : MirrorFault) → why.Answer n ≡ refusal_for fault → ⊥
    other mirror.NoRemote e = cc
    other (mirror.AllFailed m) e = cc
    other mirror.Memory e = cc

-- ---- the store's lines

module _ (log : Held) (tables : PlainTables) (sessions : List PlainSession) (limits : Limits) (k : IsKept log tables sessions limits) (s : ℕ) (lt : s < sixteen) (began : ℕ) (e : Expr Name) where
  abbrev pub kept_with : PlainCache → PlainStore
  kept_with c = record { log = log; sessions = sessions; limits = limits; cache = c }

  tests-are : (st : Stored) (h : Stands began (record { log = log; sessions = sessions; limits = limits; cache = no_cache }) st)
      → tests limits st s (Query e) ≡ seen_tests (payloads_of (base_added k.added (session_at sessions s))) (base_of st s) (pending_of st s) (commits_in e)
  tests-are st h = tests-same log tables sessions limits k began st h s lt (unknown (view_of st s)) (commits_in e)

  -- whatever is told
  module _ (a m c : PlainCache) (old mid new : List Mirror) (st : Stored) (h : Stands began (record { log = log; sessions = sessions; limits = limits; cache = no_cache }) st) where
    alike : (verdict : Option Refusal) (gained : List KnownName)
        → AsksAlike (payloads_of (base_added k.added (session_at sessions s))) (base_of st s) (seen_tests (payloads_of (base_added k.added (session_at sessions s))) (base_of st s) (pending_of st s) (commits_in e)) old mid verdict
        → AsksAlike (payloads_of (base_added k.added (session_at sessions s))) (base_of st s) (tests limits st s (Query e)) old mid verdict
    alike verdict gained t = subst (λ l. AsksAlike (payloads_of (base_added k.added (session_at sessions s))) (base_of st s) l old mid verdict) (sym (tests-are st h)) t

    pub asks-refused : (r : Result Found Refusal) (refusal : Refusal) → refusal_in r ≡ Some refusal → Evaluates (payloads_of (base_added k.added (session_at sessions s))) (base_of st s) (pending_of st s) e old mid a m (Err refusal)
        → AsksQuery limits.answer (take (began + (session st s).base) st.payloads) (base_of st s) (tests limits st s (Query e)) old mid r
    asks-refused r refusal is f =
        subst (λ p. AsksQuery limits.answer p (base_of st s) (tests limits st s (Query e)) old mid r) (payloads-are log tables sessions limits k began st h s lt)
        (inl (subst (AsksAlike (payloads_of (base_added k.added (session_at sessions s))) (base_of st s) (tests limits st s (Query e)) old mid) (sym is) (alike (Some refusal) f.tried.gained (f.tried.gained, f.tried.told))))

    pub asks-found : (answer : Answer) → Evaluates (payloads_of (base_added k.added (session_at sessions s))) (base_of st s) (pending_of st s) e old mid a m (Ok answer) → (r : Result Found Refusal)
        → FindsMembers limits.answer (payloads_of (base_added k.added (session_at sessions s))) (base_of st s) (pending_of st s) (ids_of answer.set) mid new m c r → IfOk r (λ found. found.answer ≡ answer)
        → AsksQuery limits.answer (take (began + (session st s).base) st.payloads) (base_of st s) (tests limits st s (Query e)) old new r
    asks-found answer f r q given =
        subst (λ p. AsksQuery limits.answer p (base_of st s) (tests limits st s (Query e)) old new r) (payloads-are log tables sessions limits k began st h s lt)
        (inr (mid, alike None f.tried.gained (f.tried.gained, f.tried.told), ⊎_elim short long (le_or_lt (length (ids_of answer.set)) limits.answer)))
      where
        members : (r : Result Found Refusal) → IfOk r (λ found. found.answer ≡ answer) → IfOk r (λ found. ids_of found.answer.set ≡ ids_of answer.set)
        members (Ok found) e = ap (λ (z : Answer). ids_of z.set) e
        members (Err f) e = tt

        long : limits.answer < length (ids_of answer.set) → Prints limits.answer (payloads_of (base_added k.added (session_at sessions s))) (base_of st s) mid new r
        long over =
            let (same, kept, is) = q.long over in record {
              members = ids_of answer.set;
              answer = members r given;
              may = 0;
              few = zero-le;
              asks = subst (AsksAlike (payloads_of (base_added k.added (session_at sessions s))) (base_of st s) (printing 0 ∷ []) mid new) (sym is)
                  (subst (λ ms. AsksAlike (payloads_of (base_added k.added (session_at sessions s))) (base_of st s) (printing 0 ∷ []) mid ms (Some (why.Answer (length (ids_of answer.set))))) (sym same) (
                    [],
                    record {
                      front = printing 0 ∷ [];
                      rest = [];
                      parts = refl;
                      whole = λ e. refl;
                      told = plain (Some (why.Answer (length (ids_of answer.set)))) ∷ [];
                      alike = ((refl, refl, tt), tt);
                      tries = tries-plain mid (Some (why.Answer (length (ids_of answer.set))));
                    },
                  ));
              long = λ o. (same, is);
              short = λ n o. over;
            }

        short : length (ids_of answer.set) ≤ limits.answer → Prints limits.answer (payloads_of (base_added k.added (session_at sessions s))) (base_of st s) mid new r
        short within =
            let (fetched, f, is, ok) = q.short within in record {
              members = ids_of answer.set;
              answer = members r given;
              may = length (absent_ids m (lazy_ids (payloads_of (base_added k.added (session_at sessions s))) (base_of st s) (ids_of answer.set)));
              few = fewer (λ id. not (is_in nat_eq id (map (λ (e : Entry). e.0) m.entries))) (lazy_ids (payloads_of (base_added k.added (session_at sessions s))) (base_of st s) (ids_of answer.set));
              asks = subst (AsksAlike (payloads_of (base_added k.added (session_at sessions s))) (base_of st s) (printing (length (absent_ids m (lazy_ids (payloads_of (base_added k.added (session_at sessions s))) (base_of st s) (ids_of answer.set)))) ∷ []) mid new) (sym is)
                  (told-so (length (absent_ids m (lazy_ids (payloads_of (base_added k.added (session_at sessions s))) (base_of st s) (ids_of answer.set)))) f.answered f.end mid new f.asks (payloads_of (base_added k.added (session_at sessions s))) (base_of st s) fetched f.ends);
              long = λ over. absurd (omega (arith, over, within));
              short = λ n o. absurd (never-long (length (absent_ids m (lazy_ids (payloads_of (base_added k.added (session_at sessions s))) (base_of st s) (ids_of answer.set)))) f.answered f.end fetched f.ends n (sym is ∙ o));
            }

  -- mirrors that serve, or that aren't asked
  module _ (a : PlainCache) (old : List Mirror) (st : State) (h : StandsBeside began (record { log = log; sessions = sessions; limits = limits; cache = a }) old st) (right : IsAnswerable st) where
    abbrev P : List Payload
    P = payloads_of (base_added k.added (session_at sessions s))

    abbrev w : World Name
    w = base_of st.store s

    abbrev rows : List (Row Name)
    rows = pending_of st.store s

    serving : AreRight (payloads_of (base_added k.added (session_at sessions s))) (base_of st.store s) old
    serving = right-base log tables sessions limits k s lt a old began st h right

    small : length (base_of st.store s).master ≤ 16777216
    small = seen-small k.added (session_at sessions s) (base_of st.store s) (pending_of st.store s) k.tables_of.lawful (session-seen log tables sessions limits k began st.store h.stored s lt)

    -- ---- commits without a stored name

    lazy-named : (q : KnownName) → IsLazyName st.store q → q.id < length (base_of st.store s).master → IsNamed (base_of st.store s).master q.id q.name
    lazy-named q z below =
        let g = grown log tables sessions limits k began st.store h.stored s lt in
        let n = get-name st.store.stored.master q.id q.name z.1 in
        let (row, at) = get-some (base_of st.store s).master q.id below in
        let whole : slice_get ((base_of st.store s).master ++ g.0) q.id ≡ Some n.row = ap (λ (l : List (Row Name)). slice_get l q.id) (sym g.1) ∙ n.there in
        let same : row ≡ n.row = some-row row n.row (sym (get-front (base_of st.store s).master g.0 q.id row at) ∙ whole) in
        record { row = row; there = at; named = ap (λ (r : Row Name). r.name) same ∙ n.named }
      where
        some-row : (r q : Row Name) → Some r ≡ Some q → r ≡ q
        some-row r q e = cc

    among : (names : List Name) (q : KnownName) → IsIn q (lazy_among st.store (base_of st.store s) names) → IsLazyName st.store q
    among [] q i = absurd i
    among (n ∷ names) q i = ⊎_elim (λ j. found-cached st.store (base_of st.store s) (grown log tables sessions limits k began st.store h.stored s lt) n q j) (λ j. among names q j)
        (in-append q (found_as st.store (base_of st.store s) n) (lazy_among st.store (base_of st.store s) names) i)

    -- they are those without a stored name among the ids
    lazy-list : (names : List Name) → AreAllIn names (names_of (rows_of (view_of st.store s)))
        → map (λ (q : KnownName). q.id) (lazy_among st.store (base_of st.store s) names) ≡ lazy_ids (payloads_of (base_added k.added (session_at sessions s))) (base_of st.store s) (map (id_in same_name (view_of st.store s)) names)
    lazy-list [] all = refl
    lazy-list (n ∷ names) all =
        map-append (λ (q : KnownName). q.id) (found_as st.store w n) (lazy_among st.store w names)
        ∙ ap₂ (λ x y. map (λ (q : KnownName). q.id) x ++ y) (found-same log tables sessions limits k began st.store h.stored s lt n) (lazy-list names all.1)
        ∙ by_group (is_in same_name n (names_of w.master)) refl
      where
        one : (b : Bool) (id : ℕ) (more : List ℕ) → map (λ (q : KnownName). q.id) (if b then record { id = id; name = n } ∷ [] else []) ++ more ≡ (if b then id ∷ more else more)
        one true id more = refl
        one false id more = refl

        by_group : (b : Bool) → is_in same_name n (names_of w.master) ≡ b
            → map (λ (q : KnownName). q.id) (found_in P w n) ++ lazy_ids P w (map (id_in same_name (view_of st.store s)) names)
            ≡ lazy_ids P w (id_in same_name (view_of st.store s) n ∷ map (id_in same_name (view_of st.store s)) names)
        by_group true f =
            let more = lazy_ids P w (map (id_in same_name (view_of st.store s)) names) in
            let same = master-id (view_of st.store s) w refl n (found same_name same_name-exact same_name-self n (names_of w.master) f) in
            ap (λ (b : Bool). map (λ (q : KnownName). q.id) (if b && is_lazy P w (id_in same_name w n) then record { id = id_in same_name w n; name = n } ∷ [] else []) ++ more) f
            ∙ one (is_lazy P w (id_in same_name w n)) (id_in same_name w n) more
            ∙ ap (λ id. if is_lazy P w id then id ∷ more else more) (sym same)
        by_group false f =
            let more = lazy_ids P w (map (id_in same_name (view_of st.store s)) names) in
            let place = place_of same_name n (names_of (w.others ++ rows)) in
            let id : id_in same_name (view_of st.store s) n ≡ other_id place = ap (λ b. if b then place_of same_name n (names_of w.master) else other_id (place_of same_name n (names_of (w.others ++ rows)))) f in
            let none : is_lazy P w (other_id place) ≡ false =
            ap (λ b. b && not (is_in nat_eq (other_id place) (map (λ (q : Known). q.id) (known_in P)))) (le-ltb (other_id place) (length w.master) (let l = small in let big : 16777216 ≤ 2 ^ 56 = lit≤ tt in omega (arith, l, big))) in
            ap (λ (b : Bool). map (λ (q : KnownName). q.id) (if b && is_lazy P w (id_in same_name w n) then record { id = id_in same_name w n; name = n } ∷ [] else []) ++ more) f
            ∙ sym (ap (λ z. if is_lazy P w z then z ∷ more else more) id ∙ ap (λ b. if b then other_id place ∷ more else more) none)

    -- ---- what the cache has

    cached-same : (q : KnownName) → is_cached st.outside.cache q ≡ is_in nat_eq q.id (cached_ids a.entries)
    cached-same q = by_cache (st.outside.cache q.id) refl
      where
        by_cache : (o : Option Name) → st.outside.cache q.id ≡ o → is_some o ≡ is_in nat_eq q.id (cached_ids a.entries)
        by_cache (Some n) f = sym (there nat_eq same-exact same-self q.id (cached_ids a.entries) (in-ids a.entries q.id n ((h.outside_of.has q.id n).0 f)))
        by_cache None f = by_test (is_in nat_eq q.id (cached_ids a.entries)) refl
          where
            by_test : (b : Bool) → is_in nat_eq q.id (cached_ids a.entries) ≡ b → false ≡ is_in nat_eq q.id (cached_ids a.entries)
            by_test false g = sym g
            by_test true g =
                let (n, i) = entry-at a.entries q.id (found nat_eq same-exact same-self q.id (cached_ids a.entries) g) in
                absurd (true≢false (sym (ap is_some (sym f ∙ (h.outside_of.has q.id n).1 i))))

    cache-right : IsCacheOf (base_of st.store s).master a.entries
    cache-right x i below = lazy-named (record { id = x.0; name = x.1 }) (h.outside_of.outside.names x.0 x.1 ((h.outside_of.has x.0 x.1).1 i)) below

    looked-right : (names : List Name) → AllByRecursion (FindsRight (IsLazyName st.store)) (map (looked_up st.store s (base_of st.store s) (unknown (view_of st.store s))) names)
    looked-right [] = tt
    looked-right (n ∷ names) = (
      named-right (IsLazyName st.store) (is_asked st.store s (base_of st.store s) n) (found_as st.store (base_of st.store s) n) (unknown (view_of st.store s) n)
          (found-cached st.store (base_of st.store s) (grown log tables sessions limits k began st.store h.stored s lt) n),
      looked-right names,
    )

    -- ---- names of the expression that are refused

    pub refused-leads : (m : PlainCache) (mid : List Mirror) (refusal : Refusal) → IsSoundCache m → Evaluates (payloads_of (base_added k.added (session_at sessions s))) (base_of st.store s) (pending_of st.store s) e old mid a m (Err refusal)
        → Leads began limits st s (Query e) (Refused refusal) (record { log = log; sessions = sessions; limits = limits; cache = m }) mid
    refused-leads m mid refusal sound f =
        leads-to limits began (kept_with a) st s (Query e) old mid m h sound tt (Refused refusal) f.tried.gained st.store (kept_with m) refl h.stored f.tried.keeps (
          Some refusal,
          mid,
          f.tried.gained,
          subst (λ ms. TriesAll (Unit {0}) ms (tests limits st.store s (Query e)) (Some refusal) mid f.tried.gained) (sym h.outside_of.mirrors_are)
              (subst (λ t. TriesAll (Unit {0}) old t (Some refusal) mid f.tried.gained) (sym (tests-are st.store h.stored)) (f.tried.serving serving)),
          ((refl, refl), next-goes a m old mid st h.outside_of sound f.tried.gained f.tried.keeps),
        )

    -- ---- an answer

    module _ (m c : PlainCache) (mid new : List Mirror) (sound-m : IsSoundCache m) (sound-c : IsSoundCache c) (answer : Answer)
        (f : Evaluates (payloads_of (base_added k.added (session_at sessions s))) (base_of st.store s) (pending_of st.store s) e old mid a m (Ok answer)) where
      abbrev names : List Name
      names = (f.right serving).0

      abbrev gained : List KnownName
      gained = f.tried.gained

      abbrev ids : List ℕ
      ids = ids_of answer.set

      abbrev lazy : List KnownName
      lazy = lazy_among st.store w names

      serving-mid : AreRight P w mid
      serving-mid = tried-serves P w (seen_tests P w rows (commits_in e)) old mid a m None f.tried serving

      tries : TriesAll (Unit {0}) st.outside.mirrors (tests limits st.store s (Query e)) None mid f.tried.gained
      tries = subst (λ ms. TriesAll (Unit {0}) ms (tests limits st.store s (Query e)) None mid f.tried.gained) (sym h.outside_of.mirrors_are)
          (subst (λ t. TriesAll (Unit {0}) old t None mid f.tried.gained) (sym (tests-are st.store h.stored)) (f.tried.serving serving))

      gained-lazy : (q : KnownName) → IsIn q f.tried.gained → IsLazyName st.store q
      gained-lazy = gained-right (IsLazyName st.store) (Unit {0}) st.outside.mirrors mid (tests limits st.store s (Query e)) None f.tried.gained (looked-right (commits_in e)) tries

      mid-right : IsCacheOf w.master m.entries
      mid-right x i below = ⊎_elim (λ j. cache-right x j below) (λ j. lazy-named (record { id = x.0; name = x.1 }) (gained-lazy (record { id = x.0; name = x.1 }) (in-gained gained x.0 x.1 j)) below) (f.tried.keeps.new x i)

      lazy-are : map (λ (q : KnownName). q.id) lazy ≡ lazy_ids P w ids
      lazy-are = lazy-list names (f.right serving).3 ∙ ap (lazy_ids P w) (sym (f.right serving).2)

      id-below : (id : ℕ) → IsIn id (lazy_ids P w ids) → id < length w.master
      id-below id i = ltb-true id (length w.master) (and_true (nat_lt id (length w.master)) (not (is_in nat_eq id (map (λ (q : Known). q.id) (known_in P)))) (filtered (is_lazy P w) ids id i).1).0

      into-ids : (ks : List KnownName) (q : KnownName) → IsIn q ks → IsIn q.id (map (λ (q : KnownName). q.id) ks)
      into-ids [] q i = i
      into-ids (x ∷ ks) q (inl g) = inl (ap (λ (z : KnownName). z.id) g)
      into-ids (x ∷ ks) q (inr i) = inr (into-ids ks q i)

      lazy-is : (q : KnownName) → IsIn q lazy → IsNamed w.master q.id q.name
      lazy-is q i = lazy-named q (among names q i) (id-below q.id (subst (IsIn q.id) lazy-are (into-ids lazy q i)))

      distinct : AreDistinct (map (λ (q : KnownName). q.id) lazy)
      distinct = subst AreDistinct (sym lazy-are) (distinct-filter (is_lazy P w) ids (descending-distinct ids f.descending))

      counted : length names ≡ length ids
      counted = sym (ap (length {A = ℕ}) (f.right serving).2 ∙ length-map names (id_in same_name (view_of st.store s)))

      ends-refused : (refusal : Refusal) (zs : List KnownName) → Keeps (entries_of (gained ++ zs)) a c → TriesAll (Unit {0}) mid (answer_tests limits st s gained names) (Some refusal) new zs
          → Leads began limits st s (Query e) (Refused refusal) (kept_with c) new
      ends-refused refusal zs keeps t =
          leads-to limits began (kept_with a) st s (Query e) old new c h sound-c tt (Refused refusal) (gained ++ zs) st.store (kept_with c) refl h.stored keeps
          (None, mid, gained, tries, (names, (f.right serving).1, Some refusal, new, zs, t, next-goes a c old new st h.outside_of sound-c (gained ++ zs) keeps, (refl, refl)))

      ends-listed : (zs : List KnownName) → Keeps (entries_of (gained ++ zs)) a c → TriesAll (Unit {0}) mid (answer_tests limits st s gained names) None new zs
          → Leads began limits st s (Query e) (Listed names) (kept_with c) new
      ends-listed zs keeps t =
          leads-to limits began (kept_with a) st s (Query e) old new c h sound-c tt (Listed names) (gained ++ zs) st.store (kept_with c) refl h.stored keeps
          (None, mid, gained, tries, (names, (f.right serving).1, None, new, zs, t, next-goes a c old new st h.outside_of sound-c (gained ++ zs) keeps, (refl, refl)))

      -- too many members
      too-long : (r : Result Found Refusal) → limits.answer < length ids → new ≡ mid → c ≡ m → refusal_in r ≡ Some (why.Answer (length ids)) → QueryStep began limits st s e r (kept_with c) new
      too-long (Ok found) over same kept is = absurd (true≢false (sym (ap is_some is)))
      too-long (Err refusal) over same kept is =
          let over-names : refuse_if (nat_lt limits.answer (length names)) (why.Answer (length names)) ≡ Some refusal =
          ap (λ n. refuse_if (nat_lt limits.answer n) (why.Answer n)) counted ∙ ap (λ b. refuse_if b (why.Answer (length ids))) (lt-ltb limits.answer (length ids) over) ∙ sym is in
          ends-refused refusal []
          (subst (λ l. Keeps (entries_of l) a c) (sym (append-nil gained)) (subst (Keeps (entries_of gained) a) (sym kept) f.tried.keeps))
          (subst (λ ms. TriesAll (Unit {0}) mid (answer_tests limits st s gained names) (Some refusal) ms []) (sym same)
          (tries-stop mid mid (plain (refuse_if (nat_lt limits.answer (length names)) (why.Answer (length names))) ∷ []) (printing_test st s gained names ∷ []) refusal []
          (subst (λ v. TriesAll (Unit {0}) mid (plain v ∷ []) (Some refusal) mid []) (sym over-names) (tries-plain mid (Some refusal)))))

      -- their names
      module _ (within : length ids ≤ limits.answer) (got : Result (List FetchedName) Refusal) (q : Fetches P w rows ids mid new m c got) where
        named : AreNamesIn w q.names × IsRightEnd got
        named = q.right serving-mid mid-right

        name-is : (x : KnownName) → IsIn x q.names → IsNamed w.master x.id x.name
        name-is x i = each (λ (z : KnownName). IsNamed w.master z.id z.name) q.names named.0 x i

        abbrev zs : List KnownName
        zs = absent_of a (absent_of m q.names)

        after-right : IsCacheOf w.master c.entries
        after-right x i below = ⊎_elim (λ j. mid-right x j below) (λ j. name-is (record { id = x.0; name = x.1 }) (in-gained q.names x.0 x.1 j)) (q.keeps.new x i)

        below-of : (id : ℕ) (n : Name) → IsIn (id, n) (entries_of q.names) → id < length w.master
        below-of id n i = id-below id (q.within (record { id = id; name = n }) (in-gained q.names id n i))

        in-lazy : (x : KnownName) → IsIn x q.names → IsIn x lazy
        in-lazy x i =
            let (y, j, is) = from-map (λ (z : KnownName). z.id) lazy x.id (subst (IsIn x.id) (sym lazy-are) (q.within x i)) in
            subst (λ z. IsIn z lazy) (sym (same-known x y is (same-name-of w.master y.id x.name y.name (subst (λ n. IsNamed w.master n x.name) is (name-is x i)) (lazy-is y j)))) j

        -- one that was put in was there, or was found, or is new
        had-one : (x : Entry) → IsIn x (entries_of q.names) → IsIn x a.entries ⊎ IsIn x (entries_of gained ++ entries_of zs)
        had-one x i = by_old (is_in nat_eq x.0 (cached_ids a.entries)) refl
          where
            here : IsNamed w.master x.0 x.1
            here = name-is (record { id = x.0; name = x.1 }) (in-gained q.names x.0 x.1 i)

            same : (n : Name) → IsNamed w.master x.0 n → n ≡ x.1
            same n o = same-name-of w.master x.0 n x.1 o here

            entry : (ks : List KnownName) (z : KnownName) → IsIn z ks → IsIn (z.id, z.name) (entries_of ks)
            entry [] z j = j
            entry (y ∷ ks) z (inl g) = inl (ap {B = Entry} (λ (u : KnownName). (u.id, u.name)) g)
            entry (y ∷ ks) z (inr j) = inr (entry ks z j)

            by_mid : is_in nat_eq x.0 (cached_ids a.entries) ≡ false → (b : Bool) → is_in nat_eq x.0 (cached_ids m.entries) ≡ b → IsIn x a.entries ⊎ IsIn x (entries_of gained ++ entries_of zs)
            by_mid old-none true g =
                let (n, j) = entry-at m.entries x.0 (found nat_eq same-exact same-self x.0 (cached_ids m.entries) g) in
                let is = same n (mid-right (x.0, n) j (below-of x.0 x.1 i)) in
                ⊎_elim (λ l. inl (subst (λ z. IsIn (x.0, z) a.entries) is l)) (λ l. inr (in-left x (entries_of gained) (entries_of zs) (subst (λ z. IsIn (x.0, z) (entries_of gained)) is l))) (f.tried.keeps.new (x.0, n) j)
            by_mid old-none false g =
                let z : KnownName = record { id = x.0; name = x.1 } in
                inr (in-right x (entries_of gained) (entries_of zs) (entry zs z
                (kept (λ (u : KnownName). not (is_in nat_eq u.id (map (λ (y : Entry). y.0) a.entries))) (absent_of m q.names) z
                (kept (λ (u : KnownName). not (is_in nat_eq u.id (map (λ (y : Entry). y.0) m.entries))) q.names z (in-gained q.names x.0 x.1 i) (ap not g)) (ap not old-none))))

            by_old : (b : Bool) → is_in nat_eq x.0 (cached_ids a.entries) ≡ b → IsIn x a.entries ⊎ IsIn x (entries_of gained ++ entries_of zs)
            by_old true g =
                let (n, j) = entry-at a.entries x.0 (found nat_eq same-exact same-self x.0 (cached_ids a.entries) g) in
                inl (subst (λ z. IsIn (x.0, z) a.entries) (same n (cache-right (x.0, n) j (below-of x.0 x.1 i))) j)
            by_old false g = by_mid g (is_in nat_eq x.0 (cached_ids m.entries)) refl

        keeps-all : Keeps (entries_of (gained ++ zs)) a c
        keeps-all = subst (λ l. Keeps l a c) (sym (map-append (λ (z : KnownName). (z.id, z.name)) gained zs))
            (keeps-less (entries_of gained) (entries_of q.names) (entries_of zs) a c (keeps-then (entries_of gained) (entries_of q.names) a m c f.tried.keeps q.keeps) had-one
            (λ id n x y i j l. same-name-of w.master id y x (after-right (id, y) l (below-of id n i)) (cache-right (id, x) j (below-of id n i))))

        prints : TriesAll (Unit {0}) mid (answer_tests limits st s gained names) (refusal_in got) new zs
        prints =
            let most = length (absent_ids m (lazy_ids P w ids)) in
            let many : length (absent_of m lazy) ≡ most = absent-same m lazy ∙ ap (λ l. length (absent_ids m l)) lazy-are in
            let least = wanted-most st.outside.cache a m gained lazy cached-same f.tried.keeps (record { once = h.outside_of.once; fits = h.outside_of.fits }) sound-m distinct in
            let enough = asked-most st.outside.cache a m gained lazy cached-same f.tried.keeps (record { once = h.outside_of.once; fits = h.outside_of.fits }) sound-m distinct in
            let less = fewer (λ (u : KnownName). not (is_in nat_eq u.id (map (λ (y : Entry). y.0) a.entries))) (absent_of m q.names) in
            let gain = q.gain in
            let t = printing_test st s gained names in
            let fits : refuse_if (nat_lt limits.answer (length names)) (why.Answer (length names)) ≡ None =
            ap (λ n. refuse_if (nat_lt limits.answer n) (why.Answer n)) counted ∙ ap (λ b. refuse_if b (why.Answer (length ids))) (le-ltb limits.answer (length ids) within) in
            tries-append mid mid new (plain (refuse_if (nat_lt limits.answer (length names)) (why.Answer (length names))) ∷ []) (printing_test st s gained names ∷ []) (refusal_in got) [] zs
            (subst (λ v. TriesAll (Unit {0}) mid (plain v ∷ []) None mid []) (sym fits) (tries-plain mid None))
            (prints-so most q.answered q.end mid new q.asks t.must t.may t.finds (omega (arith, least, many)) (omega (arith, enough, many)) zs (omega (arith, less, gain)) finds got q.ends named.1)
          where
            finds : (x : KnownName) → IsIn x zs → IsIn x (printing_test st s gained names).finds
            finds x i =
                let first = filtered (λ (u : KnownName). not (is_in nat_eq u.id (map (λ (y : Entry). y.0) a.entries))) (absent_of m q.names) x i in
                let second = filtered (λ (u : KnownName). not (is_in nat_eq u.id (map (λ (y : Entry). y.0) m.entries))) q.names x first.0 in
                kept (λ (u : KnownName). not (is_cached st.outside.cache u)) lazy x (in-lazy x second.0) (ap not (cached-same x) ∙ first.1)

        listed : (r : Result Found Refusal) → refusal_in r ≡ refusal_in got → IfOk r (λ found. got ≡ Ok found.fetched) → IfOk r (λ found. found.answer ≡ answer) → QueryStep began limits st s e r (kept_with c) new
        listed (Ok found) is ok given = (
          names,
          ends-listed zs keeps-all (subst (λ v. TriesAll (Unit {0}) mid (answer_tests limits st s gained names) v new zs) (sym is) prints),
          record { seen = (f.right serving).3; ids_are = ap (λ (z : Answer). ids_of z.set) given ∙ (f.right serving).2; lazy = whole },
        )
          where
            put : (q.names ≡ map known_name found.fetched) × (map (λ (z : KnownName). z.id) q.names ≡ lazy_ids P w ids)
            put = subst (λ o. IfOk o (λ fetched. (q.names ≡ map known_name fetched) × (map (λ (z : KnownName). z.id) q.names ≡ lazy_ids P w ids))) ok q.whole

            whole : map known_name found.fetched ≡ lazy
            whole = sym put.0 ∙ same-list w.master q.names lazy (put.1 ∙ sym lazy-are) name-is lazy-is
        listed (Err refusal) is ok given = ends-refused refusal zs keeps-all (subst (λ v. TriesAll (Unit {0}) mid (answer_tests limits st s gained names) v new zs) (sym is) prints)

      pub found-leads : (r : Result Found Refusal) → FindsMembers limits.answer (payloads_of (base_added k.added (session_at sessions s))) (base_of st.store s) (pending_of st.store s) (ids_of answer.set) mid new m c r
          → IfOk r (λ found. found.answer ≡ answer) → QueryStep began limits st s e r (record { log = log; sessions = sessions; limits = limits; cache = c }) new
      found-leads r q given = ⊎_elim
          (λ within. let (got, fetches, is, ok) = q.short within in listed within got fetches r is ok given)
          (λ over. let (same, is-kept, is) = q.long over in too-long r over same is-kept is)
          (le_or_lt (length (ids_of answer.set)) limits.answer)

-- a refusal that is handed on
err-query : (began : ℕ) (limits : Limits) (st : State) (s : ℕ) (e : Expr Name) (r : Result Found Refusal) (f : Refusal) (after : PlainStore) (left : List Mirror) → IsErrAnd r (λ g. g ≡ f)
    → Leads began limits st s (Query e) (Refused f) after left → QueryStep began limits st s e r after left
err-query began limits st s e (Ok v) f after left h q = absurd h
err-query began limits st s e (Err g) f after left h q = subst (λ z. Leads began limits st s (Query e) (Refused z) after left) (sym h) q

err-in : {X : Type 0} (r : Result X Refusal) (f : Refusal) → IsErrAnd r (λ g. g ≡ f) → refusal_in r ≡ Some f
err-in (Ok v) f h = absurd h
err-in (Err g) f h = ap Some h

-- what holds of the answer's look-ups holds of those of what is found
pub few-as : (r : Result Found Refusal) (answer : Answer) → IfOk r (λ found. found.answer ≡ answer) → (P : Answer → Type 0) → P answer → IfOk r (λ found. P found.answer)
few-as (Ok found) answer e P h = subst P (sym e) h
few-as (Err f) answer e P h = tt

-- ---- the same of a store as it is seen, and a session that was indexed

module _ (log : Held) (tables : PlainTables) (sessions : List PlainSession) (limits : Limits) (k : IsKept log tables sessions limits) (s : ℕ) (lt : s < sixteen) (began : ℕ) (e : Expr Name)
    (a m c : PlainCache) (old mid new : List Mirror) (q : PlainStore) (seen-as : record { log = log; sessions = sessions; limits = limits; cache = a } ≡ q) (x : PlainSession) (indexed : x ≡ session_at sessions s) where
  abbrev at : PlainCache → PlainStore
  at c = record { log = log; sessions = sessions; limits = limits; cache = c }

  abbrev EvaluatesAt : PlainSession → Result Answer Refusal → Type 0
  EvaluatesAt x r = (w : World Name) (rows : List (Row Name)) → IsSeen k.added x w rows → Evaluates (payloads_of (base_added k.added x)) w rows e old mid a m r

  abbrev FindsAt : PlainSession → Answer → Result Found Refusal → Type 0
  FindsAt x answer r = (w : World Name) (rows : List (Row Name)) → IsSeen k.added x w rows → FindsMembers limits.answer (payloads_of (base_added k.added x)) w rows (ids_of answer.set) mid new m c r

  pub refused-leads-at : (r : Result Found Refusal) (f : Refusal) → IsErrAnd r (λ g. g ≡ f) → (st : State) → StandsBeside began q old st → IsAnswerable st → (IsSoundCache a → IsSoundCache m) → EvaluatesAt x (Err f)
      → QueryStep began q.limits st s e r (record { log = log; sessions = sessions; limits = limits; cache = m }) mid
  refused-leads-at r f is st h right sound ev =
      subst₂ (λ (q : PlainStore) (x : PlainSession). StandsBeside began q old st → EvaluatesAt x (Err f) → QueryStep began q.limits st s e r (at m) mid) seen-as (sym indexed)
      (λ h ev. err-query began limits st s e r f (at m) mid is
      (refused-leads log tables sessions limits k s lt began e a old st h right m mid f (sound (sound-of began (at a) old st h)) (ev (base_of st.store s) (pending_of st.store s) (session-seen log tables sessions limits k began st.store h.stored s lt)))) h ev

  pub found-leads-at : (answer : Answer) (r : Result Found Refusal) → IfOk r (λ found. found.answer ≡ answer) → (st : State) → StandsBeside began q old st → IsAnswerable st → (IsSoundCache a → IsSoundCache m) → (IsSoundCache m → IsSoundCache c)
      → EvaluatesAt x (Ok answer) → FindsAt x answer r → QueryStep began q.limits st s e r (record { log = log; sessions = sessions; limits = limits; cache = c }) new
  found-leads-at answer r given st h right sound more ev finds =
      subst₂ (λ (q : PlainStore) (x : PlainSession). StandsBeside began q old st → EvaluatesAt x (Ok answer) → FindsAt x answer r → QueryStep began q.limits st s e r (at c) new) seen-as (sym indexed)
      (λ h ev finds.
      let mid-sound = sound (sound-of began (at a) old st h) in
      let see = session-seen log tables sessions limits k began st.store h.stored s lt in
      found-leads log tables sessions limits k s lt began e a old st h right m c mid new mid-sound (more mid-sound) answer (ev (base_of st.store s) (pending_of st.store s) see) r (finds (base_of st.store s) (pending_of st.store s) see) given) h ev finds

  pub asks-refused-at : (r : Result Found Refusal) (f : Refusal) → IsErrAnd r (λ g. g ≡ f) → (st : Stored) → Stands began q st → EvaluatesAt x (Err f)
      → AsksQuery q.limits.answer (take (began + (session st s).base) st.payloads) (base_of st s) (tests q.limits st s (Query e)) old mid r
  asks-refused-at r f is st h ev =
      subst₂ (λ (q : PlainStore) (x : PlainSession). Stands began q st → EvaluatesAt x (Err f) → AsksQuery q.limits.answer (take (began + (session st s).base) st.payloads) (base_of st s) (tests q.limits st s (Query e)) old mid r) seen-as (sym indexed)
      (λ h ev. asks-refused log tables sessions limits k s lt began e a m c old mid new st h r f (err-in r f is) (ev (base_of st s) (pending_of st s) (session-seen log tables sessions limits k began st h s lt))) h ev

  pub asks-found-at : (answer : Answer) (r : Result Found Refusal) → IfOk r (λ found. found.answer ≡ answer) → (st : Stored) → Stands began q st → EvaluatesAt x (Ok answer) → FindsAt x answer r
      → AsksQuery q.limits.answer (take (began + (session st s).base) st.payloads) (base_of st s) (tests q.limits st s (Query e)) old new r
  asks-found-at answer r given st h ev finds =
      subst₂ (λ (q : PlainStore) (x : PlainSession). Stands began q st → EvaluatesAt x (Ok answer) → FindsAt x answer r → AsksQuery q.limits.answer (take (began + (session st s).base) st.payloads) (base_of st s) (tests q.limits st s (Query e)) old new r) seen-as (sym indexed)
      (λ h ev finds. let see = session-seen log tables sessions limits k began st h s lt in
      asks-found log tables sessions limits k s lt began e a m c old mid new st h answer (ev (base_of st s) (pending_of st s) see) r (finds (base_of st s) (pending_of st s) see) given) h ev finds

  -- what the session sees of a state, and what an answer rests on
  pub seen-at : (st : Stored) → Stands began q st → IsSeen k.added x (base_of st s) (pending_of st s)
  seen-at st h = subst₂ (λ (q : PlainStore) (x : PlainSession). Stands began q st → IsSeen k.added x (base_of st s) (pending_of st s)) seen-as (sym indexed) (λ h. session-seen log tables sessions limits k began st h s lt) h

  pub right-at : (st : State) → StandsBeside began q old st → IsAnswerable st → AreRight (payloads_of (base_added k.added x)) (base_of st.store s) old
  right-at st h right = subst₂ (λ (q : PlainStore) (x : PlainSession). StandsBeside began q old st → AreRight (payloads_of (base_added k.added x)) (base_of st.store s) old) seen-as (sym indexed)
      (λ h. right-base log tables sessions limits k s lt a old began st h right) h
