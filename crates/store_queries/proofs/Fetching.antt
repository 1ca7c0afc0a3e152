-- Names that are fetched for ids.
use Rattle.std.proofs.Common.{◌≡◌, ◌≤◌, ℕ, zero, suc, not, Bool, true, false, inl, inr, List, [], ◌∷◌, ◌++◌, length, map, take, filter, nat_eq, nat_lt, Option, None, Result, Ok, Err, refl, sym, ap, subst, ◌∙◌, ⊎_elim, arith, zero-le, if◌then◌else◌, true≢false, lt-ltb}
use Rattle.std.specs.Prelude.{IfOk}
use Rattle.std.specs.List.{range_with_len}
use Rattle.std.proofs.lemmas.Bool.{ltb-true}
use Rattle.id_groups.specs.Lists.{IsIn, IsFiltered, is_in}
use Rattle.id_groups.specs.Name.{Name, same_name}
use Rattle.commit_graph.specs.Ids.{parent_ids}
use Rattle.segment_rules.specs.Flat.{flat_segments_of}
use Rattle.change_rules.proofs.Cloned.{in-range}
use Rattle.id_groups.proofs.Listing.{and_true, both_true, in-any, filter-filters, found, there, not_true, true_not}
use Rattle.commit_graph.specs.World.{Row, World, with_pending}
use Rattle.segment_codec.specs.Record.{Segment}
use Rattle.batch_codec.specs.Payload.{Payload, Known}
use Rattle.name_map.specs.Added.{Placed, payloads_of, known_of}
use Rattle.change_rules.specs.Lazy.{is_lazy, has_lazy}
use Rattle.change_rules.specs.Tables.{known_in, cloned_count}
use Rattle.remote_rules.specs.CloneData.{KnownName}
use Rattle.remote_rules.specs.Mirror.{Mirror}
use Rattle.remote_rules.specs.declared.MirrorFault.{MirrorFault}
use Rattle.remote_rules.specs.declared.MirrorFault.TheVariants as mirror
use Rattle.payload_tables.specs.Kept.{PlainTables}
use Rattle.payload_tables.specs.Pending.{PlainPending}
use Rattle.payload_tables.specs.Bases.{AreSegmentsOf}
use Rattle.payload_tables.specs.declared.base.BaseRef.{BaseRef}
use Rattle.payload_tables.proofs.Lists.{same-exact, same-self}
use Rattle.lazy_names.specs.Cache.{Entry, PlainCache, Keeps}
use Rattle.lazy_names.specs.Standing.{HasName}
use Rattle.lazy_names.specs.Fetching.{AreNamed, AreServed, IsCacheOf, IsLazy, count_uncached, ids_fetched, is_uncached, fetched_entries}
use Rattle.lazy_names.specs.Gathering.{GathersAs, Gathers, IsRightFetch, fault_in}
use Rattle.lazy_names.specs.declared.fault.LazyFault.{LazyFault}
use Rattle.lazy_names.specs.declared.fault.LazyFault.TheVariants as lazy
use Rattle.lazy_names.specs.declared.fetched.FetchedName.{FetchedName}
use Rattle.lazy_names.proofs.Ruled.{fetch-asks}
use Rattle.lazy_names.proofs.Caches.{keeps-same}
use Rattle.step_rules.specs.declared.Refusal.{Refusal}
use Rattle.store_plans.specs.Looking.{AreServing, AreTablesBehind, Sees, asking_refusal, entries_of}
use Rattle.store_queries.specs.Names.{known_name}
use Rattle.store_queries.specs.Querying.{AreNamesIn, Fetches, FetchesSo, IsRightEnd, absent_ids, absent_of, lazy_ids}
use Rattle.store_plans.proofs.Asking.{anchors-are, front-name, heads-are, knowns, serve-as, stands-for}
use Rattle.store_plans.proofs.Heads.{known-of-id}
use Rattle.store_plans.proofs.StoredNames.{known-all}
use Rattle.commit_graph.proofs.Down.{in-left}

-- what was fetched, or why a command is refused
abbrev pub as_fetched : Result (List FetchedName) LazyFault → Result (List FetchedName) Refusal
as_fetched (Ok fetched) = Ok fetched
as_fetched (Err fault) = Err (asking_refusal fault)

-- ---- which ids have no stored name

module _ (base : BaseRef) (pending : PlainPending) (added : List Placed) (w : World Name) (rows : List (Row Name)) (s : Sees base pending added w rows) (tables : PlainTables) (bytes : List ℕ) (b : AreTablesBehind tables bytes added) (flats : List Segment)
    (segs : AreSegmentsOf (with_pending w rows) flats) (some : has_lazy (payloads_of added) w ≡ true) where
  abbrev own : List Known
  own = known_in (payloads_of added)

  -- the lazy ids are those without a known name
  pub lazy-filtered : (ids : List ℕ) → IsFiltered (IsLazy (known_of (added ++ b.behind)) (length w.master)) ids (lazy_ids (payloads_of added) w ids)
  lazy-filtered ids = filter-filters (is_lazy (payloads_of added) w) (IsLazy (known_of (added ++ b.behind)) (length w.master)) ids
      (λ id i e. let p = and_true (nat_lt id (length w.master)) (not (is_in nat_eq id (map (λ (k : Known). k.id) (known_in (payloads_of added))))) e in
      let lt = ltb-true id (length w.master) p.0 in (
        lt,
        λ name h. not_true (is_in nat_eq id (map (λ (k : Known). k.id) (known_in (payloads_of added)))) p.1
            (there nat_eq same-exact same-self id (map (λ (k : Known). k.id) (known_in (payloads_of added)))
            (into id name (known_in (payloads_of added)) (subst (IsIn {X = Known} (record { id = id; name = name })) (known-all added)
            (front-name base pending added w rows s tables bytes b flats segs some id name lt h)))),
      ))
      (λ id i h. both_true (nat_lt id (length w.master)) (not (is_in nat_eq id (map (λ (k : Known). k.id) (known_in (payloads_of added))))) (lt-ltb id (length w.master) h.0)
      (true_not (is_in nat_eq id (map (λ (k : Known). k.id) (known_in (payloads_of added))))
      (λ e. let (k, j, is) = known-of-id (known_in (payloads_of added)) id (found nat_eq same-exact same-self id (map (λ (k : Known). k.id) (known_in (payloads_of added))) e) in
      h.1 k.name (subst (λ n. HasName (known_of (added ++ b.behind)) n k.name) is
      (subst (IsIn k) (sym (knowns base pending added w rows s tables bytes b flats segs some)) (in-left k (known_in (payloads_of added)) (known_in (payloads_of b.behind)) j))))))
    where
      into : (id : ℕ) (name : Name) (ks : List Known) → IsIn {X = Known} (record { id = id; name = name }) ks → IsIn id (map (λ (k : Known). k.id) ks)
      into id name [] i = i
      into id name (k ∷ ks) (inl e) = inl (ap (λ (z : Known). z.id) e)
      into id name (k ∷ ks) (inr i) = inr (into id name ks i)

  -- mirrors that serve, and a cache that is right
  pub served-of : (rest : List Segment) → flats ≡ flat_segments_of 0 (parent_ids same_name w w.master) ++ rest → (entries : List Entry) (old : List Mirror) → AreServing (payloads_of added) w old → IsCacheOf w.master entries
      → AreServed flats (known_of (added ++ b.behind)) w.master (cloned_count (payloads_of added)) entries old
  served-of rest front entries old serving right =
      let heads = heads-are base pending added w rows s tables bytes b flats segs some in
      record {
        stands = stands-for base pending added w rows s tables bytes b flats segs some;
        room = heads.room;
        anchored = anchors-are base pending added w rows s tables bytes b flats segs some rest front;
        cached = right;
        serve = serve-as base pending added w rows s tables bytes b flats segs some old serving;
      }

-- where each commit has a stored name, no id has none
pub none-lazy : (payloads : List Payload) (w : World Name) → has_lazy payloads w ≡ false → (ids : List ℕ) → lazy_ids payloads w ids ≡ []
none-lazy payloads w none [] = refl
none-lazy payloads w none (id ∷ ids) = by_test (is_lazy payloads w id) refl (none-lazy payloads w none ids)
  where
    by_test : (z : Bool) → is_lazy payloads w id ≡ z → lazy_ids payloads w ids ≡ [] → (if z then id ∷ lazy_ids payloads w ids else lazy_ids payloads w ids) ≡ []
    by_test false e rec = rec
    by_test true e rec =
        let lt = ltb-true id (length w.master) (and_true (nat_lt id (length w.master)) (not (is_in nat_eq id (map (λ (k : Known). k.id) (known_in payloads)))) e).0 in
        absurd (true≢false (sym (in-any (is_lazy payloads w) (range_with_len 0 (length w.master)) id (in-range 0 (length w.master) id zero-le (omega (arith, lt))) e) ∙ none))

-- ---- what was gathered

same-entries : (names : List FetchedName) → fetched_entries names ≡ entries_of (map known_name names)
same-entries [] = refl
same-entries (f ∷ names) = ap (λ l. (f.id, f.name) ∷ l) (same-entries names)

same-ids : (names : List FetchedName) → map (λ (k : KnownName). k.id) (map known_name names) ≡ ids_fetched names
same-ids [] = refl
same-ids (f ∷ names) = ap (λ l. f.id ∷ l) (same-ids names)

same-absent : (cache : PlainCache) (names : List FetchedName) → length (absent_of cache (map known_name names)) ≡ count_uncached cache.entries (ids_fetched names)
same-absent cache [] = refl
same-absent cache (f ∷ names) = by_test (is_uncached cache.entries f.id) (same-absent cache names)
  where
    by_test : (z : Bool) → length (absent_of cache (map known_name names)) ≡ count_uncached cache.entries (ids_fetched names)
        → length (if z then known_name f ∷ absent_of cache (map known_name names) else absent_of cache (map known_name names))
        ≡ length (if z then f.id ∷ filter (is_uncached cache.entries) (ids_fetched names) else filter (is_uncached cache.entries) (ids_fetched names))
    by_test true e = ap suc e
    by_test false e = e

taken : (n : ℕ) (xs : List ℕ) (x : ℕ) → IsIn x (take n xs) → IsIn x xs
taken zero xs x i = absurd i
taken (suc n) [] x i = absurd i
taken (suc n) (y ∷ xs) x (inl e) = inl e
taken (suc n) (y ∷ xs) x (inr i) = inr (taken n xs x i)

module _ (payloads : List Payload) (w : World Name) (rows : List (Row Name)) (ids : List ℕ) (old new : List Mirror) (before now : PlainCache) where
  abbrev wanted : List ℕ
  wanted = lazy_ids payloads w ids

  abbrev all : ℕ
  all = length (absent_ids before (lazy_ids payloads w ids))

  -- nothing was touched: each of the ids has a stored name
  pub fetches-none : has_lazy payloads w ≡ false → lazy_ids payloads w ids ≡ [] → new ≡ old → now ≡ before → (result : Result (List FetchedName) Refusal) → result ≡ Ok [] → Fetches payloads w rows ids old new before now result
  fetches-none none empty same kept result is =
      subst (Fetches payloads w rows ids old new before now) (sym is)
      (subst (λ c. Fetches payloads w rows ids old new before c (Ok [])) (sym kept) (subst (λ ms. Fetches payloads w rows ids old ms before before (Ok [])) (sym same) (record {
        answered = 0;
        end = None;
        names = [];
        asks = ([], tt, zero-le, (λ le. absurd (omega (arith, le))), (refl, refl, refl));
        gain = zero-le;
        keeps = keeps-same [] before;
        ends = (refl, sym (ap (λ l. length (absent_ids before l)) empty));
        within = λ k i. absurd i;
        whole = (refl, sym empty);
        right = λ r c. (tt, tt);
      })))

  ends-so : (r : Result (List FetchedName) LazyFault) (answered : ℕ) (counts : List ℕ) (end : Option MirrorFault) → GathersAs all counts answered end (fault_in r) → FetchesSo all answered end (as_fetched r)
  ends-so (Ok fetched) answered counts end h = h
  ends-so (Err lazy.NoRemote) answered counts end h = (mirror.NoRemote, h, refl)
  ends-so (Err (lazy.AllFailed n)) answered counts end h = (mirror.AllFailed n, h, refl)
  ends-so (Err (lazy.BadPath x n)) answered counts end h = absurd h
  ends-so (Err (lazy.BadNames a g)) answered counts end h = (h.0, h.1)
  ends-so (Err lazy.Memory) answered counts end h = h

  right-end : (r : Result (List FetchedName) LazyFault) (cloned : ℕ) → IsRightFetch w.master cloned new now.entries r → IsRightEnd (as_fetched r)
  right-end (Ok fetched) cloned h = tt
  right-end (Err lazy.NoRemote) cloned h = tt
  right-end (Err (lazy.AllFailed n)) cloned h = tt
  right-end (Err (lazy.BadPath x n)) cloned h = absurd h
  right-end (Err (lazy.BadNames a g)) cloned h = absurd h
  right-end (Err lazy.Memory) cloned h = tt

  module _ (flats : List Segment) (some : has_lazy payloads w ≡ true) (names : List FetchedName) (r : Result (List FetchedName) LazyFault) (given : IfOk r (λ fetched. fetched ≡ names))
      (keeps : Keeps (fetched_entries names) before now) (gathers : Gathers flats before.entries (lazy_ids payloads w ids) old new names (fault_in r))
      (right : AreServing payloads w old → IsCacheOf w.master before.entries → AreNamed w.master names × IsRightFetch w.master (cloned_count payloads) new now.entries r) where
    all-within : (k : KnownName) → IsIn k (map known_name names) → IsIn k.id (lazy_ids payloads w ids)
    all-within k i = taken (length names) (lazy_ids payloads w ids) k.id (subst (IsIn k.id) gathers.front (id-in names i))
      where
        id-in : (fs : List FetchedName) → IsIn k (map known_name fs) → IsIn k.id (ids_fetched fs)
        id-in [] i = i
        id-in (f ∷ fs) (inl e) = inl (ap (λ (z : KnownName). z.id) e)
        id-in (f ∷ fs) (inr i) = inr (id-in fs i)

    named-too : (fs : List FetchedName) → AreNamed w.master fs → AreNamesIn w (map known_name fs)
    named-too [] h = tt
    named-too (f ∷ fs) h = (h.0, named-too fs h.1)

    when-ok : (r : Result (List FetchedName) LazyFault) → IfOk r (λ fetched. fetched ≡ names) → (fault_in r ≡ None → ids_fetched names ≡ lazy_ids payloads w ids)
        → IfOk (as_fetched r) (λ fetched. (map known_name names ≡ map known_name fetched) × (map (λ (k : KnownName). k.id) (map known_name names) ≡ lazy_ids payloads w ids))
    when-ok (Ok fetched) e whole = (ap (map known_name) (sym e), same-ids names ∙ whole refl)
    when-ok (Err fault) e whole = tt

    pub fetches-so : Fetches payloads w rows ids old new before now (as_fetched r)
    fetches-so =
        let a = gathers.asked in record {
          answered = a.answered;
          end = a.end;
          names = map known_name names;
          asks = fetch-asks (count_uncached before.entries (lazy_ids payloads w ids)) (count_uncached before.entries (ids_fetched names)) old new (fault_in r) a;
          gain = subst (λ n. n ≤ a.answered) (sym (same-absent before names)) a.gain;
          keeps = subst (λ l. Keeps l before now) (same-entries names) keeps;
          ends = ends-so r a.answered a.counts a.end a.ends;
          within = all-within;
          whole = when-ok r given gathers.whole;
          right = λ v c. let q = right (⊎_elim (λ none. absurd (true≢false (sym some ∙ none))) (λ s. s) v) c in (named-too names q.0, right-end r (cloned_count payloads) q.1);
        }
