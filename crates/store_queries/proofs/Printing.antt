-- How many names of an answer have to be asked, and how many may be.
use Rattle.std.proofs.Common.{◌≡◌, ◌≢◌, ◌≤◌, ◌<◌, ◌+◌, ◌-◌, ◌&&◌, not, ℕ, suc, Bool, true, false, inl, inr, ◌⊎◌, List, [], ◌∷◌, ◌++◌, length, map, filter, nat_eq, Option, Some, None, Result, Ok, Err, refl, sym, ap, subst, ◌∙◌, ⊎_elim, arith, zero-le, true≢false, if◌then◌else◌, append-nil, length-append}
use Rattle.std.specs.Prelude.{min}
use Rattle.std.proofs.Math.Nat.{min-eq_left, min-eq_right}
use Rattle.std.proofs.lemmas.List.{length-map}
use Rattle.id_groups.specs.Lists.{IsIn, AreDistinct, is_in}
use Rattle.id_groups.specs.Name.{Name}
use Rattle.id_groups.proofs.Listing.{and_true, found, there, true_not}
use Rattle.commit_graph.specs.World.{World}
use Rattle.commit_graph.proofs.Down.{in-left, in-right}
use Rattle.segment_codec.proofs.Tables.{le_or_lt}
use Rattle.batch_codec.specs.Payload.{Payload}
use Rattle.remote_rules.specs.CloneData.{KnownName}
use Rattle.remote_rules.specs.Mirror.{Mirror}
use Rattle.remote_rules.specs.Asking.{AsksForNames, AsksInTurn}
use Rattle.remote_rules.specs.declared.MirrorFault.{MirrorFault}
use Rattle.remote_rules.specs.declared.MirrorFault.TheVariants as mirror
use Rattle.payload_tables.proofs.Lists.{distinct-join, same-exact, same-self}
use Rattle.lazy_names.specs.Cache.{Entry, PlainCache, Keeps, cached_ids}
use Rattle.lazy_names.specs.declared.fetched.FetchedName.{FetchedName}
use Rattle.lazy_names.proofs.Caches.{no-longer}
use Rattle.step_rules.specs.declared.Refusal.{Refusal}
use Rattle.step_rules.specs.declared.Refusal.TheVariants as why
use Rattle.step_rules.specs.State.{Cache}
use Rattle.step_rules.specs.Asked.{is_cached, is_found}
use Rattle.step_rules.specs.Tests.{Test}
use Rattle.step_rules.specs.Asking.{TriesAll, refusal_for, refused_by}
use Rattle.store_plans.specs.Looking.{AsksAlike, IsSoundCache, IsTold, entries_of, refusal_in}
use Rattle.store_queries.specs.Querying.{FetchesSo, IsRightEnd, absent_of, printing}
use Rattle.store_plans.proofs.Heads.{filtered, from-map, kept}
use Rattle.store_plans.proofs.Trials.{tries-one}

abbrev W : Type 0
W = Unit {0}

-- ---- filters

module _ {X : Type 0} where
  pub both-filters : (p q g : X → Bool) (xs : List X) → ((x : X) → p x ≡ true → q x ≡ true → g x ≡ true) → length (filter q (filter p xs)) ≤ length (filter g xs)
  both-filters p q g [] h = zero-le
  both-filters p q g (x ∷ xs) h = by_test (p x) refl (both-filters p q g xs h)
    where
      by_second : (b c : Bool) → (b ≡ true → c ≡ true) → length (filter q (filter p xs)) ≤ length (filter g xs)
          → length (if b then x ∷ filter q (filter p xs) else filter q (filter p xs)) ≤ length (if c then x ∷ filter g xs else filter g xs)
      by_second true true k le = omega (arith, le)
      by_second true false k le = absurd (true≢false (sym (k refl)))
      by_second false true k le = omega (arith, le)
      by_second false false k le = le

      longer : (c : Bool) → length (filter q (filter p xs)) ≤ length (filter g xs) → length (filter q (filter p xs)) ≤ length (if c then x ∷ filter g xs else filter g xs)
      longer true le = omega (arith, le)
      longer false le = le

      by_test : (a : Bool) → p x ≡ a → length (filter q (filter p xs)) ≤ length (filter g xs) → length (filter q (if a then x ∷ filter p xs else filter p xs)) ≤ length (if g x then x ∷ filter g xs else filter g xs)
      by_test true e le = by_second (q x) (g x) (h x e) le
      by_test false e le = longer (g x) le

  pub fewer : (p : X → Bool) (xs : List X) → length (filter p xs) ≤ length xs
  fewer p [] = zero-le
  fewer p (x ∷ xs) = by_test (p x) (fewer p xs)
    where
      by_test : (b : Bool) → length (filter p xs) ≤ length xs → length (if b then x ∷ filter p xs else filter p xs) ≤ suc (length xs)
      by_test true le = omega (arith, le)
      by_test false le = omega (arith, le)

  module _ (f g : X → Bool) where
    abbrev rest : List X → List X
    rest xs = filter (λ x. not (f x) && g x) xs

    split : (xs : List X) → length (filter g xs) ≤ length (filter f xs) + length (filter (λ x. not (f x) && g x) xs)
    split [] = zero-le
    split (x ∷ xs) = by_test (f x) (g x) (split xs)
      where
        by_test : (a b : Bool) → length (filter g xs) ≤ length (filter f xs) + length (rest xs)
            → length (if b then x ∷ filter g xs else filter g xs) ≤ length (if a then x ∷ filter f xs else filter f xs) + length (if not a && b then x ∷ rest xs else rest xs)
        by_test true true le = omega (arith, le)
        by_test true false le = omega (arith, le)
        by_test false true le = omega (arith, le)
        by_test false false le = le

    within : (xs : List X) → length (filter f xs) + length (filter (λ x. not (f x) && g x) xs) ≤ length xs
    within [] = zero-le
    within (x ∷ xs) = by_test (f x) (g x) (within xs)
      where
        by_test : (a b : Bool) → length (filter f xs) + length (rest xs) ≤ length xs → length (if a then x ∷ filter f xs else filter f xs) + length (if not a && b then x ∷ rest xs else rest xs) ≤ suc (length xs)
        by_test true true le = omega (arith, le)
        by_test true false le = omega (arith, le)
        by_test false true le = omega (arith, le)
        by_test false false le = omega (arith, le)

pub distinct-filter : (f : ℕ → Bool) (xs : List ℕ) → AreDistinct xs → AreDistinct (filter f xs)
distinct-filter f [] d = tt
distinct-filter f (x ∷ xs) d = by_test (f x) (distinct-filter f xs d.1)
  where
    by_test : (b : Bool) → AreDistinct (filter f xs) → AreDistinct (if b then x ∷ filter f xs else filter f xs)
    by_test true r = ((λ i. d.0 (filtered f xs x i).0), r)
    by_test false r = r

distinct-ids : (f : KnownName → Bool) (xs : List KnownName) → AreDistinct (map (λ (k : KnownName). k.id) xs) → AreDistinct (map (λ (k : KnownName). k.id) (filter f xs))
distinct-ids f [] d = tt
distinct-ids f (x ∷ xs) d = by_test (f x) (distinct-ids f xs d.1)
  where
    into : (ks : List KnownName) (k : KnownName) → IsIn k ks → IsIn k.id (map (λ (k : KnownName). k.id) ks)
    into [] k i = i
    into (y ∷ ks) k (inl e) = inl (ap (λ (z : KnownName). z.id) e)
    into (y ∷ ks) k (inr i) = inr (into ks k i)

    by_test : (b : Bool) → AreDistinct (map (λ (k : KnownName). k.id) (filter f xs)) → AreDistinct (map (λ (k : KnownName). k.id) (if b then x ∷ filter f xs else filter f xs))
    by_test true r = ((λ i. let (k, j, is) = from-map (λ (k : KnownName). k.id) (filter f xs) x.id i in d.0 (subst (λ n. IsIn n (map (λ (k : KnownName). k.id) xs)) (sym is) (into xs k (filtered f xs k j).0))), r)
    by_test false r = r

-- ---- how many ids go from a cache

pub in-ids : (es : List Entry) (id : ℕ) (name : Name) → IsIn (id, name) es → IsIn id (cached_ids es)
in-ids [] id name i = i
in-ids (x ∷ es) id name (inl e) = inl (ap (λ (z : Entry). z.0) e)
in-ids (x ∷ es) id name (inr i) = inr (in-ids es id name i)

pub ids-length : (es : List Entry) → length (cached_ids es) ≡ length es
ids-length es = length-map es (λ (e : Entry). e.0)

pub entry-at : (es : List Entry) (id : ℕ) → IsIn id (cached_ids es) → (name : Name) × IsIn (id, name) es
entry-at [] id i = absurd i
entry-at (e ∷ es) id (inl f) = (e.1, inl (ap (λ n. (n, e.1)) f))
entry-at (e ∷ es) id (inr i) = let r = entry-at es id i in (r.0, inr r.1)

-- no more go than were put in
pub gone-few : (a m : PlainCache) (added : List Entry) → Keeps added a m → IsSoundCache a → IsSoundCache m → (ids : List ℕ) → AreDistinct ids → ((id : ℕ) → IsIn id ids → IsIn id (cached_ids a.entries) × (IsIn id (cached_ids m.entries) → ⊥))
    → length ids ≤ length added
gone-few a m added k sa sm ids d h =
    let others = filter (λ id. not (is_in nat_eq id ids)) (cached_ids a.entries) in
    let first = no-longer (ids ++ others) (cached_ids a.entries) (distinct-join ids others d (distinct-filter (λ id. not (is_in nat_eq id ids)) (cached_ids a.entries) sa.once)
    (λ id i j. apart id i (filtered (λ id. not (is_in nat_eq id ids)) (cached_ids a.entries) id j).1)) (λ id i. either id i) in
    let second = no-longer (cached_ids m.entries) (others ++ cached_ids added) sm.once (λ id i. new id i) in
    let one = length-append ids others in
    let two = length-append others (cached_ids added) in
    let n = ids-length a.entries in
    let o = ids-length m.entries in
    let p = ids-length added in
    let grows = k.grows in
    omega (arith, first, second, one, two, n, o, p, grows)
  where
    apart : (id : ℕ) → IsIn id ids → not (is_in nat_eq id ids) ≡ true → ⊥
    apart id i e = true≢false (sym e ∙ ap not (there nat_eq same-exact same-self id ids i))

    either : (id : ℕ) → IsIn id (ids ++ filter (λ id. not (is_in nat_eq id ids)) (cached_ids a.entries)) → IsIn id (cached_ids a.entries)
    either id i = ⊎_elim (λ j. (h id j).0) (λ j. (filtered (λ id. not (is_in nat_eq id ids)) (cached_ids a.entries) id j).0) (parted ids (filter (λ id. not (is_in nat_eq id ids)) (cached_ids a.entries)) id i)
      where
        parted : (xs ys : List ℕ) (x : ℕ) → IsIn x (xs ++ ys) → IsIn x xs ⊎ IsIn x ys
        parted [] ys x i = inr i
        parted (z ∷ xs) ys x (inl e) = inl (inl e)
        parted (z ∷ xs) ys x (inr i) = ⊎_elim (λ j. inl (inr j)) (λ j. inr j) (parted xs ys x i)

    new : (id : ℕ) → IsIn id (cached_ids m.entries) → IsIn id (filter (λ id. not (is_in nat_eq id ids)) (cached_ids a.entries) ++ cached_ids added)
    new id i =
        let others = filter (λ id. not (is_in nat_eq id ids)) (cached_ids a.entries) in
        let (name, at) = entry-at m.entries id i in
        ⊎_elim
        (λ j. in-left id others (cached_ids added) (kept (λ id. not (is_in nat_eq id ids)) (cached_ids a.entries) id (in-ids a.entries id name j)
        (true_not (is_in nat_eq id ids) (λ e. (h id (found nat_eq same-exact same-self id ids e)).1 i))))
        (λ j. in-right id others (cached_ids added) (in-ids added id name j))
        (k.new (id, name) at)

-- ---- lazy commits of an answer, those of which a cache has no name, and those that were found

le-min : (q a b : ℕ) → q ≤ a → q ≤ b → q ≤ min a b
le-min q a b h g = ⊎_elim (λ (le : a ≤ b). subst (λ z. q ≤ z) (sym (min-eq_left {n = a} {m = b} le)) h)
    (λ (lt : b < a). subst (λ z. q ≤ z) (sym (min-eq_right {n = b} {m = a} (omega (arith, lt)))) g)
    (⊎_elim (λ (z : a ≤ b). inl z) (λ (z : b < a). inr z) (le_or_lt a b))

found-entry : (gained : List KnownName) (id : ℕ) (name : Name) → IsIn (id, name) (entries_of gained) → IsIn id (map (λ (k : KnownName). k.id) gained)
found-entry [] id name i = i
found-entry (k ∷ gained) id name (inl e) = inl (ap (λ (z : Entry). z.0) e)
found-entry (k ∷ gained) id name (inr i) = inr (found-entry gained id name i)

module _ (cache : Cache) (a m : PlainCache) (gained lazy : List KnownName) (same : (k : KnownName) → is_cached cache k ≡ is_in nat_eq k.id (cached_ids a.entries)) (keeps : Keeps (entries_of gained) a m) (sa : IsSoundCache a) (sm : IsSoundCache m)
    (distinct : AreDistinct (map (λ (k : KnownName). k.id) lazy)) where
  abbrev absent : List KnownName
  absent = filter (λ (k : KnownName). not (is_cached cache k)) lazy

  abbrev wanted : List KnownName
  wanted = filter (λ (k : KnownName). not (is_found gained k)) absent

  abbrev out : KnownName → Bool
  out k = not (is_in nat_eq k.id (cached_ids m.entries))

  -- what is wanted isn't there
  pub wanted-most : length wanted ≤ length (absent_of m lazy)
  wanted-most = both-filters (λ (k : KnownName). not (is_cached cache k)) (λ (k : KnownName). not (is_found gained k)) out lazy
      (λ k p q. true_not (is_in nat_eq k.id (cached_ids m.entries)) (λ e.
      let (name, at) = entry-at m.entries k.id (found nat_eq same-exact same-self k.id (cached_ids m.entries) e) in
      ⊎_elim (λ j. true≢false (sym p ∙ ap not (same k ∙ there nat_eq same-exact same-self k.id (cached_ids a.entries) (in-ids a.entries k.id name j))))
      (λ j. true≢false (sym q ∙ ap not (there nat_eq same-exact same-self k.id (map (λ (c : KnownName). c.id) gained) (found-entry gained k.id name j))))
      (keeps.new (k.id, name) at)))

  -- and what isn't there is no more than is wanted and may be asked
  pub asked-most : length (absent_of m lazy) ≤ length wanted + ((length absent - length wanted) + min (length gained) (length lazy - length absent))
  asked-most =
      let f : KnownName → Bool = λ k. not (is_cached cache k) in
      let went = filter (λ (k : KnownName). not (not (is_cached cache k)) && not (is_in nat_eq k.id (cached_ids m.entries))) lazy in
      let parts = split f out lazy in
      let all = within f out lazy in
      let less = fewer (λ (k : KnownName). not (is_found gained k)) absent in
      let few = gone-few a m (entries_of gained) keeps sa sm (map (λ (k : KnownName). k.id) went) (distinct-ids (λ k. not (f k) && out k) lazy distinct) gone in
      let n = length-map went (λ (k : KnownName). k.id) in
      let o = length-map {B = Entry} gained (λ (k : KnownName). (k.id, k.name)) in
      let most = le-min (length went) (length gained) (length lazy - length absent) (omega (arith, few, n, o)) (omega (arith, all)) in
      omega (arith, parts, less, most)
    where
      gone : (id : ℕ) → IsIn id (map (λ (k : KnownName). k.id) (filter (λ (k : KnownName). not (not (is_cached cache k)) && not (is_in nat_eq k.id (cached_ids m.entries))) lazy))
          → IsIn id (cached_ids a.entries) × (IsIn id (cached_ids m.entries) → ⊥)
      gone id i =
          let (k, j, is) = from-map (λ (k : KnownName). k.id) (filter (λ (k : KnownName). not (not (is_cached cache k)) && not (is_in nat_eq k.id (cached_ids m.entries))) lazy) id i in
          let test = (filtered (λ (k : KnownName). not (not (is_cached cache k)) && not (is_in nat_eq k.id (cached_ids m.entries))) lazy k j).1 in
          let both = and_true (not (not (is_cached cache k))) (not (is_in nat_eq k.id (cached_ids m.entries))) test in
          subst (λ n. IsIn n (cached_ids a.entries) × (IsIn n (cached_ids m.entries) → ⊥)) (sym is) (
            found nat_eq same-exact same-self k.id (cached_ids a.entries) (sym (same k) ∙ twice (is_cached cache k) both.0),
            λ l. true≢false (sym both.1 ∙ ap not (there nat_eq same-exact same-self k.id (cached_ids m.entries) l)),
          )
        where
          twice : (b : Bool) → not (not b) ≡ true → b ≡ true
          twice true e = refl
          twice false e = e

-- ---- the test of names that are printed

no-counts : (counts : List ℕ) (answered : ℕ) (old new : List Mirror) (end : Option MirrorFault) → AsksInTurn answered counts old end new → counts ≡ [] → (answered ≡ 0) × (end ≡ None) × (new ≡ old)
no-counts counts answered old new end turn e = subst (λ l. AsksInTurn answered l old end new) e turn

module _ (most answered : ℕ) (end : Option MirrorFault) (mid new : List Mirror) (asks : AsksForNames 0 most answered mid end new) where
  -- whatever is told
  told-by : (told verdict : Option Refusal) → verdict ≡ refused_by end told → TriesAll W mid (record { must = 0; may = most; finds = []; refusal = told } ∷ []) verdict new []
  told-by told verdict is = tries-one mid new (record { must = 0; may = most; finds = []; refusal = told }) verdict [] (answered, end, asks, (zero-le, λ k i. absurd i), is)

  module _ (payloads : List Payload) (w : World Name) where
    alike : (told verdict : Option Refusal) → IsTold payloads w told → verdict ≡ refused_by end told → AsksAlike payloads w (printing most ∷ []) mid new verdict
    alike told verdict fine is = ([], record { front = printing most ∷ []; rest = []; parts = refl; whole = λ e. refl; told = record { must = 0; may = most; finds = []; refusal = told } ∷ []; alike = ((refl, refl, fine), tt); tries = told-by told verdict is })

    by-fault : (refusal : Refusal) → ((fault : MirrorFault) × (end ≡ Some fault) × (refusal ≡ refusal_for fault)) → AsksAlike payloads w (printing most ∷ []) mid new (Some refusal)
    by-fault refusal f = alike None (Some refusal) tt (ap Some f.2 ∙ ap (λ o. refused_by o None) (sym f.1))

    pub told-so : (r : Result (List FetchedName) Refusal) → FetchesSo most answered end r → AsksAlike payloads w (printing most ∷ []) mid new (refusal_in r)
    told-so (Ok names) ends = alike None None tt (ap (λ o. refused_by o None) (sym ends.0))
    told-so (Err (why.MismatchNames m n)) ends = alike (Some (why.MismatchNames m n)) (Some (why.MismatchNames m n)) ends.1 (ap (λ o. refused_by o (Some (why.MismatchNames m n))) (sym ends.0))
    told-so (Err (why.MismatchPath x n)) ends = absurd ends
    told-so (Err why.Memory) ends = ⊎_elim
        (λ e. alike (Some why.Memory) (Some why.Memory) tt (ap (λ o. refused_by o (Some why.Memory)) (sym e)))
        (λ e. alike None (Some why.Memory) tt (ap (λ o. refused_by o None) (sym e))) ends
    told-so (Err why.NoRemote) ends = by-fault why.NoRemote ends
    told-so (Err (why.Unknown x)) ends = by-fault (why.Unknown x) ends
    told-so (Err (why.Twice x)) ends = by-fault (why.Twice x) ends
    told-so (Err (why.Differs x)) ends = by-fault (why.Differs x) ends
    told-so (Err (why.Conflict x)) ends = by-fault (why.Conflict x) ends
    told-so (Err (why.Full what n)) ends = by-fault (why.Full what n) ends
    told-so (Err (why.Answer n)) ends = by-fault (why.Answer n) ends
    told-so (Err (why.NotEmpty m o)) ends = by-fault (why.NotEmpty m o) ends
    told-so (Err (why.Pending n)) ends = by-fault (why.Pending n) ends
    told-so (Err (why.Remote n)) ends = by-fault (why.Remote n) ends
    told-so (Err (why.MismatchClone n)) ends = by-fault (why.MismatchClone n) ends
    told-so (Err (why.MismatchRow n)) ends = by-fault (why.MismatchRow n) ends
    told-so (Err (why.InMaster x)) ends = by-fault (why.InMaster x) ends
    told-so (Err (why.Lost x)) ends = by-fault (why.Lost x) ends
    told-so (Err (why.Emptied n)) ends = by-fault (why.Emptied n) ends

  -- of honest mirrors: so many have to be asked, and so many more may be
  module _ (must may : ℕ) (finds : List KnownName) (least : must ≤ most) (enough : most ≤ must + may) (gained : List KnownName) (few : length gained ≤ answered) (right : (k : KnownName) → IsIn k gained → IsIn k finds) where
    abbrev test : Test
    test = record { must = must; may = may; finds = finds; refusal = None }

    asks-more : (1 ≤ must → asks.0 ≢ []) → AsksForNames must may answered mid end new
    asks-more some = (asks.0, asks.1, (let sum = asks.2 in omega (arith, sum, enough)), some, asks.4)

    tried : (verdict : Option Refusal) → (1 ≤ must → asks.0 ≢ []) → verdict ≡ refused_by end None → TriesAll W mid (record { must = must; may = may; finds = finds; refusal = None } ∷ []) verdict new gained
    tried verdict some is = tries-one mid new (record { must = must; may = may; finds = finds; refusal = None }) verdict gained (answered, end, asks-more some, (few, right), is)

    faulty : (refusal : Refusal) → ((fault : MirrorFault) × (end ≡ Some fault) × (refusal ≡ refusal_for fault)) → TriesAll W mid (record { must = must; may = may; finds = finds; refusal = None } ∷ []) (Some refusal) new gained
    faulty refusal f = tried (Some refusal) (λ one e. let none = (no-counts asks.0 answered mid new end asks.4 e).1 in cc) (ap Some f.2 ∙ ap (λ o. refused_by o None) (sym f.1))

    unkept : end ≡ None → TriesAll W mid (record { must = must; may = may; finds = finds; refusal = None } ∷ []) (Some why.Memory) new gained
    unkept e = by-counts asks.0 refl
      where
        by-counts : (counts : List ℕ) → asks.0 ≡ counts → TriesAll W mid (record { must = must; may = may; finds = finds; refusal = None } ∷ []) (Some why.Memory) new gained
        by-counts [] is =
            let none = no-counts asks.0 answered mid new end asks.4 is in
            let zero-gained : length gained ≡ 0 = (let n = none.0 in omega (arith, few, n)) in
            inl (none.2, no-items gained zero-gained, tt, refl)
          where
            no-items : (ks : List KnownName) → length ks ≡ 0 → ks ≡ []
            no-items [] e = refl
            no-items (k ∷ ks) e = absurd (omega (arith, e))
        by-counts (n ∷ counts) is =
            inr (None, new, gained, (answered, end, asks-more (λ one e. (let both : n ∷ counts ≡ [] = sym is ∙ e in cc)), (few, right), ap (λ o. refused_by o None) (sym e)), ([], sym (append-nil gained), (refl, refl, inr (tt, refl))))

    pub prints-so : (r : Result (List FetchedName) Refusal) → FetchesSo most answered end r → IsRightEnd r → TriesAll W mid (record { must = must; may = may; finds = finds; refusal = None } ∷ []) (refusal_in r) new gained
    prints-so (Ok names) ends honest =
        tried None (λ one e. let none = (no-counts asks.0 answered mid new end asks.4 e).0 in let all = ends.1 in omega (arith, one, none, all, least)) (ap (λ o. refused_by o None) (sym ends.0))
    prints-so (Err (why.MismatchNames m n)) ends honest = absurd honest
    prints-so (Err (why.MismatchPath x n)) ends honest = absurd ends
    prints-so (Err why.Memory) ends honest = ⊎_elim (λ e. unkept e) (λ e. faulty why.Memory (mirror.Memory, e, refl)) ends
    prints-so (Err why.NoRemote) ends honest = faulty why.NoRemote ends
    prints-so (Err (why.Unknown x)) ends honest = faulty (why.Unknown x) ends
    prints-so (Err (why.Twice x)) ends honest = faulty (why.Twice x) ends
    prints-so (Err (why.Differs x)) ends honest = faulty (why.Differs x) ends
    prints-so (Err (why.Conflict x)) ends honest = faulty (why.Conflict x) ends
    prints-so (Err (why.Full what n)) ends honest = faulty (why.Full what n) ends
    prints-so (Err (why.Answer n)) ends honest = faulty (why.Answer n) ends
    prints-so (Err (why.NotEmpty m o)) ends honest = faulty (why.NotEmpty m o) ends
    prints-so (Err (why.Pending n)) ends honest = faulty (why.Pending n) ends
    prints-so (Err (why.Remote n)) ends honest = faulty (why.Remote n) ends
    prints-so (Err (why.MismatchClone n)) ends honest = faulty (why.MismatchClone n) ends
    prints-so (Err (why.MismatchRow n)) ends honest = faulty (why.MismatchRow n) ends
    prints-so (Err (why.InMaster x)) ends honest = faulty (why.InMaster x) ends
    prints-so (Err (why.Lost x)) ends honest = faulty (why.Lost x) ends
    prints-so (Err (why.Emptied n)) ends honest = faulty (why.Emptied n) ends
