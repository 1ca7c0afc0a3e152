-- What a look-up of one name comes to.
use Rattle.std.proofs.Common.{◌≡◌, ◌<◌, ◌^◌, ◌&&◌, not, ℕ, Bool, true, false, inl, inr, List, [], ◌∷◌, ◌++◌, length, map, flat_map, nat_eq, Option, Some, None, Result, Ok, Err, slice_get, is_some, refl, sym, ap, ap₂, subst, ◌∙◌, ⊎_elim, arith, true≢false, zero-le, if◌then◌else◌, lt-ltb, length-append, suc}
use Rattle.std.specs.Prelude.{IfOk, IfSome, IsErrAnd}
use Rattle.std.proofs.lemmas.List.{map-append}
use Rattle.id_groups.specs.Lists.{IsIn, is_in}
use Rattle.id_groups.specs.Name.{Name, same_name}
use Rattle.id_groups.specs.Id.{other_id}
use Rattle.id_groups.proofs.Names.{same_name-exact, same_name-self}
use Rattle.id_groups.proofs.Listing.{found, there, missing, and_true}
use Rattle.commit_graph.specs.World.{Row, World, names_of, rows_of, with_pending}
use Rattle.commit_graph.specs.Ids.{id_in, place_of}
use Rattle.commit_graph.proofs.Down.{in-left, in-right}
use Rattle.commit_graph.proofs.Histories.{in-append}
use Rattle.batch_codec.specs.Payload.{Payload, Known, known_names}
use Rattle.name_map.specs.Added.{Placed, payloads_of, known_of}
use Rattle.change_rules.specs.Lazy.{is_lazy, has_lazy, stored_names}
use Rattle.change_rules.specs.Change.{known_from}
use Rattle.change_rules.specs.Tables.{StandFor, known_in, newest, other_names_in}
use Rattle.remote_rules.specs.CloneData.{KnownName}
use Rattle.remote_rules.specs.Mirror.{Mirror}
use Rattle.remote_rules.specs.Asking.{AsksForNames}
use Rattle.remote_rules.specs.declared.MirrorFault.{MirrorFault}
use Rattle.payload_tables.specs.Bases.{stored_in}
use Rattle.payload_tables.proofs.Lists.{names-length, same-self, same-exact}
use Rattle.change_parts.specs.Asked.{IsStored}
use Rattle.change_parts.proofs.StoredNames.{stored-names}
use Rattle.lazy_names.specs.Cache.{PlainCache}
use Rattle.lazy_names.proofs.Caches.{keeps-same}
use Rattle.step_rules.specs.declared.Refusal.{Refusal}
use Rattle.step_rules.specs.declared.Refusal.TheVariants as why
use Rattle.step_rules.specs.Tests.{Test, named, unknown, refuse_if}
use Rattle.step_rules.specs.Asking.{refusal_for, refused_by}
use Rattle.step_rules.specs.Worlds.{has}
use Rattle.store_plans.specs.Looking.{AreRight, AreServing, Asked, EndsSo, FindsIn, IsAsSeen, IsRightOf, IsTold, IsViewId, Looks, LooksSo, Tried, found_in, gained_by, is_asked_in, seen_as, test_in, FindsOne, seen_tests}
use Rattle.store_plans.proofs.StoredNames.{known-all, known-row, stored-are}
use Rattle.store_plans.proofs.Asking.{master-id}
use Rattle.store_plans.proofs.Trials.{tried-asked}

pub some-is-none : {X : Type 0} {x : X} → ◌≡◌ {A = Option X} (Some x) None → ⊥
some-is-none e = true≢false (ap is_some e)

-- the place of a name that is there
pub place-below : (x : Name) (xs : List Name) → IsIn x xs → place_of same_name x xs < length xs
place-below x [] i = absurd i
place-below x (y ∷ xs) i = by_test (same_name y x) refl i (place-below x xs)
  where
    by_test : (b : Bool) → same_name y x ≡ b → IsIn x (y ∷ xs) → (IsIn x xs → place_of same_name x xs < length xs) → (if b then 0 else suc (place_of same_name x xs)) < suc (length xs)
    by_test true e i rec = omega arith
    by_test false e (inl f) rec = absurd (true≢false (sym (same_name-self x) ∙ ap (λ z. same_name z x) f ∙ e))
    by_test false e (inr j) rec = let r = rec j in omega (arith, r)

at-place : (x : Name) (xs : List Name) → IsIn x xs → slice_get xs (place_of same_name x xs) ≡ Some x
at-place x [] i = absurd i
at-place x (y ∷ xs) i = by_test (same_name y x) refl i (at-place x xs)
  where
    by_test : (b : Bool) → same_name y x ≡ b → IsIn x (y ∷ xs) → (IsIn x xs → slice_get xs (place_of same_name x xs) ≡ Some x) → slice_get (y ∷ xs) (if b then 0 else suc (place_of same_name x xs)) ≡ Some x
    by_test true e i rec = ap Some (same_name-exact y x e)
    by_test false e (inl f) rec = absurd (true≢false (sym (same_name-self x) ∙ ap (λ z. same_name z x) f ∙ e))
    by_test false e (inr j) rec = rec j

-- ---- tests of names

named-must : (b : Bool) (finds : List KnownName) (r q : Option Refusal) → (named b finds r).must ≡ (named b finds q).must
named-must true finds r q = refl
named-must false finds r q = refl

named-may : (b : Bool) (finds : List KnownName) (r : Option Refusal) → (named b finds r).may ≡ 0
named-may true finds r = refl
named-may false finds r = refl

named-finds : (b : Bool) (finds : List KnownName) (r q : Option Refusal) → (named b finds r).finds ≡ (named b finds q).finds
named-finds true finds r q = refl
named-finds false finds r q = refl

pub named-refusal : (b : Bool) (finds : List KnownName) (r : Option Refusal) → (named b finds r).refusal ≡ r
named-refusal true finds r = refl
named-refusal false finds r = refl

module _ (payloads : List Payload) (w : World Name) (rows : List (Row Name)) (name : Name) where
  abbrev view : World Name
  view = with_pending w rows

  as-seen : (b : Bool) → has (with_pending w rows) name ≡ b → seen_as w rows name ≡ (if b then Some (id_in same_name (with_pending w rows) name) else None)
  as-seen b e = ap (λ z. if z then Some (id_in same_name (with_pending w rows) name) else None) e

  -- a name of the view has one of its ids
  view-id : has (with_pending w rows) name ≡ true → IsViewId w rows (id_in same_name (with_pending w rows) name)
  view-id e = by_test (is_in same_name name (names_of w.master)) refl
    where
      by_test : (b : Bool) → is_in same_name name (names_of w.master) ≡ b → IsViewId w rows (if b then place_of same_name name (names_of w.master) else other_id (place_of same_name name (names_of (w.others ++ rows))))
      by_test true f = inl (let lt = place-below name (names_of w.master) (found same_name same_name-exact same_name-self name (names_of w.master) f) in let n = names-length w.master in omega (arith, lt, n))
      by_test false f = inr (
        omega arith,
        (let i = ⊎_elim (λ j. absurd (missing same_name same_name-exact same_name-self name (names_of w.master) f j)) (λ j. j)
            (in-append name (names_of w.master) (names_of (w.others ++ rows)) (subst (IsIn name) (map-append (λ (r : Row Name). r.name) w.master (w.others ++ rows)) (found same_name same_name-exact same_name-self name (names_of (rows_of (with_pending w rows))) e))) in
            let lt = place-below name (names_of (w.others ++ rows)) i in let n = names-length (w.others ++ rows) in let m = length-append w.others rows in omega (arith, lt, n, m)),
      )

  -- ---- a name that needn't be asked

  pub looks-there : (o : Option ℕ) (old : List Mirror) (a : PlainCache) → FindsIn payloads w rows name o → (o ≡ None → (IsIn name (stored_names payloads w) → ⊥) × (IsIn name (names_of rows) → ⊥))
      → Looks payloads w rows name old old a a (Ok o)
  looks-there o old a f new = record {
    answered = 0;
    end = None;
    gained = [];
    asks = subst (λ n. AsksForNames n 0 0 old None old) (sym (none-asked o f)) ([], tt, zero-le, (λ le. absurd (omega (arith, le))), (refl, refl, refl));
    gain = zero-le;
    keeps = keeps-same [] a;
    ends = refl;
    view = in-view o f;
    finds = λ s k i. absurd i;
    right = λ s. as-found o f;
    fresh = λ e. new (ok-same o e);
  }
    where
      none-asked : (o : Option ℕ) → FindsIn payloads w rows name o → (test_in payloads w rows (λ _. None) name).must ≡ 0
      none-asked None g = ap (λ (b : Bool). (named b (found_in payloads w name) None).must) g.0
      none-asked (Some id) g = ap (λ (b : Bool). (named b (found_in payloads w name) None).must) g.0

      ok-same : (o : Option ℕ) → ◌≡◌ {A = Result (Option ℕ) Refusal} (Ok o) (Ok None) → o ≡ None
      ok-same o e = cc

      in-view : (o : Option ℕ) → FindsIn payloads w rows name o → IfSome o (IsViewId w rows)
      in-view None g = tt
      in-view (Some id) g = subst (IsViewId w rows) (sym g.2) (view-id g.1)

      as-found : (o : Option ℕ) → FindsIn payloads w rows name o → o ≡ seen_as w rows name
      as-found None g = sym (as-seen false g.1)
      as-found (Some id) g = ap Some g.2 ∙ sym (as-seen true g.1)

  -- ---- a name that has to be asked

  module _ (asked : is_asked_in payloads w rows name ≡ true) (not-stored : IsIn name (stored_names payloads w) → ⊥) (not-others : IsIn name (names_of w.others) → ⊥) (not-pending : IsIn name (names_of rows) → ⊥)
      (lazy-id : IsIn name (names_of w.master) → is_lazy payloads w (id_in same_name w name) ≡ true) where
    in-master : IsIn name (names_of (rows_of (with_pending w rows))) → IsIn name (names_of w.master)
    in-master i = ⊎_elim
        (λ j. j)
        (λ j. ⊎_elim (λ k. absurd (not-others k)) (λ k. absurd (not-pending k))
        (in-append name (names_of w.others) (names_of rows) (subst (IsIn name) (map-append (λ (r : Row Name). r.name) w.others rows) j)))
        (in-append name (names_of w.master) (names_of (w.others ++ rows)) (subst (IsIn name) (map-append (λ (r : Row Name). r.name) w.master (w.others ++ rows)) i))

    has-in : IsIn name (names_of w.master) → has (with_pending w rows) name ≡ true
    has-in i = there same_name same_name-exact same_name-self name (names_of (rows_of (with_pending w rows)))
        (subst (IsIn name) (sym (map-append (λ (r : Row Name). r.name) w.master (w.others ++ rows))) (in-left name (names_of w.master) (names_of (w.others ++ rows)) i))

    has-not : (IsIn name (names_of w.master) → ⊥) → has (with_pending w rows) name ≡ false
    has-not out = by_test (has (with_pending w rows) name) refl
      where
        by_test : (b : Bool) → has (with_pending w rows) name ≡ b → has (with_pending w rows) name ≡ false
        by_test true e = absurd (out (in-master (found same_name same_name-exact same_name-self name (names_of (rows_of (with_pending w rows))) e)))
        by_test false e = e

    may-find : IsIn name (names_of w.master) → found_in payloads w name ≡ record { id = id_in same_name w name; name = name } ∷ []
    may-find i = ap (λ (b : Bool). if b then record { id = id_in same_name w name; name = name } ∷ [] else [])
        (ap₂ (λ a b. a && b) (there same_name same_name-exact same_name-self name (names_of w.master) i) (lazy-id i))

    asked-finds : (test_in payloads w rows (λ _. None) name).finds ≡ found_in payloads w name
    asked-finds = ap (λ (b : Bool). (named b (found_in payloads w name) None).finds) asked

    asked-must : (test_in payloads w rows (λ _. None) name).must ≡ 1
    asked-must = ap (λ (b : Bool). (named b (found_in payloads w name) None).must) asked

    pub looks-asked : (old new : List Mirror) (a b : PlainCache) (result : Result (Option ℕ) Refusal) → Asked payloads w name old new a b result → Looks payloads w rows name old new a b result
    looks-asked old new a b result h = record {
      answered = h.answered;
      end = h.end;
      gained = gained_by name result;
      asks = subst (λ n. AsksForNames n 0 h.answered old h.end new) (sym asked-must) h.asks;
      gain = h.gain;
      keeps = h.keeps;
      ends = ends-as result h.ends;
      view = in-view result h.ends;
      finds = λ s k i. subst (IsIn k) (sym asked-finds) (may-gain result (h.right (serving s)) k i);
      right = λ s. seen-right result (h.right (serving s));
      fresh = λ e. (not-stored, not-pending);
    }
      where
        serving : AreRight payloads w old → AreServing payloads w old
        serving s =
            let some = (and_true (has_lazy payloads w) (not (is_in same_name name (stored_names payloads w)))
            (and_true (has_lazy payloads w && not (is_in same_name name (stored_names payloads w))) (not (is_in same_name name (names_of rows))) asked).0).0 in
            ⊎_elim (λ none. absurd (true≢false (sym some ∙ none))) (λ v. v) s

        ends-as : (r : Result (Option ℕ) Refusal) → EndsSo payloads w h.end r → LooksSo payloads w h.end r
        ends-as (Ok None) e = e
        ends-as (Ok (Some id)) e = e.0
        ends-as (Err (why.MismatchPath x n)) e = e
        ends-as (Err why.NoRemote) e = e
        ends-as (Err (why.Unknown x)) e = e
        ends-as (Err (why.Twice x)) e = e
        ends-as (Err (why.Differs x)) e = e
        ends-as (Err (why.Conflict x)) e = e
        ends-as (Err (why.Full what n)) e = e
        ends-as (Err (why.Answer n)) e = e
        ends-as (Err (why.NotEmpty m o)) e = e
        ends-as (Err (why.Pending n)) e = e
        ends-as (Err (why.Remote n)) e = e
        ends-as (Err (why.MismatchNames m n)) e = e
        ends-as (Err (why.MismatchClone n)) e = e
        ends-as (Err (why.MismatchRow n)) e = e
        ends-as (Err (why.InMaster x)) e = e
        ends-as (Err (why.Lost x)) e = e
        ends-as (Err (why.Emptied n)) e = e
        ends-as (Err why.Memory) e = e

        in-view : (r : Result (Option ℕ) Refusal) → EndsSo payloads w h.end r → IfOk r (λ o. IfSome o (IsViewId w rows))
        in-view (Ok None) e = tt
        in-view (Ok (Some id)) e = inl e.1
        in-view (Err f) e = tt

        may-gain : (r : Result (Option ℕ) Refusal) → IsRightOf w name r → (k : KnownName) → IsIn k (gained_by name r) → IsIn k (found_in payloads w name)
        may-gain (Ok None) q k i = absurd i
        may-gain (Ok (Some id)) q k (inl e) = subst (IsIn k) (sym (may-find q.0)) (inl (e ∙ ap (λ n. record { id = n; name = name }) q.1))
        may-gain (Ok (Some id)) q k (inr i) = absurd i
        may-gain (Err f) q k i = absurd i

        seen-right : (r : Result (Option ℕ) Refusal) → IsRightOf w name r → IsAsSeen w rows name r
        seen-right (Ok None) q = sym (as-seen false (has-not q))
        seen-right (Ok (Some id)) q = ap Some (q.1 ∙ sym (master-id (with_pending w rows) w refl name q.0)) ∙ sym (as-seen true (has-in q.0))
        seen-right (Err (why.MismatchPath x n)) q = q
        seen-right (Err why.NoRemote) q = tt
        seen-right (Err (why.Unknown x)) q = tt
        seen-right (Err (why.Twice x)) q = tt
        seen-right (Err (why.Differs x)) q = tt
        seen-right (Err (why.Conflict x)) q = tt
        seen-right (Err (why.Full what n)) q = tt
        seen-right (Err (why.Answer n)) q = tt
        seen-right (Err (why.NotEmpty m o)) q = tt
        seen-right (Err (why.Pending n)) q = tt
        seen-right (Err (why.Remote n)) q = tt
        seen-right (Err (why.MismatchNames m n)) q = tt
        seen-right (Err (why.MismatchClone n)) q = tt
        seen-right (Err (why.MismatchRow n)) q = tt
        seen-right (Err (why.InMaster x)) q = tt
        seen-right (Err (why.Lost x)) q = tt
        seen-right (Err (why.Emptied n)) q = tt
        seen-right (Err why.Memory) q = tt

  -- ---- a look-up as a test

  module _ (refuse : Name → Option Refusal) (old new : List Mirror) (a b : PlainCache) where
    abbrev t : Test
    t = test_in payloads w rows refuse name

    -- the test of a look-up that goes on, or is refused, with this
    pub look-test : (result : Result (Option ℕ) Refusal) (h : Looks payloads w rows name old new a b result) (refusal : Option Refusal) → IsTold payloads w refusal → (AreRight payloads w old → refusal ≡ refuse name)
        → Tried payloads w (test_in payloads w rows refuse name ∷ []) old new a b (refused_by h.end refusal)
    look-test result h refusal told right =
        let asked = is_asked_in payloads w rows name in
        let finds = found_in payloads w name in
        tried-asked payloads w (test_in payloads w rows refuse name) refusal old new a b h.answered h.end h.gained
        (subst (λ n. AsksForNames n (test_in payloads w rows refuse name).may h.answered old h.end new) (named-must asked finds None (refuse name)) (subst (λ n. AsksForNames (test_in payloads w rows (λ _. None) name).must n h.answered old h.end new) (sym (named-may asked finds (refuse name))) h.asks))
        h.gain h.keeps told (λ s. right s ∙ sym (named-refusal asked finds (refuse name))) (λ s k i. subst (IsIn k) (named-finds asked finds None (refuse name)) (h.finds s k i))

    -- one that ended with a refusal
    pub look-refused : (refusal : Refusal) → Looks payloads w rows name old new a b (Err refusal) → IsTold payloads w (refuse name) → Tried payloads w (test_in payloads w rows refuse name ∷ []) old new a b (Some refusal)
    look-refused refusal h own = by-end refusal h (λ f e. by-fault refusal h own f.0 f.1 f.2)
      where
        by-fault : (refusal : Refusal) (h : Looks payloads w rows name old new a b (Err refusal)) → IsTold payloads w (refuse name) → (fault : MirrorFault) → h.end ≡ Some fault → refusal ≡ refusal_for fault
            → Tried payloads w (test_in payloads w rows refuse name ∷ []) old new a b (Some refusal)
        by-fault refusal h own fault e is = subst (Tried payloads w (test_in payloads w rows refuse name ∷ []) old new a b)
            (ap (λ o. refused_by o (refuse name)) e ∙ ap Some (sym is)) (look-test (Err refusal) h (refuse name) own (λ s. refl))

        by-path : (x : Name) (n : ℕ) (h : Looks payloads w rows name old new a b (Err (why.MismatchPath x n))) → Tried payloads w (test_in payloads w rows refuse name ∷ []) old new a b (Some (why.MismatchPath x n))
        by-path x n h = subst (Tried payloads w (test_in payloads w rows refuse name ∷ []) old new a b)
            (ap (λ o. refused_by o (Some (why.MismatchPath x n))) h.ends.0) (look-test (Err (why.MismatchPath x n)) h (Some (why.MismatchPath x n)) h.ends.1 (λ s. absurd (h.right s)))

        by-end : (refusal : Refusal) (h : Looks payloads w rows name old new a b (Err refusal))
            → ((f : (fault : MirrorFault) × (h.end ≡ Some fault) × (refusal ≡ refusal_for fault)) → Unit {0} → Tried payloads w (test_in payloads w rows refuse name ∷ []) old new a b (Some refusal))
            → Tried payloads w (test_in payloads w rows refuse name ∷ []) old new a b (Some refusal)
        by-end (why.MismatchPath x n) h f = by-path x n h
        by-end why.NoRemote h f = f h.ends tt
        by-end (why.Unknown x) h f = f h.ends tt
        by-end (why.Twice x) h f = f h.ends tt
        by-end (why.Differs x) h f = f h.ends tt
        by-end (why.Conflict x) h f = f h.ends tt
        by-end (why.Full what n) h f = f h.ends tt
        by-end (why.Answer n) h f = f h.ends tt
        by-end (why.NotEmpty m o) h f = f h.ends tt
        by-end (why.Pending n) h f = f h.ends tt
        by-end (why.Remote n) h f = f h.ends tt
        by-end (why.MismatchNames m n) h f = f h.ends tt
        by-end (why.MismatchClone n) h f = f h.ends tt
        by-end (why.MismatchRow n) h f = f h.ends tt
        by-end (why.InMaster x) h f = f h.ends tt
        by-end (why.Lost x) h f = f h.ends tt
        by-end (why.Emptied n) h f = f h.ends tt
        by-end why.Memory h f = f h.ends tt

  -- ---- a name that has to be there

  told-unknown : (v : World Name) → IsTold payloads w (unknown v name)
  told-unknown v = by_test (has v name)
    where
      by_test : (b : Bool) → IsTold payloads w (refuse_if (not b) (why.Unknown name))
      by_test true = tt
      by_test false = tt

  module _ (old new : List Mirror) (a b : PlainCache) where
    pub one-refused : (refusal : Refusal) → Looks payloads w rows name old new a b (Err refusal) → FindsOne payloads w rows name old new a b (Err refusal)
    one-refused refusal h = record {
      tried = look-refused (unknown (with_pending w rows)) old new a b refusal h (told-unknown (with_pending w rows));
      view = tt;
      right = λ s. tt;
    }

    pub one-found : (id : ℕ) → Looks payloads w rows name old new a b (Ok (Some id)) → FindsOne payloads w rows name old new a b (Ok id)
    one-found id h = record {
      tried = subst (Tried payloads w (seen_tests payloads w rows (name ∷ [])) old new a b) (ap (λ o. refused_by o None) h.ends)
          (look-test (unknown (with_pending w rows)) old new a b (Ok (Some id)) h None tt (λ s. sym (ap (λ z. refuse_if (not z) (why.Unknown name)) (seen-there id (h.right s)).0)));
      view = h.view;
      right = λ s. (seen-there id (h.right s)).1;
    }
      where
        seen-there : (id : ℕ) → Some id ≡ seen_as w rows name → (has (with_pending w rows) name ≡ true) × (id ≡ id_in same_name (with_pending w rows) name)
        seen-there id e = by_test (has (with_pending w rows) name) refl e
          where
            by_test : (z : Bool) → has (with_pending w rows) name ≡ z → Some id ≡ (if z then Some (id_in same_name (with_pending w rows) name) else None) → (has (with_pending w rows) name ≡ true) × (id ≡ id_in same_name (with_pending w rows) name)
            by_test true f g = (f, cc)
            by_test false f g = absurd (true≢false (ap is_some g))

    pub one-unknown : Looks payloads w rows name old new a b (Ok None) → FindsOne payloads w rows name old new a b (Err (why.Unknown name))
    one-unknown h = record {
      tried = subst (Tried payloads w (seen_tests payloads w rows (name ∷ [])) old new a b) (ap (λ o. refused_by o (Some (why.Unknown name))) h.ends)
          (look-test (unknown (with_pending w rows)) old new a b (Ok None) h (Some (why.Unknown name)) tt (λ s. sym (ap (λ z. refuse_if (not z) (why.Unknown name)) (seen-not (h.right s)))));
      view = tt;
      right = λ s. tt;
    }
      where
        seen-not : None ≡ seen_as w rows name → has (with_pending w rows) name ≡ false
        seen-not e = by_test (has (with_pending w rows) name) refl e
          where
            by_test : (z : Bool) → has (with_pending w rows) name ≡ z → None ≡ (if z then Some (id_in same_name (with_pending w rows) name) else None) → has (with_pending w rows) name ≡ false
            by_test true f g = absurd (true≢false (sym (ap is_some g)))
            by_test false f g = f

-- a fault that is handed on
pub err-finds : (payloads : List Payload) (w : World Name) (rows : List (Row Name)) (name : Name) (old new : List Mirror) (a b : PlainCache) (r : Result ℕ Refusal) (f : Refusal) → IsErrAnd r (λ g. g ≡ f)
    → FindsOne payloads w rows name old new a b (Err f) → FindsOne payloads w rows name old new a b r
err-finds payloads w rows name old new a b (Ok v) f h q = absurd h
err-finds payloads w rows name old new a b (Err g) f h q = subst (λ z. FindsOne payloads w rows name old new a b (Err z)) (sym h) q

-- a name of master that isn't stored has a lazy id
pub lazy-of : (added : List Placed) (w : World Name) → StandFor (payloads_of added) w → (name : Name) (id : ℕ) → id < length w.master → slice_get (names_of w.master) id ≡ Some name → (IsStored added name → ⊥)
    → is_lazy (payloads_of added) w id ≡ true
lazy-of added w stand name id lt at out = by_test (is_in nat_eq id (map (λ (k : Known). k.id) (known_in (payloads_of added)))) refl
  where
    by_test : (b : Bool) → is_in nat_eq id (map (λ (k : Known). k.id) (known_in (payloads_of added))) ≡ b → is_lazy (payloads_of added) w id ≡ true
    by_test false e = ap₂ (λ a b. a && not b) (lt-ltb id (length w.master) lt) e
    by_test true e =
        let (k, i, is) = known-id (known_in (payloads_of added)) (found nat_eq same-exact same-self id (map (λ (k : Known). k.id) (known_in (payloads_of added))) e) in
        let j : IsIn k (known_of added) = subst (IsIn k) (sym (known-all added)) i in
        let row = known-row added w stand k j in
        let same : k.name ≡ name = some-name k.name name (sym row ∙ ap (slice_get (names_of w.master)) is ∙ at) in
        absurd (out (subst (IsStored added) same (map-in k (stored_in added) (in-left k (known_of added) (known_from (2 ^ 56) (other_names_in (newest (payloads_of added)))) j))))
      where
        known-id : (ks : List Known) → IsIn id (map (λ (k : Known). k.id) ks) → (k : Known) × IsIn k ks × (k.id ≡ id)
        known-id [] i = absurd i
        known-id (k ∷ ks) (inl f) = (k, inl refl, sym f)
        known-id (k ∷ ks) (inr i) = let r = known-id ks i in (r.0, inr r.1, r.2)

        some-name : (x y : Name) → Some x ≡ Some y → x ≡ y
        some-name x y f = cc

        map-in : (k : Known) (ks : List Known) → IsIn k ks → IsIn k.name (map (λ (k : Known). k.name) ks)
        map-in k [] i = i
        map-in k (q ∷ ks) (inl f) = inl (ap (λ (z : Known). z.name) f)
        map-in k (q ∷ ks) (inr i) = inr (map-in k ks i)

-- ---- a name that a base doesn't store and that isn't pending

module _ (added : List Placed) (w : World Name) (stand : StandFor (payloads_of added) w) (rows : List (Row Name)) (name : Name) (out : IsStored added name → ⊥) where
  no-other : IsIn name (names_of w.others) → ⊥
  no-other i = out (subst (IsIn name) (sym (stored-names added))
      (in-right name (flat_map known_names (payloads_of added)) (other_names_in (newest (payloads_of added))) (subst (IsIn name) (sym stand.names) i)))

  lazy-name : IsIn name (names_of w.master) → is_lazy (payloads_of added) w (id_in same_name w name) ≡ true
  lazy-name i =
      let yes = there same_name same_name-exact same_name-self name (names_of w.master) i in
      let at : id_in same_name w name ≡ place_of same_name name (names_of w.master) = ap (λ b. if b then place_of same_name name (names_of w.master) else other_id (place_of same_name name (names_of w.others))) yes in
      subst (λ n. is_lazy (payloads_of added) w n ≡ true) (sym at)
      (lazy-of added w stand name (place_of same_name name (names_of w.master)) (let lt = place-below name (names_of w.master) i in let n = names-length w.master in omega (arith, lt, n)) (at-place name (names_of w.master) i) out)

  pub looks-lazy : is_asked_in (payloads_of added) w rows name ≡ true → (IsIn name (names_of rows) → ⊥) → (old new : List Mirror) (a b : PlainCache) (result : Result (Option ℕ) Refusal)
      → Asked (payloads_of added) w name old new a b result → Looks (payloads_of added) w rows name old new a b result
  looks-lazy asked not-row old new a b result h = looks-asked (payloads_of added) w rows name asked (λ i. out (subst (IsIn name) (stored-are added w stand) i)) no-other not-row lazy-name old new a b result h
