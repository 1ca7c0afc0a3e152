-- What is found of a head, and of a pending row's name, in the newest base.
use Rattle.std.proofs.Common.{◌≡◌, ◌^◌, ◌&&◌, ◌||◌, not, ℕ, Bool, true, false, inl, inr, List, [], ◌∷◌, ◌++◌, length, Option, Some, None, Result, Ok, Err, is_some, refl, sym, ap, ap₂, subst, ◌∙◌, ⊎_elim, arith, true≢false, zero-le, append-nil, append_assoc, if◌then◌else◌}
use Rattle.std.specs.Prelude.{IfSome, IsErrAnd}
use Rattle.std.proofs.lemmas.List.{map-append}
use Rattle.id_groups.specs.Lists.{IsIn, is_in}
use Rattle.id_groups.specs.Name.{Name, same_name}
use Rattle.id_groups.proofs.Names.{same_name-exact, same_name-self}
use Rattle.id_groups.proofs.Listing.{found, there}
use Rattle.commit_graph.specs.World.{Row, World, IsNamedWorld, names_of, rows_of, with_pending}
use Rattle.commit_graph.specs.Ids.{id_in}
use Rattle.change_rules.specs.Lawful.{AreLawful}
use Rattle.name_map.specs.Added.{Placed, payloads_of}
use Rattle.name_map.specs.Map.{IsIdOf}
use Rattle.change_rules.specs.Lazy.{has_lazy, stored_names}
use Rattle.change_rules.specs.Tables.{StandFor}
use Rattle.remote_rules.specs.Mirror.{Mirror}
use Rattle.lazy_names.specs.Cache.{PlainCache}
use Rattle.payload_tables.specs.declared.base.BaseRef.{BaseRef}
use Rattle.payload_tables.specs.Bases.{IsBaseOf, stored_in}
use Rattle.payload_tables.specs.Pending.{HeldRow, PlainPending, HoldsRows, FindsRow, row_names}
use Rattle.payload_tables.proofs.Lists.{names-length}
use Rattle.payload_tables.proofs.Naming.{get-in, name-of-row}
use Rattle.change_parts.specs.Asked.{IsBaseId, IsFoundIn, others_count}
use Rattle.change_parts.specs.Plans.{stored_id}
use Rattle.rebase_pending.proofs.Moved.{stored-bound}
use Rattle.change_parts.proofs.Invented.{some-world}
use Rattle.step_rules.specs.declared.Refusal.{Refusal}
use Rattle.step_rules.specs.declared.Refusal.TheVariants as why
use Rattle.step_rules.specs.Tests.{named, refuse_if, unknown}
use Rattle.step_rules.specs.Asking.{refused_by}
use Rattle.step_rules.specs.Worlds.{has}
use Rattle.step_rules.proofs.States.{alone}
use Rattle.step_rules.proofs.Trying.{tried-all}
use Rattle.store_plans.specs.Looking.{IsViewId, Looks, Sees, Tried, found_in, is_asked_in, seen_as, test_in, FindsOne, seen_tests}
use Rattle.store_plans.specs.Changes.{FindsIt, FindsHead, HaveNames, IsHeadFound, IsRowFound, head_test, row_test}
use Rattle.store_plans.proofs.StoredNames.{found-stored, not-stored, stored-are}
use Rattle.store_plans.proofs.Trials.{tried-plain}
use Rattle.store_plans.proofs.Looked.{look-refused, look-test}
use Rattle.store_plans.proofs.Lines.{all-there}

-- ---- worlds without rows behind them

-- lawful payloads stand for some world
pub world-of : (added : List Placed) → AreLawful [] (payloads_of added) → (w : World Name) × StandFor (payloads_of added) w × IsNamedWorld w
world-of added lawful =
    let st = some-world (payloads_of added) lawful [] (record { parents = tt; distinct = tt; whole = tt; few = zero-le; new = λ x i d. absurd i }) in
    (st.of_world, st.stand, st.named)

pub sees-none : (newest : BaseRef) (none : PlainPending) (added : List Placed) (w : World Name) → IsBaseOf newest added → HoldsRows none [] → none.first ≡ others_count added → StandFor (payloads_of added) w → IsNamedWorld w
    → Sees newest none added w []
sees-none newest none added w b held first stand world = record {
  base_of = b;
  stand = stand;
  world = world;
  pending_rows = record { first = first ∙ ap (length {A = Name}) stand.names ∙ names-length w.others; held = held; view = (alone w world).world };
  view = alone w world;
}

in-both : (x : Name) (xs ys : List Name) → is_in same_name x (xs ++ ys) ≡ (is_in same_name x xs || is_in same_name x ys)
in-both x [] ys = refl
in-both x (z ∷ xs) ys = by_test (same_name x z) (in-both x xs ys)
  where
    by_test : (b : Bool) → is_in same_name x (xs ++ ys) ≡ (is_in same_name x xs || is_in same_name x ys) → (b || is_in same_name x (xs ++ ys)) ≡ ((b || is_in same_name x xs) || is_in same_name x ys)
    by_test true e = refl
    by_test false e = e

-- a name is in the world or pending
pub has-both : (w : World Name) (rows : List (Row Name)) (x : Name) → has (with_pending w rows) x ≡ (has w x || is_in same_name x (names_of rows))
has-both w rows x =
    ap (λ l. is_in same_name x (names_of l)) (sym (append_assoc w.master w.others rows)) ∙ ap (is_in same_name x) (map-append (λ (r : Row Name). r.name) (rows_of w) rows)
    ∙ in-both x (names_of (rows_of w)) (names_of rows)

absent : (x : Name) (xs : List Name) → (IsIn x xs → ⊥) → is_in same_name x xs ≡ false
absent x xs n = by_test (is_in same_name x xs) refl
  where
    by_test : (b : Bool) → is_in same_name x xs ≡ b → is_in same_name x xs ≡ false
    by_test true e = absurd (n (found same_name same_name-exact same_name-self x xs e))
    by_test false e = e

-- ---- names of pending rows

module _ (pending : PlainPending) (names : List Name) (h : HaveNames pending names) (lent name : Name) (same : lent ≡ name) (r : Option ℕ) (find : (rows : List HeldRow) → HoldsRows pending rows → FindsRow rows lent r) where
  here : FindsRow h.0 name r
  here = subst (λ z. FindsRow h.0 z r) same (find h.0 h.1)

  pub pending-there : is_some r ≡ true → IsIn name names
  pending-there t = subst (IsIn name) h.2 (by_find r here t)
    where
      by_find : (r : Option ℕ) → FindsRow h.0 name r → is_some r ≡ true → IsIn name (row_names h.0)
      by_find None f t = absurd (true≢false (sym t))
      by_find (Some k) f t = get-in (row_names h.0) k name (name-of-row h.0 k f.0 f.1 ∙ ap Some f.2)

  pub pending-nowhere : is_some r ≡ false → IsIn name names → ⊥
  pending-nowhere e i = by_find r here e (subst (IsIn name) (sym h.2) i)
    where
      by_find : (r : Option ℕ) → FindsRow h.0 name r → is_some r ≡ false → IsIn name (row_names h.0) → ⊥
      by_find None f e i = f i
      by_find (Some k) f e i = true≢false e

-- ---- what is found

module _ (newest : BaseRef) (none : PlainPending) (added : List Placed) (w : World Name) (sees : Sees newest none added w []) where
  base-id : (id : ℕ) → IsViewId w [] id → IsBaseId added id
  base-id id (inl lt) = inl (let c = sees.stand.count in omega (arith, lt, c))
  base-id id (inr b) =
      let n = ap (length {A = Name}) sees.stand.names in let m = names-length w.others in let lt = b.1 in
      inr (b.0, omega (arith, n, m, lt))

  -- what is found of the view is found of the world
  as-seen : (name : Name) → seen_as w [] name ≡ stored_id w name
  as-seen name =
      let id_of : World Name → Option ℕ = λ v. if has v name then Some (id_in same_name v name) else None in
      ap (λ l. id_of (record { master = w.master; others = l })) (append-nil w.others)

  some-seen : (name : Name) (id : ℕ) → has (with_pending w []) name ≡ true → id ≡ id_in same_name (with_pending w []) name → Some id ≡ stored_id w name
  some-seen name id there_is e = ap Some e ∙ sym (ap (λ b. if b then Some (id_in same_name (with_pending w []) name) else None) there_is) ∙ as-seen name

  module _ (name : Name) where
    found-of : (o : Option ℕ) → IfSome o (IsViewId w []) → (◌≡◌ {A = Result (Option ℕ) Refusal} (Ok o) (Ok None) → (IsIn name (stored_names (payloads_of added) w) → ⊥) × (IsIn name (names_of {N = Name} []) → ⊥)) → IsFoundIn added name o
    found-of (Some id) v f = base-id id v
    found-of None v f = λ i. (f refl).0 (subst (IsIn name) (sym (stored-are added w sees.stand)) i)

    -- a row's name that was looked up
    pub row-finds : (old new : List Mirror) (a b : PlainCache) (r : Result (Option ℕ) Refusal) → Looks (payloads_of added) w [] name old new a b r → FindsIt added w (row_test (payloads_of added) w) (IsFoundIn added) (IsRowFound w) name old new a b r
    row-finds old new a b (Ok o) h = record {
      tried = subst (Tried (payloads_of added) w (row_test (payloads_of added) w name ∷ []) old new a b) (ap (λ e. refused_by e None) h.ends)
          (look-test (payloads_of added) w [] name (λ _. None) old new a b (Ok o) h None tt (λ s. refl));
      found = found-of o h.view h.fresh;
      right = λ s. h.right s ∙ as-seen name;
    }
    row-finds old new a b (Err f) h = record {
      tried = look-refused (payloads_of added) w [] name (λ _. None) old new a b f h tt;
      found = tt;
      right = λ s. tt;
    }

    module _ (rows : List (Row Name)) where
      -- a head that is pending
      module _ (i : IsIn name (names_of rows)) where
        unasked : is_asked_in (payloads_of added) w rows name ≡ false
        unasked = ap (λ c. (has_lazy (payloads_of added) w && not (is_in same_name name (stored_names (payloads_of added) w))) && not c) (there same_name same_name-exact same_name-self name (names_of rows) i)
            ∙ none-of (has_lazy (payloads_of added) w && not (is_in same_name name (stored_names (payloads_of added) w)))
          where
            none-of : (b : Bool) → (b && false) ≡ false
            none-of true = refl
            none-of false = refl

        known : unknown (with_pending w rows) name ≡ None
        known = ap (λ b. refuse_if (not b) (why.Unknown name)) (has-both w rows name ∙ ap (λ c. has w name || c) (there same_name same_name-exact same_name-self name (names_of rows) i) ∙ some-of (has w name))
          where
            some-of : (b : Bool) → (b || true) ≡ true
            some-of true = refl
            some-of false = refl

        found-pending : (o : Option ℕ) → IsIdOf (stored_in added) name (2 ^ 57) o → IsFoundIn added name o
        found-pending None h = not-stored newest added sees.base_of name h
        found-pending (Some id) h =
            ⊎_elim (λ a. inl (let c = sees.base_of.count in omega (arith, a, c))) (λ d. inr d) (stored-bound newest added sees.base_of (record { id = id; name = name }) h.1)

        right-pending : (o : Option ℕ) → IsIdOf (stored_in added) name (2 ^ 57) o → IsHeadFound w rows name o
        right-pending None h = inr (refl, i)
        right-pending (Some id) h = let f = found-stored added w sees.stand [] sees.view.world name id h.1 in inl (some-seen name id f.1 f.2)

        pub head-pending : (o : Option ℕ) → IsIdOf (stored_in added) name (2 ^ 57) o → (old : List Mirror) (a : PlainCache) → FindsHead added w rows name old old a a (Ok o)
        head-pending o h old a = record {
          tried = subst (λ t. Tried (payloads_of added) w (t ∷ []) old old a a None) (sym (ap (λ b. named b (found_in (payloads_of added) w name) (unknown (with_pending w rows) name)) unasked))
              (tried-plain (payloads_of added) w (unknown (with_pending w rows) name) None old a tt (λ s. sym known));
          found = found-pending o h;
          right = λ s. right-pending o h;
        }

      -- one that isn't
      module _ (out : IsIn name (names_of rows) → ⊥) where
        test-same : test_in (payloads_of added) w [] (unknown (with_pending w [])) name ≡ head_test (payloads_of added) w rows name
        test-same =
            let e = absent name (names_of rows) out in
            ap₂ (λ c r. named ((has_lazy (payloads_of added) w && not (is_in same_name name (stored_names (payloads_of added) w))) && not c) (found_in (payloads_of added) w name) r) (sym e)
            (ap (λ b. refuse_if (not b) (why.Unknown name)) (has-both w [] name ∙ ap (λ c. has w name || c) (sym e) ∙ sym (has-both w rows name)))

        module _ (old new : List Mirror) (a b : PlainCache) where
          pub head-found : (id : ℕ) → FindsOne (payloads_of added) w [] name old new a b (Ok id) → FindsHead added w rows name old new a b (Ok (Some id))
          head-found id h = record {
            tried = subst (λ t. Tried (payloads_of added) w (t ∷ []) old new a b None) test-same h.tried;
            found = base-id id h.view;
            right = λ s. inl (some-seen name id (there same_name same_name-exact same_name-self name (names_of (rows_of (with_pending w []))) (all-there (payloads_of added) w [] (name ∷ [])
                (⊎_elim (λ e. sym e) (λ o. absurd o) (tried-all (Unit {0}) old new (seen_tests (payloads_of added) w [] (name ∷ [])) None h.tried.gained (h.tried.serving s)))).0) (h.right s));
          }

          pub head-refused : (f : Refusal) → FindsOne (payloads_of added) w [] name old new a b (Err f) → FindsHead added w rows name old new a b (Err f)
          head-refused f h = record {
            tried = subst (λ t. Tried (payloads_of added) w (t ∷ []) old new a b (Some f)) test-same h.tried;
            found = tt;
            right = λ s. tt;
          }

-- a fault that is handed on
pub err-head : (added : List Placed) (w : World Name) (rows : List (Row Name)) (name : Name) (old new : List Mirror) (a b : PlainCache) (r : Result (Option ℕ) Refusal) (f : Refusal) → IsErrAnd r (λ g. g ≡ f)
    → FindsHead added w rows name old new a b (Err f) → FindsHead added w rows name old new a b r
err-head added w rows name old new a b (Ok v) f h q = absurd h
err-head added w rows name old new a b (Err g) f h q = subst (λ z. FindsHead added w rows name old new a b (Err z)) (sym h) q
