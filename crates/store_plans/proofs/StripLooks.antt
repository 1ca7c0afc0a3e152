-- What is found of a name that is to be stripped, in the newest base.
use Rattle.std.proofs.Common.{◌≡◌, ◌<◌, ◌≤◌, ◌^◌, not, ℕ, Bool, true, false, inl, inr, List, [], ◌∷◌, ◌++◌, length, map, Option, Some, None, Result, Ok, Err, is_some, refl, sym, ap, subst, ◌∙◌, ⊎_elim, arith, lit≤, true≢false, if◌then◌else◌}
use Rattle.std.proofs.Common.{Vec, Global}
use Rattle.std.specs.Prelude.{IfOk, IsErrAnd, MatchOption}
use Rattle.std.specs.List.{AllByRecursion, AllZip}
use Rattle.std.proofs.lemmas.List.{map-append}
use Rattle.std.proofs.lemmas.Bool.{ltb-false, ltb-true}
use Rattle.id_groups.specs.Lists.{IsIn, is_in, AreAllIn}
use Rattle.id_groups.specs.Name.{Name, same_name}
use Rattle.id_groups.specs.Id.{group_of, is_master_id, other_id}
use Rattle.id_groups.specs.declared.id.Group.{Group}
use Rattle.id_groups.specs.declared.id.Group.TheVariants.{Master, Others}
use Rattle.id_groups.proofs.Names.{same_name-exact, same_name-self}
use Rattle.id_groups.proofs.Listing.{found, missing}
use Rattle.commit_graph.specs.World.{Row, World, names_of, rows_of}
use Rattle.commit_graph.specs.Ids.{id_in, place_of}
use Rattle.commit_graph.proofs.Histories.{in-append}
use Rattle.commit_graph.proofs.Down.{in-left}
use Rattle.batch_codec.specs.Payload.{Payload}
use Rattle.name_map.specs.Added.{Placed, payloads_of}
use Rattle.remote_rules.specs.Mirror.{Mirror}
use Rattle.lazy_names.specs.Cache.{PlainCache}
use Rattle.payload_tables.specs.declared.base.BaseRef.{BaseRef}
use Rattle.payload_tables.specs.Pending.{PlainPending}
use Rattle.payload_tables.proofs.Lists.{names-length}
use Rattle.change_parts.specs.Asked.{IsBaseId}
use Rattle.change_parts.specs.Plans.{stored_id}
use Rattle.step_rules.specs.declared.Refusal.{Refusal}
use Rattle.step_rules.specs.declared.Refusal.TheVariants as why
use Rattle.step_rules.specs.Asking.{refused_by}
use Rattle.step_rules.specs.Tests.{not_strippable, refuse_if, unknown}
use Rattle.step_rules.specs.Worlds.{has}
use Rattle.store_plans.specs.Looking.{AreRight, IsTold, Looks, Sees, Tried, items_of}
use Rattle.store_plans.specs.Strips.{FindsOther, FindsOthers, IsOtherId, IsOtherOf, MayBeOther, strip_test}
use Rattle.store_plans.proofs.Looked.{look-refused, look-test, place-below}
use Rattle.store_plans.proofs.HeadTests.{row-finds}
use Rattle.store_plans.proofs.Counts.{sees-small}

-- ---- the test of a name

module _ (w : World Name) (name : Name) where
  is-master : is_in same_name name (names_of w.master) ≡ true → not_strippable w name ≡ Some (why.InMaster name)
  is-master e = ap (λ b. if b then Some (why.InMaster name) else unknown w name) e

  isnt-master : is_in same_name name (names_of w.master) ≡ false → not_strippable w name ≡ unknown w name
  isnt-master e = ap (λ b. if b then Some (why.InMaster name) else unknown w name) e

  unknown-is : (b : Bool) → has w name ≡ b → unknown w name ≡ refuse_if (not b) (why.Unknown name)
  unknown-is b e = ap (λ z. refuse_if (not z) (why.Unknown name)) e

  names-both : names_of (rows_of w) ≡ names_of w.master ++ names_of w.others
  names-both = map-append (λ (r : Row Name). r.name) w.master w.others

  nowhere : has w name ≡ false → is_in same_name name (names_of w.master) ≡ false
  nowhere e = by_test (is_in same_name name (names_of w.master)) refl
    where
      by_test : (b : Bool) → is_in same_name name (names_of w.master) ≡ b → is_in same_name name (names_of w.master) ≡ false
      by_test true f = absurd (missing same_name same_name-exact same_name-self name (names_of (rows_of w)) e
          (subst (IsIn name) (sym names-both) (in-left name (names_of w.master) (names_of w.others) (found same_name same_name-exact same_name-self name (names_of w.master) f))))
      by_test false f = f

  -- what the world has, by its id
  stored-as : (o : Option ℕ) → o ≡ stored_id w name → MatchOption o (has w name ≡ false) (λ id. (has w name ≡ true) × (id ≡ id_in same_name w name))
  stored-as o e = by_test (has w name) refl o e
    where
      by_test : (b : Bool) → has w name ≡ b → (o : Option ℕ) → o ≡ (if b then Some (id_in same_name w name) else None) → MatchOption o (has w name ≡ false) (λ id. (has w name ≡ true) × (id ≡ id_in same_name w name))
      by_test true f None g = absurd (true≢false (sym (ap is_some g)))
      by_test true f (Some id) g = (f, cc g)
      by_test false f None g = f
      by_test false f (Some id) g = absurd (true≢false (ap is_some g))

  in-others : has w name ≡ true → is_in same_name name (names_of w.master) ≡ false → IsIn name (names_of w.others)
  in-others e f = ⊎_elim
      (λ i. absurd (missing same_name same_name-exact same_name-self name (names_of w.master) f i))
      (λ i. i)
      (in-append name (names_of w.master) (names_of w.others) (subst (IsIn name) names-both (found same_name same_name-exact same_name-self name (names_of (rows_of w)) e)))

  -- an id from the others on is none of master, and a lower one is
  module _ (small : length w.master ≤ 16777216) where
    high-id : 2 ^ 56 ≤ id_in same_name w name → is_in same_name name (names_of w.master) ≡ false
    high-id le = by_test (is_in same_name name (names_of w.master)) refl
      where
        by_test : (b : Bool) → is_in same_name name (names_of w.master) ≡ b → is_in same_name name (names_of w.master) ≡ false
        by_test true f =
            let at : id_in same_name w name ≡ place_of same_name name (names_of w.master) = ap (λ b. if b then place_of same_name name (names_of w.master) else other_id (place_of same_name name (names_of w.others))) f in
            let lt = place-below name (names_of w.master) (found same_name same_name-exact same_name-self name (names_of w.master) f) in
            let n = names-length w.master in
            let big : 16777216 ≤ 2 ^ 56 = lit≤ tt in
            absurd (omega (arith, at, lt, n, small, le, big))
        by_test false f = f

    low-id : id_in same_name w name < 2 ^ 56 → is_in same_name name (names_of w.master) ≡ true
    low-id lt = by_test (is_in same_name name (names_of w.master)) refl
      where
        by_test : (b : Bool) → is_in same_name name (names_of w.master) ≡ b → is_in same_name name (names_of w.master) ≡ true
        by_test true f = f
        by_test false f =
            let at : id_in same_name w name ≡ other_id (place_of same_name name (names_of w.others)) = ap (λ b. if b then place_of same_name name (names_of w.master) else other_id (place_of same_name name (names_of w.others))) f in
            absurd (omega (arith, at, lt))

abbrev is_first : Group → Bool
is_first Master = true
is_first Others = false

told-strippable : (payloads : List Payload) (v w : World Name) (name : Name) → IsTold payloads v (not_strippable w name)
told-strippable payloads v w name = by_master (is_in same_name name (names_of w.master))
  where
    by_has : (b : Bool) → IsTold payloads v (refuse_if (not b) (why.Unknown name))
    by_has true = tt
    by_has false = tt

    by_master : (b : Bool) → IsTold payloads v (if b then Some (why.InMaster name) else unknown w name)
    by_master true = tt
    by_master false = by_has (has w name)

-- ---- a look-up

module _ (newest : BaseRef) (none : PlainPending) (added : List Placed) (w : World Name) (sees : Sees newest none added w []) (name : Name) (old new : List Mirror) (a b : PlainCache) where
  abbrev payloads : List Payload
  payloads = payloads_of added

  small : length w.master ≤ 16777216
  small = sees-small newest none added w [] sees

  pub other-refused : (f : Refusal) → Looks payloads w [] name old new a b (Err f) → FindsOther added w name old new a b (Err f)
  other-refused f h = record {
    tried = look-refused payloads w [] name (not_strippable w) old new a b f h (told-strippable payloads w w name);
    found = tt;
    right = λ s. tt;
  }

  -- what a look-up found, by the world
  seen-as : (o : Option ℕ) → Looks payloads w [] name old new a b (Ok o) → AreRight payloads w old → MatchOption o (has w name ≡ false) (λ id. (has w name ≡ true) × (id ≡ id_in same_name w name))
  seen-as o h s = stored-as w name o ((row-finds newest none added w sees name old new a b (Ok o) h).right s)

  -- the test ends with this
  ends-with : (o : Option ℕ) (h : Looks payloads w [] name old new a b (Ok o)) (verdict : Option Refusal) → IsTold payloads w verdict → (AreRight payloads w old → verdict ≡ not_strippable w name)
      → Tried payloads w (strip_test payloads w name ∷ []) old new a b verdict
  ends-with o h verdict told right = subst (Tried payloads w (strip_test payloads w name ∷ []) old new a b) (ap (λ e. refused_by e verdict) h.ends)
      (look-test payloads w [] name (not_strippable w) old new a b (Ok o) h verdict told right)

  unknown-none : Looks payloads w [] name old new a b (Ok None) → FindsOther added w name old new a b (Err (why.Unknown name))
  unknown-none h = record {
    tried = ends-with None h (Some (why.Unknown name)) tt
        (λ s. let e = seen-as None h s in sym (isnt-master w name (nowhere w name e) ∙ unknown-is w name false e));
    found = tt;
    right = λ s. tt;
  }

  pub other-unknown : (o : Option ℕ) → ((id : ℕ) → o ≡ Some id → ⊥) → Looks payloads w [] name old new a b (Ok o) → FindsOther added w name old new a b (Err (why.Unknown name))
  other-unknown None n h = unknown-none h
  other-unknown (Some id) n h = absurd (n id refl)

  module _ (id : ℕ) (h : Looks payloads w [] name old new a b (Ok (Some id))) where
    master-refused : id < 2 ^ 56 → FindsOther added w name old new a b (Err (why.InMaster name))
    master-refused lt = record {
      tried = ends-with (Some id) h (Some (why.InMaster name)) tt
          (λ s. let e = seen-as (Some id) h s in sym (is-master w name (low-id w name small (subst (λ n. n < 2 ^ 56) e.1 lt))));
      found = tt;
      right = λ s. tt;
    }

    others-found : 2 ^ 56 ≤ id → FindsOther added w name old new a b (Ok id)
    others-found le = record {
      tried = ends-with (Some id) h None tt
          (λ s. let e = seen-as (Some id) h s in
          sym (isnt-master w name (high-id w name small (subst (λ n. 2 ^ 56 ≤ n) e.1 le)) ∙ unknown-is w name true e.0));
      found = other-id (row-finds newest none added w sees name old new a b (Ok (Some id)) h).found;
      right = λ s. let e = seen-as (Some id) h s in (in-others w name e.0 (high-id w name small (subst (λ n. 2 ^ 56 ≤ n) e.1 le)), e.1);
    }
      where
        other-id : IsBaseId added id → IsOtherId added id
        other-id (inl lt) = absurd (let c = sees.stand.count in let l = small in let big : 16777216 ≤ 2 ^ 56 = lit≤ tt in omega (arith, lt, c, l, le, big))
        other-id (inr g) = g

    -- by its group
    pub other-master : Master ≡ group_of id → FindsOther added w name old new a b (Err (why.InMaster name))
    other-master e = master-refused (by_test (is_master_id id) refl e)
      where
        by_test : (b : Bool) → is_master_id id ≡ b → Master ≡ (if b then Master else Others) → id < 2 ^ 56
        by_test true f g = ltb-true id (2 ^ 56) f
        by_test false f g = absurd (true≢false (ap is_first g))

    pub other-found : Others ≡ group_of id → FindsOther added w name old new a b (Ok id)
    other-found e = others-found (by_test (is_master_id id) refl e)
      where
        by_test : (b : Bool) → is_master_id id ≡ b → Others ≡ (if b then Master else Others) → 2 ^ 56 ≤ id
        by_test true f g = absurd (true≢false (sym (ap is_first g)))
        by_test false f g = ltb-false id (2 ^ 56) f

-- a fault that is handed on
pub err-other : (added : List Placed) (w : World Name) (name : Name) (old new : List Mirror) (a b : PlainCache) (r : Result ℕ Refusal) (f : Refusal) → IsErrAnd r (λ g. g ≡ f)
    → FindsOther added w name old new a b (Err f) → FindsOther added w name old new a b r
err-other added w name old new a b (Ok v) f h q = absurd h
err-other added w name old new a b (Err g) f h q = subst (λ z. FindsOther added w name old new a b (Err z)) (sym h) q

-- ---- what was found of names

all-others : (added : List Placed) (names : List Name) (ids : List ℕ) → AllZip (MayBeOther added) names ids → AllByRecursion (IsOtherId added) ids
all-others added [] [] z = tt
all-others added [] (id ∷ ids) z = absurd z
all-others added (n ∷ names) [] z = absurd z
all-others added (n ∷ names) (id ∷ ids) z = (z.0, all-others added names ids z.1)

pub ids-of-others : (w : World Name) (names : List Name) (ids : List ℕ) → AllZip (IsOtherOf w) names ids → AreAllIn names (names_of w.others) × (ids ≡ map (id_in same_name w) names)
ids-of-others w [] [] z = (tt, refl)
ids-of-others w [] (id ∷ ids) z = absurd z
ids-of-others w (n ∷ names) [] z = absurd z
ids-of-others w (n ∷ names) (id ∷ ids) z =
    let more = ids-of-others w names ids z.1 in
    ((z.0.0, more.0), ap (λ m. m ∷ ids) z.0.1 ∙ ap (λ l. id_in same_name w n ∷ l) more.1)

pub found-others : (added : List Placed) (w : World Name) (names : List Name) (old new : List Mirror) (a b : PlainCache) (r : Result (Vec ℕ Global) Refusal) → FindsOthers added w names old new a b (items_of r)
    → IfOk r (λ ids. AllByRecursion (IsOtherId added) ids.items)
found-others added w names old new a b (Ok v) h = all-others added names v.items h.found
found-others added w names old new a b (Err f) h = tt
