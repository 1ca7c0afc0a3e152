-- Parents that are looked up, none of which may come twice.
use Rattle.std.proofs.Common.{◌≡◌, ◌<◌, ◌+◌, ◌||◌, ℕ, Bool, true, false, nat_eq, get_or, take, drop, ⊎_elim, inl, List, [], ◌∷◌, ◌++◌, length, Option, Some, None, Result, Ok, Err, refl, sym, ap, subst, ◌∙◌, if◌then◌else◌, Vec, Global}
use Rattle.std.specs.Prelude.{IsErrAnd}
use Rattle.id_groups.specs.Lists.{IsIn, AreDistinct, is_in}
use Rattle.id_groups.specs.Name.{Name, same_name}
use Rattle.commit_graph.specs.World.{Row, World, with_pending}
use Rattle.batch_codec.specs.Payload.{Payload}
use Rattle.remote_rules.specs.Mirror.{Mirror}
use Rattle.lazy_names.specs.Cache.{PlainCache}
use Rattle.name_map.specs.Added.{Placed, payloads_of}
use Rattle.payload_tables.specs.declared.base.BaseRef.{BaseRef}
use Rattle.payload_tables.specs.Pending.{PlainPending}
use Rattle.step_rules.specs.declared.Refusal.{Refusal}
use Rattle.step_rules.specs.declared.Refusal.TheVariants as why
use Rattle.step_rules.specs.Tests.{Test, plain, twice}
use Rattle.store_plans.specs.Looking.{AreRight, IsTold, Sees, Tried, FindsAll, items_of, seen_tests}
use Rattle.store_queries.specs.Adding.{FindsParents, IsTwice}
use Rattle.store_queries.proofs.AddingIds.{ids-distinct}
use Rattle.store_plans.proofs.Lines.{found-there}
use Rattle.store_queries.proofs.ParentTests.{behind, distinct-parents}
use Rattle.store_plans.proofs.Trials.{tried-last, tried-plain, tried-stop, tried-then}
use Rattle.payload_tables.proofs.Lists.{distinct-join, distinct-parts, same-exact, same-self}
use Rattle.std.proofs.lemmas.Bool.{ne_eqb}
use Rattle.std.proofs.lemmas.List.{take_more, take-append-drop}
use Rattle.id_groups.proofs.Listing.{found, missing}
use Rattle.store_plans.proofs.Counts.{sees-small}

module _ (payloads : List Payload) (w : World Name) (rows : List (Row Name)) where
  told-twice : (before parents : List Name) → IsTold payloads w (twice before parents)
  told-twice before [] = tt
  told-twice before (p ∷ parents) = by_test (is_in same_name p before) (told-twice (before ++ p ∷ []) parents)
    where
      by_test : (b : Bool) → IsTold payloads w (twice (before ++ p ∷ []) parents) → IsTold payloads w (if b then Some (why.Twice p) else twice (before ++ p ∷ []) parents)
      by_test true rec = tt
      by_test false rec = rec

  told-of : (r : Refusal) → IsTwice r → IsTold payloads w (Some r)
  told-of (why.Twice name) h = tt
  told-of why.NoRemote h = absurd h
  told-of (why.Unknown x) h = absurd h
  told-of (why.Differs x) h = absurd h
  told-of (why.Conflict x) h = absurd h
  told-of (why.Full what n) h = absurd h
  told-of (why.Answer n) h = absurd h
  told-of (why.NotEmpty m o) h = absurd h
  told-of (why.Pending n) h = absurd h
  told-of (why.Remote n) h = absurd h
  told-of (why.MismatchPath x n) h = absurd h
  told-of (why.MismatchNames m n) h = absurd h
  told-of (why.MismatchClone n) h = absurd h
  told-of (why.MismatchRow n) h = absurd h
  told-of (why.InMaster x) h = absurd h
  told-of (why.Lost x) h = absurd h
  told-of (why.Emptied n) h = absurd h
  told-of why.Memory h = absurd h

  module _ (names : List Name) (old new : List Mirror) (a b : PlainCache) where
    abbrev tests : List Test
    tests = seen_tests payloads w rows names

    pub parents-refused : (f : Refusal) → FindsAll payloads w rows names old new a b (Err f) → FindsParents payloads w rows names old new a b (Err f)
    parents-refused f h = record { tried = tried-stop payloads w (seen_tests payloads w rows names) (plain (twice [] names) ∷ []) old new a b f h.tried; view = tt; count = tt; right = λ s. tt }

    module _ (ids : List ℕ) (h : FindsAll payloads w rows names old new a b (Ok ids)) where
      ends : (verdict : Option Refusal) → IsTold payloads w verdict → (AreRight payloads w new → verdict ≡ twice [] names) → Tried payloads w (seen_tests payloads w rows names ++ plain (twice [] names) ∷ []) old new a b verdict
      ends verdict told right = tried-then payloads w (seen_tests payloads w rows names) (plain (twice [] names) ∷ []) old new new a b b verdict h.tried (tried-plain payloads w (twice [] names) verdict new b told right)

      pub parents-twice : (r : Refusal) → twice [] names ≡ Some r → FindsParents payloads w rows names old new a b (Err r)
      parents-twice r e = record { tried = ends (Some r) (subst (IsTold payloads w) e (told-twice [] names)) (λ s. sym e); view = tt; count = tt; right = λ s. tt }

      pub parents-found : twice [] names ≡ None → FindsParents payloads w rows names old new a b (Ok ids)
      parents-found e = record { tried = ends None tt (λ s. sym e); view = h.view; count = h.count; right = h.right }

-- parents that were found at one id, though none comes twice: the mirrors don't serve
pub parents-same : (base : BaseRef) (pending : PlainPending) (added : List Placed) (w : World Name) (rows : List (Row Name)) → Sees base pending added w rows → (names : List Name) (old new : List Mirror) (a b : PlainCache) (ids : List ℕ)
    → FindsAll (payloads_of added) w rows names old new a b (Ok ids) → twice [] names ≡ None → (AreDistinct ids → ⊥) → (r : Refusal) → IsTwice r → FindsParents (payloads_of added) w rows names old new a b (Err r)
parents-same base pending added w rows s names old new a b ids h once twin r is = record {
  tried = tried-last (payloads_of added) w (seen_tests (payloads_of added) w rows names) (twice [] names) (Some r) old new a b h.tried (told-of (payloads_of added) w rows r is)
      (λ serving. absurd (twin (subst AreDistinct (sym (h.right serving))
      (ids-distinct (with_pending w rows) s.view.world (sees-small base pending added w rows s) names (found-there (payloads_of added) w rows names old new a b ids h serving) (distinct-parents names once)))));
  view = tt;
  count = tt;
  right = λ s. tt;
}

pub err-parents : (payloads : List Payload) (w : World Name) (rows : List (Row Name)) (names : List Name) (old new : List Mirror) (a b : PlainCache) (r : Result (Vec ℕ Global) Refusal) (f : Refusal) → IsErrAnd r (λ g. g ≡ f)
    → FindsParents payloads w rows names old new a b (Err f) → FindsParents payloads w rows names old new a b (items_of r)
err-parents payloads w rows names old new a b (Ok v) f h q = absurd h
err-parents payloads w rows names old new a b (Err g) f h q = subst (λ z. FindsParents payloads w rows names old new a b (Err z)) (sym h) q

-- ---- ids one by one

is-there : (x : ℕ) (xs : List ℕ) (i : ℕ) (y : ℕ) → i < length xs → y ≡ get_or xs i y → drop i xs ≡ y ∷ drop (i + 1) xs
is-there x xs i y below is = behind xs i y below is

pub id-found : (x : ℕ) (xs : List ℕ) (i : ℕ) (y : ℕ) → i < length xs → y ≡ get_or xs i y → is_in nat_eq x xs ≡ is_in nat_eq x (drop i xs) → y ≡ x → true ≡ is_in nat_eq x xs
id-found x xs i y below is so_far same =
    sym (so_far ∙ ap (is_in nat_eq x) (behind xs i y below is) ∙ ap (λ b. b || is_in nat_eq x (drop (i + 1) xs)) (subst (λ z. nat_eq x z ≡ true) (sym same) (same-self x)))

pub id-next : (x : ℕ) (xs : List ℕ) (i : ℕ) (y : ℕ) → i < length xs → y ≡ get_or xs i y → is_in nat_eq x xs ≡ is_in nat_eq x (drop i xs) → (y ≡ x → ⊥) → is_in nat_eq x xs ≡ is_in nat_eq x (drop (i + 1) xs)
id-next x xs i y below is so_far apart =
    so_far ∙ ap (is_in nat_eq x) (behind xs i y below is) ∙ ap (λ b. b || is_in nat_eq x (drop (i + 1) xs)) (ne_eqb x y (λ e. apart (sym e)))

-- one more id that isn't among the first
pub distinct-more : (xs : List ℕ) (i : ℕ) (y : ℕ) → i < length xs → y ≡ get_or xs i y → AreDistinct (take i xs) → is_in nat_eq y (take i xs) ≡ false → AreDistinct (take (i + 1) xs)
distinct-more xs i y lt at d out = subst AreDistinct (sym (take_more xs i y lt ∙ ap (λ z. take i xs ++ z ∷ []) (sym at)))
    (distinct-join (take i xs) (y ∷ []) d ((λ j. j), tt) (λ x j k. ⊎_elim (λ e. missing nat_eq same-exact same-self y (take i xs) out (subst (λ z. IsIn z (take i xs)) e j)) (λ l. l) k))

pub twin-there : (xs : List ℕ) (i : ℕ) (y : ℕ) → i < length xs → y ≡ get_or xs i y → is_in nat_eq y (take i xs) ≡ true → AreDistinct xs → ⊥
twin-there xs i y lt at here d =
    (distinct-parts (take i xs) (drop i xs) (subst AreDistinct (sym (take-append-drop i xs)) d)).2 y (found nat_eq same-exact same-self y (take i xs) here) (subst (IsIn y) (sym (behind xs i y lt at)) (inl refl))
