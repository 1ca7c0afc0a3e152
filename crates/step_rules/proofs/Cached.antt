-- The cache has the rows' names, and the mirrors stay sound.
use Rattle.std.proofs.Common.{◌≡◌, ◌<◌, ◌+◌, ◌&&◌, ◌||◌, ◌^◌, not, Bool, true, false, ℕ, zero, suc, inl, inr, List, [], ◌∷◌, ◌++◌, length, map, drop, nat_eq, nat_lt, Option, Some, None, slice_get, refl, sym, ap, ap₂, subst, subst₂, ◌∙◌, if◌then◌else◌, ⊎_elim, true≢false, is_some, append-nil, MatchOption, arith, length-append}
use Rattle.std.proofs.lemmas.Bool.{ltb-true, lt-ltb}
use Rattle.std.proofs.lemmas.List.{map-append}
use Rattle.std.proofs.lemmas.Grind.{flat_map-append}
use Rattle.std.proofs.lemmas.Map.Views.{exact_unsigned_eq}
use Rattle.std.specs.List.{AllByRecursion}
use Rattle.id_groups.specs.Lists.{IsIn, is_in}
use Rattle.id_groups.specs.Name.{Name, same_name}
use Rattle.id_groups.proofs.Names.{same_name-exact, same_name-self}
use Rattle.id_groups.proofs.Listing.{found, and_true, both_true}
use Rattle.commit_graph.specs.World.{Row, World, GrowsMaster, names_of}
use Rattle.commit_graph.specs.Ids.{id_in, place_of}
use Rattle.commit_graph.proofs.Histories.{in-append}
use Rattle.batch_codec.specs.Payload.{Payload, Known}
use Rattle.change_rules.specs.Lazy.{is_lazy}
use Rattle.change_rules.specs.Tables.{known_in}
use Rattle.change_rules.specs.Change.{flush_change, known_from}
use Rattle.remote_rules.specs.CloneData.{KnownName}
use Rattle.remote_rules.specs.Mirror.{Mirror}
use Rattle.step_rules.specs.declared.Refusal.{Refusal}
use Rattle.step_rules.specs.State.{Stored, Outside, Cache, HasAtMost, IsLazyName, IsOutside, with_stored, on_newest}
use Rattle.step_rules.specs.Worlds.{same_world, after_change}
use Rattle.step_rules.specs.Asked.{found_as}
use Rattle.step_rules.specs.Tests.{Test, plain, named}
use Rattle.step_rules.specs.Asking.{TriesAll}
use Rattle.step_rules.specs.Step.{GoesOutside}
use Rattle.step_rules.proofs.Soundness.{AreSound}

-- what is found by the tests has P, where all that they may find has it
module _ (P : KnownName → Type 0) where
  abbrev pub FindsRight : Test → Type 0
  FindsRight test = (k : KnownName) → IsIn k test.finds → P k

  pub gained-right : (W : Type 0) (old new : List Mirror) (tests : List Test) (verdict : Option Refusal) (gained : List KnownName) → AllByRecursion FindsRight tests
      → TriesAll W old tests verdict new gained → (k : KnownName) → IsIn k gained → P k
  gained-right W old new [] verdict gained r t k i = absurd (subst (IsIn k) t.1 i)
  gained-right W old new (test ∷ more) verdict gained r (inl t) k i = absurd (subst (IsIn k) t.1 i)
  gained-right W old new (test ∷ more) verdict gained r (inr t) k i =
      behind t.0 t.4 (λ here g j. gained-right W t.1 new more verdict here r.1 g k j)
    where
      behind : (first : Option Refusal)
          → MatchOption first ((b : List KnownName) × (gained ≡ t.2 ++ b) × TriesAll W t.1 more verdict new b) (λ refusal. (verdict ≡ Some refusal) × (new ≡ t.1) × (gained ≡ t.2))
          → ((here : List KnownName) → TriesAll W t.1 more verdict new here → IsIn k here → P k) → P k
      behind None g rec = ⊎_elim (λ j. r.0 k (t.3.3.1 k j)) (λ j. rec g.0 g.2 j) (in-append k t.2 g.0 (subst (IsIn k) g.1 i))
      behind (Some x) g rec = r.0 k (t.3.3.1 k (subst (IsIn k) g.2 i))

  pub plain-right : (refusal : Option Refusal) → FindsRight (plain refusal)
  plain-right refusal k i = absurd i

  pub named-right : (asked : Bool) (finds : List KnownName) (refusal : Option Refusal) → ((k : KnownName) → IsIn k finds → P k) → FindsRight (named asked finds refusal)
  named-right true finds refusal f k i = f k i
  named-right false finds refusal f k i = absurd i

  pub right-append : (xs ys : List Test) → AllByRecursion FindsRight xs → AllByRecursion FindsRight ys → AllByRecursion FindsRight (xs ++ ys)
  right-append [] ys h k = k
  right-append (x ∷ xs) ys h k = (h.0, right-append xs ys h.1 k)

-- the name of a row stands at its place
at-place : (x : Name) (xs : List Name) → IsIn x xs → slice_get xs (place_of same_name x xs) ≡ Some x
at-place x [] i = absurd i
at-place x (y ∷ xs) i = by_test (same_name y x) refl i (at-place x xs)
  where
    by_test : (b : Bool) → same_name y x ≡ b → IsIn x (y ∷ xs) → (IsIn x xs → slice_get xs (place_of same_name x xs) ≡ Some x)
        → slice_get (y ∷ xs) (if b then 0 else suc (place_of same_name x xs)) ≡ Some x
    by_test true e i rec = ap Some (same_name-exact y x e)
    by_test false e (inl f) rec = absurd (true≢false (sym (same_name-self x) ∙ ap (λ z. same_name z x) f ∙ e))
    by_test false e (inr j) rec = rec j

get-front : {X : Type 0} (xs ys : List X) (i : ℕ) (x : X) → slice_get xs i ≡ Some x → slice_get (xs ++ ys) i ≡ Some x
get-front [] ys i x e = absurd (true≢false (sym (ap is_some e)))
get-front (y ∷ xs) ys zero x e = e
get-front (y ∷ xs) ys (suc i) x e = get-front xs ys i x e

-- a lazy commit is one of a world whose master goes on
lazy-on : (payloads : List Payload) (w v : World Name) (more : List (Row Name)) (id : ℕ) → v.master ≡ w.master ++ more → is_lazy payloads w id ≡ true → is_lazy payloads v id ≡ true
lazy-on payloads w v more id e h =
    let parts = and_true (nat_lt id (length w.master)) _ h in
    let below = ltb-true id (length w.master) parts.0 in
    let longer = ap length e ∙ length-append w.master more in
    both_true (nat_lt id (length v.master)) _ (lt-ltb id (length v.master) (omega (arith, below, longer))) parts.1

-- what may be found in a world that was stored is a lazy commit of the one stored now, with its name
module _ (st : Stored) (w : World Name) (grown : GrowsMaster w st.stored) where
  pub found-cached : (name : Name) (k : KnownName) → IsIn k (found_as st w name) → IsLazyName st k
  found-cached name k i = by_test (is_in same_name name (names_of w.master) && is_lazy st.payloads w (id_in same_name w name)) refl i
    where
      here : (is_in same_name name (names_of w.master) && is_lazy st.payloads w (id_in same_name w name)) ≡ true → IsLazyName st (record { id = id_in same_name w name; name = name })
      here e =
          let parts = and_true (is_in same_name name (names_of w.master)) _ e in
          let there = found same_name same_name-exact same_name-self name (names_of w.master) parts.0 in
          let at : slice_get (names_of w.master) (id_in same_name w name) ≡ Some name =
          subst (λ b. slice_get (names_of w.master) (if b then place_of same_name name (names_of w.master) else 2 ^ 56 + place_of same_name name (names_of w.others)) ≡ Some name) (sym parts.0) (at-place name (names_of w.master) there) in (
            lazy-on st.payloads w st.stored grown.0 (id_in same_name w name) grown.1 parts.1,
            subst (λ l. slice_get l (id_in same_name w name) ≡ Some name) (sym (ap names_of grown.1 ∙ map-append (λ r. r.name) w.master grown.0))
                (get-front (names_of w.master) (names_of grown.0) (id_in same_name w name) name at),
          )

      by_test : (b : Bool) → (is_in same_name name (names_of w.master) && is_lazy st.payloads w (id_in same_name w name)) ≡ b
          → IsIn k (if b then record { id = id_in same_name w name; name = name } ∷ [] else []) → IsLazyName st k
      by_test true e (inl f) = subst (IsLazyName st) (sym f) (here e)
      by_test true e (inr j) = absurd j
      by_test false e j = absurd j

eq-not : (a b : ℕ) → (a ≡ b → ⊥) → nat_eq a b ≡ false
eq-not a b f = by_test (nat_eq a b) refl
  where
    by_test : (c : Bool) → nat_eq a b ≡ c → c ≡ false
    by_test true e = absurd (f (exact_unsigned_eq a b e))
    by_test false e = refl

neither : (a b : Bool) → (a || b) ≡ false → (a ≡ false) × (b ≡ false)
neither true b e = absurd (true≢false e)
neither false b e = (refl, e)

not-true-is : (b : Bool) → not b ≡ true → b ≡ false
not-true-is true e = absurd (true≢false (sym e))
not-true-is false e = refl

-- a name that is cached over a stored world is so over the next
known-not-lower : (id : ℕ) (names : List Name) (n : ℕ) → n < id → is_in nat_eq n (map (λ (k : Known). k.id) (known_from id names)) ≡ false
known-not-lower id [] n lt = refl
known-not-lower id (name ∷ names) n lt =
    ap₂ (λ a b. a || b) (eq-not n id (λ e. omega (arith, e, lt))) (known-not-lower (id + 1) names n (omega (arith, lt)))

is-in-append : (n : ℕ) (xs ys : List ℕ) → is_in nat_eq n xs ≡ false → is_in nat_eq n ys ≡ false → is_in nat_eq n (xs ++ ys) ≡ false
is-in-append n [] ys e f = f
is-in-append n (x ∷ xs) ys e f = let parts = neither (nat_eq n x) (is_in nat_eq n xs) e in ap₂ (λ a b. a || b) parts.0 (is-in-append n xs ys parts.1 f)

-- the new known names of a change are of ids from the old count on
module _ (st : Stored) (new : World Name) (payload : Payload) (grown : GrowsMaster st.stored new) (late : (n : ℕ) → n < length st.stored.master → is_in nat_eq n (map (λ (k : Known). k.id) payload.known) ≡ false) where
  pub cached-next : (k : KnownName) → IsLazyName st k → IsLazyName (with_stored st new payload) k
  cached-next k h =
      let parts = and_true (nat_lt k.id (length st.stored.master)) _ h.0 in
      let below = ltb-true k.id (length st.stored.master) parts.0 in
      let longer = ap length grown.1 ∙ length-append st.stored.master grown.0 in
      let still = is-in-append k.id (map (λ (x : Known). x.id) (known_in st.payloads)) (map (λ (x : Known). x.id) (payload.known ++ [])) (not-true-is _ parts.1)
      (subst (λ l. is_in nat_eq k.id (map (λ (x : Known). x.id) l) ≡ false) (sym (append-nil payload.known)) (late k.id below)) in
      let all : map (λ (x : Known). x.id) (known_in (st.payloads ++ payload ∷ [])) ≡ map (λ (x : Known). x.id) (known_in st.payloads) ++ map (λ (x : Known). x.id) (payload.known ++ []) =
      ap (map (λ (x : Known). x.id)) (flat_map-append (λ (p : Payload). p.known) st.payloads (payload ∷ [])) ∙ map-append (λ (x : Known). x.id) (known_in st.payloads) (payload.known ++ []) in (
        both_true (nat_lt k.id (length new.master)) _ (lt-ltb k.id (length new.master) (omega (arith, below, longer))) (ap not (subst (λ l. is_in nat_eq k.id l ≡ false) (sym all) still)),
        subst (λ l. slice_get l k.id ≡ Some k.name) (sym (ap names_of grown.1 ∙ map-append (λ r. r.name) st.stored.master grown.0))
            (get-front (names_of st.stored.master) (names_of grown.0) k.id k.name h.1),
      )

  pub cached-change : (s : ℕ) (k : KnownName) → IsLazyName st k → IsLazyName (after_change st s new payload) k
  cached-change s k h = by_test (same_world new st.stored)
    where
      by_test : (b : Bool) → IsLazyName (if b then on_newest st s [] else on_newest (with_stored st new payload) s []) k
      by_test true = h
      by_test false = cached-next k h

-- a flush, a strip and a pull have late names alone
pub flush-late : (old new : World Name) (n : ℕ) → n < length old.master → is_in nat_eq n (map (λ (k : Known). k.id) (flush_change old new).known) ≡ false
flush-late old new n lt = known-not-lower (length old.master) (names_of (drop (length old.master) new.master)) n lt

-- the outside after a command, whose cache goes on by names that are right
pub outside-kept : (st now : Stored) (old new : Outside) (mirrors : List Mirror) (gained : List KnownName) → IsOutside st old → AreSound mirrors → ((k : KnownName) → IsIn k gained → IsLazyName st k)
    → ((k : KnownName) → IsLazyName st k → IsLazyName now k) → GoesOutside old mirrors gained new → IsOutside now new
outside-kept st now old new mirrors [] h sound right on g = record {
  few = subst₂ (λ c n. HasAtMost n c) (sym g.cache) (sym g.room) h.few;
  names = λ id name e. on (record { id = id; name = name }) (h.names id name (subst (λ (c : Cache). c id ≡ Some name) g.cache e));
  mirrors = subst AreSound (sym g.mirrors_are) sound;
}
outside-kept st now old new mirrors (x ∷ gained) h sound right on g = record {
  few = subst (λ n. HasAtMost n new.cache) (sym g.room) g.cache.few;
  names = λ id name e. on (record { id = id; name = name }) (⊎_elim (λ j. h.names id name j) (λ j. right (record { id = id; name = name }) j) (g.cache.from id name e));
  mirrors = subst AreSound (sym g.mirrors_are) sound;
}
