-- Steps that ask a mirror.
use Rattle.std.proofs.Common.{◌≡◌, ◌≤◌, ◌<◌, ◌+◌, ℕ, true, inl, inr, List, [], ◌∷◌, length, map, filter, min, Option, Some, None, refl, sym, ap, subst, true≢false, le_refl, append-nil, arith, if◌then◌else◌, Bool, false, is_some, nat_eq, ap₂, ◌⊎◌, ◌∙◌}
use Rattle.std.specs.List.{AllByRecursion}
use Rattle.std.proofs.lemmas.List.{length-map}
use Rattle.std.proofs.lemmas.Map.Views.{exact_unsigned_eq}
use Rattle.id_groups.specs.Lists.{IsIn}
use Rattle.id_groups.specs.Name.{Name, same_name}
use Rattle.id_groups.proofs.Names.{same_name-exact, same_name-self}
use Rattle.id_groups.proofs.Listing.{filter-filters}
use Rattle.commit_graph.specs.World.{Row}
use Rattle.commit_graph.specs.Graph.{Graph, first_ancestor}
use Rattle.outside.specs.Counts.{last_count}
use Rattle.set_expr.specs.Expr.{One, Up}
use Rattle.set_expr.specs.Meaning.{IsMember, IsAnswer}
use Rattle.set_expr.specs.Computed.{is_some_of}
use Rattle.change_rules.specs.declared.Limits.{Limits}
use Rattle.remote_rules.specs.CloneData.{KnownName}
use Rattle.remote_rules.specs.Mirror.{Mirror}
use Rattle.remote_rules.specs.Calls.{Keeps, WhereBoth, MasterGoesOn, IsAskedFor, IsCloned, IsPulled, RowsFrom}
use Rattle.remote_rules.specs.Asking.{IsOneAsk}
use Rattle.step_rules.specs.declared.Refusal.{Refusal}
use Rattle.step_rules.specs.Tests.{refused_first, tests}
use Rattle.step_rules.specs.Asking.{Tries, TriesAll, TakesIn}
use Rattle.step_rules.specs.State.{State, Cache, HasOnly}
use Rattle.step_rules.specs.Verb.{Verb}
use Rattle.step_rules.specs.Reply.{Refused}
use Rattle.step_rules.specs.Step.{CommandStep, MayWantMemory}
use Rattle.step_rules.proofs.Trying.{IsPlain}
use Rattle.step_rules.proofs.Plain.{all-tries}

-- the mirror after it was asked for so many names
abbrev pub ask_of : ℕ → Mirror → Mirror
ask_of count m = record m { asked = min (m.asked + count) last_count }

no-more : (o : Option ℕ) → WhereBoth (λ before now. now ≤ before) o o
no-more None = tt
no-more (Some n) = le_refl n

same-keeps : (m : Mirror) → Keeps m m
same-keeps m = record { settled = refl; tells_master = refl; tells_clone = refl; tells_faults = refl; faults = le_refl m.faults; to_come = no-more m.to_come; sound = λ s. s }

pub is-asked : (count : ℕ) (m : Mirror) → IsAskedFor count m (ask_of count m)
is-asked count m = record {
  keeps = record { settled = refl; tells_master = refl; tells_clone = refl; tells_faults = refl; faults = le_refl m.faults; to_come = no-more m.to_come; sound = λ s. s };
  master = refl;
  cloned = refl;
  asked = refl;
}

still : (o : Option (List (Row Name))) → MasterGoesOn true o o
still None = tt
still (Some w) = refl

pub is-cloned : (m : Mirror) → m.settled ≡ true → IsCloned m m
is-cloned m e = record { keeps = same-keeps m; master = subst (λ b. MasterGoesOn b m.master m.master) (sym e) (still m.master); asked = refl }

-- a settled mirror that was asked for its clone data and so many names
pub is-pulled : (from count : ℕ) (m : Mirror) → m.settled ≡ true → RowsFrom from m.master m.asked (ask_of count m).asked → IsPulled from m (ask_of count m)
is-pulled from count m e few = record {
  keeps = record { settled = refl; tells_master = refl; tells_clone = refl; tells_faults = refl; faults = le_refl m.faults; to_come = no-more m.to_come; sound = λ s. s };
  master = subst (λ b. MasterGoesOn b m.master m.master) (sym e) (still m.master);
  asked = few;
}

-- the first mirror answers
pub first-answers : (Does : Mirror → Mirror → Type 0) (m asked : Mirror) (more : List Mirror) → Does m asked → IsOneAsk Does (m ∷ more) None (asked ∷ more)
first-answers Does m asked more d = ([], [], m ∷ more, refl, tt, (asked, d, ap (λ l. asked ∷ l) (sym (append-nil more)), inl refl))

-- a name is asked and found
pub name-tried : (m : Mirror) (more : List Mirror) (k : KnownName) (refusal : Option Refusal)
    → Tries (m ∷ more) (record { must = 1; may = 0; finds = k ∷ []; refusal = refusal }) refusal (ask_of 1 m ∷ more) (k ∷ [])
name-tried m more k refusal = (
  1,
  None,
  (1 ∷ [], (le_refl 1, tt), le_refl 1, (λ le e. absurd (let l = ap length e in omega (arith, l))), inr (ask_of 1 m ∷ more, 0, refl, first-answers (IsAskedFor 1) m (ask_of 1 m) more (is-asked 1 m), (refl, refl, refl))),
  (le_refl 1, λ x i. i),
  refl,
)

-- a cache with these names
abbrev pub names_in : List KnownName → Cache
names_in [] id = None
names_in (k ∷ names) id = if nat_eq k.id id then Some k.name else names_in names id

some-name : (x y : Name) → Some x ≡ Some y → x ≡ y
some-name x y e = ap (or_this x) e
  where
    or_this : Name → Option Name → Name
    or_this d None = d
    or_this d (Some z) = z

only-these : (names : List KnownName) → HasOnly (map (λ k. k.id) names) (names_in names)
only-these [] id e = absurd (true≢false (sym e))
only-these (k ∷ names) id e = by_test (nat_eq k.id id) refl e (only-these names id)
  where
    by_test : (b : Bool) → nat_eq k.id id ≡ b → is_some (if b then Some k.name else names_in names id) ≡ true → (is_some (names_in names id) ≡ true → IsIn id (map (λ k. k.id) names)) → IsIn id (k.id ∷ map (λ k. k.id) names)
    by_test true f g rec = inl (sym (exact_unsigned_eq k.id id f))
    by_test false f g rec = inr (rec g)

-- one name more in the cache, where there is room
pub takes-one : (room : ℕ) (k : KnownName) (old : List KnownName) → length old < room → TakesIn room (k ∷ []) (names_in old) (names_in (k ∷ old))
takes-one room k old fits = record {
  from = λ id name e. whence id name (nat_eq k.id id) refl e;
  few = (map (λ c. c.id) (k ∷ old), (let l = length-map old (λ (c : KnownName). c.id) in omega (arith, l, fits)), only-these (k ∷ old));
  goes = λ id there gone. absurd (stays id (nat_eq k.id id) there gone);
}
  where
    whence : (id : ℕ) (name : Name) (b : Bool) → nat_eq k.id id ≡ b → (if b then Some k.name else names_in old id) ≡ Some name → (names_in old id ≡ Some name) ⊎ IsIn (record { id = id; name = name }) (k ∷ [])
    whence id name true f e = inr (inl (ap₂ {C = KnownName} (λ i n. record { id = i; name = n }) (sym (exact_unsigned_eq k.id id f)) (sym (some-name k.name name e))))
    whence id name false f e = inl e

    stays : (id : ℕ) (b : Bool) → is_some (names_in old id) ≡ true → (if b then Some k.name else names_in old id) ≡ None → ⊥
    stays id true there gone = true≢false (ap is_some gone)
    stays id false there gone = true≢false (sym there ∙ ap is_some gone)

-- a command that a test refuses for which nothing is asked
pub plainly-refused : (limits : Limits) (st : State) (s : ℕ) (verb : Verb) (r : Refusal) → AllByRecursion IsPlain (tests limits st.store s verb) → refused_first (tests limits st.store s verb) ≡ Some r
    → CommandStep limits st s verb (Refused r) st
plainly-refused limits st s verb r plain e = (
  Some r,
  st.outside.mirrors,
  [],
  subst (λ v. TriesAll (MayWantMemory verb) st.outside.mirrors (tests limits st.store s verb) v st.outside.mirrors []) e (all-tries (MayWantMemory verb) st.outside.mirrors (tests limits st.store s verb) plain),
  ((refl, refl), record { mirrors_are = refl; room = refl; cache = refl }),
)

-- the answer to a question for a first-parent ancestor
module _ (g : Graph Name) where
  same-some : (o : Option Name) (x : Name) → is_some_of same_name g 0 o x ≡ true → o ≡ Some x
  same-some None x e = absurd (true≢false (sym e))
  same-some (Some y) x e = ap Some (same_name-exact y x e)

  some-same : (o : Option Name) (x : Name) → o ≡ Some x → is_some_of same_name g 0 o x ≡ true
  some-same o x e = subst (λ p. is_some_of same_name g 0 p x ≡ true) (sym e) (same_name-self x)

  pub up-answer : (x : Name) (n : ℕ) → IsAnswer g (Up x n) (filter (is_some_of same_name g 0 (first_ancestor g n x)) g.down)
  up-answer x n = filter-filters (is_some_of same_name g 0 (first_ancestor g n x)) (IsMember g (Up x n)) g.down (λ y i e. same-some (first_ancestor g n x) y e) (λ y i e. some-same (first_ancestor g n x) y e)

  pub one-answer : (x : Name) → IsAnswer g (One x) (filter (λ y. same_name y x) g.down)
  one-answer x = filter-filters (λ y. same_name y x) (IsMember g (One x)) g.down (λ y i e. same_name-exact y x e) (λ y i e. subst (λ z. same_name z x ≡ true) (sym e) (same_name-self x))
