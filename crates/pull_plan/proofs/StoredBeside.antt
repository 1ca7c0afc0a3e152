-- What tables store of names, beside those that a remote told.
use Rattle.std.proofs.Common.{◌≡◌, ◌≤◌, ◌<◌, ◌+◌, ◌&&◌, ◌||◌, not, cond, ℕ, zero, suc, Bool, true, false, inl, inr, List, [], ◌∷◌, ◌++◌, map, filter, take, drop, nat_eq, nat_lt, Option, Some, None, is_some, refl, sym, ap, ap₂, subst, ◌∙◌, ⊎_elim, true≢false, arith, lit≤, zero-le, if◌then◌else◌}
use Rattle.std.specs.Prelude.{slice_get, IsTrue, ◌↔◌}
use Rattle.std.proofs.lemmas.Bool.{ltb-true, lt-ltb, le-ltb, eq-eqb}
use Rattle.std.proofs.lemmas.Map.Views.{exact_unsigned_eq}
use Rattle.id_groups.specs.Lists.{IsIn, is_in}
use Rattle.id_groups.specs.Name.{Name, same_name}
use Rattle.id_groups.proofs.Names.{same_name-exact, same_name-self}
use Rattle.id_groups.proofs.Listing.{all-in, implied, implies, in-all-true, found, there}
use Rattle.commit_graph.specs.World.{names_of}
use Rattle.commit_graph.proofs.Naming.{each}
use Rattle.batch_codec.specs.Payload.{Payload, Known}
use Rattle.batch_codec.specs.Grammar.{IsFlush, IsClone, IsWholePayload}
use Rattle.name_map.specs.Added.{Placed, payloads_of, known_of}
use Rattle.name_map.specs.Map.{IsIdOf, IsNameOf}
use Rattle.remote_rules.specs.CloneData.{CloneData, KnownName, first_false}
use Rattle.remote_trait.specs.Broken.{AscendFrom}
use Rattle.change_rules.specs.Lawful.{AreLawful}
use Rattle.change_rules.specs.Tables.{known_in, cloned_count}
use Rattle.change_rules.specs.Disagree.{name_agrees, rows_fit, first_bad_row}
use Rattle.payload_tables.specs.Kept.{PlainTables, AreTablesOf}
use Rattle.pull_plan.specs.Pulling.{cloned_names, is_told, row_fault, unlike_name}
use Rattle.change_parts.specs.declared.fault.PlanFault.TheVariants.{BadRow}
use Rattle.change_parts.proofs.Invented.{FitBehind, some-world}
use Rattle.rebase_pending.proofs.Stepping.{take-next}
use Rattle.pull_plan.proofs.Beside.{some-one, behind-at}

pub known-in : (added : List Placed) → known_of added ≡ known_in (payloads_of added)
known-in [] = refl
known-in (a ∷ added) = ap (λ l. a.payload.known ++ l) (known-in added)

-- ---- names below the cloned count

in-cloned : (cloned id : ℕ) (name : Name) (known : List Known) → id < cloned → IsIn (record { id = id; name = name }) known → IsIn name (map (λ (k : Known). k.name) (filter (λ (k : Known). nat_lt k.id cloned) known))
in-cloned cloned id name [] lt i = absurd i
in-cloned cloned id name (k ∷ ks) lt (inl e) =
    subst (λ b. IsIn name (map (λ (c : Known). c.name) (cond b (k ∷ filter (λ (c : Known). nat_lt c.id cloned) ks) (filter (λ (c : Known). nat_lt c.id cloned) ks))))
    (sym (lt-ltb k.id cloned (subst (λ n. n < cloned) (ap (λ (c : Known). c.id) e) lt))) (inl (ap (λ (c : Known). c.name) e))
in-cloned cloned id name (k ∷ ks) lt (inr i) = by_test (nat_lt k.id cloned) (in-cloned cloned id name ks lt i)
  where
    by_test : (b : Bool) → IsIn name (map (λ (c : Known). c.name) (filter (λ (c : Known). nat_lt c.id cloned) ks))
        → IsIn name (map (λ (c : Known). c.name) (cond b (k ∷ filter (λ (c : Known). nat_lt c.id cloned) ks) (filter (λ (c : Known). nat_lt c.id cloned) ks)))
    by_test true j = inr j
    by_test false j = j

cloned-in : (cloned : ℕ) (name : Name) (known : List Known) → IsIn name (map (λ (k : Known). k.name) (filter (λ (k : Known). nat_lt k.id cloned) known)) → (id : ℕ) × (id < cloned) × IsIn {X = Known} (record { id = id; name = name }) known
cloned-in cloned name [] i = absurd i
cloned-in cloned name (k ∷ ks) i = by_test (nat_lt k.id cloned) refl i (cloned-in cloned name ks)
  where
    by_test : (b : Bool) → nat_lt k.id cloned ≡ b → IsIn name (map (λ (c : Known). c.name) (cond b (k ∷ filter (λ (c : Known). nat_lt c.id cloned) ks) (filter (λ (c : Known). nat_lt c.id cloned) ks)))
        → (IsIn name (map (λ (c : Known). c.name) (filter (λ (c : Known). nat_lt c.id cloned) ks)) → (id : ℕ) × (id < cloned) × IsIn {X = Known} (record { id = id; name = name }) ks)
        → (id : ℕ) × (id < cloned) × IsIn {X = Known} (record { id = id; name = name }) (k ∷ ks)
    by_test true e (inl g) rec = (k.id, ltb-true k.id cloned e, inl (ap (λ (n : Name). record { id = k.id; name = n }) g))
    by_test true e (inr j) rec = let r = rec j in (r.0, r.1, inr r.2)
    by_test false e j rec = let r = rec j in (r.0, r.1, inr r.2)

-- the look-up of a name finds exactly those
pub cloned-named : (cloned : ℕ) (name : Name) (known : List Known) (o : Option ℕ) → IsIdOf known name cloned o
    → is_some o ≡ is_in same_name name (map (λ (k : Known). k.name) (filter (λ (k : Known). nat_lt k.id cloned) known))
cloned-named cloned name known (Some id) h = sym (there same_name same_name-exact same_name-self name (map (λ (k : Known). k.name) (filter (λ (k : Known). nat_lt k.id cloned) known)) (in-cloned cloned id name known h.0 h.1))
cloned-named cloned name known None h = by_test (is_in same_name name (map (λ (k : Known). k.name) (filter (λ (k : Known). nat_lt k.id cloned) known))) refl
  where
    by_test : (b : Bool) → is_in same_name name (map (λ (k : Known). k.name) (filter (λ (k : Known). nat_lt k.id cloned) known)) ≡ b → false ≡ b
    by_test false e = refl
    by_test true e = let r = cloned-in cloned name known (found same_name same_name-exact same_name-self name (map (λ (k : Known). k.name) (filter (λ (k : Known). nat_lt k.id cloned) known)) e) in absurd (h r.0 r.1 r.2)

pub is-cloned : (cloned : ℕ) (name : Name) (added : List Placed) (o : Option ℕ) → IsIdOf (known_of added) name cloned o → is_some o ≡ is_in same_name name (cloned_names cloned (payloads_of added))
is-cloned cloned name added o h = cloned-named cloned name (known_of added) o h ∙ ap (λ l. is_in same_name name (map (λ (k : Known). k.name) (filter (λ (k : Known). nat_lt k.id cloned) l))) (known-in added)

-- ---- the name of an id

-- an id has one name
pub one-name : (tables : PlainTables) (added : List Placed) → AreTablesOf tables added → (a b : Known) → IsIn a (known_in (payloads_of added)) → IsIn b (known_in (payloads_of added)) → a.id ≡ b.id → a.name ≡ b.name
one-name tables added t a b i j e =
    let fit : FitBehind (payloads_of added) [] = record { parents = tt; distinct = tt; whole = tt; few = zero-le; new = λ x i d. absurd i } in
    let st = some-world (payloads_of added) t.lawful [] fit in
    let names = names_of st.of_world.master in
    let at = each (λ (k : Known). slice_get names k.id ≡ Some k.name) (known_in (payloads_of added)) st.stand.known in
    some-one a.name b.name (sym (at a i) ∙ ap (slice_get names) e ∙ at b j)

module _ (tables : PlainTables) (added : List Placed) (t : AreTablesOf tables added) (id : ℕ) (name : Name) where
  abbrev known : List Known
  known = known_in (payloads_of added)

  pub named-as : (stored : Name) (is : Bool) → IsIn (record { id = id; name = stored }) (known_of added) → IsTrue is ↔ (stored ≡ name) → is ≡ name_agrees (known_in (payloads_of added)) (record { id = id; name = name })
  named-as stored is i h = by_test is h
    where
      here : IsIn (record { id = id; name = stored }) (known_in (payloads_of added))
      here = subst (IsIn {X = Known} (record { id = id; name = stored })) (known-in added) i

      no : (name_agrees (known_in (payloads_of added)) (record { id = id; name = name }) ≡ true → stored ≡ name)
      no e = same_name-exact stored name (implied (nat_eq id id) (same_name stored name)
          (all-in (λ (s : Known). not (nat_eq s.id id) || same_name s.name name) (known_in (payloads_of added)) e (record { id = id; name = stored }) here) (eq-eqb id id refl))

      by_test : (b : Bool) → IsTrue b ↔ (stored ≡ name) → b ≡ name_agrees (known_in (payloads_of added)) (record { id = id; name = name })
      by_test true g =
          sym (in-all-true (λ (s : Known). not (nat_eq s.id id) || same_name s.name name) (known_in (payloads_of added)) (λ s j.
          implies (nat_eq s.id id) (same_name s.name name) (λ e.
          let one : s.name ≡ name = one-name tables added t s (record { id = id; name = stored }) j here (exact_unsigned_eq s.id id e) ∙ g.0 refl in
          subst (λ z. same_name s.name z ≡ true) one (same_name-self s.name))))
      by_test false g = by_agree (name_agrees (known_in (payloads_of added)) (record { id = id; name = name })) refl
        where
          by_agree : (b : Bool) → name_agrees (known_in (payloads_of added)) (record { id = id; name = name }) ≡ b → false ≡ b
          by_agree false e = refl
          by_agree true e = absurd (true≢false (sym (g.1 (no e))))

  pub named-none : IsNameOf (known_of added) id None → true ≡ name_agrees (known_in (payloads_of added)) (record { id = id; name = name })
  named-none h =
      sym (in-all-true (λ (s : Known). not (nat_eq s.id id) || same_name s.name name) (known_in (payloads_of added)) (λ s j.
      implies (nat_eq s.id id) (same_name s.name name) (λ e.
      absurd (h s.name (subst (IsIn {X = Known} (record { id = id; name = s.name })) (sym (known-in added)) (subst (λ n. IsIn {X = Known} (record { id = n; name = s.name }) (known_in (payloads_of added))) (exact_unsigned_eq s.id id e) j))))))

-- ---- names told, in turn

-- of each of these names, whether it is the stored one of its id, below an id
abbrev pub name_tests : List Known → ℕ → List KnownName → List Bool
name_tests known below told = map (λ (k : KnownName). not (nat_lt k.id below) || name_agrees known k) told

past-all : (known : List Known) (below n least : ℕ) (ks : List KnownName) → below ≤ least → AscendFrom least ks → first_false n (name_tests known below ks) ≡ None
past-all known below n least [] le h = refl
past-all known below n least (k ∷ ks) le h =
    let low = h.0 in
    ap (λ b. if (not b || name_agrees known k) then first_false (n + 1) (name_tests known below ks) else Some n) (le-ltb k.id below (omega (arith, low, le)))
    ∙ past-all known below (n + 1) (k.id + 1) ks (omega (arith, low, le)) h.1

ascend-behind : (least : ℕ) (ks : List KnownName) (i : ℕ) (k : KnownName) → AscendFrom least ks → slice_get ks i ≡ Some k → AscendFrom k.id (drop i ks)
ascend-behind least [] i k h e = absurd (true≢false (sym (ap is_some e)))
ascend-behind least (c ∷ ks) zero k h e = subst (λ (z : KnownName). AscendFrom z.id (c ∷ ks)) (some-one c k e) (let z : c.id ≤ c.id = omega arith in z, h.1)
ascend-behind least (c ∷ ks) (suc i) k h e = ascend-behind (c.id + 1) ks i k h.1 e

module _ (known : List Known) (told : List KnownName) (below first i : ℕ) (so_far : unlike_name told known below first ≡ first_false (first + i) (name_tests known below (drop i told))) where
  at-name : (k : KnownName) → slice_get told i ≡ Some k → k.id < below → unlike_name told known below first ≡ (if name_agrees known k then first_false (first + i + 1) (name_tests known below (drop (i + 1) told)) else Some (first + i))
  at-name k e lt =
      so_far ∙ ap (λ l. first_false (first + i) (name_tests known below l)) (behind-at told i k e)
      ∙ ap (λ b. if (not b || name_agrees known k) then first_false (first + i + 1) (name_tests known below (drop (i + 1) told)) else Some (first + i)) (lt-ltb k.id below lt)

  pub name-next : (k : KnownName) → slice_get told i ≡ Some k → k.id < below → name_agrees known k ≡ true → unlike_name told known below first ≡ first_false (first + (i + 1)) (name_tests known below (drop (i + 1) told))
  name-next k e lt is =
      at-name k e lt ∙ ap (λ b. if b then first_false (first + i + 1) (name_tests known below (drop (i + 1) told)) else Some (first + i)) is
      ∙ ap (λ n. first_false n (name_tests known below (drop (i + 1) told))) (let z : first + i + 1 ≡ first + (i + 1) = omega arith in z)

  pub name-here : (k : KnownName) → slice_get told i ≡ Some k → k.id < below → name_agrees known k ≡ false → unlike_name told known below first ≡ Some (first + i)
  name-here k e lt is = at-name k e lt ∙ ap (λ b. if b then first_false (first + i + 1) (name_tests known below (drop (i + 1) told)) else Some (first + i)) is

  pub name-past : AscendFrom 0 told → (k : KnownName) → slice_get told i ≡ Some k → below ≤ k.id → unlike_name told known below first ≡ None
  name-past h k e le = so_far ∙ past-all known below (first + i) k.id (drop i told) le (ascend-behind 0 told i k h e)

-- ---- fetched names, in turn

pub cloned-small : (tables : PlainTables) (added : List Placed) → AreTablesOf tables added → cloned_count (payloads_of added) ≤ 16777216
cloned-small tables added t = by_first (payloads_of added) t.lawful
  where
    by_first : (payloads : List Payload) → AreLawful [] payloads → cloned_count payloads ≤ 16777216
    by_first [] h = lit≤ tt
    by_first (p ∷ more) h =
        let top = h.0.whole.counts.master in
        ⊎_elim
        (λ (f : IsFlush p). let e = f.cloned in omega (arith, e))
        (⊎_elim (λ (f : IsClone p). let e = f.cloned in omega (arith, e, top)) (λ (f : IsWholePayload p). let le = f.cloned in omega (arith, le, top)))
        h.0.whole.by_kind

module _ (stored names : List Name) (told : CloneData) (cloned i : ℕ) (so_far : first_false cloned (rows_fit stored [] told cloned names) ≡ first_false (cloned + i) (rows_fit stored (take i names) told (cloned + i) (drop i names))) where
  at-row : (name : Name) → slice_get names i ≡ Some name → (is_new may : Bool) → is_new ≡ not (is_in same_name name (take i names)) → may ≡ (not (is_in same_name name stored) && is_told told (cloned + i) name)
      → first_false cloned (rows_fit stored [] told cloned names) ≡ (if is_new && may then first_false (cloned + i + 1) (rows_fit stored (take i names ++ name ∷ []) told (cloned + i + 1) (drop (i + 1) names)) else Some (cloned + i))
  at-row name e is_new may n m =
      so_far ∙ ap (λ l. first_false (cloned + i) (rows_fit stored (take i names) told (cloned + i) l)) (behind-at names i name e)
      ∙ ap (λ b. if b then first_false (cloned + i + 1) (rows_fit stored (take i names ++ name ∷ []) told (cloned + i + 1) (drop (i + 1) names)) else Some (cloned + i))
      (regroup (not (is_in same_name name (take i names))) (not (is_in same_name name stored)) (is_told told (cloned + i) name) ∙ ap₂ (λ a b. a && b) (sym n) (sym m))
    where
      regroup : (a b c : Bool) → (a && b && c) ≡ (a && (b && c))
      regroup true b c = refl
      regroup false b c = refl

  pub row-next : (name : Name) → slice_get names i ≡ Some name → true ≡ not (is_in same_name name (take i names)) → true ≡ (not (is_in same_name name stored) && is_told told (cloned + i) name)
      → first_false cloned (rows_fit stored [] told cloned names) ≡ first_false (cloned + (i + 1)) (rows_fit stored (take (i + 1) names) told (cloned + (i + 1)) (drop (i + 1) names))
  row-next name e n m =
      at-row name e true true n m
      ∙ ap (λ l. first_false (cloned + i + 1) (rows_fit stored l told (cloned + i + 1) (drop (i + 1) names))) (sym (take-next names i name e))
      ∙ ap (λ k. first_false k (rows_fit stored (take (i + 1) names) told k (drop (i + 1) names))) (let z : cloned + i + 1 ≡ cloned + (i + 1) = omega arith in z)

  pub row-seen : (name : Name) → slice_get names i ≡ Some name → false ≡ not (is_in same_name name (take i names)) → first_false cloned (rows_fit stored [] told cloned names) ≡ Some (cloned + i)
  row-seen name e n = at-row name e false (not (is_in same_name name stored) && is_told told (cloned + i) name) n refl

  pub row-other : (name : Name) → slice_get names i ≡ Some name → true ≡ not (is_in same_name name (take i names)) → false ≡ (not (is_in same_name name stored) && is_told told (cloned + i) name)
      → first_false cloned (rows_fit stored [] told cloned names) ≡ Some (cloned + i)
  row-other name e n m = at-row name e true false n m

-- the first bad row, as the fault that names it
pub bad-row : (payloads : List Payload) (all cloned : ℕ) (told : CloneData) (names : List Name) (k : ℕ) → cloned ≡ all
    → first_false cloned (rows_fit (cloned_names cloned payloads) [] told cloned names) ≡ Some k → row_fault (first_bad_row payloads all told names) ≡ Some (BadRow k)
bad-row payloads all cloned told names k e h = ap row_fault (ap (λ n. first_bad_row payloads n told names) (sym e) ∙ h)
