-- The stored names of a base.
use Rattle.std.proofs.Common.{◌≡◌, ◌<◌, ◌≤◌, ◌^◌, ◌⊎◌, ℕ, zero, suc, ◌+◌, ◌*◌, ◌-◌, true, false, Option, Some, None, is_some, List, [], ◌∷◌, ◌++◌, length, take, drop, slice_get, true≢false, sym, ap, ap₂, subst, ◌∙◌, ⊎_elim, inl, inr, lit≤, arith}
use Rattle.std.specs.List.{last_or}
use Rattle.std.proofs.lemmas.List.{drop-take, take-take, drop-drop}
use Rattle.name_index.specs.Index.{NamedPlace, NamesStand, NameStandsAt, IsIndexOf, names_in}
use Rattle.name_map.specs.Added.{names_from, Placed, payloads_of, known_of, FollowInLog}
use Rattle.name_map.proofs.Places.{names-are}
use Rattle.commit_graph.proofs.Naming.{each, all-each}
use Rattle.payload_tables.proofs.Naming.{names-from-in, get-in, name-in-bytes}
use Rattle.std.proofs.lemmas.Grind.{flat_map-append}
use Rattle.id_groups.specs.Lists.{IsIn}
use Rattle.id_groups.specs.Name.{Name, IsName}
use Rattle.id_groups.specs.declared.name.NameRef.{NameRef}
use Rattle.commit_graph.proofs.Histories.{in-append}
use Rattle.commit_graph.proofs.Down.{in-left, in-right}
use Rattle.batch_codec.specs.Payload.{Known, Payload}
use Rattle.batch_codec.specs.Grammar.{count_after}
use Rattle.name_map.specs.Map.{NamesAs, IsIdOf}
use Rattle.name_map.proofs.Orders.{known-within}
use Rattle.change_rules.specs.Change.{known_from}
use Rattle.change_rules.specs.Tables.{newest, other_names_in}
use Rattle.payload_tables.specs.Kept.{PlainTables, PlainOthers, AreOthersIn}
use Rattle.payload_tables.specs.Bases.{MayBase, stored_in}
use Rattle.payload_tables.proofs.Basing.{OthersFacts, base-others}
use Rattle.payload_tables.proofs.Rows.{get-below}

after-grows : (n : ℕ) (added behind : List Placed) → FollowInLog n (added ++ behind) → n ≤ count_after n (payloads_of added)
after-grows n [] behind h = omega arith
after-grows n (a ∷ added) behind h = let r = after-grows a.payload.after added behind h.2 in let g = h.0.counts.grows in let e = h.1 in omega (arith, r, g, e)

front-under : (n : ℕ) (front behind : List Placed) → FollowInLog n (front ++ behind) → (k : Known) → IsIn k (known_of front) → k.id < count_after n (payloads_of front)
front-under n [] behind h k i = absurd i
front-under n (a ∷ front) behind h k i =
    ⊎_elim (λ (j : IsIn k a.payload.known). let small = (known-within a.payload h.0 k j).1 in let up = after-grows a.payload.after front behind h.2 in omega (arith, small, up))
    (λ (j : IsIn k (known_of front)). front-under a.payload.after front behind h.2 k j) (in-append k a.payload.known (known_of front) i)

from : (n : ℕ) (behind : List Placed) → FollowInLog n behind → (k : Known) → IsIn k (known_of behind) → n ≤ k.id
from n [] h k i = absurd i
from n (a ∷ behind) h k i =
    ⊎_elim (λ (j : IsIn k a.payload.known). let low = (known-within a.payload h.0 k j).0 in let e = h.1 in omega (arith, low, e))
    (λ (j : IsIn k (known_of behind)). let r = from a.payload.after behind h.2 k j in let g = h.0.counts.grows in let e = h.1 in omega (arith, r, g, e)) (in-append k a.payload.known (known_of behind) i)

behind-from : (n : ℕ) (front behind : List Placed) → FollowInLog n (front ++ behind) → (k : Known) → IsIn k (known_of behind) → count_after n (payloads_of front) ≤ k.id
behind-from n [] behind h k i = from n behind h k i
behind-from n (a ∷ front) behind h k i = behind-from a.payload.after front behind h.2 k i

others-from : (id : ℕ) (names : List Name) (k : Known) → IsIn k (known_from id names) → (j : ℕ) × (k.id ≡ id + j) × (slice_get names j ≡ Some k.name)
others-from id [] k i = absurd i
others-from id (x ∷ names) k (inl e) = (0, (let z = ap (λ (q : Known). q.id) e in omega (arith, z)), ap Some (sym (ap (λ (q : Known). q.name) e)))
others-from id (x ∷ names) k (inr i) = let r = others-from (id + 1) names k i in (suc r.0, (let z = r.1 in omega (arith, z)), r.2)

others-in : (id : ℕ) (names : List Name) (j : ℕ) (x : Name) → slice_get names j ≡ Some x → IsIn (record { id = id + j; name = x }) (known_from id names)
others-in id [] j x e = absurd (true≢false (sym (ap is_some e)))
others-in id (y ∷ names) zero x e = inl (ap₂ {C = Known} (λ n m. record { id = n; name = m }) (let z : id + 0 ≡ id = omega arith in z) (let z : y ≡ x = cc e in sym z))
others-in id (y ∷ names) (suc j) x e = inr (subst (λ n. IsIn {X = Known} (record { id = n; name = x }) (known_from (id + 1) names)) (let z : id + 1 + j ≡ id + suc j = omega arith in z) (others-in (id + 1) names j x e))

get-less : {X : Type 0} (xs : List X) (j : ℕ) (x : X) → slice_get xs j ≡ Some x → j < length xs
get-less [] j x e = absurd (true≢false (sym (ap is_some e)))
get-less (y ∷ xs) zero x e = omega arith
get-less (y ∷ xs) (suc j) x e = let r = get-less xs j x e in omega (arith, r)

abbrev last-payload : Option Placed → Option Payload
last-payload None = None
last-payload (Some a) = Some a.payload

index-of : (others : PlainOthers) (o : Option Placed) (added : List Placed) → AreOthersIn others (last_or o added) → IsIndexOf others.index (names_from others.names (other_names_in (last_or (last-payload o) (payloads_of added))))
index-of others None [] are = are.index
index-of others (Some a) [] are = subst (λ n. IsIndexOf others.index (names_from n a.payload.other_names)) (sym are.names) are.index
index-of others o (a ∷ added) are = index-of others (Some a) added are

name-among : (bytes : List ℕ) (q c k : ℕ) → k < c → take 20 (drop (20 * k) (take (20 * c) (drop q bytes))) ≡ take 20 (drop (q + 20 * k) bytes)
name-among bytes q c k lt =
    let r = 20 * c - 20 * k in
    let sum : 20 * k + r ≡ 20 * c = omega (arith, lt) in
    ap (λ n. take 20 (drop (20 * k) (take n (drop q bytes)))) (sym sum) ∙ ap (take 20) (drop-take (20 * k) r (drop q bytes)) ∙ take-take 20 r (drop (20 * k) (drop q bytes)) (omega (arith, lt))
    ∙ ap (take 20) (drop-drop (20 * k) q bytes)

module _ (bytes : List ℕ) (tables : PlainTables) (others : PlainOthers) (below : ℕ) (added : List Placed) (b : MayBase bytes tables others below added) where
  abbrev names : List Name
  names = other_names_in (newest (payloads_of added))

  facts : OthersFacts bytes others below (newest (payloads_of added))
  facts = base-others bytes tables others below added b

  split : known_of (added ++ b.behind) ≡ known_of added ++ known_of b.behind
  split = flat_map-append (λ (a : Placed). a.payload.known) added b.behind

  front : (k : Known) → IsIn k (known_of added) → k.id < below
  front k i = let r = front-under 0 added b.behind b.tables_of.names.follow k i in let e = b.count in omega (arith, r, e)

  pub no-name : (id : ℕ) (name : Name) → below ≤ id → (id < 2 ^ 56) ⊎ (2 ^ 56 + others.count ≤ id) → IsIn {X = Known} (record { id = id; name = name }) (stored_in added) → ⊥
  no-name id name ge which i =
      let k : Known = record { id = id; name = name } in
      ⊎_elim (λ (j : IsIn k (known_of added)). let z = front k j in let o : ⊥ = omega (arith, z, ge) in o)
      (λ (j : IsIn k (known_from (2 ^ 56) names)). let r = others-from (2 ^ 56) names k j in let e = r.1 in let lt = get-less names r.0 name r.2 in let c = facts.count in
      ⊎_elim (λ (l : id < 2 ^ 56). let o : ⊥ = omega (arith, e, l) in o) (λ (l : 2 ^ 56 + others.count ≤ id). let o : ⊥ = omega (arith, e, l, lt, c) in o) which)
      (in-append k (known_of added) (known_from (2 ^ 56) names) i)

  pub name-front : (id : ℕ) → id < below → (r : Option NameRef) → NamesAs (known_of (added ++ b.behind)) id r → NamesAs (stored_in added) id r
  name-front id lt None h = λ name i.
      let k : Known = record { id = id; name = name } in
      ⊎_elim (λ (j : IsIn k (known_of added)). h name (subst (IsIn k) (sym split) (in-left k (known_of added) (known_of b.behind) j)))
      (λ (j : IsIn k (known_from (2 ^ 56) names)). let e = (others-from (2 ^ 56) names k j).1 in let s = facts.small in let l : 16777216 ≤ 2 ^ 56 = lit≤ tt in let o : ⊥ = omega (arith, e, s, lt, l) in o)
      (in-append k (known_of added) (known_from (2 ^ 56) names) i)
  name-front id lt (Some n) h =
      let k : Known = record { id = id; name = n.bytes.now } in
      ⊎_elim (λ (j : IsIn k (known_of added)). in-left k (known_of added) (known_from (2 ^ 56) names) j)
      (λ (j : IsIn k (known_of b.behind)). let z = behind-from 0 added b.behind b.tables_of.names.follow k j in let c = b.count in absurd (let o : ⊥ = omega (arith, z, c, lt) in o))
      (in-append k (known_of added) (known_of b.behind) (subst (IsIn k) split h))

  pub name-other : (id j : ℕ) (name : Name) → id ≡ 2 ^ 56 + j → j < others.count → name ≡ take 20 (drop (20 * j) (take (20 * others.count) (drop others.names bytes))) → IsIn {X = Known} (record { id = id; name = name }) (stored_in added)
  name-other id j name e lt is =
      let x = get-below names j (let c = facts.count in omega (arith, c, lt)) in
      let same : x.0 ≡ name = sym (is ∙ ap (λ l. take 20 (drop (20 * j) l)) facts.names ∙ name-in-bytes names j x.0 facts.whole x.1) in
      in-right (record { id = id; name = name }) (known_of added) (known_from (2 ^ 56) names)
      (subst (λ n. IsIn {X = Known} n (known_from (2 ^ 56) names)) (ap₂ {C = Known} (λ n m. record { id = n; name = m }) (sym e) same) (others-in (2 ^ 56) names j x.0 x.1))

  pub names-there : others.names + 20 * others.count ≤ length bytes
  names-there = facts.room

  named : List NamedPlace
  named = names_from others.names names

  pub others-index : IsIndexOf others.index (names_from others.names (other_names_in (newest (payloads_of added))))
  others-index = index-of others None added b.others_of

  pub others-named : NamesStand bytes (names_from others.names (other_names_in (newest (payloads_of added))))
  others-named = all-each (NameStandsAt bytes) (names_from others.names names) (λ n i.
      let r = names-from-in others.names names n i in
      let lt = get-less names r.0 n.name r.2 in
      let c = facts.count in
      record {
        whole = (each IsName names facts.whole n.name (get-in names r.0 n.name r.2)).0;
        stands = ap (λ m. take 20 (drop m bytes)) r.1 ∙ sym (name-among bytes others.names others.count r.0 (omega (arith, lt, c)))
            ∙ ap (λ l. take 20 (drop (20 * r.0) l)) facts.names ∙ name-in-bytes names r.0 n.name facts.whole r.2;
      })

  pub id-front : (name : Name) (r : Option ℕ) → is_some r ≡ true → IsIdOf (known_of (added ++ b.behind)) name below r → IsIdOf (stored_in added) name (2 ^ 57) r
  id-front name None e h = absurd (true≢false (sym e))
  id-front name (Some id) e h =
      let k : Known = record { id = id; name = name } in (
        (let lt = h.0 in let s = facts.small in let l : 16777216 ≤ 2 ^ 57 = lit≤ tt in omega (arith, lt, s, l)),
        ⊎_elim (λ (j : IsIn k (known_of added)). in-left k (known_of added) (known_from (2 ^ 56) names) j)
            (λ (j : IsIn k (known_of b.behind)). let z = behind-from 0 added b.behind b.tables_of.names.follow k j in let c = b.count in let lt = h.0 in absurd (let o : ⊥ = omega (arith, z, c, lt) in o))
            (in-append k (known_of added) (known_of b.behind) (subst (IsIn k) split h.1)),
      )

  pub id-none : (name : Name) (r q : Option ℕ) → is_some r ≡ false → q ≡ None → IsIdOf (known_of (added ++ b.behind)) name below r
      → (IsIn name (names_in (names_from others.names (other_names_in (newest (payloads_of added))))) → ⊥) → IsIdOf (stored_in added) name (2 ^ 57) q
  id-none name (Some id) q e none h out = absurd (true≢false e)
  id-none name None q e none h out = subst (IsIdOf (stored_in added) name (2 ^ 57)) (sym none) (λ id lt i.
      let k : Known = record { id = id; name = name } in
      ⊎_elim (λ (j : IsIn k (known_of added)). h id (front k j) (subst (IsIn k) (sym split) (in-left k (known_of added) (known_of b.behind) j)))
      (λ (j : IsIn k (known_from (2 ^ 56) names)). let x = others-from (2 ^ 56) names k j in out (subst (IsIn name) (sym (names-are others.names names)) (get-in names x.0 name x.2)))
      (in-append k (known_of added) (known_from (2 ^ 56) names) i))

  -- the number of a place of the index
  pub place-is : (name : Name) (place : ℕ) → IsIn {X = NamedPlace} (record { place = place; name = name }) (names_from others.names (other_names_in (newest (payloads_of added))))
      → (k : ℕ) × (place ≡ others.names + 20 * k) × (k < 65536) × IsIn {X = Known} (record { id = 2 ^ 56 + k; name = name }) (stored_in added)
  place-is name place i =
      let r = names-from-in others.names names (record { place = place; name = name }) i in (
        r.0,
        r.1,
        (let lt = get-less names r.0 name r.2 in let f = facts.few in omega (arith, lt, f)),
        in-right (record { id = 2 ^ 56 + r.0; name = name }) (known_of added) (known_from (2 ^ 56) names) (others-in (2 ^ 56) names r.0 name r.2),
      )
