-- Parents by their ids in a newer base, whatever world it is.
use Rattle.std.proofs.Common.{◌≡◌, ◌<◌, ◌≤◌, ◌+◌, ◌-◌, ◌^◌, ℕ, zero, suc, ◌⊎◌, inl, inr, List, [], ◌∷◌, ◌++◌, length, map, take, Option, Some, None, slice_get, get_or, is_some, refl, sym, ap, ap₂, subst, ◌∙◌, ⊎_elim, arith, true≢false, lit≤}
use Rattle.std.specs.Prelude.{MatchOption, IfOk, Ok, Err}
use Rattle.std.specs.declared.result.Result.{Result}
use Rattle.std.proofs.lemmas.List.{take_more}
use Rattle.std.specs.List.{AllZip}
use Rattle.id_groups.specs.Lists.{IsIn}
use Rattle.id_groups.specs.Name.{Name}
use Rattle.id_groups.specs.Id.{other_id, place_of, is_master_id}
use Rattle.commit_graph.proofs.Histories.{in-append}
use Rattle.commit_graph.proofs.Down.{in-right}
use Rattle.commit_graph.proofs.Places.{left-out, over-master}
use Rattle.batch_codec.specs.Payload.{Known}
use Rattle.batch_codec.specs.Grammar.{count_after}
use Rattle.name_map.specs.Added.{Placed, payloads_of, known_of, FollowInLog}
use Rattle.name_map.specs.Map.{NamesAs, IsIdOf}
use Rattle.name_map.proofs.Orders.{known-small, known-within}
use Rattle.change_rules.specs.Change.{known_from}
use Rattle.change_rules.specs.Tables.{newest, other_names_in}
use Rattle.payload_tables.specs.declared.base.BaseRef.{BaseRef}
use Rattle.payload_tables.specs.Bases.{IsBaseOf, stored_in}
use Rattle.payload_tables.proofs.Basing.{following-front, base-others}
use Rattle.payload_tables.proofs.Rows.{get-below}
use Rattle.change_parts.specs.Asked.{IsStored, others_count}
use Rattle.rebase_pending.specs.Rebasing.{IsOtherName, IsMoved, IsLost, IsAt, IsNowhere}
use Rattle.rebase_pending.proofs.Rebased.{known-from-at}

from-in : (id : ℕ) (names : List Name) (j : ℕ) (x : Name) → slice_get names j ≡ Some x → IsIn {X = Known} (record { id = id + j; name = x }) (known_from id names)
from-in id [] j x e = absurd (true≢false (sym (ap is_some e)))
from-in id (y ∷ names) zero x e = inl (ap₂ {C = Known} (λ n m. record { id = n; name = m }) (let z : id + 0 ≡ id = omega arith in z) (sym (ap some_or e)))
  where
    some_or : Option Name → Name
    some_or None = y
    some_or (Some a) = a
from-in id (y ∷ names) (suc j) x e = inr (subst (λ n. IsIn {X = Known} (record { id = n; name = x }) (known_from (id + 1) names)) (let z : id + 1 + j ≡ id + suc j = omega arith in z) (from-in (id + 1) names j x e))

pub place-other : (p : ℕ) → 2 ^ 56 ≤ p → place_of p ≡ p - 2 ^ 56
place-other p le = left-out (is_master_id p) p (p - 2 ^ 56) (ap is_master_id (let z : p ≡ other_id (p - 2 ^ 56) = omega (arith, le) in z) ∙ over-master (p - 2 ^ 56))

-- an other id of the base has its name
pub unnamed : (base : BaseRef) (before : List Placed) → (parent : ℕ) → 2 ^ 56 ≤ parent → parent < other_id (others_count before) → NamesAs (stored_in before) parent None → ⊥
unnamed base before parent lo hi h =
    let x = get-below (other_names_in (newest (payloads_of before))) (parent - 2 ^ 56) (omega (arith, lo, hi)) in
    h x.0 (in-right (record { id = parent; name = x.0 }) (known_of before) (known_from (2 ^ 56) (other_names_in (newest (payloads_of before))))
    (subst (λ n. IsIn {X = Known} (record { id = n; name = x.0 }) (known_from (2 ^ 56) (other_names_in (newest (payloads_of before))))) (let z : 2 ^ 56 + (parent - 2 ^ 56) ≡ parent = omega (arith, lo) in z)
    (from-in (2 ^ 56) (other_names_in (newest (payloads_of before))) (parent - 2 ^ 56) x.0 x.1)))

other-named : (base : BaseRef) (before : List Placed) → IsBaseOf base before → (k : Known) → 2 ^ 56 ≤ k.id → IsIn k (stored_in before) → IsOtherName before (k.id - 2 ^ 56) k.name
other-named base before b k lo i = ⊎_elim
    (λ j. let s = known-small 0 before (following-front 0 before b.behind b.tables_of.names.follow) k j in let l : 16777216 ≤ 2 ^ 56 = lit≤ tt in absurd (let z : ⊥ = omega (arith, s, lo, l) in z))
    (λ j. let r = known-from-at (2 ^ 56) (other_names_in (newest (payloads_of before))) k j in subst (λ n. IsOtherName before n k.name) (let e = r.1 in let z : r.0 ≡ k.id - 2 ^ 56 = omega (arith, e) in z) r.2)
    (in-append k (known_of before) (known_from (2 ^ 56) (other_names_in (newest (payloads_of before)))) i)

under : (xs : List Name) (i : ℕ) (x : Name) → slice_get xs i ≡ Some x → i < length xs
under [] i x e = absurd (true≢false (sym (ap is_some e)))
under (y ∷ xs) zero x e = omega arith
under (y ∷ xs) (suc i) x e = let r = under xs i x e in omega (arith, r)

-- known ids of the first payloads lie below their count
known-below : (front behind : List Placed) (n : ℕ) → FollowInLog n (front ++ behind) → (k : Known) → IsIn k (known_of front) → k.id < count_after n (payloads_of front)
known-below [] behind n h k i = absurd i
known-below (a ∷ front) behind n h k i = ⊎_elim
    (λ j. let w = (known-within a.payload h.0 k j).1 in let g = after-grows front behind a.payload.after h.2 in omega (arith, w, g))
    (λ j. known-below front behind a.payload.after h.2 k j)
    (in-append k a.payload.known (known_of front) i)
  where
    after-grows : (front behind : List Placed) (n : ℕ) → FollowInLog n (front ++ behind) → n ≤ count_after n (payloads_of front)
    after-grows [] behind n h = omega arith
    after-grows (b ∷ front) behind n h = let r = after-grows front behind b.payload.after h.2 in let g = h.0.counts.grows in let e = h.1 in omega (arith, r, g, e)

-- a stored id is one of the base
pub stored-bound : (base : BaseRef) (added : List Placed) → IsBaseOf base added → (k : Known) → IsIn k (stored_in added) → (k.id < base.below) ⊎ ((2 ^ 56 ≤ k.id) × (k.id < other_id (others_count added)))
stored-bound base added b k i = ⊎_elim
    (λ j. inl (let r = known-below added b.behind 0 b.tables_of.names.follow k j in let c = b.count in omega (arith, r, c)))
    (λ j. let r = known-from-at (2 ^ 56) (other_names_in (newest (payloads_of added))) k j in let e = r.1 in let lt = under (other_names_in (newest (payloads_of added))) r.0 k.name r.2 in inr (omega (arith, e), omega (arith, e, lt)))
    (in-append k (known_of added) (known_from (2 ^ 56) (other_names_in (newest (payloads_of added)))) i)

stored-of : (ks : List Known) (x : Name) → IsIn x (map (λ (k : Known). k.name) ks) → (k : Known) × IsIn k ks × (k.name ≡ x)
stored-of [] x i = absurd i
stored-of (k ∷ ks) x (inl e) = (k, inl refl, sym e)
stored-of (k ∷ ks) x (inr i) = let r = stored-of ks x i in (r.0, inr r.1, r.2)

some-is : (x y : Name) → ◌≡◌ {A = Option Name} (Some x) (Some y) → x ≡ y
some-is x y e = ap some_or e
  where
    some_or : Option Name → Name
    some_or None = x
    some_or (Some a) = a

-- a name that the base finds nowhere isn't stored in it
pub not-stored : (newer : BaseRef) (added : List Placed) → IsBaseOf newer added → (name : Name) → IsIdOf (stored_in added) name (2 ^ 57) None → IsStored added name → ⊥
not-stored newer added n name h s =
    let k = stored-of (stored_in added) name s in
    h k.0.id (small k.0 k.1) (subst (λ z. IsIn {X = Known} (record { id = k.0.id; name = z }) (stored_in added)) k.2 k.1)
  where
    small : (k : Known) → IsIn k (stored_in added) → k.id < 2 ^ 57
    small k j =
        let facts = base-others newer.bytes.now newer.tables.now newer.others.now newer.below added n in
        ⊎_elim (λ a. let s = facts.small in let l : 16777216 ≤ 2 ^ 57 = lit≤ tt in omega (arith, a, s, l)) (λ d. let f = facts.few in let up = d.1 in let l : 2 ^ 56 + 65536 ≤ 2 ^ 57 = lit≤ tt in omega (arith, f, up, l)) (stored-bound newer added n k j)

-- an other id of the base, by its name in the newer base
module _ (newer base : BaseRef) (added before : List Placed) (n : IsBaseOf newer added) (b : IsBaseOf base before) (parent : ℕ) (name : Name)
    (lo : 2 ^ 56 ≤ parent) (i : IsIn {X = Known} (record { id = parent; name = name }) (stored_in before)) where
  pub named-other : IsOtherName before (parent - 2 ^ 56) name
  named-other = other-named base before b (record { id = parent; name = name }) lo i

  small-id : (k : Known) → IsIn k (stored_in added) → k.id < 2 ^ 57
  small-id k j =
      let facts = base-others newer.bytes.now newer.tables.now newer.others.now newer.below added n in
      ⊎_elim (λ a. let s = facts.small in let l : 16777216 ≤ 2 ^ 57 = lit≤ tt in omega (arith, a, s, l)) (λ d. let f = facts.few in let up = d.1 in let l : 2 ^ 56 + 65536 ≤ 2 ^ 57 = lit≤ tt in omega (arith, f, up, l)) (stored-bound newer added n k j)

  pub other-lost : (o : Option ℕ) → o ≡ None → IsIdOf (stored_in added) name (2 ^ 57) o → IsLost before added parent name
  other-lost None e h = record {
    place = parent - 2 ^ 56;
    parent_is = (let z : parent ≡ other_id (parent - 2 ^ 56) = omega (arith, lo) in z);
    named = named-other;
    lost = λ s. let k = stored-of (stored_in added) name s in h k.0.id (small-id k.0 k.1) (subst (λ z. IsIn {X = Known} (record { id = k.0.id; name = z }) (stored_in added)) k.2 k.1);
  }
  other-lost (Some id) e h = absurd (true≢false (ap is_some e))

  other-stored : (o : Option ℕ) (id : ℕ) → o ≡ Some id → IsIdOf (stored_in added) name (2 ^ 57) o → (k : ℕ) (other : Name) → parent ≡ other_id k → IsOtherName before k other → IsIn {X = Known} (record { id = id; name = other }) (stored_in added)
  other-stored None id f h k other e g = absurd (true≢false (sym (ap is_some f)))
  other-stored (Some x) id f h k other e g =
      subst (λ z. IsIn {X = Known} (record { id = id; name = z }) (stored_in added))
      (some-is name other (sym named-other ∙ (ap (slice_get (other_names_in (newest (payloads_of before)))) (let z : parent - 2 ^ 56 ≡ k = omega (arith, e, lo) in z)) ∙ g))
      (subst (λ m. IsIn {X = Known} (record { id = m; name = name }) (stored_in added)) (id-is x id f) h.1)
    where
      id-is : (x y : ℕ) → ◌≡◌ {A = Option ℕ} (Some x) (Some y) → x ≡ y
      id-is x y e = ap some_or e
        where
          some_or : Option ℕ → ℕ
          some_or None = x
          some_or (Some a) = a

  pub other-moved : (first : ℕ) (ids : List ℕ) → parent < other_id first → (o : Option ℕ) (id : ℕ) → o ≡ Some id → IsIdOf (stored_in added) name (2 ^ 57) o → IsMoved before added first ids parent id
  other-moved first ids hi o id f h = record {
    master = λ lt. absurd (let z : ⊥ = omega (arith, lt, lo) in z);
    stored = other-stored o id f h;
    pending = λ k other e g. absurd (let z : ⊥ = omega (arith, e, hi) in z);
  }

  pub other-at : (first : ℕ) (found : List (Option ℕ)) → parent < other_id first → (o : Option ℕ) → IsIdOf (stored_in added) name (2 ^ 57) o → MatchOption o (IsNowhere before added first found parent) (IsAt before added first found parent)
  other-at first found hi None h = inl (name, other-lost None refl h)
  other-at first found hi (Some id) h = record {
    master = λ lt. absurd (let z : ⊥ = omega (arith, lt, lo) in z);
    stored = other-stored (Some id) id refl h;
    pending = λ k other e g. absurd (let z : ⊥ = omega (arith, e, hi) in z);
  }

zip-join : (R : ℕ → ℕ → Type 0) (xs ys : List ℕ) (x y : ℕ) → AllZip R xs ys → R x y → AllZip R (xs ++ x ∷ []) (ys ++ y ∷ [])
zip-join R [] [] x y h r = (r, tt)
zip-join R [] (b ∷ ys) x y h r = absurd h
zip-join R (a ∷ xs) [] x y h r = absurd h
zip-join R (a ∷ xs) (b ∷ ys) x y h r = (h.0, zip-join R xs ys x y h.1 r)

-- one more of the first, and its partner
pub zip-more : (R : ℕ → ℕ → Type 0) (xs : List ℕ) (i x : ℕ) (ys : List ℕ) (y : ℕ) (more : List ℕ) → i < length xs → x ≡ get_or xs i x → AllZip R (take i xs) ys → R x y → more ≡ ys ++ y ∷ [] → AllZip R (take (i + 1) xs) more
zip-more R xs i x ys y more lt e h r m =
    subst (λ l. AllZip R (take (i + 1) xs) l) (sym m) (subst (λ l. AllZip R l (ys ++ y ∷ [])) (sym (take_more xs i x lt ∙ ap (λ z. take i xs ++ z ∷ []) (sym e))) (zip-join R (take i xs) ys x y h r))

-- what an answer means, by more
pub ok-more : {T E : Type 0} (r : Result T E) (P Q : T → Type 0) → ((x : T) → P x → Q x) → IfOk r P → IfOk r Q
ok-more (Ok x) P Q f h = f x h
ok-more (Err e) P Q f h = h
