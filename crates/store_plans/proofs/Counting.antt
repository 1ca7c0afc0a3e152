-- Whether each master id of a base has a stored name, by the number of these.
use Rattle.std.proofs.Common.{◌≡◌, ℕ, zero, suc, ◌+◌, ◌-◌, ◌<◌, ◌≤◌, Bool, true, false, not, inl, inr, List, [], ◌∷◌, ◌++◌, length, map, nat_eq, refl, sym, ap, subst, ◌∙◌, arith, ⊎_elim, if◌then◌else◌, true≢false, zero-le, lt-ltb, le-ltb, ltb-true}
use Rattle.std.specs.Prelude.{⊤, filter, nat_lt, nat_le, ◌&&◌}
use Rattle.std.specs.List.{range_with_len}
use Rattle.std.proofs.lemmas.Bool.Decides.{nat_tests}
use Rattle.std.proofs.lemmas.Grind.{flat_map-append}
use Rattle.id_groups.specs.Lists.{IsIn, is_in}
use Rattle.id_groups.specs.Name.{Name}
use Rattle.id_groups.proofs.Listing.{and_true, any-in, in-any, not_true, there, found}
use Rattle.commit_graph.specs.World.{World}
use Rattle.commit_graph.proofs.Histories.{in-append}
use Rattle.segment_codec.proofs.Tables.{le_or_lt}
use Rattle.batch_codec.specs.Payload.{Known}
use Rattle.batch_codec.specs.Reading.{ids_ascend}
use Rattle.batch_codec.specs.Grammar.{count_after}
use Rattle.name_map.specs.Added.{Placed, payloads_of, known_of, FollowInLog}
use Rattle.name_map.specs.Map.{count_known}
use Rattle.name_map.proofs.More.{ids-ascend}
use Rattle.name_map.proofs.Orders.{known-within}
use Rattle.change_rules.specs.Lazy.{is_lazy, has_lazy}
use Rattle.change_rules.specs.Tables.{StandFor, known_in}
use Rattle.payload_tables.proofs.Lists.{same-self, same-exact}
use Rattle.change_parts.proofs.Renumber.{in-map, map-in-back}
use Rattle.store_plans.proofs.StoredNames.{known-all, in-range}

-- ---- known ids ascend, so as many as there is room for are all

abbrev Ascend : ℕ → List Known → Type 0
Ascend least [] = ⊤
Ascend least (k ∷ more) = (least ≤ k.id) × Ascend (k.id + 1) more

lower : (a b : ℕ) (ks : List Known) → a ≤ b → Ascend b ks → Ascend a ks
lower a b [] h g = tt
lower a b (k ∷ ks) h g = let l = g.0 in (omega (arith, h, l), g.1)

joined : (least end : ℕ) (ks more : List Known) → ids_ascend least end (map (λ k. k.id) ks) ≡ true → least ≤ end → Ascend end more → Ascend least (ks ++ more)
joined least end [] more h le g = lower least end more le g
joined least end (k ∷ ks) more h le g =
    let a = and_true (nat_le least k.id && nat_lt k.id end) (ids_ascend (k.id + 1) end (map (λ z. z.id) ks)) h in
    let b = and_true (nat_le least k.id) (nat_lt k.id end) a.0 in
    let low : least ≤ k.id = let t = b.0 in grind (arith, nat_tests) in
    let high : k.id + 1 ≤ end = let t = b.1 in grind (arith, nat_tests) in
    (low, joined (k.id + 1) end ks more a.1 high g)

known-ascend : (count : ℕ) (added : List Placed) → FollowInLog count added → Ascend count (known_of added)
known-ascend count [] h = tt
known-ascend count (a ∷ more) h =
    let rest = known-ascend a.payload.after more h.2 in
    let first = h.1 in
    let order = h.0.counts.grows in
    lower count a.payload.before (a.payload.known ++ known_of more) (omega (arith, first))
    (joined a.payload.before a.payload.after a.payload.known (known_of more) (ids-ascend a.payload h.0) order rest)

counted : (least bound : ℕ) (ks : List Known) → Ascend least ks → count_known bound ks ≤ bound - least
counted least bound [] h = omega arith
counted least bound (k ∷ ks) h = by_test (nat_lt k.id bound) refl (counted (k.id + 1) bound ks h.1)
  where
    by_test : (b : Bool) → nat_lt k.id bound ≡ b → count_known bound ks ≤ bound - (k.id + 1) → length (if b then k ∷ filter (λ z. nat_lt z.id bound) ks else filter (λ z. nat_lt z.id bound) ks) ≤ bound - least
    by_test true t r = let lt : k.id < bound = grind (arith, nat_tests) in let l = h.0 in omega (arith, r, lt, l)
    by_test false t r = let l = h.0 in omega (arith, r, l)

all-of : (least bound : ℕ) (ks : List Known) → Ascend least ks → bound - least ≤ count_known bound ks → (id : ℕ) → least ≤ id → id < bound
    → (name : Name) × IsIn {X = Known} (record { id = id; name = name }) ks
all-of least bound [] h c id low high = absurd (omega (arith, c, low, high))
all-of least bound (k ∷ ks) h c id low high = by_test (nat_lt k.id bound) refl c (counted (k.id + 1) bound ks h.1) (all-of (k.id + 1) bound ks h.1)
  where
    by_test : (b : Bool) → nat_lt k.id bound ≡ b → bound - least ≤ length (if b then k ∷ filter (λ z. nat_lt z.id bound) ks else filter (λ z. nat_lt z.id bound) ks)
        → count_known bound ks ≤ bound - (k.id + 1)
        → (bound - (k.id + 1) ≤ count_known bound ks → (i : ℕ) → k.id + 1 ≤ i → i < bound → (name : Name) × IsIn {X = Known} (record { id = i; name = name }) ks)
        → (name : Name) × IsIn {X = Known} (record { id = id; name = name }) (k ∷ ks)
    by_test true t d r rec =
        let lt : k.id < bound = grind (arith, nat_tests) in
        let l = h.0 in
        let first : k.id ≡ least = omega (arith, d, r, lt, l) in
        ⊎_elim
        (λ (le : id ≤ k.id). let same : id ≡ k.id = omega (arith, le, first, low) in (k.name, inl (ap {B = Known} (λ n. record { id = n; name = k.name }) same)))
        (λ (gt : k.id < id). let u = rec (omega (arith, d, first)) id (omega (arith, gt)) high in (u.0, inr u.1))
        (le_or_lt id k.id)
    by_test false t d r rec = let over : bound ≤ k.id = grind (arith, nat_tests) in absurd (omega (arith, d, r, over, low, high))

-- ---- where each id is known, as many are

abbrev counted-if : Bool → Known → ℕ → List Known → ℕ
counted-if b k n ks = length (if b then k ∷ filter (λ z. nat_lt z.id n) ks else filter (λ z. nat_lt z.id n) ks)

rises : (m : ℕ) (ks : List Known) → count_known m ks ≤ count_known (m + 1) ks
rises m [] = omega arith
rises m (k ∷ ks) = by_tests (nat_lt k.id m) (nat_lt k.id (m + 1)) refl refl (rises m ks)
  where
    by_tests : (s t : Bool) → nat_lt k.id m ≡ s → nat_lt k.id (m + 1) ≡ t → count_known m ks ≤ count_known (m + 1) ks → counted-if s k m ks ≤ counted-if t k (m + 1) ks
    by_tests true true p q r = omega (arith, r)
    by_tests true false p q r = let lt : k.id < m = grind (arith, nat_tests) in let ge : m + 1 ≤ k.id = grind (arith, nat_tests) in absurd (omega (arith, lt, ge))
    by_tests false true p q r = omega (arith, r)
    by_tests false false p q r = r

one-more : (m : ℕ) (ks : List Known) → IsIn m (map (λ (k : Known). k.id) ks) → count_known m ks + 1 ≤ count_known (m + 1) ks
one-more m [] i = absurd i
one-more m (k ∷ ks) i = by_tests (nat_lt k.id m) (nat_lt k.id (m + 1)) refl refl i (rises m ks) (one-more m ks)
  where
    by_tests : (s t : Bool) → nat_lt k.id m ≡ s → nat_lt k.id (m + 1) ≡ t → IsIn m (map (λ (z : Known). z.id) (k ∷ ks)) → count_known m ks ≤ count_known (m + 1) ks
        → (IsIn m (map (λ (z : Known). z.id) ks) → count_known m ks + 1 ≤ count_known (m + 1) ks) → counted-if s k m ks + 1 ≤ counted-if t k (m + 1) ks
    by_tests true true p q (inl e) r rec = let lt : k.id < m = grind (arith, nat_tests) in absurd (omega (arith, lt, e))
    by_tests true true p q (inr j) r rec = let s = rec j in omega (arith, s)
    by_tests true false p q j r rec = let lt : k.id < m = grind (arith, nat_tests) in let ge : m + 1 ≤ k.id = grind (arith, nat_tests) in absurd (omega (arith, lt, ge))
    by_tests false true p q j r rec = omega (arith, r)
    by_tests false false p q (inl e) r rec = let ge : m + 1 ≤ k.id = grind (arith, nat_tests) in absurd (omega (arith, ge, e))
    by_tests false false p q (inr j) r rec = rec j

full : (m : ℕ) (ks : List Known) → ((id : ℕ) → id < m → IsIn id (map (λ (k : Known). k.id) ks)) → m ≤ count_known m ks
full zero ks h = zero-le
full (suc m) ks h =
    let r = full m ks (λ id lt. h id (omega (arith, lt))) in
    let s = one-more m ks (h m (omega arith)) in
    subst (λ n. suc m ≤ count_known n ks) (let z : m + 1 ≡ suc m = omega arith in z) (let z : suc m ≤ count_known (m + 1) ks = omega (arith, r, s) in z)

-- ---- payloads behind others have no names for the ids of these

from : (n : ℕ) (behind : List Placed) → FollowInLog n behind → (k : Known) → IsIn k (known_of behind) → n ≤ k.id
from n [] h k i = absurd i
from n (a ∷ behind) h k i = ⊎_elim
    (λ (j : IsIn k a.payload.known). let low = (known-within a.payload h.0 k j).0 in let e = h.1 in omega (arith, low, e))
    (λ (j : IsIn k (known_of behind)). let r = from a.payload.after behind h.2 k j in let g = h.0.counts.grows in let e = h.1 in omega (arith, r, g, e)) (in-append k a.payload.known (known_of behind) i)

behind-from : (n : ℕ) (front behind : List Placed) → FollowInLog n (front ++ behind) → (k : Known) → IsIn k (known_of behind) → count_after n (payloads_of front) ≤ k.id
behind-from n [] behind h k i = from n behind h k i
behind-from n (a ∷ front) behind h k i = behind-from a.payload.after front behind h.2 k i

module _ (front behind : List Placed) (follow : FollowInLog 0 (front ++ behind)) (w : World Name) (stand : StandFor (payloads_of front) w) where
  abbrev known : List Known
  known = known_of (front ++ behind)

  parts : known_of (front ++ behind) ≡ known_of front ++ known_of behind
  parts = flat_map-append (λ (a : Placed). a.payload.known) front behind

  in-known : (id : ℕ) → IsIn id (map (λ (k : Known). k.id) (known_in (payloads_of front))) → IsIn id (map (λ (k : Known). k.id) (known_of (front ++ behind)))
  in-known id i =
      let r = map-in-back (λ (k : Known). k.id) id (known_in (payloads_of front)) i in
      subst (λ n. IsIn n (map (λ (k : Known). k.id) (known_of (front ++ behind)))) (sym r.2)
      (in-map (λ (k : Known). k.id) r.0 (known_of (front ++ behind)) (subst (IsIn r.0) (sym parts) (left r.0 (known_of front) (subst (IsIn r.0) (sym (known-all front)) r.1))))
    where
      left : (k : Known) (xs : List Known) → IsIn k xs → IsIn k (xs ++ known_of behind)
      left k [] i = absurd i
      left k (x ∷ xs) (inl e) = inl e
      left k (x ∷ xs) (inr i) = inr (left k xs i)

  -- fewer are known where some id isn't
  pub some-lazy : has_lazy (payloads_of front) w ≡ true → (length w.master ≤ count_known (length w.master) (known_of (front ++ behind)) → ⊥)
  some-lazy lazy le =
      let r = any-in (is_lazy (payloads_of front) w) (range_with_len 0 (length w.master)) lazy in
      let at = and_true (nat_lt r.0 (length w.master)) (not (is_in nat_eq r.0 (map (λ (k : Known). k.id) (known_in (payloads_of front))))) r.2 in
      let lt = ltb-true r.0 (length w.master) at.0 in
      let named = all-of 0 (length w.master) (known_of (front ++ behind)) (known-ascend 0 (front ++ behind) follow) (omega (arith, le)) r.0 zero-le lt in
      let k : Known = record { id = r.0; name = named.0 } in
      ⊎_elim
      (λ (j : IsIn k (known_of front)).
      not_true (is_in nat_eq r.0 (map (λ (q : Known). q.id) (known_in (payloads_of front)))) at.1
      (there nat_eq same-exact same-self r.0 (map (λ (q : Known). q.id) (known_in (payloads_of front))) (in-map (λ (q : Known). q.id) k (known_in (payloads_of front)) (subst (IsIn k) (known-all front) j))))
      (λ (j : IsIn k (known_of behind)). let ge = behind-from 0 front behind follow k j in let c = stand.count in let z : ⊥ = omega (arith, ge, c, lt) in z)
      (in-append k (known_of front) (known_of behind) (subst (IsIn k) parts named.1))

  pub none-lazy : has_lazy (payloads_of front) w ≡ false → length w.master ≤ count_known (length w.master) (known_of (front ++ behind))
  none-lazy none = full (length w.master) (known_of (front ++ behind)) (λ id lt. in-known id (known id lt))
    where
      known : (id : ℕ) → id < length w.master → IsIn id (map (λ (k : Known). k.id) (known_in (payloads_of front)))
      known id lt = by_test (is_in nat_eq id (map (λ (k : Known). k.id) (known_in (payloads_of front)))) refl
        where
          by_test : (b : Bool) → is_in nat_eq id (map (λ (k : Known). k.id) (known_in (payloads_of front))) ≡ b → IsIn id (map (λ (k : Known). k.id) (known_in (payloads_of front)))
          by_test true e = found nat_eq same-exact same-self id (map (λ (k : Known). k.id) (known_in (payloads_of front))) e
          by_test false e =
              let lazy : is_lazy (payloads_of front) w id ≡ true = both-are (nat_lt id (length w.master)) (is_in nat_eq id (map (λ (k : Known). k.id) (known_in (payloads_of front)))) (lt-ltb id (length w.master) lt) e in
              absurd (true≢false (sym (in-any (is_lazy (payloads_of front) w) (range_with_len 0 (length w.master)) id (in-range 0 (length w.master) id zero-le (omega (arith, lt))) lazy) ∙ none))
            where
              both-are : (a b : Bool) → a ≡ true → b ≡ false → (a && not b) ≡ true
              both-are true false f g = refl
              both-are true true f g = absurd (true≢false g)
              both-are false b f g = absurd (true≢false (sym f))

  -- the count tells it
  pub lazy-counted : (below count : ℕ) → below ≡ length w.master → count ≡ count_known below (known_of (front ++ behind)) → nat_lt count below ≡ has_lazy (payloads_of front) w
  lazy-counted below count e c = by_test (has_lazy (payloads_of front) w) refl
    where
      is : count ≡ count_known (length w.master) (known_of (front ++ behind))
      is = c ∙ ap (λ n. count_known n (known_of (front ++ behind))) e

      by_test : (b : Bool) → has_lazy (payloads_of front) w ≡ b → nat_lt count below ≡ has_lazy (payloads_of front) w
      by_test true h = lt-ltb count below (⊎_elim (λ (le : below ≤ count). absurd (some-lazy h (omega (arith, le, e, is)))) (λ (lt : count < below). lt) (le_or_lt below count)) ∙ sym h
      by_test false h = le-ltb count below (let le = none-lazy h in omega (arith, le, e, is)) ∙ sym h
