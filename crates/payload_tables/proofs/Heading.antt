-- The heads of a clone, by what its records and known names say.
use Rattle.std.proofs.Common.{◌≡◌, ◌≢◌, ◌<◌, ◌≤◌, ℕ, zero, suc, ◌+◌, ◌-◌, min, Bool, true, false, cond, ◌||◌, List, [], ◌∷◌, ◌++◌, length, map, flat_map, filter, take, set, replicate, get_or, Option, Some, None, slice_get, refl, sym, ap, ap₂, subst, ◌∙◌, true≢false, arith, nat_eq, append_assoc, append-nil, is_some}
use Rattle.std.specs.List.{AllByRecursion}
use Rattle.std.proofs.lemmas.List.{map-append, take_more, take_all, get_or-set_other, get_or-replicate}
use Rattle.std.proofs.lemmas.List.Elements.{filter-append}
use Rattle.std.proofs.lemmas.Grind.{get_or-set_at, flat_map-append}
use Rattle.id_groups.specs.Lists.{is_in}
use Rattle.id_groups.specs.Name.{Name, IsName}
use Rattle.segment_codec.specs.Record.{Segment, IsSegment, segment_bytes}
use Rattle.segment_codec.specs.Table.{Follow}
use Rattle.batch_codec.specs.Payload.{Payload, Known, names_bytes}
use Rattle.batch_codec.specs.Grammar.{IsPayload, cut_below, cloned_head_names}
use Rattle.std.specs.Prelude.{nat_lt}
use Rattle.std.proofs.lemmas.Bool.{le-ltb}
use Rattle.batch_codec.specs.Reading.{names_read}
use Rattle.batch_codec.proofs.Entries.{names-size, names-again}
use Rattle.flat_segments.proofs.Batches.{left-first, none-left}
use Rattle.payload_tables.proofs.Lists.{same-self, same-exact}

-- a part of segments, and the rest of them, cut at an id
cut-append : (below : ℕ) (xs ys : List Segment) → cut_below below (xs ++ ys) ≡ cut_below below xs ++ cut_below below ys
cut-append below [] ys = refl
cut-append below (x ∷ xs) ys = by_test (nat_lt x.low below) (cut-append below xs ys)
  where
    by_test : (b : Bool) → cut_below below (xs ++ ys) ≡ cut_below below xs ++ cut_below below ys
        → cond b (record x { high = min x.high (below - 1) } ∷ cut_below below (xs ++ ys)) (cut_below below (xs ++ ys))
        ≡ cond b (record x { high = min x.high (below - 1) } ∷ cut_below below xs) (cut_below below xs) ++ cut_below below ys
    by_test true e = ap (λ l. record x { high = min x.high (below - 1) } ∷ l) e
    by_test false e = e

-- so far these are the highest ids and the parents of the records before the rest, of their parts below an id
pub record EndsSoFar (below : ℕ) (highs parents rest : List ℕ) (segments : List Segment) : Type 0 where
  pub done : List Segment
  pub left : List Segment
  pub parts : segments ≡ done ++ left
  pub rest_is : rest ≡ flat_map segment_bytes left
  pub each_left : AllByRecursion IsSegment left
  pub highs_are : highs ≡ map (λ s. s.high) (cut_below below done)
  pub parents_are : parents ≡ flat_map (λ s. s.parents) (cut_below below done)

pub ends-more : (below : ℕ) (highs parents rest : List ℕ) (segments : List Segment) → EndsSoFar below highs parents rest segments → (s : Segment) (after : List ℕ) → IsSegment s → rest ≡ segment_bytes s ++ after
    → (more_highs more_parents : List ℕ) → more_highs ≡ highs ++ map (λ q. q.high) (cut_below below (s ∷ [])) → more_parents ≡ parents ++ flat_map (λ q. q.parents) (cut_below below (s ∷ [])) → EndsSoFar below more_highs more_parents after segments
ends-more below highs parents rest segments f s after whole read more_highs more_parents eh ep =
    let l = left-first s rest after f.left whole read f.each_left f.rest_is in
    record {
      done = f.done ++ s ∷ [];
      left = l.more;
      parts = f.parts ∙ ap (λ z. f.done ++ z) l.is ∙ sym (append_assoc f.done (s ∷ []) l.more);
      rest_is = l.after_is;
      each_left = l.each;
      highs_are = eh ∙ ap (λ z. z ++ map (λ (q : Segment). q.high) (cut_below below (s ∷ []))) f.highs_are
          ∙ sym (ap (map (λ (q : Segment). q.high)) (cut-append below f.done (s ∷ [])) ∙ map-append (λ (q : Segment). q.high) (cut_below below f.done) (cut_below below (s ∷ [])));
      parents_are = ep ∙ ap (λ z. z ++ flat_map (λ (q : Segment). q.parents) (cut_below below (s ∷ []))) f.parents_are
          ∙ sym (ap (flat_map (λ (q : Segment). q.parents)) (cut-append below f.done (s ∷ [])) ∙ flat_map-append (λ (q : Segment). q.parents) (cut_below below f.done) (cut_below below (s ∷ [])));
    }

pub ends-done : (below : ℕ) (highs parents rest : List ℕ) (segments : List Segment) → EndsSoFar below highs parents rest segments → ((s : Segment) (after : List ℕ) → IsSegment s → rest ≡ segment_bytes s ++ after → ⊥)
    → (highs ≡ map (λ s. s.high) (cut_below below segments)) × (parents ≡ flat_map (λ s. s.parents) (cut_below below segments))
ends-done below highs parents rest segments f none =
    let all : segments ≡ f.done = f.parts ∙ ap (λ l. f.done ++ l) (none-left f.left rest f.each_left f.rest_is none) ∙ append-nil f.done in
    (f.highs_are ∙ ap (λ l. map (λ (s : Segment). s.high) (cut_below below l)) (sym all), f.parents_are ∙ ap (λ l. flat_map (λ (s : Segment). s.parents) (cut_below below l)) (sym all))

pub cut-gone : (below : ℕ) (s : Segment) → below ≤ s.low → cut_below below (s ∷ []) ≡ []
cut-gone below s le = ap (λ b. cond b (record s { high = min s.high (below - 1) } ∷ []) []) (le-ltb s.low below le)

-- what holds of the ends of segments holds of those of their parts
pub cut-highs : (below n : ℕ) (segments : List Segment) → AllByRecursion (λ id. id < n) (map (λ s. s.high) segments) → AllByRecursion (λ id. id < n) (map (λ s. s.high) (cut_below below segments))
cut-highs below n [] h = tt
cut-highs below n (s ∷ more) h = by_test (nat_lt s.low below) (cut-highs below n more h.1)
  where
    by_test : (b : Bool) → AllByRecursion (λ id. id < n) (map (λ q. q.high) (cut_below below more))
        → AllByRecursion (λ id. id < n) (map (λ q. q.high) (cond b (record s { high = min s.high (below - 1) } ∷ cut_below below more) (cut_below below more)))
    by_test true r = ((let a = h.0 in omega (arith, a)), r)
    by_test false r = r

pub cut-parents : (below n : ℕ) (segments : List Segment) → AllByRecursion (λ id. id < n) (flat_map (λ s. s.parents) segments) → AllByRecursion (λ id. id < n) (flat_map (λ s. s.parents) (cut_below below segments))
cut-parents below n [] h = tt
cut-parents below n (s ∷ more) h = by_test (nat_lt s.low below) (cut-parents below n more (right s.parents h))
  where
    right : (xs : List ℕ) → AllByRecursion (λ id. id < n) (xs ++ flat_map (λ q. q.parents) more) → AllByRecursion (λ id. id < n) (flat_map (λ q. q.parents) more)
    right [] k = k
    right (x ∷ xs) k = right xs k.1

    left : (xs : List ℕ) → AllByRecursion (λ id. id < n) (xs ++ flat_map (λ q. q.parents) more) → (ys : List ℕ) → AllByRecursion (λ id. id < n) ys → AllByRecursion (λ id. id < n) (xs ++ ys)
    left [] k ys r = r
    left (x ∷ xs) k ys r = (k.0, left xs k.1 ys r)

    by_test : (b : Bool) → AllByRecursion (λ id. id < n) (flat_map (λ q. q.parents) (cut_below below more))
        → AllByRecursion (λ id. id < n) (flat_map (λ q. q.parents) (cond b (record s { high = min s.high (below - 1) } ∷ cut_below below more) (cut_below below more)))
    by_test true r = left s.parents h (flat_map (λ q. q.parents) (cut_below below more)) r
    by_test false r = r

-- ---- marks

or-false : (b : Bool) → (b || false) ≡ b
or-false true = refl
or-false false = refl

or-true : (b : Bool) → (b || true) ≡ true
or-true true = refl
or-true false = refl

or-assoc : (a b c : Bool) → (a || (b || c)) ≡ ((a || b) || c)
or-assoc true b c = refl
or-assoc false b c = refl

in-last : (k : ℕ) (xs : List ℕ) (x : ℕ) → is_in nat_eq k (xs ++ x ∷ []) ≡ (is_in nat_eq k xs || nat_eq k x)
in-last k [] x = or-false (nat_eq k x)
in-last k (y ∷ xs) x = ap (λ b. nat_eq k y || b) (in-last k xs x) ∙ or-assoc (nat_eq k y) (is_in nat_eq k xs) (nat_eq k x)

differ : (k x : ℕ) → nat_eq k x ≡ false → k ≢ x
differ k x e f = true≢false (sym (same-self x) ∙ ap (λ z. nat_eq z x) (sym f) ∙ e)

pub mark-next : (old marks : List Bool) (numbers : List ℕ) (i k : ℕ) → i < length numbers → k < length marks
    → get_or marks k false ≡ (get_or old k false || is_in nat_eq k (take i numbers))
    → get_or (set marks (get_or numbers i 0) true) k false ≡ (get_or old k false || is_in nat_eq k (take (i + 1) numbers))
mark-next old marks numbers i k lt small h = by_test (nat_eq k (get_or numbers i 0)) refl
  where
    more : (get_or old k false || is_in nat_eq k (take (i + 1) numbers)) ≡ ((get_or old k false || is_in nat_eq k (take i numbers)) || nat_eq k (get_or numbers i 0))
    more = ap (λ l. get_or old k false || is_in nat_eq k l) (take_more numbers i 0 lt)
        ∙ ap (λ b. get_or old k false || b) (in-last k (take i numbers) (get_or numbers i 0))
        ∙ or-assoc (get_or old k false) (is_in nat_eq k (take i numbers)) (nat_eq k (get_or numbers i 0))

    by_test : (b : Bool) → nat_eq k (get_or numbers i 0) ≡ b → get_or (set marks (get_or numbers i 0) true) k false ≡ (get_or old k false || is_in nat_eq k (take (i + 1) numbers))
    by_test true e = get_or-set_at marks (get_or numbers i 0) k true false (same-exact k (get_or numbers i 0) e) (subst (λ z. z < length marks) (same-exact k (get_or numbers i 0) e) small)
        ∙ sym (more ∙ ap (λ b. (get_or old k false || is_in nat_eq k (take i numbers)) || b) e ∙ or-true (get_or old k false || is_in nat_eq k (take i numbers)))
    by_test false e = get_or-set_other marks (get_or numbers i 0) k true false (differ k (get_or numbers i 0) e) ∙ h
        ∙ sym (more ∙ ap (λ b. (get_or old k false || is_in nat_eq k (take i numbers)) || b) e ∙ or-false (get_or old k false || is_in nat_eq k (take i numbers)))

pub unmarked-first : (n k : ℕ) → k < n → (b : Bool) → (get_or (replicate n false) k false || b) ≡ b
unmarked-first n k lt b = ap (λ z. z || b) (get_or-replicate n k false false lt)

pub all-taken : {X : Type 0} (xs : List X) (i : ℕ) → length xs ≤ i → take i xs ≡ xs
all-taken xs i le = take_all i xs le

pub below-at : (n i : ℕ) (ids : List ℕ) → AllByRecursion (λ id. id < n) ids → i < length ids → get_or ids i 0 < n
below-at n i [] h lt = absurd (omega (arith, lt))
below-at n zero (x ∷ ids) h lt = h.0
below-at n (suc i) (x ∷ ids) h lt = below-at n i ids h.1 (omega (arith, lt))

-- ---- names that are chosen

pub take-next : {X : Type 0} (xs : List X) (i : ℕ) (x : X) → slice_get xs i ≡ Some x → take (i + 1) xs ≡ take i xs ++ x ∷ []
take-next [] i x e = absurd (true≢false (sym (ap is_some e)))
take-next {X} (y ∷ xs) zero x e = ap (λ z. z ∷ []) (some-same e)
  where
    some_or : Option X → X
    some_or None = y
    some_or (Some a) = a

    some-same : ◌≡◌ {A = Option X} (Some y) (Some x) → y ≡ x
    some-same f = ap some_or f
take-next (y ∷ xs) (suc i) x e = ap (λ n. take n (y ∷ xs)) (let z : suc i + 1 ≡ suc (i + 1) = omega arith in z) ∙ ap (λ l. y ∷ l) (take-next xs i x e)

pub chosen-next : (test : Known → Bool) (ks : List Known) (i : ℕ) (k : Known) → slice_get ks i ≡ Some k
    → names_bytes (map (λ (q : Known). q.name) (filter test (take (i + 1) ks))) ≡ names_bytes (map (λ (q : Known). q.name) (filter test (take i ks))) ++ cond (test k) k.name []
chosen-next test ks i k e =
    ap (λ l. names_bytes (map (λ (q : Known). q.name) (filter test l))) (take-next ks i k e)
    ∙ ap (λ l. names_bytes (map (λ (q : Known). q.name) l)) (filter-append test (take i ks) (k ∷ []))
    ∙ ap names_bytes (map-append (λ (q : Known). q.name) (filter test (take i ks)) (filter test (k ∷ [])))
    ∙ flat_map-append (λ (name : Name). name) (map (λ (q : Known). q.name) (filter test (take i ks))) (map (λ (q : Known). q.name) (filter test (k ∷ [])))
    ∙ ap (λ l. names_bytes (map (λ (q : Known). q.name) (filter test (take i ks))) ++ l) (by_test (test k))
  where
    by_test : (b : Bool) → names_bytes (map (λ (q : Known). q.name) (cond b (k ∷ []) [])) ≡ cond b k.name []
    by_test true = append-nil k.name
    by_test false = refl

pub filter-alike : (P : Known → Type 0) (f g : Known → Bool) (ks : List Known) → AllByRecursion P ks → ((k : Known) → P k → f k ≡ g k) → filter f ks ≡ filter g ks
filter-alike P f g [] h e = refl
filter-alike P f g (k ∷ ks) h e = ap₂ (λ b l. cond b (k ∷ l) l) (e k h.0) (filter-alike P f g ks h.1 e)

-- ---- a payload's ids

pub highs-below : (first end n : ℕ) (segments : List Segment) → Follow first end segments → end ≤ n → AllByRecursion (λ id. id < n) (map (λ s. s.high) segments)
highs-below first end n [] f le = tt
highs-below first end n (s ∷ more) f le = ((let r = ends-over (s.high + 1) end more f.2 in omega (arith, r, le)), highs-below (s.high + 1) end n more f.2 le)
  where
    ends-over : (first end : ℕ) (xs : List Segment) → Follow first end xs → first ≤ end
    ends-over first end [] h = omega (arith, h)
    ends-over first end (x ∷ xs) h = let r = ends-over (x.high + 1) end xs h.2 in let o = h.1 in omega (arith, r, o)

all-join : (P : ℕ → Type 0) (xs ys : List ℕ) → AllByRecursion P xs → AllByRecursion P ys → AllByRecursion P (xs ++ ys)
all-join P [] ys h k = k
all-join P (x ∷ xs) ys h k = (h.0, all-join P xs ys h.1 k)

all-wider : (n m : ℕ) (xs : List ℕ) → n ≤ m → AllByRecursion (λ q. q < n) xs → AllByRecursion (λ q. q < m) xs
all-wider n m [] le h = tt
all-wider n m (x ∷ xs) le h = ((let a = h.0 in omega (arith, a, le)), all-wider n m xs le h.1)

pub parents-below : (first end n : ℕ) (segments : List Segment) → Follow first end segments → end ≤ n → AllByRecursion (λ s. AllByRecursion (λ q. q < s.low) s.parents) segments
    → AllByRecursion (λ id. id < n) (flat_map (λ s. s.parents) segments)
parents-below first end n [] f le h = tt
parents-below first end n (s ∷ more) f le h =
    let over = ends-over (s.high + 1) end more f.2 in let o = f.1 in
    all-join (λ q. q < n) s.parents (flat_map (λ (q : Segment). q.parents) more) (all-wider s.low n s.parents (omega (arith, over, o, le)) h.0) (parents-below (s.high + 1) end n more f.2 le h.1)
  where
    ends-over : (first end : ℕ) (xs : List Segment) → Follow first end xs → first ≤ end
    ends-over first end [] h = omega (arith, h)
    ends-over first end (x ∷ xs) h = let r = ends-over (x.high + 1) end xs h.2 in let o = h.1 in omega (arith, r, o)

pub knowns-below : (a n : ℕ) (ks : List Known) → AllByRecursion (λ id. (a ≤ id) × (id < n)) (map (λ (k : Known). k.id) ks) → AllByRecursion (λ (k : Known). k.id < n) ks
knowns-below a n [] h = tt
knowns-below a n (k ∷ ks) h = (h.0.1, knowns-below a n ks h.1)

-- the names of known ones are names
names-chosen : (test : Known → Bool) (ks : List Known) → AllByRecursion IsName (map (λ (k : Known). k.name) ks) → AllByRecursion IsName (map (λ (k : Known). k.name) (filter test ks))
names-chosen test [] h = tt
names-chosen test (k ∷ ks) h = by_test (test k) (names-chosen test ks h.1)
  where
    by_test : (b : Bool) → AllByRecursion IsName (map (λ (q : Known). q.name) (filter test ks)) → AllByRecursion IsName (map (λ (q : Known). q.name) (cond b (k ∷ filter test ks) (filter test ks)))
    by_test true r = (h.0, r)
    by_test false r = r

-- names of 20 bytes are the same where their bytes are
pub same-names : (xs ys : List Name) → AllByRecursion IsName xs → AllByRecursion IsName ys → names_bytes xs ≡ names_bytes ys → xs ≡ ys
same-names xs ys hx hy e =
    let a = names-size xs hx in let b = names-size ys hy in let c = ap (length {A = ℕ}) e in
    let n : length xs ≡ length ys = omega (arith, a, b, c) in
    sym (names-again xs hx) ∙ ap₂ (λ k l. names_read k l) n e ∙ names-again ys hy

pub head-names-whole : (p : Payload) → IsPayload p → AllByRecursion IsName (cloned_head_names p)
head-names-whole p h = names-chosen _ p.known h.names

pub any-default : (xs : List ℕ) (i d e : ℕ) → i < length xs → get_or xs i d ≡ get_or xs i e
any-default [] i d e lt = absurd (omega (arith, lt))
any-default (x ∷ xs) zero d e lt = refl
any-default (x ∷ xs) (suc i) d e lt = any-default xs i d e (omega (arith, lt))
