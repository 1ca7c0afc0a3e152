-- Lists of ids that rise, of known names, and of what stands in both.
use Rattle.std.proofs.Common.{◌≡◌, ◌≤◌, ◌<◌, ◌+◌, ℕ, zero, suc, Bool, true, false, cond, List, [], ◌∷◌, ◌++◌, map, filter, flat_map, length, get_or, Option, Some, None, slice_get, is_some, refl, sym, ap, ◌∙◌, inl, inr, true≢false, arith}
use Rattle.std.specs.List.{AllByRecursion}
use Rattle.std.proofs.lemmas.List.{map-append}
use Rattle.id_groups.specs.Lists.{IsIn}
use Rattle.id_groups.specs.Name.{Name}
use Rattle.batch_codec.specs.Payload.{Payload, Known, known_ids, known_names}
use Rattle.batch_codec.specs.Reading.{ids_ascend}
use Rattle.batch_codec.specs.Grammar.{IsPayload}
use Rattle.batch_codec.proofs.Ascending.{ascend-parts, increasing-ascend}
use Rattle.change_rules.specs.Tables.{known_in}
use Rattle.change_rules.proofs.Cloned.{Rises, rises-lower}

-- ---- ids that rise

pub rises-join : (a b c : ℕ) (xs ys : List ℕ) → a ≤ b → b ≤ c → Rises a b xs → Rises b c ys → Rises a c (xs ++ ys)
rises-join a b c [] ys le room h g = rises-lower a b c ys le g
rises-join a b c (x ∷ xs) ys le room h g =
    let lt = h.1 in
    (h.0, omega (arith, lt, room), rises-join (x + 1) b c xs ys (omega (arith, lt)) room h.2 g)

ascend-rises : (least end : ℕ) (ids : List ℕ) → ids_ascend least end ids ≡ true → Rises least end ids
ascend-rises least end [] h = tt
ascend-rises least end (id ∷ ids) h = let p = ascend-parts least end id ids h in (p.0, p.1, ascend-rises (id + 1) end ids p.2)

first-within : (before after : ℕ) (ids : List ℕ) → AllByRecursion (λ id. (before ≤ id) × (id < after)) ids → 0 < length ids → before ≤ get_or ids 0 0
first-within before after [] h some = absurd (omega (arith, some))
first-within before after (id ∷ ids) h some = h.0.0

each-below : (before after : ℕ) (ids : List ℕ) → AllByRecursion (λ id. (before ≤ id) × (id < after)) ids → AllByRecursion (λ id. id < after) ids
each-below before after [] h = tt
each-below before after (id ∷ ids) h = (h.0.1, each-below before after ids h.1)

-- the known ids of a payload do
pub payload-rises : (p : Payload) → IsPayload p → Rises p.before p.after (known_ids p)
payload-rises p h = ascend-rises p.before p.after (known_ids p)
    (increasing-ascend p.before p.after (known_ids p) (first-within p.before p.after (known_ids p) h.known.within) (each-below p.before p.after (known_ids p) h.known.within) h.known.ascend)

-- ---- known names

pub id-in : (k : Known) (ks : List Known) → IsIn k ks → IsIn k.id (map (λ (c : Known). c.id) ks)
id-in k [] i = i
id-in k (c ∷ ks) (inl e) = inl (ap (λ (z : Known). z.id) e)
id-in k (c ∷ ks) (inr i) = inr (id-in k ks i)

-- those of all payloads, in one list
pub names-joined : (payloads : List Payload) → map (λ (k : Known). k.name) (known_in payloads) ≡ flat_map known_names payloads
names-joined [] = refl
names-joined (p ∷ payloads) = map-append (λ (k : Known). k.name) p.known (known_in payloads) ∙ ap (λ l. known_names p ++ l) (names-joined payloads)

abbrev some_or : Name → Option Name → Name
some_or d None = d
some_or d (Some x) = x

get-in : (xs : List Name) (i : ℕ) (x : Name) → slice_get xs i ≡ Some x → IsIn x xs
get-in [] i x e = absurd (true≢false (sym (ap is_some e)))
get-in (y ∷ xs) zero x e = inl (ap (some_or x) (sym e))
get-in (y ∷ xs) (suc i) x e = inr (get-in xs i x e)

-- names that are those of their ids stand in the list
pub named-in : (xs : List Name) (ks : List Known) → AllByRecursion (λ (k : Known). slice_get xs k.id ≡ Some k.name) ks → (x : Name) → IsIn x (map (λ (k : Known). k.name) ks) → IsIn x xs
named-in xs [] h x i = absurd i
named-in xs (k ∷ ks) h x (inl e) = get-in xs k.id x (h.0 ∙ ap Some (sym e))
named-in xs (k ∷ ks) h x (inr i) = named-in xs ks h.1 x i

-- ---- parts of lists

pub filter-none : {X : Type 0} (f : X → Bool) (xs : List X) → ((x : X) → IsIn x xs → f x ≡ false) → filter f xs ≡ []
filter-none f [] h = refl
filter-none f (x ∷ xs) h = ap (λ b. cond b (x ∷ filter f xs) (filter f xs)) (h x (inl refl)) ∙ filter-none f xs (λ y i. h y (inr i))
