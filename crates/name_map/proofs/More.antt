-- A payload more: its part, its names, and whether they are distinct.
use Rattle.std.proofs.Common.{◌≡◌, ◌<◌, ◌≤◌, ◌+◌, ◌-◌, ◌*◌, ◌^◌, ℕ, zero, suc, true, List, [], ◌∷◌, ◌++◌, map, length, get_or, slice_get, Some, refl, sym, ap, ◌∙◌, subst, ⊎_elim, arith}
use Rattle.std.specs.List.{AllByRecursion, flat_map}
use Rattle.std.proofs.lemmas.List.{length-append, length-map, append_assoc, append-nil, map-append, nil_from_length}
use Rattle.std.proofs.lemmas.List.Concat.{flat_map-append}
use Rattle.segment_codec.proofs.Numbers.{some_is}
use Rattle.id_groups.specs.Lists.{IsIn, AreDistinct}
use Rattle.id_groups.specs.Name.{Name}
use Rattle.batch_codec.specs.declared.whole.BatchRef.{BatchRef}
use Rattle.batch_codec.specs.Payload.{Known, Payload, known_ids, known_names, payload_bytes, known_start, known_bytes}
use Rattle.batch_codec.specs.Grammar.{IsPayload}
use Rattle.batch_codec.specs.Reading.{ids_ascend}
use Rattle.batch_codec.specs.Lent.{HasPlaces, payload_of}
use Rattle.batch_codec.proofs.Ascending.{ascend-parts, ascend-wider, increasing-ascend}
use Rattle.batch_codec.proofs.Meanings.{ascend-length}
use Rattle.batch_codec.proofs.Entries.{knowns-size}
use Rattle.name_index.specs.Index.{NamedPlace, IsIndexOf, names_in}
use Rattle.name_map.specs.Part.{PlainPart, IsPart, upward}
use Rattle.name_map.specs.Added.{Placed, payloads_of, known_of, named_from, names_from, named_of, start_of}
use Rattle.name_map.specs.Map.{PlainMap, IsMapOf, part_of, parts_of, names_with}
use Rattle.name_map.specs.Adding.{Apart, Meet, OthersFit}
use Rattle.name_map.proofs.Lists.{in-append, in-left, distinct-left, distinct-right, distinct-apart, distinct-join}
use Rattle.name_map.proofs.Orders.{follow-more, count-more}
use Rattle.name_map.proofs.Standing.{names-from, names-known, known-stand, payload-fits}
use Rattle.name_map.proofs.Places.{names-are}

-- ---- which ids are known

first-least : (before : ℕ) (ids : List ℕ) → AllByRecursion (λ id. before ≤ id) ids → 0 < length ids → before ≤ get_or ids 0 0
first-least before [] h lt = absurd (omega (arith, lt))
first-least before (id ∷ ids) h lt = h.0

each-left : (before after : ℕ) (ids : List ℕ) → AllByRecursion (λ id. (before ≤ id) × (id < after)) ids → AllByRecursion (λ id. before ≤ id) ids
each-left before after [] h = tt
each-left before after (id ∷ ids) h = (h.0.0, each-left before after ids h.1)

each-right : (before after : ℕ) (ids : List ℕ) → AllByRecursion (λ id. (before ≤ id) × (id < after)) ids → AllByRecursion (λ id. id < after) ids
each-right before after [] h = tt
each-right before after (id ∷ ids) h = (h.0.1, each-right before after ids h.1)

pub ids-ascend : (p : Payload) → IsPayload p → ids_ascend p.before p.after (known_ids p) ≡ true
ids-ascend p h =
    increasing-ascend p.before p.after (known_ids p) (first-least p.before (known_ids p) (each-left p.before p.after (known_ids p) h.known.within))
    (each-right p.before p.after (known_ids p) h.known.within) h.known.ascend

pub ids-few : (p : Payload) → IsPayload p → length p.known ≤ p.after - p.before
ids-few p h = omega (arith, ascend-length p.before p.after (known_ids p) (ids-ascend p h), length-map p.known (λ (k : Known). k.id))

-- ids that are as many as there is room for leave no gap
pub all-upward : (least end : ℕ) (ids : List ℕ) → ids_ascend least end ids ≡ true → length ids ≡ end - least → upward least (length ids) ≡ ids
all-upward least end [] h e = refl
all-upward least end (id ∷ ids) h e =
    let p = ascend-parts least end id ids h in
    let low = p.0 in let high = p.1 in
    let most = ascend-length (id + 1) end ids p.2 in
    let same : least ≡ id = omega (arith, low, high, most, e) in
    let rest = all-upward (id + 1) end ids p.2 (omega (arith, same, e)) in
    ap (λ (n : ℕ). least ∷ upward (n + 1) (length ids)) same ∙ ap (λ (z : List ℕ). least ∷ z) rest ∙ ap (λ (n : ℕ). n ∷ ids) same

pub get-id : (ks : List Known) (i : ℕ) (k : Known) → slice_get ks i ≡ Some k → get_or (map (λ x. x.id) ks) i 0 ≡ k.id
get-id [] i k e = absurd (cc e)
get-id (x ∷ ks) zero k e = ap (λ (z : Known). z.id) (some_is x k e)
get-id (x ∷ ks) (suc i) k e = get-id ks i k e

pub is-part : (p : Payload) (first rank start : ℕ) (ids : List ℕ) → IsPayload p → first ≡ p.before → ids ≡ known_ids p → start + 28 * length p.known < 2 ^ 63 → rank + length p.known < 2 ^ 63
    → IsPart (record { first = first; rank = rank; start = start; ids = ids })
is-part p first rank start ids h e is places counts =
    let size = ap (length {A = ℕ}) is ∙ length-map p.known (λ (k : Known). k.id) in
    let most = h.counts.master in
    let up = ascend-wider p.before p.after first (2 ^ 57) (known_ids p) (omega (arith, e)) (omega (arith, most)) (ids-ascend p h) in
    record {
      ascend = subst (λ (z : List ℕ). ids_ascend first (2 ^ 57) z ≡ true) (sym is) up;
      places = omega (arith, size, places);
      counts = omega (arith, size, counts);
    }

-- ---- where the known ids stand

pub known-room : (p : Payload) → IsPayload p → known_start p + 28 * length p.known ≤ length (payload_bytes p)
known-room p h =
    let k = known-stand p h in
    let whole = ap (length {A = ℕ}) k.whole in
    let size = k.size in
    omega (arith, whole, size, knowns-size p.known (payload-fits p h), length-append k.front (flat_map known_bytes p.known ++ k.behind), length-append (flat_map known_bytes p.known) k.behind)

-- ---- a payload more

pub parts-more : (rank : ℕ) (added : List Placed) (a : Placed) → parts_of rank (added ++ a ∷ []) ≡ parts_of rank added ++ part_of (rank + length (known_of added)) a ∷ []
parts-more rank [] a = ap (λ (n : ℕ). part_of n a ∷ []) (omega arith)
parts-more rank (b ∷ added) a =
    let n : rank + length b.payload.known + length (known_of added) ≡ rank + length (known_of (b ∷ added)) = omega (arith, length-append b.payload.known (known_of added)) in
    ap (λ (z : List PlainPart). part_of rank b ∷ z) (parts-more (rank + length b.payload.known) added a)
    ∙ ap (λ (m : ℕ). part_of rank b ∷ (parts_of (rank + length b.payload.known) added ++ part_of m a ∷ [])) n

pub known-more : (added : List Placed) (a : Placed) → known_of (added ++ a ∷ []) ≡ known_of added ++ a.payload.known
known-more added a = flat_map-append (λ (x : Placed). x.payload.known) added (a ∷ []) ∙ ap (λ (z : List Known). known_of added ++ z) (append-nil a.payload.known)

pub named-more : (added : List Placed) (a : Placed) → named_of (added ++ a ∷ []) ≡ named_of added ++ named_from (start_of a) a.payload.known
named-more added a =
    flat_map-append (λ (x : Placed). named_from (start_of x) x.payload.known) added (a ∷ [])
    ∙ ap (λ (z : List NamedPlace). named_of added ++ z) (append-nil (named_from (start_of a) a.payload.known))

-- ---- distinct names

pub payload-names : (added : List Placed) → flat_map known_names (payloads_of added) ≡ map (λ k. k.name) (known_of added)
payload-names [] = refl
payload-names (a ∷ added) =
    ap (λ (z : List Name). known_names a.payload ++ z) (payload-names added) ∙ sym (map-append (λ (k : Known). k.name) a.payload.known (known_of added))

pub names-with : (added : List Placed) (p : Payload) → names_with (payloads_of added) p ≡ names_in (named_of added) ++ known_names p ++ p.other_names
names-with added p =
    ap (λ (z : List Name). z ++ p.other_names)
    (flat_map-append known_names (payloads_of added) (p ∷ []) ∙ ap (λ (z : List Name). flat_map known_names (payloads_of added) ++ z) (append-nil (known_names p))
    ∙ ap (λ (z : List Name). z ++ known_names p) (payload-names added ∙ sym (names-known added)))

-- the names of an index to which those of known ids were added
pub names-joined : (all : List NamedPlace) (start : ℕ) (ks : List Known) → names_in (all ++ named_from start ks) ≡ names_in all ++ map (λ k. k.name) ks
names-joined all start ks = map-append (λ (n : NamedPlace). n.name) all (named_from start ks) ∙ ap (λ (z : List Name). names_in all ++ z) (names-from start ks)

pub own-names : (ks : List Known) (others : List Name) → names_in (named_from 0 ks ++ names_from 0 others) ≡ map (λ k. k.name) ks ++ others
own-names ks others =
    map-append (λ (n : NamedPlace). n.name) (named_from 0 ks) (names_from 0 others)
    ∙ ap (λ (z : List Name). z ++ names_in (names_from 0 others)) (names-from 0 ks) ∙ ap (λ (z : List Name). map (λ (k : Known). k.name) ks ++ z) (names-are 0 others)

pub others-fit : (old known others : List Name) → AreDistinct (known ++ others) → Apart old others → OthersFit old known others
others-fit old known others h apart = record { distinct = distinct-right known others h; new_apart = distinct-apart known others h; old_apart = apart }

pub no-others : (old known others : List Name) → length others ≡ 0 → OthersFit old known others
no-others old known others e =
    let nil = nil_from_length others e in
    record {
      distinct = subst (λ (z : List Name). AreDistinct z) (sym nil) tt;
      new_apart = λ name i j. subst (λ (z : List Name). IsIn name z) nil j;
      old_apart = λ name i j. subst (λ (z : List Name). IsIn name z) nil j;
    }

pub own-distinct : (old known others : List Name) → AreDistinct (old ++ known ++ others) → AreDistinct (known ++ others)
own-distinct old known others h = distinct-right old (known ++ others) (subst (λ (z : List Name). AreDistinct z) (append_assoc old known others) h)

pub none-meet : (old known others : List Name) → AreDistinct (old ++ known ++ others) → Meet old others → ⊥
none-meet old known others h m = distinct-apart (old ++ known) others h m.name (in-left m.name old known m.first) m.second

pub all-distinct : (old known others : List Name) → AreDistinct (old ++ known) → OthersFit old known others → AreDistinct (old ++ known ++ others)
all-distinct old known others h fit =
    distinct-join (old ++ known) others h fit.distinct
    (λ name i j. ⊎_elim (λ (a : IsIn name old). fit.old_apart name a j) (λ (b : IsIn name known). fit.new_apart name b j) (in-append name old known i))

pub own-double : (old : List Name) (p : Payload) (ks : List Known) (others : List Name) → ks ≡ p.known → others ≡ p.other_names → AreDistinct (old ++ known_names p ++ p.other_names)
    → AreDistinct (names_in (named_from 0 ks ++ names_from 0 others))
own-double old p ks others known same h =
    let names = own-names ks others ∙ ap (λ (z : List Known). map (λ (k : Known). k.name) z ++ others) known ∙ ap (λ (z : List Name). known_names p ++ z) same in
    subst (λ (z : List Name). AreDistinct z) (sym names) (own-distinct old (known_names p) p.other_names h)

pub own-fit : (old : List Name) (p : Payload) (ks : List Known) (others : List Name) → ks ≡ p.known → others ≡ p.other_names → AreDistinct (names_in (named_from 0 ks ++ names_from 0 others)) → Apart old others
    → OthersFit old (known_names p) p.other_names
own-fit old p ks others known same h apart =
    let names = own-names ks others ∙ ap (λ (z : List Known). map (λ (k : Known). k.name) z ++ others) known ∙ ap (λ (z : List Name). known_names p ++ z) same in
    others-fit old (known_names p) p.other_names (subst (λ (z : List Name). AreDistinct z) names h) (subst (λ (z : List Name). Apart old z) same apart)

-- ---- the map with a payload more

pub batch-start : (b : BatchRef) (start : ℕ) → HasPlaces b.parts → start ≡ b.parts.known.start → start ≡ known_start (payload_of b)
batch-start b start h e = e ∙ h.known

pub batch-room : (at : ℕ) (b : BatchRef) (start : ℕ) → HasPlaces b.parts → IsPayload (payload_of b) → at + length (payload_bytes (payload_of b)) < 2 ^ 63 → start ≡ b.parts.known.start
    → at + start + 28 * length (payload_of b).known < 2 ^ 63
batch-room at b start h whole room e =
    let place = batch-start b start h e in
    omega (arith, place, room, known-room (payload_of b) whole)

pub batch-counts : (p : Payload) (known masters : ℕ) → IsPayload p → known ≤ masters → p.before ≡ masters → known + length p.known ≤ p.after
batch-counts p known masters h le e = let up = h.counts.grows in omega (arith, le, e, up, ids-few p h)

pub map-more : (map new : PlainMap) (added : List Placed) (a : Placed) → IsMapOf map added → IsPayload a.payload → a.payload.before ≡ map.masters
    → new.parts ≡ map.parts ++ part_of map.known a ∷ [] → IsIndexOf new.index (named_of added ++ named_from (start_of a) a.payload.known) → new.masters ≡ a.payload.after
    → new.known ≡ map.known + length a.payload.known → IsMapOf new (added ++ a ∷ [])
map-more map new added a is h before parts index masters known =
    let follow = is.follow in
    let all = is.known in
    let more = ap (length {A = Known}) (known-more added a) in
    record {
      follow = follow-more 0 added a is.follow h (before ∙ is.masters);
      parts =
          parts ∙ ap (λ (z : List PlainPart). z ++ part_of map.known a ∷ []) is.parts
          ∙ ap (λ (n : ℕ). parts_of 0 added ++ part_of n a ∷ []) (omega (arith, all)) ∙ sym (parts-more 0 added a);
      index = subst (λ (z : List NamedPlace). IsIndexOf new.index z) (sym (named-more added a)) index;
      masters = masters ∙ sym (count-more 0 added a);
      known = omega (arith, known, all, more, length-append (known_of added) a.payload.known);
    }

-- the index's named places, with the known ones of a payload
pub index-distinct : (all : List NamedPlace) (start : ℕ) (ks : List Known) (p : Payload) → ks ≡ p.known → AreDistinct (names_in (all ++ named_from start ks)) → AreDistinct (names_in all ++ known_names p)
index-distinct all start ks p known h =
    subst (λ (z : List Name). AreDistinct z) (names-joined all start ks ∙ ap (λ (z : List Known). names_in all ++ map (λ (k : Known). k.name) z) known) h

pub distinct-index : (all : List NamedPlace) (start : ℕ) (ks : List Known) (p : Payload) → ks ≡ p.known → AreDistinct (names_in all ++ known_names p ++ p.other_names) → AreDistinct (names_in (all ++ named_from start ks))
distinct-index all start ks p known h =
    subst (λ (z : List Name). AreDistinct z) (sym (names-joined all start ks ∙ ap (λ (z : List Known). names_in all ++ map (λ (k : Known). k.name) z) known))
    (distinct-left (names_in all ++ known_names p) p.other_names h)

pub part-is : (rank start : ℕ) (a : Placed) → start ≡ start_of a → record { first = a.payload.before; rank = rank; start = start; ids = known_ids a.payload } ≡ part_of rank a
part-is rank start a e = ap (λ (n : ℕ). record { first = a.payload.before; rank = rank; start = n; ids = known_ids a.payload }) e
