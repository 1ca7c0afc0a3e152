-- A map that is made of many payloads at once.
use Rattle.std.proofs.Common.{◌≡◌, ◌<◌, ◌≤◌, ◌+◌, ℕ, zero, suc, List, [], ◌∷◌, ◌++◌, map, length, take, get_or, Option, Some, None, is_some, true, false, true≢false, nat_eq, refl, sym, ap, ap₂, ◌∙◌, subst, inl, inr, ⊎_elim, arith}
use Rattle.std.specs.Bool.{IsTrue}
use Rattle.std.specs.List.{AllByRecursion, flat_map}
use Rattle.std.proofs.lemmas.Bool.{cases_lt}
use Rattle.std.proofs.lemmas.Map.Views.{exact_unsigned_eq}
use Rattle.std.proofs.lemmas.List.{length-append, length-map, append_assoc, append-nil, map-append, nil_from_length}
use Rattle.id_groups.specs.Lists.{IsIn, AreDistinct}
use Rattle.id_groups.specs.Name.{Name}
use Rattle.batch_codec.specs.Payload.{Known, Payload, known_names}
use Rattle.batch_codec.specs.Grammar.{IsPayload}
use Rattle.name_index.specs.Index.{NamedPlace, IsIndexOf, names_in, places_in}
use Rattle.name_index.specs.declared.entry.Entry.{Entry}
use Rattle.name_map.specs.declared.build.OtherNames.{OtherNames}
use Rattle.name_map.specs.Part.{PlainPart}
use Rattle.name_map.specs.Added.{Placed, AllStand, StandsAt, payloads_of, known_of, named_of, named_from, start_of, every, FollowInLog}
use Rattle.name_map.specs.Map.{IsMapOf, IsIdOf, part_of, parts_of, names_with}
use Rattle.name_map.specs.Build.{PlainNames, AreNamesOf, NamesFit, AreUnknown, MeetKnown, others_of, entry_places}
use Rattle.name_map.proofs.Lists.{in-append, in-left, in-map, in-mapped, each-in, each-append, distinct-left, distinct-join, distinct-apart}
use Rattle.name_map.proofs.Orders.{known-within, follow-at, follow-behind, front-below, follow-more, count-more, known-split}
use Rattle.name_map.proofs.Standing.{names-known}
use Rattle.name_map.proofs.Places.{named-places}
use Rattle.name_map.proofs.More.{parts-more, known-more, names-with, payload-names}

-- ---- a payload more

pub build-more : (build new : PlainNames) (added : List Placed) (a : Placed) → AreNamesOf build added → IsPayload a.payload → a.payload.before ≡ build.masters
    → new.parts ≡ build.parts ++ part_of build.known a ∷ [] → new.others ≡ build.others ++ others_of a ∷ [] → new.masters ≡ a.payload.after
    → new.known ≡ build.known + length a.payload.known → AreDistinct a.payload.other_names → AreNamesOf new (added ++ a ∷ [])
build-more build new added a is h before parts others masters known distinct =
    let all = is.known in
    let more = ap (length {A = Known}) (known-more added a) in
    record {
      follow = follow-more 0 added a is.follow h (before ∙ is.masters);
      parts =
          parts ∙ ap (λ (z : List PlainPart). z ++ part_of build.known a ∷ []) is.parts
          ∙ ap (λ (n : ℕ). parts_of 0 added ++ part_of n a ∷ []) (omega (arith, all)) ∙ sym (parts-more 0 added a);
      others = others ∙ ap (λ (z : List OtherNames). z ++ others_of a ∷ []) is.others ∙ sym (map-append others_of added (a ∷ []));
      masters = masters ∙ sym (count-more 0 added a);
      known = omega (arith, known, all, more, length-append (known_of added) a.payload.known);
      distinct = each-append (λ (b : Placed). AreDistinct b.payload.other_names) added (a ∷ []) is.distinct (distinct, tt);
    }

-- no parts are those of no payloads
pub no-parts : (rank : ℕ) (added : List Placed) → parts_of rank added ≡ [] → added ≡ []
no-parts rank [] e = refl
no-parts rank (a ∷ added) e = absurd (cc e)

-- ---- where the known names stand

pub places-are : (rank : ℕ) (added : List Placed) → entry_places (parts_of rank added) ≡ places_in (named_of added)
places-are rank [] = refl
places-are rank (a ∷ added) =
    ap₂ (λ (x y : List ℕ). x ++ y)
    (ap (every (start_of a + 8) 28) (length-map a.payload.known (λ (k : Known). k.id)) ∙ sym (named-places (start_of a) a.payload.known))
    (places-are (rank + length a.payload.known) added)
    ∙ sym (map-append (λ (n : NamedPlace). n.place) (named_from (start_of a) a.payload.known) (named_of added))

-- ---- names that fit

all-names : (added : List Placed) → names_in (named_of added) ≡ flat_map known_names (payloads_of added)
all-names added = names-known added ∙ sym (payload-names added)

payloads-more : (front : List Placed) (a : Placed) → payloads_of (front ++ a ∷ []) ≡ payloads_of front ++ a.payload ∷ []
payloads-more front a = map-append (λ (b : Placed). b.payload) front (a ∷ [])

-- the known names of the first payloads, and of the next one
known-names : (front : List Placed) (a : Placed) → map (λ (k : Known). k.name) (known_of front ++ a.payload.known) ≡ names_in (named_of front) ++ known_names a.payload
known-names front a = map-append (λ (k : Known). k.name) (known_of front) a.payload.known ∙ ap (λ (z : List Name). z ++ known_names a.payload) (sym (names-known front))

-- they are distinct where all are
front-distinct : (front : List Placed) (a : Placed) (behind : List Placed) → AreDistinct (map (λ (k : Known). k.name) (known_of (front ++ a ∷ behind))) → AreDistinct (names_in (named_of front) ++ known_names a.payload)
front-distinct front a behind d =
    let split = known-split front a behind ∙ sym (append_assoc (known_of front) a.payload.known (known_of behind)) in
    let names = ap (map (λ (k : Known). k.name)) split ∙ map-append (λ (k : Known). k.name) (known_of front ++ a.payload.known) (known_of behind) in
    subst (λ (z : List Name). AreDistinct z) (known-names front a)
    (distinct-left (map (λ (k : Known). k.name) (known_of front ++ a.payload.known)) (map (λ (k : Known). k.name) (known_of behind)) (subst (λ (z : List Name). AreDistinct z) names d))

-- their ids lie below the payload's end
front-ids : (front : List Placed) (a : Placed) (behind : List Placed) → FollowInLog 0 (front ++ a ∷ behind) → (k : Known) → IsIn k (known_of front ++ a.payload.known) → k.id < a.payload.after
front-ids front a behind f k i =
    let h = follow-at 0 front a behind f in
    let up = h.counts.grows in
    ⊎_elim (λ (j : IsIn k (known_of front)). let lt = front-below 0 front a behind f k j in omega (arith, lt, up))
    (λ (j : IsIn k a.payload.known). (known-within a.payload h k j).1) (in-append k (known_of front) a.payload.known i)

in-all : (front : List Placed) (a : Placed) (behind : List Placed) (k : Known) → IsIn k (known_of front ++ a.payload.known) → IsIn k (known_of (front ++ a ∷ behind))
in-all front a behind k i =
    subst (λ (z : List Known). IsIn k z) (append_assoc (known_of front) a.payload.known (known_of behind) ∙ sym (known-split front a behind))
    (in-left k (known_of front ++ a.payload.known) (known_of behind) i)

fit-here : (front : List Placed) (a : Placed) (behind : List Placed) → FollowInLog 0 (front ++ a ∷ behind) → AreDistinct (map (λ (k : Known). k.name) (known_of (front ++ a ∷ behind)))
    → AreUnknown (known_of (front ++ a ∷ behind)) a → AreDistinct a.payload.other_names → AreDistinct (names_with (payloads_of front) a.payload)
fit-here front a behind f d unknown own =
    subst (λ (z : List Name). AreDistinct z) (sym (names-with front a.payload))
    (distinct-join (names_in (named_of front) ++ known_names a.payload) a.payload.other_names (front-distinct front a behind d) own apart)
  where
    apart : (name : Name) → IsIn name (names_in (named_of front) ++ known_names a.payload) → IsIn name a.payload.other_names → ⊥
    apart name i j =
        let m = in-mapped (λ (k : Known). k.name) name (known_of front ++ a.payload.known) (subst (λ (z : List Name). IsIn name z) (sym (known-names front a)) i) in
        let none = each-in (λ (x : Name). IsIdOf (known_of (front ++ a ∷ behind)) x a.payload.after None) a.payload.other_names unknown name j in
        none m.0.id (front-ids front a behind f m.0 m.1)
        (subst (λ (x : Name). IsIn (record { id = m.0.id; name = x }) (known_of (front ++ a ∷ behind))) (sym m.2) (in-all front a behind m.0 m.1))

fit-from : (front behind : List Placed) → FollowInLog 0 (front ++ behind) → AreDistinct (map (λ (k : Known). k.name) (known_of (front ++ behind)))
    → AllByRecursion (AreUnknown (known_of (front ++ behind))) behind → AllByRecursion (λ (a : Placed). AreDistinct a.payload.other_names) behind → NamesFit (payloads_of front) (payloads_of behind)
fit-from front [] f d unknown own = tt
fit-from front (a ∷ behind) f d unknown own =
    let e = append_assoc front (a ∷ []) behind in
    let rest = fit-from (front ++ a ∷ []) behind (subst (FollowInLog 0) (sym e) f) (subst (λ z. AreDistinct (map (λ (k : Known). k.name) (known_of z))) (sym e) d)
    (subst (λ z. AllByRecursion (AreUnknown (known_of z)) behind) (sym e) unknown.1) own.1 in
    (fit-here front a behind f d unknown.0 own.0, subst (λ z. NamesFit z (payloads_of behind)) (payloads-more front a) rest)

pub all-fit : (added : List Placed) → FollowInLog 0 added → AreDistinct (names_in (named_of added)) → AllByRecursion (AreUnknown (known_of added)) added
    → AllByRecursion (λ (a : Placed). AreDistinct a.payload.other_names) added → NamesFit [] (payloads_of added)
all-fit added f d unknown own = fit-from [] added f (subst (λ (z : List Name). AreDistinct z) (names-known added) d) unknown own

-- ---- names that don't

-- ids behind are no lower
ids-above : (count : ℕ) (behind : List Placed) → FollowInLog count behind → (k : Known) → IsIn k (known_of behind) → count ≤ k.id
ids-above count [] f k i = absurd i
ids-above count (a ∷ behind) f k i =
    let up = f.0.counts.grows in let at = f.1 in
    ⊎_elim (λ (j : IsIn k a.payload.known). let low = (known-within a.payload f.0 k j).0 in omega (arith, low, at))
    (λ (j : IsIn k (known_of behind)). let low = ids-above a.payload.after behind f.2 k j in omega (arith, low, up, at)) (in-append k a.payload.known (known_of behind) i)

misfit-here : (front : List Placed) (a : Placed) (behind : List Placed) → FollowInLog 0 (front ++ a ∷ behind) → AreDistinct (names_with (payloads_of front) a.payload) → MeetKnown (known_of (front ++ a ∷ behind)) a → ⊥
misfit-here front a behind f d m =
    let k : Known = record { id = m.id; name = m.name } in
    let below = m.below in
    let i = subst (λ (z : List Known). IsIn k z) (known-split front a behind ∙ sym (append_assoc (known_of front) a.payload.known (known_of behind))) m.is_known in
    let here : IsIn k (known_of front ++ a.payload.known) = ⊎_elim (λ j. j)
    (λ (j : IsIn k (known_of behind)). let up = ids-above a.payload.after behind (follow-behind 0 front a behind f) k j in absurd (omega (arith, up, below)))
    (in-append k (known_of front ++ a.payload.known) (known_of behind) i) in
    let named = subst (λ (z : List Name). IsIn m.name z) (known-names front a) (in-map (λ (x : Known). x.name) k (known_of front ++ a.payload.known) here) in
    distinct-apart (names_in (named_of front) ++ known_names a.payload) a.payload.other_names (subst (λ (z : List Name). AreDistinct z) (names-with front a.payload) d) m.name named m.other

misfit-from : (front behind : List Placed) → FollowInLog 0 (front ++ behind) → NamesFit (payloads_of front) (payloads_of behind) → (a : Placed) → IsIn a behind → MeetKnown (known_of (front ++ behind)) a → ⊥
misfit-from front [] f n a i m = i
misfit-from front (b ∷ behind) f n a (inl e) m = misfit-here front b behind f n.0 (subst (MeetKnown (known_of (front ++ b ∷ behind))) e m)
misfit-from front (b ∷ behind) f n a (inr i) m =
    let e = append_assoc front (b ∷ []) behind in
    misfit-from (front ++ b ∷ []) behind (subst (FollowInLog 0) (sym e) f) (subst (λ z. NamesFit z (payloads_of behind)) (sym (payloads-more front b)) n.1) a i
    (subst (λ z. MeetKnown (known_of z) a) (sym e) m)

pub none-met : (added : List Placed) → FollowInLog 0 added → NamesFit [] (payloads_of added) → (a : Placed) → IsIn a added → MeetKnown (known_of added) a → ⊥
none-met added f n a i m = misfit-from [] added f n a i m

fit-known : (before more : List Payload) → AreDistinct (flat_map known_names before) → NamesFit before more → AreDistinct (flat_map known_names (before ++ more))
fit-known before [] d n = subst (λ z. AreDistinct (flat_map known_names z)) (sym (append-nil before)) d
fit-known before (p ∷ more) d n =
    subst (λ z. AreDistinct (flat_map known_names z)) (append_assoc before (p ∷ []) more)
    (fit-known (before ++ p ∷ []) more (distinct-left (flat_map known_names (before ++ p ∷ [])) p.other_names n.0) n.1)

pub known-distinct : (added : List Placed) → NamesFit [] (payloads_of added) → AreDistinct (names_in (named_of added))
known-distinct added n = subst (λ (z : List Name). AreDistinct z) (sym (all-names added)) (fit-known [] (payloads_of added) tt n)

-- ---- the search for other names that are known

pub none-of : (known : List Known) (name : Name) (below : ℕ) (r : Option ℕ) → IsIdOf known name below r → is_some r ≡ false → IsIdOf known name below None
none-of known name below None h e = h
none-of known name below (Some id) h e = absurd (true≢false e)

pub some-of : (known : List Known) (name : Name) (below : ℕ) (r : Option ℕ) → IsIdOf known name below r → is_some r ≡ true → (id : ℕ) × (id < below) × IsIn (record { id = id; name = name }) known
some-of known name below None h e = absurd (true≢false (sym e))
some-of known name below (Some id) h e = (id, h.0, h.1)

pub in-at : (names : List Name) (i : ℕ) → i < length names → IsIn (get_or names i []) names
in-at [] i lt = absurd (omega (arith, lt))
in-at (x ∷ names) zero lt = inl refl
in-at (x ∷ names) (suc i) lt = inr (in-at names i (omega (arith, lt)))

all-at : (P : Name → Type 0) (names : List Name) → ((k : ℕ) → k < length names → P (get_or names k [])) → AllByRecursion P names
all-at P [] h = tt
all-at P (x ∷ names) h = (h 0 (omega arith), all-at P names (λ k lt. h (suc k) (omega (arith, lt))))

-- none of the first ones is, nor the next
pub unknown-more : (known : List Known) (names : List Name) (after i : ℕ) → ((k : ℕ) → k < i → IsIdOf known (get_or names k []) after None) → IsIdOf known (get_or names i []) after None
    → (k : ℕ) → k < i + 1 → IsIdOf known (get_or names k []) after None
unknown-more known names after i before here k lt =
    ⊎_elim (λ (less : k < i). before k less)
    (λ (le : i ≤ k). let same : i ≡ k = omega (arith, lt, le) in subst (λ (j : ℕ). IsIdOf known (get_or names j []) after None) same here) (cases_lt k i)

pub unknown-all : (known : List Known) (a : Placed) (count i : ℕ) → count ≡ length a.payload.other_names → count ≤ i → ((k : ℕ) → k < i → IsIdOf known (get_or a.payload.other_names k []) a.payload.after None)
    → AreUnknown known a
unknown-all known a count i e le h = all-at (λ name. IsIdOf known name a.payload.after None) a.payload.other_names (λ k lt. h k (omega (arith, e, le, lt)))

-- the payload of this number
pub record PlacedAt (P : Placed → Type 0) (added : List Placed) (i : ℕ) : Type 0 where
  pub here : Placed
  pub is_in : IsIn here added
  pub get : (o : OtherNames) → get_or (map others_of added) i o ≡ others_of here
  pub more : AllByRecursion P (take i added) → P here → AllByRecursion P (take (i + 1) added)

pub placed-at : (P : Placed → Type 0) (added : List Placed) (i : ℕ) → i < length added → PlacedAt P added i
placed-at P [] i lt = absurd (omega (arith, lt))
placed-at P (a ∷ added) zero lt = record { here = a; is_in = inl refl; get = λ o. refl; more = λ h p. (p, tt) }
placed-at P (a ∷ added) (suc i) lt =
    let r = placed-at P added i (omega (arith, lt)) in
    record {
      here = r.here;
      is_in = inr r.is_in;
      get = λ o. r.get o;
      more = λ h p. let e : suc (i + 1) ≡ suc i + 1 = omega arith in subst (λ (n : ℕ). AllByRecursion P (take n (a ∷ added))) e (h.0, r.more h.1 p);
    }

pub stands-in : (bytes : List ℕ) (added : List Placed) → AllStand bytes added → (a : Placed) → IsIn a added → StandsAt bytes a
stands-in bytes [] h a i = absurd i
stands-in bytes (b ∷ added) h a (inl e) = subst (StandsAt bytes) (sym e) h.0
stands-in bytes (b ∷ added) h a (inr i) = stands-in bytes added h.1 a i

pub payload-in : (count : ℕ) (added : List Placed) → FollowInLog count added → (a : Placed) → IsIn a added → IsPayload a.payload
payload-in count [] f a i = absurd i
payload-in count (b ∷ added) f a (inl e) = subst (λ (z : Placed). IsPayload z.payload) (sym e) f.0
payload-in count (b ∷ added) f a (inr i) = payload-in b.payload.after added f.2 a i

pub empty-parts : (n : ℕ) (parts : List PlainPart) (added : List Placed) → n ≡ length parts → parts ≡ parts_of 0 added → (IsTrue (nat_eq n 0) → added ≡ []) × (added ≡ [] → IsTrue (nat_eq n 0))
empty-parts n parts added e is = (
  λ t. no-parts 0 added (nil_from_length (parts_of 0 added) (sym (ap (length {A = PlainPart}) is) ∙ sym e ∙ exact_unsigned_eq n 0 t)),
  λ z. subst (λ (m : ℕ). IsTrue (nat_eq m 0)) (sym (e ∙ ap (length {A = PlainPart}) (is ∙ ap (parts_of 0) z))) refl,
)

-- ---- the map of all

pub map-of : (build : PlainNames) (index : List (List Entry)) (added : List Placed) → AreNamesOf build added → IsIndexOf index (named_of added)
    → IsMapOf (record { parts = build.parts; index = index; masters = build.masters; known = build.known }) added
map-of build index added b is = record { follow = b.follow; parts = b.parts; index = is; masters = b.masters; known = b.known }
