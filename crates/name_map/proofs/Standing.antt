-- What stands in the log where payloads stand.
use Rattle.std.proofs.Common.{◌≡◌, ◌<◌, ◌≤◌, ◌+◌, ◌-◌, ◌*◌, ◌^◌, ℕ, zero, suc, List, [], ◌∷◌, ◌++◌, map, length, get_or, take, drop, refl, sym, ap, ◌∙◌, subst, inl, inr, ⊎_elim, arith, le_of_suc-le-suc}
use Rattle.std.specs.List.{AllByRecursion, flat_map}
use Rattle.std.specs.Int.{w64, to_be_bytes, from_be_bytes}
use Rattle.std.proofs.lemmas.List.{length-append, length-take, length-drop, take-take, take_at, drop_at, drop-take, drop-drop, map-append}
use Rattle.std.proofs.lemmas.List.Concat.{flat_map-append}
use Rattle.std.proofs.lemmas.Nat.{from_be_bytes-to_be_bytes_8}
use Rattle.id_groups.specs.Lists.{IsIn}
use Rattle.id_groups.specs.Name.{Name, IsName}
use Rattle.batch_codec.specs.Payload.{Known, Payload, payload_bytes, known_bytes, known_start}
use Rattle.batch_codec.specs.Grammar.{IsPayload}
use Rattle.batch_codec.proofs.Entries.{FitsKnown}
use Rattle.batch_codec.proofs.Places.{Stands, known-stands}
use Rattle.name_index.specs.Index.{NamedPlace, NameStandsAt, NamesStand, names_in}
use Rattle.name_map.specs.Added.{Placed, known_of, named_from, named_of, start_of, FollowInLog, AllStand}
use Rattle.name_map.proofs.Lists.{in-append, in-left, in-right}
use Rattle.name_map.proofs.Orders.{known-within}

-- ---- the known ids in a payload's bytes

pub known-stand : (p : Payload) → IsPayload p → Stands p (flat_map known_bytes p.known) (known_start p)
known-stand p h = known-stands p h.format.no_levels

-- where two pieces stand together each stands
pub stand-parts : (xs ys : List ℕ) (n : ℕ) (b : List ℕ) → take (length (xs ++ ys)) (drop n b) ≡ xs ++ ys → (take (length xs) (drop n b) ≡ xs) × (take (length ys) (drop (n + length xs) b) ≡ ys)
stand-parts xs ys n b h =
    let size = length-append xs ys in
    let le : length xs ≤ length (xs ++ ys) = omega (arith, size) in
    let front = sym (take-take (length xs) (length (xs ++ ys)) (drop n b) le) ∙ ap (take (length xs)) h ∙ take_at xs ys (length xs) refl in
    let cut : drop (length xs) (take (length xs + length ys) (drop n b)) ≡ ys = ap (λ (k : ℕ). drop (length xs) (take k (drop n b))) (sym size) ∙ ap (drop (length xs)) h ∙ drop_at xs ys (length xs) refl in
    let back = ap (take (length ys)) (sym (drop-drop (length xs) n b)) ∙ sym (drop-take (length xs) (length ys) (drop n b)) ∙ cut in
    (front, back)

-- ---- one name of a known id

-- an id and its name stand where a named place says
pub record HasEntry (bytes : List ℕ) (all : List Known) (named : NamedPlace) : Type 0 where
  pub entry : Known
  pub is_known : IsIn entry all
  pub name : entry.name ≡ named.name
  pub behind : 8 ≤ named.place
  pub within : named.place + 20 ≤ length bytes
  pub stands : NameStandsAt bytes named
  pub id : from_be_bytes w64 (take 8 (drop (named.place - 8) bytes)) ≡ entry.id

entry-here : (bytes : List ℕ) (all : List Known) (place : ℕ) (k : Known) → FitsKnown k → IsIn k all → take (length (known_bytes k)) (drop place bytes) ≡ known_bytes k
    → HasEntry bytes all (record { place = place + 8; name = k.name })
entry-here bytes all place k fits i h =
    let parts = stand-parts (to_be_bytes w64 k.id) k.name place bytes h in
    let size = fits.name in
    let name : take 20 (drop (place + 8) bytes) ≡ k.name = subst (λ (n : ℕ). take n (drop (place + 8) bytes) ≡ k.name) size parts.1 in
    let place_is : place + 8 - 8 ≡ place = omega arith in
    record {
      entry = k;
      is_known = i;
      name = refl;
      behind = omega arith;
      within = omega (arith, size, ap length name, length-take {A = ℕ} 20 (drop (place + 8) bytes), length-drop {A = ℕ} (place + 8) bytes);
      stands = record { whole = size; stands = name };
      id = ap (λ (n : ℕ). from_be_bytes w64 (take 8 (drop n bytes))) place_is ∙ ap (from_be_bytes w64) parts.0 ∙ from_be_bytes-to_be_bytes_8 k.id fits.id;
    }

entries-stand : (bytes : List ℕ) (all : List Known) (place : ℕ) (ks : List Known) → AllByRecursion FitsKnown ks → ((k : Known) → IsIn k ks → IsIn k all)
    → take (length (flat_map known_bytes ks)) (drop place bytes) ≡ flat_map known_bytes ks → (named : NamedPlace) → IsIn named (named_from place ks) → HasEntry bytes all named
entries-stand bytes all place [] fits sub h named i = absurd i
entries-stand bytes all place (k ∷ ks) fits sub h named (inl e) =
    let parts = stand-parts (known_bytes k) (flat_map known_bytes ks) place bytes h in
    subst (HasEntry bytes all) (sym e) (entry-here bytes all place k fits.0 (sub k (inl refl)) parts.0)
entries-stand bytes all place (k ∷ ks) fits sub h named (inr i) =
    let parts = stand-parts (known_bytes k) (flat_map known_bytes ks) place bytes h in
    let size : length (known_bytes k) ≡ 28 = let n = fits.0.name in omega (arith, n, length-append (to_be_bytes w64 k.id) k.name) in
    entries-stand bytes all (place + 28) ks fits.1 (λ x j. sub x (inr j))
    (subst (λ (n : ℕ). take (length (flat_map known_bytes ks)) (drop (place + n) bytes) ≡ flat_map known_bytes ks) size parts.1) named i

-- what a payload knows has a spelling
known-fit : (after : ℕ) (ks : List Known) → after < 2 ^ 64 → ((k : Known) → IsIn k ks → k.id < after) → AllByRecursion IsName (map (λ k. k.name) ks) → AllByRecursion FitsKnown ks
known-fit after [] small h names = tt
known-fit after (k ∷ ks) small h names =
    let low = h k (inl refl) in
    (record { id = omega (arith, low, small); name = names.0.0 }, known-fit after ks small (λ x i. h x (inr i)) names.1)

pub payload-fits : (p : Payload) → IsPayload p → AllByRecursion FitsKnown p.known
payload-fits p h = let most = h.counts.master in known-fit p.after p.known (omega (arith, most)) (λ k i. (known-within p h k i).1) h.names

-- the known ids of a payload stand in the log
pub known-in-log : (bytes : List ℕ) (a : Placed) → IsPayload a.payload → take (length (payload_bytes a.payload)) (drop a.at bytes) ≡ payload_bytes a.payload
    → take (length (flat_map known_bytes a.payload.known)) (drop (start_of a) bytes) ≡ flat_map known_bytes a.payload.known
known-in-log bytes a is h =
    let k = known-stand a.payload is in
    let whole = subst (λ (z : List ℕ). take (length z) (drop a.at bytes) ≡ z) k.whole h in
    let back = (stand-parts k.front (flat_map known_bytes a.payload.known ++ k.behind) a.at bytes whole).1 in
    let place = subst (λ (n : ℕ). take (length (flat_map known_bytes a.payload.known ++ k.behind)) (drop (a.at + n) bytes) ≡ flat_map known_bytes a.payload.known ++ k.behind) k.size back in
    (stand-parts (flat_map known_bytes a.payload.known) k.behind (start_of a) bytes place).0

all-entries : (count : ℕ) (bytes : List ℕ) (all : List Known) (added : List Placed) → FollowInLog count added → ((k : Known) → IsIn k (known_of added) → IsIn k all) → AllStand bytes added
    → (named : NamedPlace) → IsIn named (named_of added) → HasEntry bytes all named
all-entries count bytes all [] follow sub stand named i = absurd i
all-entries count bytes all (a ∷ added) follow sub stand named i =
    ⊎_elim
    (λ (j : IsIn named (named_from (start_of a) a.payload.known)). entries-stand bytes all (start_of a) a.payload.known (payload-fits a.payload follow.0)
    (λ k x. sub k (in-left k a.payload.known (known_of added) x)) (known-in-log bytes a follow.0 stand.0) named j)
    (λ (j : IsIn named (named_of added)). all-entries a.payload.after bytes all added follow.2 (λ k x. sub k (in-right k a.payload.known (known_of added) x)) stand.1 named j)
    (in-append named (named_from (start_of a) a.payload.known) (named_of added) i)

pub entry-of : (bytes : List ℕ) (added : List Placed) → FollowInLog 0 added → AllStand bytes added → (named : NamedPlace) → IsIn named (named_of added) → HasEntry bytes (known_of added) named
entry-of bytes added follow stand = all-entries 0 bytes (known_of added) added follow (λ k i. i) stand

each-stands : (bytes : List ℕ) (named : List NamedPlace) → ((n : NamedPlace) → IsIn n named → NameStandsAt bytes n) → NamesStand bytes named
each-stands bytes [] h = tt
each-stands bytes (n ∷ named) h = (h n (inl refl), each-stands bytes named (λ m i. h m (inr i)))

pub names-stand : (bytes : List ℕ) (added : List Placed) → FollowInLog 0 added → AllStand bytes added → NamesStand bytes (named_of added)
names-stand bytes added follow stand = each-stands bytes (named_of added) (λ n i. (entry-of bytes added follow stand n i).stands)

-- ---- names and places

pub names-from : (place : ℕ) (ks : List Known) → names_in (named_from place ks) ≡ map (λ k. k.name) ks
names-from place [] = refl
names-from place (k ∷ ks) = ap (λ (z : List Name). k.name ∷ z) (names-from (place + 28) ks)

pub names-known : (added : List Placed) → names_in (named_of added) ≡ map (λ k. k.name) (known_of added)
names-known [] = refl
names-known (a ∷ added) =
    map-append (λ (n : NamedPlace). n.name) (named_from (start_of a) a.payload.known) (named_of added)
    ∙ ap (λ (z : List Name). z ++ names_in (named_of added)) (names-from (start_of a) a.payload.known)
    ∙ ap (λ (z : List Name). map (λ (k : Known). k.name) a.payload.known ++ z) (names-known added)
    ∙ sym (map-append (λ (k : Known). k.name) a.payload.known (known_of added))

pub named-split : (front : List Placed) (here : Placed) (behind : List Placed) → named_of (front ++ here ∷ behind) ≡ named_of front ++ (named_from (start_of here) here.payload.known ++ named_of behind)
named-split front here behind = flat_map-append (λ (a : Placed). named_from (start_of a) a.payload.known) front (here ∷ behind)

-- the name of the id at an index
pub record NamedAt (start : ℕ) (ks : List Known) (id k : ℕ) : Type 0 where
  pub name : Name
  pub is_known : IsIn (record { id = id; name = name }) ks
  pub is_placed : IsIn (record { place = start + 28 * k + 8; name = name }) (named_from start ks)

pub named-at : (start : ℕ) (ks : List Known) (id k : ℕ) → k < length (map (λ x. x.id) ks) → get_or (map (λ x. x.id) ks) k 0 ≡ id → NamedAt start ks id k
named-at start [] id k lt e = absurd (omega (arith, lt))
named-at start (x ∷ ks) id zero lt e = record {
  name = x.name;
  is_known = inl (ap (λ (i : ℕ). record { id = i; name = x.name }) (sym e));
  is_placed = inl (ap (λ (n : ℕ). record { place = n; name = x.name }) (omega arith));
}
named-at start (x ∷ ks) id (suc k) lt e =
    let r = named-at (start + 28) ks id k (le_of_suc-le-suc lt) e in
    let place : start + 28 + 28 * k + 8 ≡ start + 28 * suc k + 8 = omega arith in
    record {
      name = r.name;
      is_known = inr r.is_known;
      is_placed = inr (subst (λ (n : ℕ). IsIn (record { place = n; name = r.name }) (named_from (start + 28) ks)) place r.is_placed);
    }
