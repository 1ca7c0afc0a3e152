-- The stored names of a base, as the log's bytes have them.
use Rattle.std.proofs.Common.{◌≡◌, ◌<◌, ◌≤◌, ◌+◌, ◌-◌, ◌*◌, ◌^◌, ℕ, Bool, true, false, Some, None, List, [], ◌∷◌, ◌++◌, map, filter, flat_map, length, take, drop, slice_get, nat_eq, nat_lt, refl, sym, ap, ap₂, ◌∙◌, subst, inl, inr, ⊎_elim, lit≤, zero-le, arith, if◌then◌else◌}
use Rattle.std.proofs.lemmas.Bool.Decides.{nat_tests}
use Rattle.std.specs.Prelude.{⊤}
use Rattle.std.specs.List.{AllByRecursion}
use Rattle.std.specs.Int.{w64, to_be_bytes}
use Rattle.std.proofs.lemmas.List.{length-append}
use Rattle.std.proofs.lemmas.Bool.{cases_eq, eq-eqb, ne_eqb}
use Rattle.std.proofs.lemmas.Grind.{flat_map-append}
use Rattle.id_groups.specs.Lists.{IsIn}
use Rattle.id_groups.specs.Name.{Name, IsName}
use Rattle.id_groups.specs.declared.name.NameRef.{NameRef}
use Rattle.commit_graph.proofs.Histories.{in-append}
use Rattle.batch_codec.specs.Payload.{Known, known_bytes, names_bytes}
use Rattle.batch_codec.specs.Grammar.{count_after}
use Rattle.batch_codec.specs.Reading.{ids_ascend}
use Rattle.batch_codec.proofs.Ascending.{ascend-parts}
use Rattle.batch_codec.proofs.Entries.{FitsKnown, names-size}
use Rattle.name_map.specs.Added.{Placed, payloads_of, known_of, start_of, FollowInLog, AllStand}
use Rattle.name_map.specs.Map.{NamesAs, parts_of}
use Rattle.name_map.proofs.Orders.{known-within, known-small}
use Rattle.name_map.proofs.More.{ids-ascend}
use Rattle.name_map.proofs.Standing.{stand-parts, payload-fits, known-in-log}
use Rattle.change_rules.specs.Change.{known_from}
use Rattle.change_rules.specs.Tables.{newest, other_names_in}
use Rattle.payload_tables.specs.declared.base.BaseRef.{BaseRef}
use Rattle.payload_tables.specs.Bases.{IsBaseOf, stored_in}
use Rattle.payload_tables.specs.Pending.{HeldRow, PlainPending, HoldsRows}
use Rattle.payload_tables.proofs.Basing.{base-others}
use Rattle.payload_tables.proofs.Naming.{places-many, row-name}
use Rattle.payload_tables.proofs.Rows.{get-below}
use Rattle.store_queries.specs.Names.{name_at, known_at, known_in_parts, others_at, stored_at, name_among, pending_name, name_or, name_in}

-- ---- the entries that stand in the log are the payloads'

known-name : (bytes : List ℕ) (place : ℕ) (k : Known) → FitsKnown k → take (length (known_bytes k)) (drop place bytes) ≡ known_bytes k → name_at bytes (place + 8) ≡ k.name
known-name bytes place k fits h =
    subst (λ (n : ℕ). take n (drop (place + 8) bytes) ≡ k.name) fits.name (stand-parts (to_be_bytes w64 k.id) k.name place bytes h).1

known-are : (bytes : List ℕ) (place : ℕ) (ks : List Known) → AllByRecursion FitsKnown ks → take (length (flat_map known_bytes ks)) (drop place bytes) ≡ flat_map known_bytes ks
    → known_at bytes place (map (λ k. k.id) ks) ≡ ks
known-are bytes place [] fits h = refl
known-are bytes place (k ∷ ks) fits h =
    let parts = stand-parts (known_bytes k) (flat_map known_bytes ks) place bytes h in
    let size : length (known_bytes k) ≡ 28 = let n = fits.0.name in omega (arith, n, length-append (to_be_bytes w64 k.id) k.name) in
    ap₂ {C = List Known} (λ n more. record { id = k.id; name = n } ∷ more) (known-name bytes place k fits.0 parts.0)
    (known-are bytes (place + 28) ks fits.1 (subst (λ (n : ℕ). take (length (flat_map known_bytes ks)) (drop (place + n) bytes) ≡ flat_map known_bytes ks) size parts.1))

parts-are : (bytes : List ℕ) (count rank : ℕ) (added : List Placed) → FollowInLog count added → AllStand bytes added → known_in_parts bytes (parts_of rank added) ≡ known_of added
parts-are bytes count rank [] f s = refl
parts-are bytes count rank (a ∷ added) f s =
    ap₂ {C = List Known} (λ x y. x ++ y) (known-are bytes (start_of a) a.payload.known (payload-fits a.payload f.0) (known-in-log bytes a f.0 s.0))
    (parts-are bytes a.payload.after (rank + length a.payload.known) added f.2 s.1)

others-are : (bytes : List ℕ) (id place : ℕ) (names : List Name) → AllByRecursion IsName names → take (length (names_bytes names)) (drop place bytes) ≡ names_bytes names
    → others_at bytes id place (length names) ≡ known_from id names
others-are bytes id place [] w h = refl
others-are bytes id place (n ∷ names) w h =
    let parts = stand-parts n (names_bytes names) place bytes h in
    let size : length n ≡ 20 = w.0.0 in
    ap₂ {C = List Known} (λ m more. record { id = id; name = m } ∷ more) (subst (λ (k : ℕ). take k (drop place bytes) ≡ n) size parts.0)
    (others-are bytes (id + 1) (place + 20) names w.1 (subst (λ (k : ℕ). take (length (names_bytes names)) (drop (place + k) bytes) ≡ names_bytes names) size parts.1))

-- ---- those below the count are of the first payloads

after-grows : (n : ℕ) (added behind : List Placed) → FollowInLog n (added ++ behind) → n ≤ count_after n (payloads_of added)
after-grows n [] behind h = omega arith
after-grows n (a ∷ added) behind h = let r = after-grows a.payload.after added behind h.2 in let g = h.0.counts.grows in let e = h.1 in omega (arith, r, g, e)

front-under : (n : ℕ) (front behind : List Placed) → FollowInLog n (front ++ behind) → (k : Known) → IsIn k (known_of front) → k.id < count_after n (payloads_of front)
front-under n [] behind h k i = absurd i
front-under n (a ∷ front) behind h k i =
    ⊎_elim (λ (j : IsIn k a.payload.known). let small = (known-within a.payload h.0 k j).1 in let up = after-grows a.payload.after front behind h.2 in omega (arith, small, up))
    (λ (j : IsIn k (known_of front)). front-under a.payload.after front behind h.2 k j) (in-append k a.payload.known (known_of front) i)

all-from : (n : ℕ) (behind : List Placed) → FollowInLog n behind → (k : Known) → IsIn k (known_of behind) → n ≤ k.id
all-from n [] h k i = absurd i
all-from n (a ∷ behind) h k i =
    ⊎_elim (λ (j : IsIn k a.payload.known). let low = (known-within a.payload h.0 k j).0 in let e = h.1 in omega (arith, low, e))
    (λ (j : IsIn k (known_of behind)). let r = all-from a.payload.after behind h.2 k j in let g = h.0.counts.grows in let e = h.1 in omega (arith, r, g, e)) (in-append k a.payload.known (known_of behind) i)

behind-from : (n : ℕ) (front behind : List Placed) → FollowInLog n (front ++ behind) → (k : Known) → IsIn k (known_of behind) → count_after n (payloads_of front) ≤ k.id
behind-from n [] behind h k i = all-from n behind h k i
behind-from n (a ∷ front) behind h k i = behind-from a.payload.after front behind h.2 k i

kept : (p : Known → Bool) (xs ys : List Known) → ((k : Known) → IsIn k xs → p k ≡ true) → ((k : Known) → IsIn k ys → p k ≡ false) → filter p (xs ++ ys) ≡ xs
kept p [] [] h g = refl
kept p [] (y ∷ ys) h g = rw (g y (inl refl)) (kept p [] ys h (λ k i. g k (inr i)))
kept p (x ∷ xs) ys h g = rw (h x (inl refl)) (ap (λ more. x ∷ more) (kept p xs ys (λ k i. h k (inr i)) g))

pub stored-are : (base : BaseRef) (added : List Placed) → IsBaseOf base added → stored_at base ≡ stored_in added
stored-are base added b =
    let facts = base-others base.bytes.now base.tables.now base.others.now base.below added b in
    let names = other_names_in (newest (payloads_of added)) in
    let follow = b.tables_of.names.follow in
    let count = b.count in
    let known : known_in_parts base.bytes.now base.tables.now.names.parts ≡ known_of added ++ known_of b.behind =
    ap (known_in_parts base.bytes.now) b.tables_of.names.parts ∙ parts-are base.bytes.now 0 0 (added ++ b.behind) follow b.stand
    ∙ flat_map-append (λ (a : Placed). a.payload.known) added b.behind in
    let size : 20 * base.others.now.count ≡ length (names_bytes names) = let c = facts.count in let n = names-size names facts.whole in omega (arith, c, n) in
    ap₂ {C = List Known} (λ x y. x ++ y)
    (ap (filter (λ (k : Known). nat_lt k.id base.below)) known
    ∙ kept (λ (k : Known). nat_lt k.id base.below) (known_of added) (known_of b.behind)
    (λ k i. let lt = front-under 0 added b.behind follow k i in grind (arith, nat_tests, lt, count))
    (λ k i. let le = behind-from 0 added b.behind follow k i in grind (arith, nat_tests, le, count)))
    (ap (others_at base.bytes.now (2 ^ 56) base.others.now.names) facts.count
    ∙ others-are base.bytes.now (2 ^ 56) base.others.now.names names facts.whole (subst (λ (n : ℕ). take n (drop base.others.now.names base.bytes.now) ≡ names_bytes names) size facts.names))

-- ---- no id stands there twice

abbrev pub Ascend : ℕ → List Known → Type 0
Ascend n [] = ⊤
Ascend n (k ∷ ks) = (n ≤ k.id) × Ascend (k.id + 1) ks

ascend-less : (n m : ℕ) (ks : List Known) → n ≤ m → Ascend m ks → Ascend n ks
ascend-less n m [] le h = tt
ascend-less n m (k ∷ ks) le h = (let a = h.0 in omega (arith, le, a), h.1)

ascend-append : (n m : ℕ) (xs ys : List Known) → n ≤ m → Ascend n xs → ((k : Known) → IsIn k xs → k.id < m) → Ascend m ys → Ascend n (xs ++ ys)
ascend-append n m [] ys le h small g = ascend-less n m ys le g
ascend-append n m (x ∷ xs) ys le h small g =
    (h.0, ascend-append (x.id + 1) m xs ys (let s = small x (inl refl) in omega (arith, s)) h.1 (λ k i. small k (inr i)) g)

ascend-known : (least end : ℕ) (ks : List Known) → ids_ascend least end (map (λ k. k.id) ks) ≡ true → Ascend least ks
ascend-known least end [] h = tt
ascend-known least end (k ∷ ks) h =
    let parts = ascend-parts least end k.id (map (λ (k : Known). k.id) ks) h in (parts.0, ascend-known (k.id + 1) end ks parts.2)

ascend-all : (n : ℕ) (added : List Placed) → FollowInLog n added → Ascend n (known_of added)
ascend-all n [] h = tt
ascend-all n (a ∷ added) h =
    let e = h.1 in let g = h.0.counts.grows in
    ascend-append n a.payload.after a.payload.known (known_of added) (omega (arith, e, g))
    (ascend-less n a.payload.before a.payload.known (omega (arith, e)) (ascend-known a.payload.before a.payload.after a.payload.known (ids-ascend a.payload h.0)))
    (λ k i. (known-within a.payload h.0 k i).1) (ascend-all a.payload.after added h.2)

ascend-from : (id : ℕ) (names : List Name) → Ascend id (known_from id names)
ascend-from id [] = tt
ascend-from id (n ∷ names) = (omega arith, ascend-from (id + 1) names)

least : (n : ℕ) (ks : List Known) → Ascend n ks → (k : Known) → IsIn k ks → n ≤ k.id
least n [] h k i = absurd i
least n (x ∷ ks) h k (inl e) = let a = h.0 in let s = ap (λ (z : Known). z.id) e in omega (arith, a, s)
least n (x ∷ ks) h k (inr i) = let a = h.0 in let r = least (x.id + 1) ks h.1 k i in omega (arith, a, r)

following-front : (count : ℕ) (front behind : List Placed) → FollowInLog count (front ++ behind) → FollowInLog count front
following-front count [] behind h = tt
following-front count (a ∷ front) behind h = (h.0, h.1, following-front a.payload.after front behind h.2)

ascend-stored : (base : BaseRef) (added : List Placed) → IsBaseOf base added → Ascend 0 (stored_in added)
ascend-stored base added b =
    let follow = following-front 0 added b.behind b.tables_of.names.follow in
    ascend-append 0 (2 ^ 56) (known_of added) (known_from (2 ^ 56) (other_names_in (newest (payloads_of added)))) zero-le (ascend-all 0 added follow)
    (λ k i. let s = known-small 0 added follow k i in let l : 16777216 ≤ 2 ^ 56 = lit≤ tt in omega (arith, s, l))
    (ascend-from (2 ^ 56) (other_names_in (newest (payloads_of added))))

-- so the name of an id is the one that a search finds
pub one-name : (n : ℕ) (known : List Known) → Ascend n known → (id : ℕ) (name : Name) → IsIn {X = Known} (record { id = id; name = name }) known → name_among known id ≡ Some name
one-name n [] h id name i = absurd i
one-name n (k ∷ known) h id name (inl e) = rw (eq-eqb k.id id (sym (ap (λ (z : Known). z.id) e))) (ap Some (sym (ap (λ (z : Known). z.name) e)))
one-name n (k ∷ known) h id name (inr i) =
    let above = least (k.id + 1) known h.1 (record { id = id; name = name }) i in
    let other : nat_eq k.id id ≡ false = grind (arith, nat_tests, above) in
    rw other (one-name (k.id + 1) known h.1 id name i)

pub no-name : (known : List Known) (id : ℕ) → ((name : Name) → IsIn {X = Known} (record { id = id; name = name }) known → ⊥) → name_among known id ≡ None
no-name [] id h = refl
no-name (k ∷ known) id h = ⊎_elim
    (λ (e : k.id ≡ id). absurd (h k.name (inl (ap (λ n. record { id = n; name = k.name }) (sym e)))))
    (λ (ne : k.id ≡ id → ⊥). rw (ne_eqb k.id id ne) (no-name known id (λ name i. h name (inr i))))
    (cases_eq k.id id)

-- ---- the name of an id of a base, or of a pending row

pub some-name : (base : BaseRef) (pending : PlainPending) (added : List Placed) → IsBaseOf base added → (id : ℕ) (name : NameRef) → NamesAs (stored_in added) id (Some name)
    → Some name.bytes.now ≡ name_in base pending id
some-name base pending added b id name h =
    sym (ap (λ o. name_or o (pending_name pending id)) (ap (λ known. name_among known id) (stored-are base added b) ∙ one-name 0 (stored_in added) (ascend-stored base added b) id name.bytes.now h))

pub none-name : (base : BaseRef) (pending : PlainPending) (added : List Placed) → IsBaseOf base added → (id : ℕ) → NamesAs (stored_in added) id None
    → pending_name pending id ≡ name_in base pending id
none-name base pending added b id h =
    sym (ap (λ o. name_or o (pending_name pending id)) (ap (λ known. name_among known id) (stored-are base added b) ∙ no-name (stored_in added) id h))

pub row-here : (p : PlainPending) (rows : List HeldRow) → HoldsRows p rows → (id place : ℕ) → id ≡ 2 ^ 56 + p.first + place → place < length p.places → (name : Name)
    → ((row : HeldRow) → slice_get rows place ≡ Some row → name ≡ row.name) → Some name ≡ pending_name p id
row-here p rows h id place e lt name is =
    let many = places-many p rows h in
    let x = get-below rows place (omega (arith, many, lt)) in
    let behind : nat_lt id (2 ^ 56 + p.first) ≡ false = grind (arith, nat_tests, e) in
    let same : id - (2 ^ 56 + p.first) ≡ place = omega (arith, e) in
    let within : nat_lt (id - (2 ^ 56 + p.first)) (length p.places) ≡ true = grind (arith, nat_tests, same, lt) in
    rw (behind, within, same) (ap Some (is x.0 x.1 ∙ sym (row-name p rows place x.0 h x.1)))

-- the name that is found is that of the id
pub among-in : (known : List Known) (id : ℕ) (name : Name) → name_among known id ≡ Some name → IsIn {X = Known} (record { id = id; name = name }) known
among-in [] id name e = absurd (cc e)
among-in (k ∷ known) id name e = ⊎_elim
    (λ (s : k.id ≡ id).
    let here : Some k.name ≡ Some name = sym (ap (λ b. if b then Some k.name else name_among known id) (eq-eqb k.id id s)) ∙ e in
    let same : k.name ≡ name = cc here in
    inl (ap₂ {C = Known} (λ n m. record { id = n; name = m }) (sym s) (sym same)))
    (λ (ne : k.id ≡ id → ⊥). inr (among-in known id name (sym (ap (λ b. if b then Some k.name else name_among known id) (ne_eqb k.id id ne)) ∙ e)))
    (cases_eq k.id id)

pub stored-name : (base : BaseRef) (added : List Placed) → IsBaseOf base added → (id : ℕ) (name : Name) → IsIn {X = Known} (record { id = id; name = name }) (stored_in added)
    → name_among (stored_at base) id ≡ Some name
stored-name base added b id name i = ap (λ known. name_among known id) (stored-are base added b) ∙ one-name 0 (stored_in added) (ascend-stored base added b) id name i
