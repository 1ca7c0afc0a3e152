-- Names that stand one after another, and rows that are found by them.
use Rattle.std.proofs.Common.{◌≡◌, ◌<◌, ◌↔◌, ℕ, Bool, IsTrue, zero, suc, ◌+◌, ◌*◌, ◌/◌, inl, inr, List, [], ◌∷◌, ◌++◌, length, take, drop, Option, Some, None, slice_get, is_some, refl, sym, ap, ◌∙◌, arith, true≢false}
use Rattle.std.specs.List.{AllByRecursion}
use Rattle.std.proofs.lemmas.List.{length-map, take_at}
use Rattle.id_groups.specs.Lists.{IsIn}
use Rattle.id_groups.specs.Name.{Name, IsName}
use Rattle.id_groups.specs.Id.{other_id}
use Rattle.commit_graph.proofs.Naming.{each, all-each}
use Rattle.batch_codec.specs.Payload.{names_bytes}
use Rattle.batch_codec.proofs.Entries.{names-size}
use Rattle.segment_codec.specs.Record.{Segment, segment_bytes}
use Rattle.flat_segments.specs.Placed.{PlacedSegment, placed_segments}
use Rattle.name_index.specs.Index.{NamedPlace, NamesStand, NameStandsAt, Finds}
use Rattle.name_map.specs.Added.{names_from}
use Rattle.payload_tables.specs.Pending.{HeldRow, PlainPending, HoldsRows, FindsRow, row_names, segments_from}

pub drop-front : (x : List ℕ) (ys : List ℕ) (k n : ℕ) → length x ≡ n → drop (n + k) (x ++ ys) ≡ drop k ys
drop-front [] ys k n e = ap (λ m. drop m ys) (let z : n + k ≡ k = omega (arith, e) in z)
drop-front (y ∷ x) ys k zero e = absurd (omega (arith, e))
drop-front (y ∷ x) ys k (suc n) e = ap (λ m. drop m (y ∷ (x ++ ys))) (let z : suc n + k ≡ suc (n + k) = omega arith in z) ∙ drop-front x ys k n (omega (arith, e))

-- names one after another, each found by its number
pub name-in-bytes : (names : List Name) (k : ℕ) (x : Name) → AllByRecursion IsName names → slice_get names k ≡ Some x → take 20 (drop (20 * k) (names_bytes names)) ≡ x
name-in-bytes [] k x h e = absurd (true≢false (sym (ap is_some e)))
name-in-bytes (y ∷ names) zero x h e =
    ap (take 20) (let z : 20 * 0 ≡ 0 = omega arith in ap (λ n. drop n (y ++ names_bytes names)) z) ∙ take_at y (names_bytes names) 20 h.0.0 ∙ some-same e
  where
    some_or : Option Name → Name
    some_or None = y
    some_or (Some a) = a

    some-same : Some y ≡ Some x → y ≡ x
    some-same e = ap some_or e
name-in-bytes (y ∷ names) (suc k) x h e =
    ap (take 20) (ap (λ n. drop n (y ++ names_bytes names)) (let z : 20 * suc k ≡ 20 + 20 * k = omega arith in z) ∙ drop-front y (names_bytes names) (20 * k) 20 h.0.0)
    ∙ name-in-bytes names k x h.1 e

pub names-from-in : (place : ℕ) (names : List Name) (n : NamedPlace) → IsIn n (names_from place names) → (k : ℕ) × (n.place ≡ place + 20 * k) × (slice_get names k ≡ Some n.name)
names-from-in place [] n i = absurd i
names-from-in place (x ∷ names) n (inl e) = (0, ap (λ (z : NamedPlace). z.place) e ∙ (let z : place ≡ place + 20 * 0 = omega arith in z), ap Some (sym (ap (λ (z : NamedPlace). z.name) e)))
names-from-in place (x ∷ names) n (inr i) = let r = names-from-in (place + 20) names n i in (suc r.0, (let e = r.1 in omega (arith, e)), r.2)

pub whole-names : (rows : List HeldRow) → AllByRecursion (λ (row : HeldRow). IsName row.name) rows → AllByRecursion IsName (row_names rows)
whole-names [] h = tt
whole-names (r ∷ rows) h = (h.0, whole-names rows h.1)

pub get-in : (names : List Name) (k : ℕ) (x : Name) → slice_get names k ≡ Some x → IsIn x names
get-in [] k x e = absurd (true≢false (sym (ap is_some e)))
get-in (y ∷ names) zero x e = inl (sym (ap (some_or x) e))
  where
    some_or : Name → Option Name → Name
    some_or d None = d
    some_or d (Some a) = a
get-in (y ∷ names) (suc k) x e = inr (get-in names k x e)

-- the names that the index holds stand in the bytes
pub named-stand : (p : PlainPending) (rows : List HeldRow) → (h : HoldsRows p rows) → NamesStand p.names h.index.named
named-stand p rows h = all-each (NameStandsAt p.names) h.index.named (λ n i.
    let r = names-from-in 0 (row_names rows) n (h.index.sound n i) in
    let w = whole-names rows h.whole in
    record {
      whole = (each IsName (row_names rows) w n.name (get-in (row_names rows) r.0 n.name r.2)).0;
      stands = ap (λ m. take 20 (drop m p.names)) (r.1 ∙ (let z : 0 + 20 * r.0 ≡ 20 * r.0 = omega arith in z)) ∙ ap (λ b. take 20 (drop (20 * r.0) b)) h.names ∙ name-in-bytes (row_names rows) r.0 n.name w r.2;
    })

pub row-back : (rows : List HeldRow) (k : ℕ) (x : Name) → slice_get (row_names rows) k ≡ Some x → (row : HeldRow) × (slice_get rows k ≡ Some row) × (row.name ≡ x)
row-back [] k x e = absurd (true≢false (sym (ap is_some e)))
row-back (r ∷ rows) zero x e = (r, refl, ap (some_or x) e)
  where
    some_or : Name → Option Name → Name
    some_or d None = d
    some_or d (Some a) = a
row-back (r ∷ rows) (suc k) x e = row-back rows k x e

pub quotient : (n k : ℕ) → n ≡ 20 * k → n / 20 ≡ k
quotient n k e = omega (arith, e)

pub found-row : (p : PlainPending) (rows : List HeldRow) (h : HoldsRows p rows) (name : Name) (place : ℕ) → Finds h.index.named name (Some place) → (row : HeldRow) × (slice_get rows (place / 20) ≡ Some row) × (row.name ≡ name)
found-row p rows h name place i =
    let r = names-from-in 0 (row_names rows) (record { place = place; name = name }) (h.index.sound _ i) in
    let e = r.1 in
    row-back rows (place / 20) name (ap (slice_get (row_names rows)) (quotient place r.0 (omega (arith, e))) ∙ r.2)

pub no-row : (p : PlainPending) (rows : List HeldRow) (h : HoldsRows p rows) (name : Name) → Finds h.index.named name None → IsIn name (row_names rows) → ⊥
no-row p rows h name n i = n (h.index.whole name i)

pub row-below : (rows : List HeldRow) (k : ℕ) (row : HeldRow) → slice_get rows k ≡ Some row → k < length rows
row-below [] k row e = absurd (true≢false (sym (ap is_some e)))
row-below (r ∷ rows) zero row e = omega arith
row-below (r ∷ rows) (suc k) row e = let i = row-below rows k row e in omega (arith, i)

pub placed-many : (at : ℕ) (segments : List Segment) → length (placed_segments at segments) ≡ length segments
placed-many at [] = refl
placed-many at (s ∷ more) = ap suc (placed-many (at + length (segment_bytes s)) more)

pub segments-many : (id : ℕ) (rows : List HeldRow) → length (segments_from id rows) ≡ length rows
segments-many id [] = refl
segments-many id (r ∷ rows) = ap suc (segments-many (id + 1) rows)

pub places-many : (p : PlainPending) (rows : List HeldRow) → HoldsRows p rows → length p.places ≡ length rows
places-many p rows h =
    ap (length {A = ℕ}) h.places ∙ length-map (placed_segments 0 (segments_from (other_id p.first) rows)) (λ (r : PlacedSegment). r.place)
    ∙ placed-many 0 (segments_from (other_id p.first) rows) ∙ segments-many (other_id p.first) rows

pub names-many : (p : PlainPending) (rows : List HeldRow) → HoldsRows p rows → length p.names ≡ 20 * length rows
names-many p rows h =
    ap (length {A = ℕ}) h.names ∙ names-size (row_names rows) (whole-names rows h.whole) ∙ ap (λ n. 20 * n) (length-map rows (λ (r : HeldRow). r.name))

pub name-of-row : (rows : List HeldRow) (k : ℕ) (row : HeldRow) → slice_get rows k ≡ Some row → slice_get (row_names rows) k ≡ Some row.name
name-of-row [] k row e = absurd (true≢false (sym (ap is_some e)))
name-of-row (r ∷ rows) zero row e = ap names_or e
  where
    names_or : Option HeldRow → Option Name
    names_or None = None
    names_or (Some x) = Some x.name
name-of-row (r ∷ rows) (suc k) row e = name-of-row rows k row e

pub row-name : (p : PlainPending) (rows : List HeldRow) (k : ℕ) (row : HeldRow) → HoldsRows p rows → slice_get rows k ≡ Some row → take 20 (drop (20 * k) p.names) ≡ row.name
row-name p rows k row h e =
    ap (λ b. take 20 (drop (20 * k) b)) h.names ∙ name-in-bytes (row_names rows) k row.name (whole-names rows h.whole) (name-of-row rows k row e)

-- whether a row was found tells whether one has the name
pub held-row : (rows : List HeldRow) (name : Name) (found : Option ℕ) (held : Bool) → FindsRow rows name found → held ≡ is_some found → IsTrue held ↔ IsIn name (row_names rows)
held-row rows name None held f e = (λ t. absurd (true≢false (sym t ∙ e)), λ i. absurd (f i))
held-row rows name (Some k) held f e = (λ _. get-in (row_names rows) k name (name-of-row rows k f.0 f.1 ∙ ap Some f.2), λ _. e)
