-- Names, and known ids with their names, that stand one after another.
use Rattle.std.proofs.Common.{◌≡◌, ℕ, zero, suc, ◌+◌, ◌*◌, ◌^◌, ◌<◌, ◌≤◌, List, [], ◌∷◌, ◌++◌, length, map, take, drop, get_or, slice_get, Some, refl, sym, ap, ◌∙◌, append_assoc, arith}
use Rattle.std.specs.List.{flat_map, AllByRecursion}
use Rattle.std.specs.Int.{w64, from_be_bytes, to_be_bytes}
use Rattle.std.proofs.lemmas.List.{nil_from_length, take_at, drop_at, take-append-drop, length-append, length-take, length-drop, drop-drop, get_or-drop}
use Rattle.std.proofs.lemmas.List.Concat.{flat_map-cons}
use Rattle.std.proofs.lemmas.Nat.{be_bytes_8, from_be_bytes-to_be_bytes_8}
use Rattle.id_groups.specs.Name.{Name, IsName}
use Rattle.segment_codec.proofs.Numbers.{IsBytes}
use Rattle.segment_codec.proofs.Lists.{bytes-take}
use Rattle.batch_codec.specs.Payload.{Known, known_bytes, names_bytes}
use Rattle.batch_codec.specs.Reading.{names_read, known_in, knowns_in, ids_in}

pub bytes-behind : (n : ℕ) (bytes : List ℕ) → IsBytes bytes → IsBytes (drop n bytes)
bytes-behind n bytes h i = rw get_or-drop (h (n + i))

bytes-each : (bytes : List ℕ) → IsBytes bytes → AllByRecursion (λ b. b < 256) bytes
bytes-each [] h = tt
bytes-each (b ∷ bytes) h = (h 0, bytes-each bytes (λ i. h (suc i)))

-- ---- names

pub names-length : (n : ℕ) (b : List ℕ) → length (names_read n b) ≡ n
names-length zero b = refl
names-length (suc n) b = ap suc (names-length n (drop 20 b))

shorter : (k n : ℕ) (b : List ℕ) → length b ≡ k * suc n → length (drop k b) ≡ k * n
shorter k n b len = omega (arith, len, length-drop {A = ℕ} k b)

pub names-spelled : (n : ℕ) (b : List ℕ) → length b ≡ 20 * n → names_bytes (names_read n b) ≡ b
names-spelled zero b len = sym (nil_from_length b (omega (arith, len)))
names-spelled (suc n) b len =
    flat_map-cons (λ name. name) (take 20 b) (names_read n (drop 20 b)) ∙ ap (λ (z : List ℕ). take 20 b ++ z) (names-spelled n (drop 20 b) (shorter 20 n b len)) ∙ take-append-drop 20 b

pub names-are : (n : ℕ) (b : List ℕ) → length b ≡ 20 * n → IsBytes b → AllByRecursion IsName (names_read n b)
names-are zero b len fits = tt
names-are (suc n) b len fits =
    ((omega (arith, len, length-take {A = ℕ} 20 b), bytes-each (take 20 b) (bytes-take 20 b fits)), names-are n (drop 20 b) (shorter 20 n b len) (bytes-behind 20 b fits))

pub names-size : (names : List Name) → AllByRecursion IsName names → length (names_bytes names) ≡ 20 * length names
names-size [] h = refl
names-size (name ∷ names) h =
    let front = h.0.0 in
    ap (length {A = ℕ}) (flat_map-cons (λ (x : Name). x) name names) ∙ omega (arith, front, length-append name (names_bytes names), names-size names h.1)

pub names-again : (names : List Name) → AllByRecursion IsName names → names_read (length names) (names_bytes names) ≡ names
names-again [] h = refl
names-again (name ∷ names) h =
    let whole = flat_map-cons (λ (x : Name). x) name names in
    let front = ap (take 20) whole ∙ take_at name (names_bytes names) 20 h.0.0 in
    let back = ap (drop 20) whole ∙ drop_at name (names_bytes names) 20 h.0.0 in
    rw (front, back) (ap (λ (z : List Name). name ∷ z) (names-again names h.1))

pub name-at : (n i : ℕ) (b : List ℕ) → i < n → slice_get (names_read n b) i ≡ Some (take 20 (drop (20 * i) b))
name-at zero i b lt = absurd (omega (arith, lt))
name-at (suc n) zero b lt = refl
name-at (suc n) (suc i) b lt =
    let place : 20 + 20 * i ≡ 20 * suc i = omega arith in
    name-at n i (drop 20 b) (omega (arith, lt)) ∙ ap (λ (z : List ℕ). Some (take 20 z)) (drop-drop (20 * i) 20 b ∙ ap (λ (k : ℕ). drop k b) place)

-- ---- known ids with their names

pub knowns-length : (n : ℕ) (b : List ℕ) → length (knowns_in n b) ≡ n
knowns-length zero b = refl
knowns-length (suc n) b = ap suc (knowns-length n (drop 28 b))

pub ids-length : (n : ℕ) (b : List ℕ) → length (ids_in n b) ≡ n
ids-length zero b = refl
ids-length (suc n) b = ap suc (ids-length n (drop 28 b))

pub known-at : (n i : ℕ) (b : List ℕ) → i < n → slice_get (knowns_in n b) i ≡ Some (known_in (drop (28 * i) b))
known-at zero i b lt = absurd (omega (arith, lt))
known-at (suc n) zero b lt = refl
known-at (suc n) (suc i) b lt =
    let place : 28 + 28 * i ≡ 28 * suc i = omega arith in
    known-at n i (drop 28 b) (omega (arith, lt)) ∙ ap (λ (z : List ℕ). Some (known_in z)) (drop-drop (28 * i) 28 b ∙ ap (λ (k : ℕ). drop k b) place)

pub id-at : (n i : ℕ) (b : List ℕ) → i < n → get_or (ids_in n b) i 0 ≡ from_be_bytes w64 (take 8 (drop (28 * i) b))
id-at zero i b lt = absurd (omega (arith, lt))
id-at (suc n) zero b lt = refl
id-at (suc n) (suc i) b lt =
    let place : 28 + 28 * i ≡ 28 * suc i = omega arith in
    id-at n i (drop 28 b) (omega (arith, lt)) ∙ ap (λ (z : List ℕ). from_be_bytes w64 (take 8 z)) (drop-drop (28 * i) 28 b ∙ ap (λ (k : ℕ). drop k b) place)

known-spelled : (b : List ℕ) → 28 ≤ length b → IsBytes b → known_bytes (known_in b) ++ drop 28 b ≡ b
known-spelled b le fits =
    let len : length (take 8 b) ≡ 8 = omega (arith, le, length-take {A = ℕ} 8 b) in
    let id = be_bytes_8 (take 8 b) (from_be_bytes w64 (take 8 b)) len (bytes-take 8 b fits) refl in
    let name : take 20 (drop 8 b) ++ drop 28 b ≡ drop 8 b = ap (λ (z : List ℕ). take 20 (drop 8 b) ++ z) (sym (drop-drop 20 8 b)) ∙ take-append-drop 20 (drop 8 b) in
    append_assoc (to_be_bytes w64 (from_be_bytes w64 (take 8 b))) (take 20 (drop 8 b)) (drop 28 b)
    ∙ ap (λ (z : List ℕ). z ++ (take 20 (drop 8 b) ++ drop 28 b)) id ∙ ap (λ (z : List ℕ). take 8 b ++ z) name ∙ take-append-drop 8 b

pub knowns-spelled : (n : ℕ) (b : List ℕ) → length b ≡ 28 * n → IsBytes b → flat_map known_bytes (knowns_in n b) ≡ b
knowns-spelled zero b len fits = sym (nil_from_length b (omega (arith, len)))
knowns-spelled (suc n) b len fits =
    flat_map-cons known_bytes (known_in b) (knowns_in n (drop 28 b))
    ∙ ap (λ (z : List ℕ). known_bytes (known_in b) ++ z) (knowns-spelled n (drop 28 b) (shorter 28 n b len) (bytes-behind 28 b fits))
    ∙ known-spelled b (omega (arith, len)) fits

pub knowns-are : (n : ℕ) (b : List ℕ) → length b ≡ 28 * n → IsBytes b → AllByRecursion IsName (map (λ k. k.name) (knowns_in n b))
knowns-are zero b len fits = tt
knowns-are (suc n) b len fits =
    ((omega (arith, len, length-take {A = ℕ} 20 (drop 8 b), length-drop {A = ℕ} 8 b), bytes-each (take 20 (drop 8 b)) (bytes-take 20 (drop 8 b) (bytes-behind 8 b fits))), knowns-are n (drop 28 b) (shorter 28 n b len) (bytes-behind 28 b fits))

-- what has a spelling
pub record FitsKnown (k : Known) : Type 0 where
  pub id : k.id < 2 ^ 64
  pub name : length k.name ≡ 20

pub knowns-size : (ks : List Known) → AllByRecursion FitsKnown ks → length (flat_map known_bytes ks) ≡ 28 * length ks
knowns-size [] h = refl
knowns-size (k ∷ ks) h =
    let front = h.0.name in
    ap (length {A = ℕ}) (flat_map-cons known_bytes k ks) ∙ omega (arith, front, length-append (known_bytes k) (flat_map known_bytes ks), length-append (to_be_bytes w64 k.id) k.name, knowns-size ks h.1)

known-again : (k : Known) (rest : List ℕ) → FitsKnown k → known_in (known_bytes k ++ rest) ≡ k
known-again k rest h =
    let whole = append_assoc (to_be_bytes w64 k.id) k.name rest in
    let id : from_be_bytes w64 (take 8 (known_bytes k ++ rest)) ≡ k.id = from_be_bytes-to_be_bytes_8 k.id h.id in
    let name : take 20 (drop 8 (known_bytes k ++ rest)) ≡ k.name = take_at k.name rest 20 h.name in
    rw (id, name) refl

pub knowns-again : (ks : List Known) → AllByRecursion FitsKnown ks → knowns_in (length ks) (flat_map known_bytes ks) ≡ ks
knowns-again [] h = refl
knowns-again (k ∷ ks) h =
    let whole = flat_map-cons known_bytes k ks in
    let len : length (known_bytes k) ≡ 28 = let n = h.0.name in omega (arith, n, length-append (to_be_bytes w64 k.id) k.name) in
    let back = ap (drop 28) whole ∙ drop_at (known_bytes k) (flat_map known_bytes ks) 28 len in
    let front = ap known_in whole ∙ known-again k (flat_map known_bytes ks) h.0 in
    ap (λ (z : Known). z ∷ knowns_in (length ks) (drop 28 (flat_map known_bytes (k ∷ ks)))) front
    ∙ ap (λ (z : List ℕ). k ∷ knowns_in (length ks) z) back ∙ ap (λ (z : List Known). k ∷ z) (knowns-again ks h.1)
