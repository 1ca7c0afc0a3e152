-- The texts of a log are read off its bytes.
use Rattle.std.proofs.Common.{◌≡◌, ◌≢◌, ◌≤◌, ◌<◌, inl, inr, ℕ, zero, suc, ◌^◌, Bool, true, false, List, [], ◌∷◌, ◌++◌, Option, Some, None, length, take, drop, refl, sym, ap, ap₂, ◌∙◌, arith, take_at, drop_at, length-append, nat_eq, nat_lt, nat_le, if◌then◌else◌}
use Rattle.std.specs.Option.{option_map}
use Rattle.std.specs.Int.{w64, to_be_bytes, from_be_bytes}
use Rattle.std.specs.List.{AllByRecursion}
use Rattle.std.proofs.lemmas.Bool.{ne_eqb, le-ltb, le-leb, leb-true, false_from_ne_true}
use Rattle.std.proofs.lemmas.Nat.{from_be_bytes-to_be_bytes_8}
use Rattle.gated_log.specs.Log.{IsLog, HasLength, batches}
use Rattle.gated_log.proofs.Reading.{regrouped}
use Rattle.gated_log.proofs.Shapes.{count-le}
use Rattle.segment_codec.specs.Reading.{◌>>=◌}
use Rattle.batch_codec.specs.Reading.{fixed_at, piece_at}
use Rattle.remote_store.specs.Told.{text_behind, with_text, texts_from, texts_in, texts_within}

-- a choice by a test
chosen : {X : Type 0} (b c : Bool) (x y : X) → b ≡ c → (if b then x else y) ≡ (if c then x else y)
chosen b c x y e = ap (λ (z : Bool). if z then x else y) e

-- a piece in front of other bytes
front-piece : (text rest : List ℕ) → piece_at (length text) (text ++ rest) ≡ Some (text, rest)
front-piece text rest =
    let l = length-append text rest in
    chosen (nat_lt (length (text ++ rest)) (length text)) false None (Some (take (length text) (text ++ rest), drop (length text) (text ++ rest))) (le-ltb (length (text ++ rest)) (length text) (omega (arith, l)))
    ∙ ap₂ (λ a b. Some (a, b)) (take_at text rest (length text) refl) (drop_at text rest (length text) refl)

-- a length in front of other bytes
front-length : (n : ℕ) (rest : List ℕ) → n < 2 ^ 64 → fixed_at w64 (to_be_bytes w64 n ++ rest) ≡ Some (n, rest)
front-length n rest lt =
    let l = length-append (to_be_bytes w64 n) rest in
    let size : length (to_be_bytes w64 n) ≡ 8 = refl in
    chosen (nat_lt (length (to_be_bytes w64 n ++ rest)) 8) false None (Some (from_be_bytes w64 (take 8 (to_be_bytes w64 n ++ rest)), drop 8 (to_be_bytes w64 n ++ rest))) (le-ltb (length (to_be_bytes w64 n ++ rest)) 8 (omega (arith, l, size)))
    ∙ ap₂ (λ a b. Some (a, b)) (ap (from_be_bytes w64) (take_at (to_be_bytes w64 n) rest 8 size) ∙ from_be_bytes-to_be_bytes_8 n lt) (drop_at (to_be_bytes w64 n) rest 8 size)

front-text : (text rest : List ℕ) → HasLength text → text_behind (to_be_bytes w64 (length text) ++ (text ++ rest)) ≡ Some (text, rest)
front-text text rest ok = ap (λ (o : Option (ℕ × List ℕ)). o >>= (λ c. piece_at c.0 c.1)) (front-length (length text) (text ++ rest) ok) ∙ front-piece text rest

-- batches up to a closed gate
pub texts-from : (texts : List (List ℕ)) (gate : ℕ) (behind : List ℕ) (most : ℕ) → AllByRecursion HasLength texts → gate ≢ 1 → length texts < most → texts_from most (batches texts ++ gate ∷ behind) ≡ Some texts
texts-from texts gate behind zero ok closed lt = absurd (omega (arith, lt))
texts-from [] gate behind (suc most) ok closed lt = chosen (nat_eq gate 1) false (with_text (text_behind behind) (texts_from most)) (Some []) (ne_eqb gate 1 closed)
texts-from (text ∷ more) gate behind (suc most) ok closed lt =
    ap (λ l. with_text (text_behind l) (texts_from most)) (regrouped text more gate behind)
    ∙ ap (λ o. with_text o (texts_from most)) (front-text text (batches more ++ gate ∷ behind) ok.0)
    ∙ ap (option_map (λ texts. text ∷ texts)) (texts-from more gate behind most ok.1 closed (omega (arith, lt)))

pub log-texts : (bytes : List ℕ) (texts : List (List ℕ)) → IsLog bytes texts → texts_in bytes ≡ Some texts
log-texts bytes texts (inl h) = chosen (nat_le (length bytes) 1) true (Some []) (texts_from (length bytes) bytes) (le-leb (length bytes) 1 h.0) ∙ ap (λ z. Some z) (sym h.1)
log-texts bytes texts (inr h) =
    let long = h.0 in
    let few = count-le texts in
    let size = ap (length {A = ℕ}) h.5 in
    let l = length-append (batches texts) (h.2 ∷ h.3) in
    chosen (nat_le (length bytes) 1) false (Some []) (texts_from (length bytes) bytes) (false_from_ne_true (nat_le (length bytes) 1) (λ e. let le = leb-true (length bytes) 1 e in let z : ⊥ = omega (arith, le, long) in z))
    ∙ ap (texts_from (length bytes)) h.5
    ∙ texts-from texts h.2 h.3 (length bytes) h.1 h.4 (omega (arith, few, size, l))

pub within-texts : (limit : ℕ) (bytes : List ℕ) (texts : List (List ℕ)) → length bytes ≤ limit → IsLog bytes texts → texts_within limit bytes ≡ Some texts
within-texts limit bytes texts le h = chosen (nat_le (length bytes) limit) true (texts_in bytes) None (le-leb (length bytes) limit le) ∙ log-texts bytes texts h
