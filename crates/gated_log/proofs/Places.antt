-- Where the batches of a log stand.
use Rattle.std.proofs.Common.{◌≡◌, ℕ, zero, suc, ◌≤◌, ◌<◌, ◌+◌, List, [], ◌∷◌, ◌++◌, length, get_or, take, drop, map, refl, sym, ◌∙◌, ap, subst, arith, length-append, append_assoc, take_at, drop_at}
use Rattle.std.proofs.lemmas.List.{get_or-map, length-map}
use Rattle.std.proofs.lemmas.Nat.{from_be_bytes-to_be_bytes_8}
use Rattle.std.specs.List.{AllByRecursion}
use Rattle.std.specs.Int.{w64, to_be_bytes, from_be_bytes}
use Rattle.gated_log.specs.Log.{batch, batches, HasLength, gates_of, log_length, StandBehind}
use Rattle.gated_log.specs.Held.{length_behind, payload_behind, payloads_at, gate_of, IsWhole}

-- one payload more has its gate behind the others' batches
pub gates_of-push : (n : ℕ) (ps : List (List ℕ)) (p : List ℕ) → gates_of n (ps ++ p ∷ []) ≡ gates_of n ps ++ (n + length (batches ps)) ∷ []
gates_of-push n [] p = ap (λ k. k ∷ []) (let e : n ≡ n + 0 = omega arith in e)
gates_of-push n (q ∷ ps) p = ap (λ l. n ∷ l) (gates_of-push (n + 9 + length q) ps p ∙ ap (λ k. gates_of (n + 9 + length q) ps ++ k ∷ [])
    (let e : n + 9 + length q + length (batches ps) ≡ n + length (batches (q ∷ ps)) = omega (arith, length-append (batch q) (batches ps), length-append (to_be_bytes w64 (length q)) q) in e))

-- what stands behind a gate
length-batch : (p : List ℕ) → length (batch p) ≡ 9 + length p
length-batch p = omega (arith, length-append (to_be_bytes w64 (length p)) p)

pub body-behind : (bytes front p rest : List ℕ) (at : ℕ) → bytes ≡ front ++ (batch p ++ rest) → at ≡ length front → drop (at + 9) bytes ≡ p ++ rest
body-behind bytes front p rest at is here =
    let field = to_be_bytes w64 (length p) in
    let head = front ++ (1 ∷ field) in
    let shape : bytes ≡ head ++ (p ++ rest) = is ∙ ap (λ l. front ++ l) (append_assoc (1 ∷ field) p rest) ∙ sym (append_assoc front (1 ∷ field) (p ++ rest)) in
    ap (drop (at + 9)) shape ∙ drop_at head (p ++ rest) (at + 9) (length-append front (1 ∷ field) ∙ (let e : length front + 9 ≡ at + 9 = omega (arith, here) in e))

pub size-behind : (bytes front p rest : List ℕ) (at : ℕ) → HasLength p → bytes ≡ front ++ (batch p ++ rest) → at ≡ length front → length_behind bytes at ≡ length p
size-behind bytes front p rest at ok is here =
    let field = to_be_bytes w64 (length p) in
    let head = front ++ (1 ∷ []) in
    let shape : bytes ≡ head ++ (field ++ (p ++ rest)) = is ∙ ap (λ l. front ++ l) (append_assoc (1 ∷ field) p rest) ∙ sym (append_assoc front (1 ∷ []) (field ++ (p ++ rest))) in
    let tail : drop (at + 1) bytes ≡ field ++ (p ++ rest) = ap (drop (at + 1)) shape ∙ drop_at head (field ++ (p ++ rest)) (at + 1) (length-append front (1 ∷ []) ∙ (let e : length front + 1 ≡ at + 1 = omega (arith, here) in e)) in
    ap (λ l. from_be_bytes w64 (take 8 l)) tail ∙ ap (from_be_bytes w64) (take_at field (p ++ rest) 8 refl) ∙ from_be_bytes-to_be_bytes_8 (length p) ok

payload_behind-batch : (bytes front p rest : List ℕ) (at : ℕ) → HasLength p → bytes ≡ front ++ (batch p ++ rest) → at ≡ length front → payload_behind bytes at ≡ p
payload_behind-batch bytes front p rest at ok is here =
    ap (λ n. take n (drop (at + 9) bytes)) (size-behind bytes front p rest at ok is here) ∙ ap (take (length p)) (body-behind bytes front p rest at is here) ∙ take_at p rest (length p) refl

-- the front with one batch more
moved : (bytes front p : List ℕ) (ps : List (List ℕ)) (rest : List ℕ) → bytes ≡ front ++ (batches (p ∷ ps) ++ rest) → bytes ≡ (front ++ batch p) ++ (batches ps ++ rest)
moved bytes front p ps rest is = is ∙ ap (λ l. front ++ l) (append_assoc (batch p) (batches ps) rest) ∙ sym (append_assoc front (batch p) (batches ps ++ rest))

first-batch : (bytes front p : List ℕ) (ps : List (List ℕ)) (rest : List ℕ) → bytes ≡ front ++ (batches (p ∷ ps) ++ rest) → bytes ≡ front ++ (batch p ++ (batches ps ++ rest))
first-batch bytes front p ps rest is = is ∙ ap (λ l. front ++ l) (append_assoc (batch p) (batches ps) rest)

next-front : (front p : List ℕ) (n : ℕ) → n ≡ length front → n + 9 + length p ≡ length (front ++ batch p)
next-front front p n here = omega (arith, length-append front (batch p), length-batch p, here)

both : {a b : List ℕ} {xs ys : List (List ℕ)} → a ≡ b → xs ≡ ys → a ∷ xs ≡ b ∷ ys
both e f = cc

payloads-map : (bytes front : List ℕ) (ps : List (List ℕ)) (rest : List ℕ) (n : ℕ) → AllByRecursion HasLength ps → bytes ≡ front ++ (batches ps ++ rest) → n ≡ length front → map (payload_behind bytes) (gates_of n ps) ≡ ps
payloads-map bytes front [] rest n ok is here = refl
payloads-map bytes front (p ∷ ps) rest n ok is here = both
    (payload_behind-batch bytes front p (batches ps ++ rest) n ok.0 (first-batch bytes front p ps rest is) here)
    (payloads-map bytes (front ++ batch p) ps rest (n + 9 + length p) ok.1 (moved bytes front p ps rest is) (next-front front p n here))

-- reading behind the gates gives the payloads back
pub payloads_at-gates : (bytes front : List ℕ) (ps : List (List ℕ)) (rest : List ℕ) (n : ℕ) → AllByRecursion HasLength ps → bytes ≡ front ++ (batches ps ++ rest) → n ≡ length front → payloads_at (gates_of n ps) bytes ≡ ps
unfolding payloads_at
payloads_at-gates bytes front ps rest n ok is here = payloads-map bytes front ps rest n ok is here

pub length-payloads_at : (gates bytes : List ℕ) → length (payloads_at gates bytes) ≡ length gates
unfolding payloads_at
length-payloads_at gates bytes = length-map gates (payload_behind bytes)

pub payloads_at-index : (gates bytes : List ℕ) (k : ℕ) → k < length gates → payload_behind bytes (get_or gates k 0) ≡ get_or (payloads_at gates bytes) k []
unfolding payloads_at
payloads_at-index gates bytes k below = sym (get_or-map (payload_behind bytes) gates k 0 [] below)

-- a batch ends inside
batch-inside : (bytes front : List ℕ) (ps : List (List ℕ)) (rest : List ℕ) (n k : ℕ) → AllByRecursion HasLength ps → bytes ≡ front ++ (batches ps ++ rest) → n ≡ length front → 1 ≤ length rest → k < length ps
    → get_or (gates_of n ps) k 0 + 9 + length_behind bytes (get_or (gates_of n ps) k 0) < length bytes
batch-inside bytes front [] rest n k ok is here some below = absurd (omega (arith, below))
batch-inside bytes front (p ∷ ps) rest n zero ok is here some below =
    let size = size-behind bytes front p (batches ps ++ rest) n ok.0 (first-batch bytes front p ps rest is) here in
    omega (arith, size, ap length (moved bytes front p ps rest is), length-append (front ++ batch p) (batches ps ++ rest), length-append (batches ps) rest, next-front front p n here, some)
batch-inside bytes front (p ∷ ps) rest n (suc k) ok is here some below =
    batch-inside bytes (front ++ batch p) ps rest (n + 9 + length p) k ok.1 (moved bytes front p ps rest is) (next-front front p n here) some (omega (arith, below))

pub inside : (gates bytes : List ℕ) (limit k : ℕ) → IsWhole gates bytes limit → k < length gates → get_or gates k 0 + 9 + length_behind bytes (get_or gates k 0) < length bytes
inside gates bytes limit k w below =
    subst (λ g. get_or g k 0 + 9 + length_behind bytes (get_or g k 0) < length bytes) (sym w.opened)
    (batch-inside bytes [] (payloads_at gates bytes) (gate_of bytes ∷ []) 0 k w.lengths w.whole refl (omega arith) (omega (arith, below, length-payloads_at gates bytes)))

-- each payload stands nine places behind its gate
stands : (front : List ℕ) (ps : List (List ℕ)) (rest : List ℕ) (n k : ℕ) → n ≡ length front → k < length ps
    → take (length (get_or ps k [])) (drop (get_or (gates_of n ps) k 0 + 9) (front ++ (batches ps ++ rest))) ≡ get_or ps k []
stands front [] rest n k here below = absurd (omega (arith, below))
stands front (p ∷ ps) rest n zero here below =
    ap (take (length p)) (body-behind (front ++ (batches (p ∷ ps) ++ rest)) front p (batches ps ++ rest) n (first-batch _ front p ps rest refl) here) ∙ take_at p (batches ps ++ rest) (length p) refl
stands front (p ∷ ps) rest n (suc k) here below =
    ap (λ l. take (length (get_or ps k [])) (drop (get_or (gates_of (n + 9 + length p) ps) k 0 + 9) l)) (moved _ front p ps rest refl)
    ∙ stands (front ++ batch p) ps rest (n + 9 + length p) k (next-front front p n here) (omega (arith, below))

pub payload-stands : (ps : List (List ℕ)) (gate k : ℕ) → k < length ps
    → take (length (get_or ps k [])) (drop (get_or (gates_of 0 ps) k 0 + 9) (batches ps ++ gate ∷ [])) ≡ get_or ps k []
payload-stands ps gate k below = stands [] ps (gate ∷ []) 0 k refl below

stand-from : (front : List ℕ) (ps : List (List ℕ)) (rest : List ℕ) (n : ℕ) → n ≡ length front → StandBehind n ps (front ++ (batches ps ++ rest))
stand-from front [] rest n here = tt
stand-from front (p ∷ ps) rest n here = (
  ap (take (length p)) (body-behind (front ++ (batches (p ∷ ps) ++ rest)) front p (batches ps ++ rest) n (first-batch _ front p ps rest refl) here) ∙ take_at p (batches ps ++ rest) (length p) refl,
  subst (StandBehind (n + 9 + length p) ps) (sym (moved _ front p ps rest refl)) (stand-from (front ++ batch p) ps rest (n + 9 + length p) (next-front front p n here)),
)

-- the payloads stand one behind the other
pub stand-behind : (ps : List (List ℕ)) (gate : ℕ) → StandBehind 0 ps (batches ps ++ gate ∷ [])
stand-behind ps gate = stand-from [] ps (gate ∷ []) 0 refl

pub length-log : (ps : List (List ℕ)) (gate : ℕ) → length (batches ps ++ gate ∷ []) ≡ log_length ps
length-log [] gate = refl
length-log (p ∷ ps) gate =
    omega (arith, length-append (batches (p ∷ ps)) (gate ∷ []), length-append (batch p) (batches ps), length-batch p, length-append (batches ps) (gate ∷ []), length-log ps gate)
