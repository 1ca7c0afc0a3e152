-- The bytes of a log in memory and on the disk.
use Rattle.std.proofs.Common.{◌≡◌, ◌≢◌, inl, inr, ℕ, zero, suc, ◌≤◌, ◌+◌, ◌-◌, ◌*◌, ◌^◌, List, [], ◌∷◌, ◌++◌, length, get_or, take, refl, sym, ◌∙◌, ap, subst, arith, length-append, append_assoc, take_at}
use Rattle.std.proofs.lemmas.List.{append-nil}
use Rattle.std.proofs.Math.Seq.{get_or-append_seam}
use Rattle.std.specs.List.{AllByRecursion}
use Rattle.std.specs.Int.{w64, to_be_bytes}
use Rattle.gated_log.specs.Log.{IsLog, batch, batches, HasLength, gates_of, StandsFrom}
use Rattle.gated_log.specs.Held.{payloads_at, gate_of, IsWhole, staged}
use Rattle.gated_log.proofs.Places.{payloads_at-gates, body-behind}

pub length-staged : (payload : List ℕ) → length (staged payload) ≡ length payload + 9
length-staged payload = omega (arith, length-append (to_be_bytes w64 (length payload)) (payload ++ 0 ∷ []), length-append payload (0 ∷ []))

-- one batch more behind the others
pub batches-push : (ps : List (List ℕ)) (p rest : List ℕ) → batches (ps ++ p ∷ []) ++ rest ≡ batches ps ++ (batch p ++ rest)
batches-push [] p rest = ap (λ l. l ++ rest) (append-nil (batch p))
batches-push (q ∷ ps) p rest = append_assoc (batch q) (batches (ps ++ p ∷ [])) rest ∙ ap (λ l. batch q ++ l) (batches-push ps p rest) ∙ sym (append_assoc (batch q) (batches ps) (batch p ++ rest))

-- a payload that is put behind others stands behind their batches, its gate and its length
pub stands-last : (ps : List (List ℕ)) (p : List ℕ) (gate : ℕ) → StandsFrom (length (batches ps ++ gate ∷ []) + 8) p (batches (ps ++ p ∷ []) ++ 0 ∷ [])
stands-last ps p gate =
    let place : length (batches ps) + 9 ≡ length (batches ps ++ gate ∷ []) + 8 = omega (arith, length-append (batches ps) (gate ∷ [])) in
    let bytes = batches (ps ++ p ∷ []) ++ 0 ∷ [] in
    subst (λ n. StandsFrom n p bytes) place
    (ap (take (length p)) (body-behind bytes (batches ps) p (0 ∷ []) (length (batches ps)) (batches-push ps p (0 ∷ [])) refl) ∙ take_at p (0 ∷ []) (length p) refl)

-- where the gate is opened, what was staged is a batch and a closed gate
pub opened : (ps : List (List ℕ)) (p rest : List ℕ) → batches ps ++ 1 ∷ (staged p ++ rest) ≡ batches (ps ++ p ∷ []) ++ 0 ∷ rest
opened ps p rest =
    let inner : staged p ++ rest ≡ (to_be_bytes w64 (length p) ++ p) ++ 0 ∷ rest = simp append_assoc in
    ap (λ l. batches ps ++ 1 ∷ l) inner ∙ sym (batches-push ps p (0 ∷ rest))

pub lengths-push : (ps : List (List ℕ)) (p : List ℕ) → AllByRecursion HasLength ps → HasLength p → AllByRecursion HasLength (ps ++ p ∷ [])
lengths-push [] p h k = (k, tt)
lengths-push (q ∷ ps) p h k = (h.0, lengths-push ps p h.1 k)

no_batch : (ps : List (List ℕ)) → length (batches ps) ≤ 0 → ps ≡ []
no_batch [] h = refl
no_batch (p ∷ ps) h = absurd (omega (arith, h))

by_size : (image : List ℕ) (ps : List (List ℕ)) (gate : ℕ) (rest : List ℕ) → AllByRecursion HasLength ps → gate ≢ 1 → (k : ℕ) → length image ≡ k → image ≡ batches ps ++ gate ∷ rest → IsLog image ps
by_size image ps gate rest ok shut zero e whole =
    inl (omega (arith, e), no_batch ps (let l = ap length whole ∙ length-append (batches ps) (gate ∷ rest) in omega (arith, e, l)))
by_size image ps gate rest ok shut (suc zero) e whole =
    inl (omega (arith, e), no_batch ps (let l = ap length whole ∙ length-append (batches ps) (gate ∷ rest) in omega (arith, e, l)))
by_size image ps gate rest ok shut (suc (suc k)) e whole = inr (omega (arith, e), ok, gate, rest, shut, whole)

-- batches and a closed gate are a log, whatever stands behind
pub is_log : (image : List ℕ) (ps : List (List ℕ)) (gate : ℕ) (rest : List ℕ) → AllByRecursion HasLength ps → gate ≢ 1 → image ≡ batches ps ++ gate ∷ rest → IsLog image ps
is_log image ps gate rest ok shut whole = by_size image ps gate rest ok shut (length image) refl whole

-- each batch takes nine bytes or more
pub count-le : (ps : List (List ℕ)) → 9 * length ps ≤ length (batches ps)
count-le [] = omega arith
count-le (p ∷ ps) = omega (arith, length-append (batch p) (batches ps), length-append (to_be_bytes w64 (length p)) p, count-le ps)

pub gate_of-log : (front : List ℕ) (gate : ℕ) → gate_of (front ++ gate ∷ []) ≡ gate
unfolding gate_of
gate_of-log front gate =
    let size : length (front ++ gate ∷ []) - 1 ≡ length front = omega (arith, length-append front (gate ∷ [])) in
    ap (λ n. get_or (front ++ gate ∷ []) n 0) size ∙ get_or-append_seam front gate [] 0

-- bytes of that shape are whole, and have these payloads
pub is_whole : (gates bytes : List ℕ) (limit : ℕ) (ps : List (List ℕ)) (gate : ℕ) → gates ≡ gates_of 0 ps → bytes ≡ batches ps ++ gate ∷ [] → AllByRecursion HasLength ps → gate ≢ 1 → length bytes ≤ limit → limit ≤ 2 ^ 32
    → IsWhole gates bytes limit × (payloads_at gates bytes ≡ ps) × (gate_of bytes ≡ gate)
is_whole gates bytes limit ps gate placed is ok shut fits largest =
    let payloads : payloads_at gates bytes ≡ ps = ap (λ g. payloads_at g bytes) placed ∙ payloads_at-gates bytes [] ps (gate ∷ []) 0 ok is refl in
    let last : gate_of bytes ≡ gate = ap gate_of is ∙ gate_of-log (batches ps) gate in (
      record {
        whole = is ∙ sym (ap (λ l. batches l ++ gate_of bytes ∷ []) payloads ∙ ap (λ g. batches ps ++ g ∷ []) last);
        opened = placed ∙ sym (ap (gates_of 0) payloads);
        closed = λ e. shut (sym last ∙ e);
        lengths = subst (AllByRecursion HasLength) (sym payloads) ok;
        within = fits;
        largest = largest;
      },
      payloads,
      last,
    )
