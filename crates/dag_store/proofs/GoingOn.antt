-- A log's file goes on as a log of what comes behind its payloads.
use Rattle.std.proofs.Common.{◌≡◌, ◌≤◌, refl, inl, inr, ⊎_elim, ℕ, List, [], ◌∷◌, ◌++◌, length, sym, ap, ◌∙◌, arith, append_assoc, length-append}
use Rattle.std.specs.List.{AllByRecursion}
use Rattle.std.proofs.lemmas.List.{append_cancel_left}
use Rattle.segment_codec.proofs.Tables.{le_or_lt}
use Rattle.gated_log.specs.Log.{IsLog, HasLength, batches}
use Rattle.gated_log.proofs.Growth.{batches-append}
use Rattle.payload_tables.proofs.Lists.{all-append}

behind-all : {X : Type 0} (P : X → Type 0) (xs ys : List X) → AllByRecursion P (xs ++ ys) → AllByRecursion P ys
behind-all P [] ys h = h
behind-all P (x ∷ xs) ys h = behind-all P xs ys h.1

none-behind : (ps more : List (List ℕ)) → ps ++ more ≡ [] → more ≡ []
none-behind [] more e = e
none-behind (p ∷ ps) more e = absurd (cc e)

-- a file of one byte has no batch
few-none : (more : List (List ℕ)) (gate : ℕ) (rest : List ℕ) → length (batches more ++ gate ∷ rest) ≤ 1 → more ≡ []
few-none [] gate rest le = refl
few-none (p ∷ more) gate rest le =
    let a = length-append (batches (p ∷ more)) (gate ∷ rest) in
    absurd (omega (arith, le, a))

pub rest-is-log : (ps more : List (List ℕ)) (bytes : List ℕ) → IsLog (batches ps ++ bytes) (ps ++ more) → IsLog bytes more
rest-is-log ps more bytes (inl h) = inl ((let l = length-append (batches ps) bytes in let le = h.0 in omega (arith, l, le)), none-behind ps more h.1)
rest-is-log ps more bytes (inr h) =
    let (many, lengths, gate, rest, closed, whole) = h in
    let e : bytes ≡ batches more ++ gate ∷ rest = append_cancel_left (batches ps) bytes (batches more ++ gate ∷ rest)
    (whole ∙ ap (λ l. l ++ gate ∷ rest) (batches-append ps more) ∙ append_assoc (batches ps) (batches more) (gate ∷ rest)) in
    ⊎_elim
    (λ few. inl (few, few-none more gate rest (let l = ap (length {A = ℕ}) e in omega (arith, few, l))))
    (λ lt. inr (lt, behind-all HasLength ps more lengths, gate, rest, closed, e))
    (le_or_lt (length bytes) 1)

pub whole-is-log : (ps more : List (List ℕ)) (bytes : List ℕ) → AllByRecursion HasLength ps → 2 ≤ length bytes → IsLog bytes more → IsLog (batches ps ++ bytes) (ps ++ more)
whole-is-log ps more bytes lengths many (inl h) = (let le = h.0 in absurd (omega (arith, le, many)))
whole-is-log ps more bytes lengths many (inr h) =
    let (_, own, gate, rest, closed, whole) = h in
    inr (
      (let l = length-append (batches ps) bytes in omega (arith, l, many)),
      all-append HasLength ps more lengths own,
      gate,
      rest,
      closed,
      ap (λ l. batches ps ++ l) whole ∙ sym (append_assoc (batches ps) (batches more) (gate ∷ rest)) ∙ ap (λ l. l ++ gate ∷ rest) (sym (batches-append ps more)),
    )
