-- Reading one batch after another.
use Rattle.std.proofs.Common.{◌≡◌, ℕ, zero, suc, ◌≤◌, ◌<◌, ◌+◌, ◌-◌, ◌^◌, List, [], ◌∷◌, ◌++◌, length, get_or, take, drop, sym, ◌∙◌, ap, subst, arith, length-append, append_assoc, take-append-drop, lit<}
use Rattle.std.proofs.lemmas.List.{length-take-le, length-drop, drop_more, get_or-drop, drop-drop}
use Rattle.std.proofs.lemmas.Nat.{be_bytes_8}
use Rattle.std.specs.List.{AllByRecursion}
use Rattle.std.specs.Int.{w64, to_be_bytes, from_be_bytes}
use Rattle.gated_log.specs.Log.{batch, batches, HasLength, gates_of}
use Rattle.gated_log.proofs.Places.{gates_of-push}
use Rattle.gated_log.proofs.Shapes.{batches-push, lengths-push}

-- whole batches stand before this place, which is inside, and their gates at these places
pub record IsScanned (bytes open_gates : List ℕ) (at : ℕ) : Type 0 where
  pub done : List (List ℕ)
  pub lengths : AllByRecursion HasLength done
  pub whole : bytes ≡ batches done ++ drop at bytes
  pub place : at ≡ length (batches done)
  pub inside : at < length bytes
  pub opened : open_gates ≡ gates_of 0 done

gate_at : (bytes : List ℕ) (at : ℕ) → at < length bytes → drop at bytes ≡ get_or bytes at 0 ∷ drop (at + 1) bytes
gate_at bytes at inside = drop_more bytes at 0 inside

pub scanned_more : (bytes open_gates : List ℕ) (at size : ℕ) → ((i : ℕ) → get_or bytes i 0 < 256) → IsScanned bytes open_gates at → get_or bytes at 0 ≡ 1 → 9 ≤ length bytes - at - 1
    → size ≡ from_be_bytes w64 (take 8 (drop (at + 1) bytes)) → size < 2 ^ 64 → size ≤ length bytes - at - 1 - 9 → IsScanned bytes (open_gates ++ at ∷ []) (at + (9 + size))
scanned_more bytes open_gates at size fit s is_open room is small within =
    let behind = drop (at + 1) bytes in
    let tail = drop 8 behind in
    let p = take size tail in
    let next = drop (at + (9 + size)) bytes in
    let long : length behind ≡ length bytes - (at + 1) = length-drop (at + 1) bytes in
    let tail_long : length tail ≡ length behind - 8 = length-drop 8 behind in
    let p_long : length p ≡ size = length-take-le size tail (omega (arith, tail_long, long, room, within)) in
    let field : to_be_bytes w64 size ≡ take 8 behind = be_bytes_8 (take 8 behind) size (length-take-le 8 behind (omega (arith, long, room)))
    (λ i. byte i) is in
    let rest : drop size tail ≡ next = drop-drop size 8 behind ∙ drop-drop (8 + size) (at + 1) bytes ∙ ap (λ n. drop n bytes) (let e : at + 1 + (8 + size) ≡ at + (9 + size) = omega arith in e) in
    let split : behind ≡ to_be_bytes w64 (length p) ++ (p ++ next) =
    sym (take-append-drop 8 behind) ∙ ap (λ l. l ++ tail) (sym field ∙ ap (to_be_bytes w64) (sym p_long)) ∙ ap (λ l. to_be_bytes w64 (length p) ++ l) (sym (take-append-drop size tail) ∙ ap (λ l. p ++ l) rest) in
    let here : drop at bytes ≡ batch p ++ next =
    gate_at bytes at s.inside ∙ ap (λ g. g ∷ behind) is_open ∙ ap (λ l. 1 ∷ l) split ∙ ap (λ l. 1 ∷ l) (sym (append_assoc (to_be_bytes w64 (length p)) p next)) in
    let whole : bytes ≡ batches (s.done ++ p ∷ []) ++ next = s.whole ∙ ap (λ l. batches s.done ++ l) here ∙ sym (batches-push s.done p next) in
    let next_long : length next ≡ length bytes - (at + (9 + size)) = length-drop (at + (9 + size)) bytes in
    record {
      done = s.done ++ p ∷ [];
      lengths = lengths-push s.done p s.lengths (omega (arith, p_long, small));
      whole = whole;
      place = (let l = ap length whole in let k = length-append (batches (s.done ++ p ∷ [])) next in omega (arith, l, k, next_long, room, within, s.inside));
      inside = omega (arith, room, within, s.inside);
      opened = ap (λ l. l ++ at ∷ []) s.opened ∙ ap (λ k. gates_of 0 s.done ++ k ∷ []) (let p = s.place in let e : at ≡ 0 + length (batches s.done) = omega (arith, p) in e) ∙ sym (gates_of-push 0 s.done p);
    }
  where
    byte : (i : ℕ) → get_or (take 8 (drop (at + 1) bytes)) i 0 < 256
    byte i = below (take 8 (drop (at + 1) bytes)) (drop 8 (drop (at + 1) bytes)) i (subst (λ l. get_or l i 0 < 256) (sym (take-append-drop 8 (drop (at + 1) bytes))) (subst (λ b. b < 256) (sym (get_or-drop (at + 1) bytes i 0)) (fit (at + 1 + i))))
      where
        below : (xs ys : List ℕ) (i : ℕ) → get_or (xs ++ ys) i 0 < 256 → get_or xs i 0 < 256
        below [] ys i h = lit< tt
        below (x ∷ xs) ys zero h = h
        below (x ∷ xs) ys (suc i) h = below xs ys i h
