-- The held bytes as a part of the buffer.
use Rattle.std.proofs.Common.{subst, ℕ, ◌≤◌, ◌+◌, ◌-◌, ◌≡◌, List, ◌∷◌, ◌++◌, length, take, drop, refl, sym, ◌∙◌, ap, arith, Some, None, length-append, length-take, length-drop, append_assoc, append-nil}
use Rattle.std.specs.Prelude.{position, ◌==◌}
use Rattle.std.proofs.Math.Seq.{take-append-add}
use Rattle.std.proofs.lemmas.List.{take-append-drop, drop-take, drop-drop, take-append-le, drop-append-le, length-take-le}
use Rattle.std.proofs.lemmas.List.{with_items_is}
use Rattle.std.specs.Vec.{with_items}
use Rattle.std.specs.Prelude.{Vec}
use borrow.Rule.Slice.PartMut.{put_mid}
use Rattle.outside.specs.Parts.{HasNone}
use Rattle.outside.proofs.PartsLemmas.{none-append, position-none, position-some}
use Rattle.line_io.specs.Steps.{EndsAt}

-- the held bytes behind the first n of them
pub held-behind : (buffer : List ℕ) (start end n : ℕ) → start + n ≤ end
    → take (end - (start + n)) (drop (start + n) buffer) ≡ drop n (take (end - start) (drop start buffer))
held-behind buffer start end n fits =
    let rest = end - (start + n) in
    let count : end - start ≡ n + rest = omega arith in
    rw (count, drop-take n rest (drop start buffer), drop-drop n start buffer) refl

-- no line feed among the bytes that were scanned and those behind them
pub none-scanned : (held : List ℕ) (scanned : ℕ) → HasNone 10 (take scanned held)
    → position (λ b. b == 10) (drop scanned held) ≡ None → HasNone 10 held
none-scanned held scanned front h =
    subst (HasNone 10) (take-append-drop scanned held) (none-append 10 (take scanned held) (drop scanned held) front (position-none 10 (drop scanned held) h))

-- the first line feed behind the bytes that were scanned
pub ends-scanned : (held : List ℕ) (scanned ahead : ℕ) → scanned ≤ length held → HasNone 10 (take scanned held)
    → position (λ b. b == 10) (drop scanned held) ≡ Some ahead → EndsAt held (scanned + ahead)
ends-scanned held scanned ahead within front h =
    let at = position-some 10 (drop scanned held) ahead h in
    let size = length-take-le scanned held within in
    let join = take-append-drop scanned held in
    let taken : take (scanned + ahead) held ≡ take scanned held ++ take ahead (drop scanned held) =
    rw (size, join) at (take-append-add (take scanned held) (drop scanned held) ahead) in
    let count : scanned + ahead + 1 ≡ scanned + (ahead + 1) = omega arith in
    let behind : drop (scanned + ahead + 1) held ≡ drop (ahead + 1) (drop scanned held) = rw count (sym (drop-drop (ahead + 1) scanned held)) in
    record {
      below = omega (arith, at.below, length-drop scanned held);
      part = rw taken (none-append 10 (take scanned held) (take ahead (drop scanned held)) front at.part);
      whole = sym join ∙ ap (λ xs. take scanned held ++ xs) at.whole ∙ sym (append_assoc (take scanned held) (take ahead (drop scanned held)) (10 ∷ drop (ahead + 1) (drop scanned held))) ∙ rw (taken, behind) refl;
    }

-- the front of a part that is followed by what came
taken : (held out rest : List ℕ) (a n : ℕ) → length held ≡ a → n ≤ length out
    → take (a + n) (held ++ (out ++ rest)) ≡ held ++ take n out
taken held out rest a n size fits =
    rw (← size, take-append-add held (out ++ rest) n, take-append-le n out rest fits) refl

-- n bytes came behind the k held ones from s on
filled-held : (moved out : List ℕ) (s k n : ℕ) → s + k ≤ length moved → n ≤ length out
    → take (s + k + n - s) (drop s (put_mid (s + k) (length moved - (s + k)) moved out)) ≡ take k (drop s moved) ++ take n out
filled-held moved out s k n within fits =
    let front = take (s + k) moved in
    let behind = drop (length moved - (s + k)) (drop (s + k) moved) in
    let size : s ≤ length front = omega (arith, length-take (s + k) moved) in
    let held : length (take k (drop s moved)) ≡ k = omega (arith, length-take k (drop s moved), length-drop s moved) in
    let count : s + k + n - s ≡ k + n = omega arith in
    rw (count, drop-append-le s front (out ++ behind) size, drop-take s k moved) (taken (take k (drop s moved)) out behind k n held fits)

-- none came
still-held : (moved out : List ℕ) (s k : ℕ) → s + k ≤ length moved
    → take (s + k - s) (drop s (put_mid (s + k) (length moved - (s + k)) moved out)) ≡ take k (drop s moved)
still-held moved out s k within =
    let count : s + k - s ≡ s + k + 0 - s = omega arith in
    rw count (filled-held moved out s k 0 within (omega arith) ∙ append-nil (take k (drop s moved)))

-- a buffer keeps its length
length-filled : (moved out : List ℕ) (start size : ℕ) → start + size ≡ length moved → length out ≡ size
    → length (put_mid start size moved out) ≡ length moved
length-filled moved out start size e h = grind (arith, length-append, length-take, length-drop)

-- the buffer once the held bytes begin at s and bytes were put behind them
pub record Refilled {Z : Type 0} (v : Vec ℕ Z) (moved now out held : List ℕ) (s k : ℕ) : Type 0 where
  pub size : length now ≡ 65536
  pub whole : (with_items (with_items v moved) (put_mid (s + k) (length now - (s + k)) now out)).items ≡ put_mid (s + k) (length now - (s + k)) now out
  pub buffer : length (put_mid (s + k) (length now - (s + k)) now out) ≡ 65536
  pub still : take (s + k - s) (drop s (put_mid (s + k) (length now - (s + k)) now out)) ≡ held
  pub came : (n : ℕ) → n ≤ length out → take (s + k + n - s) (drop s (put_mid (s + k) (length now - (s + k)) now out)) ≡ held ++ take n out

pub refilled : {Z : Type 0} (v : Vec ℕ Z) (was moved now out : List ℕ) (start s k : ℕ) → length v.items ≡ 65536 → was ≡ v.items
    → length moved ≡ length was → now ≡ (with_items v moved).items → take k (drop s moved) ≡ take k (drop start was)
    → s + k ≤ length was → length out ≡ length now - (s + k) → Refilled v moved now out (take k (drop start v.items)) s k
refilled v was moved now out start s k size first len back part within fits =
    let all_moved : length moved ≡ 65536 = len ∙ ap (λ (xs : List ℕ). length xs) first ∙ size in
    let now_is : now ≡ moved = back ∙ with_items_is v moved (all_moved ∙ sym size ∙ sym v.ok.0) in
    let all : length now ≡ 65536 = ap (λ (xs : List ℕ). length xs) now_is ∙ all_moved in
    let bound : s + k ≤ length now = omega (arith, ap (λ (xs : List ℕ). length xs) first) in
    let buffer = put_mid (s + k) (length now - (s + k)) now out in
    let full : length buffer ≡ 65536 = length-filled now out (s + k) (length now - (s + k)) (omega arith) fits ∙ all in
    let same : take k (drop s now) ≡ take k (drop start v.items) = rw now_is (part ∙ ap (λ xs. take k (drop start xs)) first) in
    record {
      size = all;
      whole = with_items_is (with_items v moved) buffer (full ∙ sym size ∙ sym v.ok.0);
      buffer = full;
      still = still-held now out s k bound ∙ same;
      came = λ n some. filled-held now out s k n bound some ∙ ap (λ xs. xs ++ take n out) same;
    }

-- what was scanned is scanned where more bytes came
pub none-more : (held more : List ℕ) (scanned : ℕ) → scanned ≤ length held → HasNone 10 (take scanned held) → HasNone 10 (take scanned (held ++ more))
none-more held more scanned within h = rw (take-append-le scanned held more within) h
