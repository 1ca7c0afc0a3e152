-- Lemmas on bytes cut at a byte.
use Rattle.std.proofs.Common.{◌≡◌, ◌==◌, ◌<◌, ◌+◌, ℕ, suc, Bool, true, false, List, [], ◌∷◌, ◌++◌, length, take, drop, get_or, refl, sym, ◌∙◌, ap, cond, arith, nat_lt, Some, None, add-one}
use Rattle.std.specs.Prelude.{if◌then◌else◌, position, not}
use Rattle.std.specs.List.{position_or_len, prefix_len}
use Rattle.std.proofs.Math.Seq.{drop-cons}
use Rattle.std.proofs.lemmas.List.{take-append-drop}
use Rattle.std.proofs.lemmas.List.Quantifiers.{position-Some}
use Rattle.std.proofs.lemmas.List.Sums.{prefix_len_passes}
use Rattle.std.proofs.lemmas.Grind.{common_steps}
use Rattle.outside.specs.Parts.{Cut, put_before, cut_at, HasNone, split_at}

one-part : (mark : ℕ) (c : Cut) → (if mark == mark then (let x : Cut = record { parts = [] ∷ c.parts; rest = c.rest } in x) else put_before mark c.parts c.rest) ≡ record { parts = [] ∷ c.parts; rest = c.rest }
one-part mark c = let same : (mark == mark) ≡ true = grind arith in rw same refl

-- the mark ends a part, whatever follows
pub cut-part : (mark : ℕ) (part rest : List ℕ) → HasNone mark part
    → cut_at mark (part ++ mark ∷ rest) ≡ record { parts = part ∷ (cut_at mark rest).parts; rest = (cut_at mark rest).rest }
cut-part mark [] rest h = one-part mark (cut_at mark rest)
cut-part mark (byte ∷ part) rest h = rw (h.0, cut-part mark part rest h.1) refl

-- bytes without the mark are no part
pub cut-rest : (mark : ℕ) (bytes : List ℕ) → HasNone mark bytes → cut_at mark bytes ≡ record { parts = []; rest = bytes }
cut-rest mark [] h = refl
cut-rest mark (byte ∷ bytes) h = rw (h.0, cut-rest mark bytes h.1) refl

-- the same of the bytes between the marks
pub split-part : (mark : ℕ) (part rest : List ℕ) → HasNone mark part → split_at mark (part ++ mark ∷ rest) ≡ part ∷ split_at mark rest
split-part mark part rest h = rw (cut-part mark part rest h) refl

pub split-rest : (mark : ℕ) (bytes : List ℕ) → HasNone mark bytes → split_at mark bytes ≡ bytes ∷ []
split-rest mark bytes h = rw (cut-rest mark bytes h) refl

-- two runs of bytes without the mark make one
pub none-append : (mark : ℕ) (xs ys : List ℕ) → HasNone mark xs → HasNone mark ys → HasNone mark (xs ++ ys)
none-append mark [] ys h k = k
none-append mark (x ∷ xs) ys h k = (h.0, none-append mark xs ys h.1 k)

pub none-front : (mark : ℕ) (xs ys : List ℕ) → HasNone mark (xs ++ ys) → HasNone mark xs
none-front mark [] ys h = tt
none-front mark (x ∷ xs) ys h = (h.0, none-front mark xs ys h.1)

-- none where none stands at any place
pub none-each : (mark : ℕ) (xs : List ℕ) → ((k : ℕ) (d : ℕ) → k < length xs → (get_or xs k d == mark) ≡ false) → HasNone mark xs
none-each mark [] h = tt
none-each mark (x ∷ xs) h = (h 0 0 (omega arith), none-each mark xs (λ k d below. h (suc k) d (omega (arith, below))))

none_by_test : (b : Bool) (n : ℕ) → cond b (Some n) None ≡ None → b ≡ false
none_by_test true n h = cc h
none_by_test false n h = refl

-- no place is found where no byte is the mark
pub position-none : (mark : ℕ) (bytes : List ℕ) → position (λ b. b == mark) bytes ≡ None → HasNone mark bytes
position-none mark bytes h = none-each mark bytes (λ k d below.
    let test = none_by_test (nat_lt (position_or_len (λ b. b == mark) bytes) (length bytes)) (position_or_len (λ b. b == mark) bytes) h in
    let before : k < prefix_len (λ b. not (b == mark)) bytes = grind arith in
    let passes = prefix_len_passes (λ b. not (b == mark)) bytes k d before in
    grind (arith, passes))

-- the place that is found is the first of the mark
pub record MarkAt (mark : ℕ) (bytes : List ℕ) (place : ℕ) : Type 0 where
  pub below : place < length bytes
  pub part : HasNone mark (take place bytes)
  pub whole : bytes ≡ take place bytes ++ mark ∷ drop (place + 1) bytes

pub position-some : (mark : ℕ) (bytes : List ℕ) (place : ℕ) → position (λ b. b == mark) bytes ≡ Some place → MarkAt mark bytes place
position-some mark bytes place h =
    let at = position-Some (λ b. b == mark) bytes place 0 h in
    let here : get_or bytes place 0 ≡ mark = grind (arith, at.1) in
    let from = drop-cons bytes place 0 at.0 in
    let behind : drop place bytes ≡ mark ∷ drop (place + 1) bytes = rw add-one (cc) in
    record {
      below = at.0;
      part = none-each mark (take place bytes) (λ k d below. grind (arith, common_steps, (position-Some (λ b. b == mark) bytes place d h).2 k));
      whole = sym (take-append-drop place bytes) ∙ ap (λ rest. take place bytes ++ rest) behind;
    }
