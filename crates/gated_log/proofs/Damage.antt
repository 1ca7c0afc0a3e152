-- Bytes are a log or damaged, and in one way.
use Rattle.std.proofs.Common.{◌≡◌, ◌≢◌, ◌<◌, ◌≤◌, ◌+◌, ◌^◌, ℕ, zero, suc, Bool, true, false, ◌⊎◌, inl, inr, List, [], ◌∷◌, ◌++◌, length, take, drop, get_or, refl, sym, ap, ap₂, ◌∙◌, ⊎_elim, arith, length-append, take-append-drop, take_at, lit<}
use Rattle.std.specs.Prelude.{nat_lt}
use Rattle.std.specs.List.{AllByRecursion}
use Rattle.std.specs.Int.{w64, to_be_bytes, from_be_bytes}
use Rattle.std.proofs.lemmas.Nat.{from_be_bytes-to_be_bytes_8, be_bytes_8}
use Rattle.std.proofs.lemmas.List.{length-take-le, length-drop}
use Rattle.std.proofs.lemmas.Bool.{eqb-false, ltb-true, ltb-false}
use Rattle.gated_log.specs.Log.{IsLog, IsDamaged, RunsPastEnd, HasLength, batches}
use Rattle.gated_log.proofs.Reading.{heads-same, tails-same, regrouped, peeled}

-- a whole batch and a byte behind it don't run past the end
whole-batch : (p rest behind : List ℕ) → HasLength p → 1 ≤ length rest → behind ≡ to_be_bytes w64 (length p) ++ (p ++ rest) → RunsPastEnd behind → ⊥
whole-batch p rest behind ok one e past =
    let size : length behind ≡ 8 + length (p ++ rest) = ap length e ∙ length-append (to_be_bytes w64 (length p)) (p ++ rest) in
    let more = length-append p rest in
    let field : from_be_bytes w64 (take 8 behind) ≡ length p =
    ap (λ l. from_be_bytes w64 (take 8 l)) e ∙ ap (from_be_bytes w64) (take_at (to_be_bytes w64 (length p)) (p ++ rest) 8 refl) ∙ from_be_bytes-to_be_bytes_8 (length p) ok in
    ⊎_elim (λ lt. absurd (omega (arith, size, lt))) (λ lt. absurd (omega (arith, size, more, field, one, lt))) past

some-behind : (ps : List (List ℕ)) (g : ℕ) (x : List ℕ) → 1 ≤ length (batches ps ++ g ∷ x)
some-behind ps g x = let e = length-append (batches ps) (g ∷ x) in omega (arith, e)

apart-list : (ps qs : List (List ℕ)) (g : ℕ) (x y : List ℕ) → AllByRecursion HasLength ps → AllByRecursion HasLength qs → g ≢ 1 → batches ps ++ g ∷ x ≡ batches qs ++ 1 ∷ y → RunsPastEnd y → ⊥
apart-list [] [] g x y ok ok' ng e past = ng (heads-same g 1 _ _ e)
apart-list [] (q ∷ qs) g x y ok ok' ng e past = ng (heads-same g 1 _ _ e)
apart-list (p ∷ ps) [] g x y ok ok' ng e past = whole-batch p (batches ps ++ g ∷ x) y ok.0 (some-behind ps g x) (sym (tails-same 1 1 _ _ e) ∙ regrouped p ps g x) past
apart-list (p ∷ ps) (q ∷ qs) g x y ok ok' ng e past = apart-list ps qs g x y ok.1 ok'.1 ng (peeled p q ps qs g 1 x y ok.0 ok'.0 e).1 past

-- no log is damaged
pub log-or-damaged : (bytes : List ℕ) (ps : List (List ℕ)) (at : ℕ) → IsLog bytes ps → IsDamaged bytes at → ⊥
log-or-damaged bytes ps at (inl h) d = absurd (omega (arith, h.0, d.0))
log-or-damaged bytes ps at (inr h) d = apart-list ps d.1 h.2 h.3 d.2 h.1 d.3 h.4 (sym h.5 ∙ d.4) d.6

same-damage : (ps qs : List (List ℕ)) (x y : List ℕ) → AllByRecursion HasLength ps → AllByRecursion HasLength qs → batches ps ++ 1 ∷ x ≡ batches qs ++ 1 ∷ y → RunsPastEnd x → RunsPastEnd y → ps ≡ qs
same-damage [] [] x y ok ok' e past past' = refl
same-damage [] (q ∷ qs) x y ok ok' e past past' = absurd (whole-batch q (batches qs ++ 1 ∷ y) x ok'.0 (some-behind qs 1 y) (tails-same 1 1 _ _ e ∙ regrouped q qs 1 y) past)
same-damage (p ∷ ps) [] x y ok ok' e past past' = absurd (whole-batch p (batches ps ++ 1 ∷ x) y ok.0 (some-behind ps 1 x) (sym (tails-same 1 1 _ _ e) ∙ regrouped p ps 1 x) past')
same-damage (p ∷ ps) (q ∷ qs) x y ok ok' e past past' =
    let r = peeled p q ps qs 1 1 x y ok.0 ok'.0 e in
    ap₂ (λ a b. a ∷ b) r.0 (same-damage ps qs x y ok.1 ok'.1 r.1 past past')

-- bytes are damaged at one place
pub one-place : (bytes : List ℕ) (a b : ℕ) → IsDamaged bytes a → IsDamaged bytes b → a ≡ b
one-place bytes a b h k = h.5 ∙ ap (λ ps. length (batches ps)) (same-damage h.1 k.1 h.2 k.2 h.3 k.3 (sym h.4 ∙ k.4) h.6 k.6) ∙ sym k.5

pub below-or-not : (a b : ℕ) → (a < b) ⊎ (b ≤ a)
below-or-not a b = by_test (nat_lt a b) refl
  where
    by_test : (t : Bool) → nat_lt a b ≡ t → (a < b) ⊎ (b ≤ a)
    by_test true e = inl (ltb-true a b e)
    by_test false e = inr (ltb-false a b e)

all-take : (P : ℕ → Type 0) (n : ℕ) (xs : List ℕ) → AllByRecursion P xs → AllByRecursion P (take n xs)
all-take P zero xs h = tt
all-take P (suc n) [] h = tt
all-take P (suc n) (x ∷ xs) h = (h.0, all-take P n xs h.1)

all-drop : (P : ℕ → Type 0) (n : ℕ) (xs : List ℕ) → AllByRecursion P xs → AllByRecursion P (drop n xs)
all-drop P zero xs h = h
all-drop P (suc n) [] h = tt
all-drop P (suc n) (x ∷ xs) h = all-drop P n xs h.1

byte-at : (xs : List ℕ) → AllByRecursion (λ b. b < 256) xs → (i : ℕ) → get_or xs i 0 < 256
byte-at [] h i = lit< tt
byte-at (x ∷ xs) h zero = h.0
byte-at (x ∷ xs) h (suc i) = byte-at xs h.1 i

-- batches with a closed gate behind them, or with an open one whose batch runs past the end
abbrev IsFramed : List ℕ → Type 0
IsFramed bytes = (ps : List (List ℕ)) × (gate : ℕ) × (behind : List ℕ) × AllByRecursion HasLength ps × (gate ≢ 1) × (bytes ≡ batches ps ++ gate ∷ behind)

abbrev IsBroken : List ℕ → Type 0
IsBroken bytes = (ps : List (List ℕ)) × (behind : List ℕ) × AllByRecursion HasLength ps × (bytes ≡ batches ps ++ 1 ∷ behind) × RunsPastEnd behind

framed : (n : ℕ) (bytes : List ℕ) → length bytes ≤ n → 1 ≤ length bytes → length bytes < 2 ^ 64 → AllByRecursion (λ b. b < 256) bytes → IsFramed bytes ⊎ IsBroken bytes
framed n [] le one short all = absurd (omega (arith, one))
framed zero (b ∷ bs) le one short all = absurd (omega (arith, le))
framed (suc n) (zero ∷ bs) le one short all = inl ([], 0, bs, tt, (λ f. absurd (eqb-false 0 1 refl f)), refl)
framed (suc n) (suc (suc b) ∷ bs) le one short all = inl ([], suc (suc b), bs, tt, (λ f. absurd (omega (arith, f))), refl)
framed (suc n) (suc zero ∷ bs) le one short all =
    ⊎_elim (λ lt. inr ([], bs, tt, refl, inl lt))
    (λ eight. ⊎_elim (λ lt. inr ([], bs, tt, refl, inr lt)) (λ whole. opened eight whole (λ rest. framed n rest)) (below-or-not (length bs) (8 + from_be_bytes w64 (take 8 bs) + 1)))
    (below-or-not (length bs) 8)
  where
    opened : 8 ≤ length bs → 8 + from_be_bytes w64 (take 8 bs) + 1 ≤ length bs
        → ((rest : List ℕ) → length rest ≤ n → 1 ≤ length rest → length rest < 2 ^ 64 → AllByRecursion (λ b. b < 256) rest → IsFramed rest ⊎ IsBroken rest) → IsFramed (1 ∷ bs) ⊎ IsBroken (1 ∷ bs)
    opened eight whole rec =
        let m = from_be_bytes w64 (take 8 bs) in
        let p = take m (drop 8 bs) in
        let rest = drop m (drop 8 bs) in
        let dropped = length-drop 8 bs in
        let fits : m ≤ length (drop 8 bs) = omega (arith, whole, dropped) in
        let size : length p ≡ m = length-take-le m (drop 8 bs) fits in
        let left = length-drop m (drop 8 bs) in
        let head : to_be_bytes w64 (length p) ≡ take 8 bs = be_bytes_8 (take 8 bs) (length p) (length-take-le 8 bs eight) (byte-at (take 8 bs) (all-take (λ b. b < 256) 8 bs all.1)) size in
        let ok : HasLength p = omega (arith, size, fits, dropped, short) in
        let split : bs ≡ to_be_bytes w64 (length p) ++ (p ++ rest) =
        sym (take-append-drop 8 bs) ∙ ap₂ (λ a b. a ++ b) (sym head) (sym (take-append-drop m (drop 8 bs))) in
        let around : (ps : List (List ℕ)) (g : ℕ) (x : List ℕ) → rest ≡ batches ps ++ g ∷ x → 1 ∷ bs ≡ batches (p ∷ ps) ++ g ∷ x =
        λ ps g x e. ap (λ l. 1 ∷ l) (split ∙ ap (λ l. to_be_bytes w64 (length p) ++ (p ++ l)) e ∙ sym (regrouped p ps g x)) in
        ⊎_elim
        (λ f. inl (p ∷ f.0, f.1, f.2, (ok, f.3), f.4, around f.0 f.1 f.2 f.5))
        (λ f. inr (p ∷ f.0, f.1, (ok, f.2), around f.0 1 f.1 f.3, f.4))
        (rec rest (omega (arith, left, dropped, le)) (omega (arith, left, dropped, whole)) (omega (arith, left, dropped, short)) (all-drop (λ b. b < 256) m (drop 8 bs) (all-drop (λ b. b < 256) 8 bs all.1)))

-- bytes are a log, or damaged
pub log-decided : (bytes : List ℕ) → length bytes < 2 ^ 64 → AllByRecursion (λ b. b < 256) bytes → ((ps : List (List ℕ)) × IsLog bytes ps) ⊎ ((at : ℕ) × IsDamaged bytes at)
log-decided bytes short all =
    ⊎_elim (λ lt. inl ([], inl (omega (arith, lt), refl)))
    (λ two. ⊎_elim
    (λ f. inl (f.0, inr (two, f.3, f.1, f.2, f.4, f.5)))
    (λ f. inr (length (batches f.0), (two, f.0, f.1, f.2, f.3, refl, f.4)))
    (framed (length bytes) bytes (omega arith) (omega (arith, two)) short all))
    (below-or-not (length bytes) 2)
