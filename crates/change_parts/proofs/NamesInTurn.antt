-- Names of numbers that go on one by one, as they stand among those that are stored.
use Rattle.std.proofs.Common.{◌≡◌, ℕ, zero, suc, ◌+◌, ◌*◌, ◌<◌, ◌≤◌, List, [], ◌∷◌, ◌++◌, map, length, take, drop, get_or, refl, sym, ap, ap₂, ◌∙◌, append_assoc, arith, ◌-◌}
use Rattle.std.proofs.lemmas.List.{take_more, drop-append-le, take-append-le, length-drop, map-append}
use Rattle.std.proofs.lemmas.List.Concat.{flat_map-cons}
use Rattle.id_groups.specs.Name.{Name}
use Rattle.batch_codec.specs.Payload.{names_bytes}
use Rattle.assign_ids.specs.Numbers.{AreBelow}
use Rattle.name_map.specs.Part.{upward}
use Rattle.change_parts.specs.Moves.{name_at}

upward-last : (first n : ℕ) → upward first (n + 1) ≡ upward first n ++ (first + n) ∷ []
upward-last first zero = ap (λ k. k ∷ []) (let z : first ≡ first + 0 = omega arith in z)
upward-last first (suc n) = ap (upward first) (let z : suc n + 1 ≡ suc (n + 1) = omega arith in z) ∙ ap (λ l. first ∷ l) (upward-last (first + 1) n ∙ ap (λ k. upward (first + 1) n ++ k ∷ []) (let z : first + 1 + n ≡ first + suc n = omega arith in z))

-- one number more in turn
pub turn-more : (numbers : List ℕ) (first len : ℕ) → len < length numbers → get_or numbers len 0 ≡ first + len → take len numbers ≡ upward first len → take (len + 1) numbers ≡ upward first (len + 1)
turn-more numbers first len lt is e =
    take_more numbers len 0 lt ∙ ap₂ (λ front x. front ++ x ∷ []) e is ∙ sym (upward-last first len)

take-nil : {X : Type 0} (k : ℕ) → take {A = X} k [] ≡ []
take-nil zero = refl
take-nil (suc k) = refl

drop-nil : {X : Type 0} (k : ℕ) → drop {A = X} k [] ≡ []
drop-nil zero = refl
drop-nil (suc k) = refl

take-sum : {X : Type 0} (n m : ℕ) (xs : List X) → take (n + m) xs ≡ take n xs ++ take m (drop n xs)
take-sum zero m xs = ap (λ k. take k xs) (let z : 0 + m ≡ m = omega arith in z)
take-sum (suc n) m [] = take-nil (suc n + m) ∙ sym (take-nil m)
take-sum (suc n) m (x ∷ xs) = ap (λ k. take k (x ∷ xs)) (let z : suc n + m ≡ suc (n + m) = omega arith in z) ∙ ap (λ l. x ∷ l) (take-sum n m xs)

drop-sum : {X : Type 0} (n m : ℕ) (xs : List X) → drop (n + m) xs ≡ drop m (drop n xs)
drop-sum zero m xs = ap (λ k. drop k xs) (let z : 0 + m ≡ m = omega arith in z)
drop-sum (suc n) m [] = drop-nil (suc n + m) ∙ sym (drop-nil m)
drop-sum (suc n) m (x ∷ xs) = ap (λ k. drop k (x ∷ xs)) (let z : suc n + m ≡ suc (n + m) = omega arith in z) ∙ drop-sum n m xs

-- a stored name, with the pending ones behind
stored-name : (stored pending : List ℕ) (count k : ℕ) → length stored ≡ 20 * count → k < count → take 20 (drop (20 * k) stored) ≡ name_at (stored ++ pending) k
stored-name stored pending count k e lt =
    let fits : 20 * k ≤ length stored = omega (arith, e, lt) in
    let room : 20 ≤ length (drop (20 * k) stored) = omega (arith, e, lt, length-drop (20 * k) stored) in
    sym (ap (take 20) (drop-append-le (20 * k) stored pending fits) ∙ take-append-le 20 (drop (20 * k) stored) pending room)

pub stored-names : (stored pending : List ℕ) (count first len : ℕ) → length stored ≡ 20 * count → first + len ≤ count
    → take (20 * len) (drop (20 * first) stored) ≡ names_bytes (map (name_at (stored ++ pending)) (upward first len))
stored-names stored pending count first zero e le = none (drop (20 * first) stored)
  where
    none : (xs : List ℕ) → take 0 xs ≡ []
    none xs = refl
stored-names stored pending count first (suc len) e le =
    let name = name_at (stored ++ pending) in
    ap (λ k. take k (drop (20 * first) stored)) (let z : 20 * suc len ≡ 20 + 20 * len = omega arith in z)
    ∙ take-sum 20 (20 * len) (drop (20 * first) stored)
    ∙ ap₂ (λ x xs. x ++ xs) (stored-name stored pending count first e (omega (arith, le)))
    (ap (take (20 * len)) (sym (drop-sum (20 * first) 20 stored) ∙ ap (λ k. drop k stored) (let z : 20 * first + 20 ≡ 20 * (first + 1) = omega arith in z))
    ∙ stored-names stored pending count (first + 1) len e (omega (arith, le)))
    ∙ sym (flat_map-cons (λ (x : Name). x) (name first) (map name (upward (first + 1) len)))

-- the names of more numbers behind those that were added
pub more-names : (front : List Name) (name : ℕ → Name) (done more : List ℕ) → (front ++ map name done) ++ map name more ≡ front ++ map name (done ++ more)
more-names front name done more = append_assoc front (map name done) (map name more) ∙ ap (λ l. front ++ l) (sym (map-append name done more))

pub below-back : (n : ℕ) (front back : List ℕ) → AreBelow n (front ++ back) → AreBelow n back
below-back n [] back h = h
below-back n (k ∷ front) back h = below-back n front back h.1

drop-front : {X : Type 0} (xs ys : List X) (n : ℕ) → drop (length xs + n) (xs ++ ys) ≡ drop n ys
drop-front [] ys n = ap (λ k. drop k ys) (let z : 0 + n ≡ n = omega arith in z)
drop-front (x ∷ xs) ys n = ap (λ k. drop k (x ∷ (xs ++ ys))) (let z : length (x ∷ xs) + n ≡ suc (length xs + n) = omega arith in z) ∙ drop-front xs ys n

pub name-behind : (stored pending : List ℕ) (count k : ℕ) → length stored ≡ 20 * count → count ≤ k → take 20 (drop (20 * (k - count)) pending) ≡ take 20 (drop (20 * k) (stored ++ pending))
name-behind stored pending count k e le = ap (take 20) (sym (ap (λ n. drop n (stored ++ pending)) (let z : 20 * k ≡ length stored + 20 * (k - count) = omega (arith, e, le) in z) ∙ drop-front stored pending (20 * (k - count))))
