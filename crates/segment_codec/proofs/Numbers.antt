-- A number that is read is the number that was written, and what was written is read again.
use Rattle.std.proofs.Common.{◌≡◌, ℕ, zero, suc, ◌+◌, ◌-◌, ◌*◌, ◌/◌, ◌%◌, ◌^◌, ◌<◌, ◌≤◌, Bool, true, false, cond, ltb, eqb, List, [], ◌∷◌, ◌++◌, get_or, Option, Some, None, refl, sym, ap, ◌∙◌, arith, lit≤}
use Rattle.std.proofs.lemmas.Bool.{ltb-true, ltb-false, le-ltb, lt-ltb, eqb-false, ne_eqb}
use Rattle.segment_codec.specs.Number.{groups_of, number_bytes}
use Rattle.segment_codec.specs.Reading.{◌>>=◌, group_below, long_number_at, number_at}

abbrev pub IsBytes : List ℕ → Type 0
IsBytes bytes = (i : ℕ) → get_or bytes i 0 < 256

pub bytes-rest : (b : ℕ) (bytes : List ℕ) → IsBytes (b ∷ bytes) → IsBytes bytes
bytes-rest b bytes h i = h (suc i)

-- the value of a step that did not fail
pub bind_some : {A B : Type 0} (r : Option A) (f : A → Option B) (y : B) → (r >>= f) ≡ Some y → (x : A) × (r ≡ Some x) × (f x ≡ Some y)
bind_some (Some x) f y e = (x, refl, e)
bind_some None f y e = absurd cc

pub guard_some : {A : Type 0} (b : Bool) (x y : A) → cond b (Some x) None ≡ Some y → (b ≡ true) × (x ≡ y)
guard_some true x y e = (refl, cc)
guard_some false x y e = absurd cc

-- a branch that did not fail
pub chosen : {A : Type 0} (b : Bool) (r : Option A) (y : A) → cond b r None ≡ Some y → (b ≡ true) × (r ≡ Some y)
chosen true r y e = (refl, e)
chosen false r y e = absurd cc

abbrev given : {A : Type 0} → A → Option A
given x = Some x

pub some_is : {A : Type 0} (x y : A) → given x ≡ given y → x ≡ y
some_is x y e = cc

-- a number and the bytes behind it
abbrev pub Part : Type 0
Part = ℕ × List ℕ

pub part_is : (m n : ℕ) (a b : List ℕ) → (let x : Option Part = Some (m, a) in x) ≡ Some (n, b) → (m ≡ n) × (a ≡ b)
part_is m n a b e =
    let x : Part = (m, a) in let y : Part = (n, b) in
    let same = some_is x y e in
    (ap (λ (z : Part). z.0) same, ap (λ (z : Part). z.1) same)

-- the numbers of so many groups end here
abbrev pub groups_end : ℕ → ℕ
groups_end zero = 1
groups_end (suc k) = 128 * groups_end k

pub record Group (group n m : ℕ) : Type 0 where
  pub value : n ≡ group + 128 * m
  pub more : 0 < m

-- a group below a number
pub group_is : (group : ℕ) (r : Option (ℕ × List ℕ)) (n : ℕ) (rest : List ℕ) → group_below group r ≡ Some (n, rest)
    → (m : ℕ) × (r ≡ Some (m, rest)) × Group group n m
group_is group None n rest e = absurd cc
group_is group (Some x) n rest e = later (eqb x.0 0) refl e
  where
    later : (b : Bool) → eqb x.0 0 ≡ b → cond {A = Option Part} b None (Some (group + 128 * x.0, x.1)) ≡ Some (n, rest)
        → (m : ℕ) × (Some x ≡ Some (m, rest)) × Group group n m
    later true t f = absurd cc
    later false t f =
        let ne : x.0 ≡ 0 → ⊥ = eqb-false x.0 0 t in
        let p = part_is (group + 128 * x.0) n x.1 rest f in
        (x.0, rw (← p.1) refl, record { value = sym p.0; more = omega (arith, ne) })

pub short_group : (k n : ℕ) → n < 128 → groups_of (suc k) n ≡ n ∷ []
short_group k n lt = let t = lt-ltb n 128 lt in rw t refl

pub long_group : (k n : ℕ) → 128 ≤ n → groups_of (suc k) n ≡ (n % 128 + 128) ∷ groups_of k (n / 128)
long_group k n le = let t = le-ltb n 128 le in rw t refl

parts_of : (group m : ℕ) → group < 128 → ((group + 128 * m) % 128 ≡ group) × ((group + 128 * m) / 128 ≡ m)
parts_of group m lt = (omega arith, omega arith)

takes-case : (j byte : ℕ) (bytes : List ℕ) (n : ℕ) (rest : List ℕ) (b : Bool) → byte < 256
    → ((i m : ℕ) (after : List ℕ) → m < groups_end (suc i) → long_number_at bytes ≡ Some (m, after) → bytes ≡ groups_of (suc i) m ++ after)
    → ltb byte 128 ≡ b → n < groups_end (suc j) → cond {A = Option Part} b (Some (byte, bytes)) (group_below (byte - 128) (long_number_at bytes)) ≡ Some (n, rest)
    → byte ∷ bytes ≡ groups_of (suc j) n ++ rest
takes-case j byte bytes n rest true low again t lt f =
    let p = part_is byte n bytes rest f in
    let small : n < 128 = omega (arith, p.0, ltb-true byte 128 t) in
    rw (short_group j n small, p.0, p.1) refl
takes-case zero byte bytes n rest false low again t lt f =
    let g = group_is (byte - 128) (long_number_at bytes) n rest f in
    let value = g.2.value in let more = g.2.more in
    absurd (omega (arith, value, more, lt))
takes-case (suc j) byte bytes n rest false low again t lt f =
    let g = group_is (byte - 128) (long_number_at bytes) n rest f in
    let value = g.2.value in let more = g.2.more in
    let high : 128 ≤ byte = ltb-false byte 128 t in
    let p = parts_of (byte - 128) g.0 (omega arith) in
    let below : g.0 < groups_end (suc j) = omega (arith, value, lt) in
    let after = again j g.0 rest below g.1 in
    let whole = long_group (suc j) n (omega (arith, value, more)) in
    let front : n % 128 + 128 ≡ byte = omega (arith, p.0, ap (λ z. z % 128) value, high, low) in
    let back : n / 128 ≡ g.0 = ap (λ z. z / 128) value ∙ p.1 in
    rw (whole, front, back) (ap (λ z. byte ∷ z) after)

-- what is read is spelled so
pub long_takes : (k : ℕ) (bytes : List ℕ) (n : ℕ) (rest : List ℕ) → IsBytes bytes → n < groups_end (suc k)
    → long_number_at bytes ≡ Some (n, rest) → bytes ≡ groups_of (suc k) n ++ rest
unfolding long_number_at
long_takes k [] n rest fits lt e = absurd cc
long_takes k (byte ∷ bytes) n rest fits lt e =
    takes-case k byte bytes n rest (ltb byte 128) (fits 0) (λ i m after. long_takes i bytes m after (bytes-rest byte bytes fits)) refl lt e

-- what is spelled so is read
again-case : (k n : ℕ) (rest : List ℕ) (b : Bool) → ltb n 128 ≡ b → n < groups_end (suc k)
    → ((m : ℕ) → m < groups_end k → (0 < k) → long_number_at (groups_of k m ++ rest) ≡ Some (m, rest))
    → long_number_at (groups_of (suc k) n ++ rest) ≡ Some (n, rest)
unfolding long_number_at
again-case k n rest true t lt again = rw (t, t) refl
again-case zero n rest false t lt again = absurd (omega (arith, ltb-false n 128 t, lt))
again-case (suc k) n rest false t lt again =
    let high : 128 ≤ n = ltb-false n 128 t in
    let whole = long_group (suc k) n high in
    let test : ltb (n % 128 + 128) 128 ≡ false = le-ltb (n % 128 + 128) 128 (omega arith) in
    let more : eqb (n / 128) 0 ≡ false = ne_eqb (n / 128) 0 (λ e. absurd (omega (arith, e))) in
    let after = again (n / 128) (omega (arith, lt)) (omega arith) in
    let value : n % 128 + 128 - 128 + 128 * (n / 128) ≡ n = omega arith in
    ap (λ bytes. long_number_at (bytes ++ rest)) whole ∙ rw (test, after, more, value) refl

pub long_again : (k n : ℕ) (rest : List ℕ) → n < groups_end (suc k) → long_number_at (groups_of (suc k) n ++ rest) ≡ Some (n, rest)
long_again zero n rest lt = again-case zero n rest (ltb n 128) refl lt (λ m below none. absurd (omega (arith, none)))
long_again (suc k) n rest lt = again-case (suc k) n rest (ltb n 128) refl lt (λ m below some. long_again k m rest below)

wide : (n : ℕ) → n < 2 ^ 64 → n < groups_end 10
wide n lt = let k : 2 ^ 64 ≤ groups_end 10 = lit≤ tt in omega (arith, k, lt)

pub number_takes : (bytes : List ℕ) (n : ℕ) (rest : List ℕ) → IsBytes bytes → number_at bytes ≡ Some (n, rest) → (bytes ≡ number_bytes n ++ rest) × (n < 2 ^ 64)
unfolding number_at number_bytes
number_takes bytes n rest fits e =
    let a = bind_some (long_number_at bytes) (λ x. cond (ltb x.0 (2 ^ 64)) (Some x) None) (n, rest) e in
    let g = guard_some (ltb a.0.0 (2 ^ 64)) a.0 (n, rest) a.2 in
    let value : a.0.0 ≡ n = ap (λ (x : ℕ × List ℕ). x.0) g.1 in
    let below : n < 2 ^ 64 = omega (arith, value, ltb-true a.0.0 (2 ^ 64) g.0) in
    (long_takes 9 bytes n rest fits (wide n below) (a.1 ∙ ap (λ (x : ℕ × List ℕ). Some x) g.1), below)

pub number_again : (n : ℕ) (rest : List ℕ) → n < 2 ^ 64 → number_at (number_bytes n ++ rest) ≡ Some (n, rest)
unfolding number_at number_bytes
number_again n rest lt = rw (long_again 9 n rest (wide n lt), lt-ltb n (2 ^ 64) lt) refl

-- ---- one byte of a number more

pub number_last : (n : ℕ) → n < 128 → number_bytes n ≡ n ∷ []
unfolding number_bytes
number_last n lt = short_group 9 n lt

-- room for one group more changes nothing
groups-case : (k n : ℕ) (b : Bool) → ltb n 128 ≡ b → n < groups_end (suc k)
    → ((m : ℕ) → m < groups_end k → 0 < k → groups_of k m ≡ groups_of (suc k) m) → groups_of (suc k) n ≡ groups_of (suc (suc k)) n
groups-case k n true t lt more = let small : n < 128 = ltb-true n 128 t in short_group k n small ∙ sym (short_group (suc k) n small)
groups-case zero n false t lt more = absurd (omega (arith, ltb-false n 128 t, lt))
groups-case (suc k) n false t lt more =
    let high : 128 ≤ n = ltb-false n 128 t in
    long_group (suc k) n high ∙ ap (λ z. (n % 128 + 128) ∷ z) (more (n / 128) (omega (arith, lt)) (omega arith)) ∙ sym (long_group (suc (suc k)) n high)

groups_more : (k n : ℕ) → n < groups_end (suc k) → groups_of (suc k) n ≡ groups_of (suc (suc k)) n
groups_more zero n lt = groups-case zero n (ltb n 128) refl lt (λ m below none. absurd (omega (arith, none)))
groups_more (suc k) n lt = groups-case (suc k) n (ltb n 128) refl lt (λ m below some. groups_more k m below)

pub number_next : (n : ℕ) → 128 ≤ n → n < 2 ^ 64 → number_bytes n ≡ (n % 128 + 128) ∷ number_bytes (n / 128)
unfolding number_bytes
number_next n le lt =
    let k : 2 ^ 57 ≤ groups_end 9 = lit≤ tt in
    let small : n / 128 < groups_end 9 = omega (arith, k, lt) in
    long_group 9 n le ∙ ap (λ z. (n % 128 + 128) ∷ z) (groups_more 8 (n / 128) small)
