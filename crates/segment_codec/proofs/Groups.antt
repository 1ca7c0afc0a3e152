-- Reading a number group by group, as a loop does.
use Rattle.std.proofs.Common.{◌≡◌, ℕ, ◌+◌, ◌-◌, ◌*◌, ◌%◌, ◌^◌, ◌<◌, ◌≤◌, Bool, true, false, cond, ltb, eqb, ◌&&◌, List, [], ◌∷◌, Option, Some, None, refl, sym, ap, ◌∙◌, arith}
use Rattle.std.proofs.Math.Nat.{mul-le-mul_left}
use Rattle.std.proofs.lemmas.Bool.{ltb-true, ltb-false, le-ltb, lt-ltb, eqb-false, ne_eqb}
use Rattle.segment_codec.proofs.Numbers.{IsBytes, bytes-rest, Part, part_is, some_is}
use Rattle.segment_codec.specs.Reading.{◌>>=◌, group_below, long_number_at, number_at}

-- the number of which value is read, each one of the groups behind being worth unit
abbrev pub behind : ℕ → ℕ → Option Part → Option Part
behind value unit None = None
behind value unit (Some x) = cond {A = Option Part} (eqb x.0 0 && ltb 1 unit) None (Some (value + unit * x.0, x.1))

pub record Reads (bytes : List ℕ) (value unit : ℕ) (rest : List ℕ) : Type 0 where
  pub reads : long_number_at bytes ≡ behind value unit (long_number_at rest)
  pub unit_some : 0 < unit
  pub fits : IsBytes rest

pub reads-first : (bytes : List ℕ) → IsBytes bytes → Reads bytes 0 1 bytes
reads-first bytes fits = record { reads = start (long_number_at bytes); unit_some = omega arith; fits = fits }
  where
    off : (b : Bool) (x : ℕ × List ℕ) → Some x ≡ cond {A = Option Part} (b && false) None (Some (0 + 1 * x.0, x.1))
    off true x = let e : 0 + 1 * x.0 ≡ x.0 = omega arith in rw e refl
    off false x = let e : 0 + 1 * x.0 ≡ x.0 = omega arith in rw e refl

    start : (r : Option (ℕ × List ℕ)) → r ≡ behind 0 1 r
    start None = refl
    start (Some x) = off (eqb x.0 0) x

join : (value unit group : ℕ) (r : Option (ℕ × List ℕ)) → 0 < unit
    → behind value unit (group_below group r) ≡ behind (value + unit * group) (unit * 128) r
join value unit group None some = refl
join value unit group (Some x) some = later (eqb x.0 0) refl
  where
    later : (b : Bool) → eqb x.0 0 ≡ b → behind value unit (cond {A = Option Part} b None (Some (group + 128 * x.0, x.1))) ≡ cond {A = Option Part} (b && ltb 1 (unit * 128)) None (Some (value + unit * group + unit * 128 * x.0, x.1))
    later true t = let more : ltb 1 (unit * 128) ≡ true = lt-ltb 1 (unit * 128) (omega arith) in rw more refl
    later false t =
        let ne : x.0 ≡ 0 → ⊥ = eqb-false x.0 0 t in
        let whole : eqb (group + 128 * x.0) 0 ≡ false = ne_eqb (group + 128 * x.0) 0 (λ e. absurd (omega (arith, ne, e))) in
        let sum : value + unit * (group + 128 * x.0) ≡ value + unit * group + unit * 128 * x.0 = omega arith in
        rw (whole, sum) refl

pub reads-more : (bytes : List ℕ) (value unit first : ℕ) (others : List ℕ) → Reads bytes value unit (first ∷ others) → 128 ≤ first
    → Reads bytes (value + unit * (first % 128)) (unit * 128) others
unfolding long_number_at
reads-more bytes value unit first others h le =
    let lt : first < 256 = h.fits 0 in
    let test : ltb first 128 ≡ false = le-ltb first 128 le in
    let group : first - 128 ≡ first % 128 = omega arith in
    let some = h.unit_some in
    record { reads = h.reads ∙ rw (test, group) (join value unit (first % 128) (long_number_at others) some); unit_some = omega (arith, some); fits = bytes-rest first others h.fits }

-- nothing is read where no spelling ends
pub reads-end : (bytes : List ℕ) (value unit : ℕ) → Reads bytes value unit [] → number_at bytes ≡ None
unfolding number_at long_number_at
reads-end bytes value unit h = rw h.reads refl

-- the last byte
pub reads-last : (bytes : List ℕ) (value unit first : ℕ) (others : List ℕ) → Reads bytes value unit (first ∷ others) → first < 128
    → (eqb first 0 && ltb 1 unit) ≡ false → value + unit * first < 2 ^ 64 → number_at bytes ≡ Some (value + unit * first, others)
unfolding number_at long_number_at
reads-last bytes value unit first others h lt t fits =
    let test : ltb first 128 ≡ true = lt-ltb first 128 lt in
    let small = lt-ltb (value + unit * first) (2 ^ 64) fits in
    rw (h.reads, test, t, small) refl

pub reads-zero : (bytes : List ℕ) (value unit first : ℕ) (others : List ℕ) → Reads bytes value unit (first ∷ others) → first ≡ 0 → 1 < unit → number_at bytes ≡ None
unfolding number_at long_number_at
reads-zero bytes value unit first others h none more =
    let test : ltb first 128 ≡ true = lt-ltb first 128 (omega (arith, none)) in
    let t : eqb first 0 ≡ true = rw none refl in
    let u = lt-ltb 1 unit more in
    rw (h.reads, test, t, u) refl

-- a number that doesn't fit
none-of : (r : Option (ℕ × List ℕ)) → ((x : ℕ × List ℕ) → r ≡ Some x → 2 ^ 64 ≤ x.0) → (r >>= λ n. cond (ltb n.0 (2 ^ 64)) (Some n) None) ≡ None
none-of None f = refl
none-of (Some x) f = let t = le-ltb x.0 (2 ^ 64) (f x refl) in rw t refl

behind-some : (value unit : ℕ) (r : Option (ℕ × List ℕ)) (x : ℕ × List ℕ) → behind value unit r ≡ Some x → (y : ℕ × List ℕ) × (r ≡ Some y) × (x.0 ≡ value + unit * y.0)
behind-some value unit None x e = absurd cc
behind-some value unit (Some y) x e = later (eqb y.0 0 && ltb 1 unit) e
  where
    later : (b : Bool) → cond {A = Option Part} b None (Some (value + unit * y.0, y.1)) ≡ Some x → (z : ℕ × List ℕ) × (Some y ≡ Some z) × (x.0 ≡ value + unit * z.0)
    later true f = absurd cc
    later false f =
        let made : Part = (value + unit * y.0, y.1) in
        (y, refl, sym (ap (λ (z : Part). z.0) (some_is made x f)))

-- what is behind a first byte is at least its group
least-of : (first : ℕ) (others : List ℕ) (y : ℕ × List ℕ) (b : Bool) → ltb first 128 ≡ b → first < 256
    → cond {A = Option Part} b (Some (first, others)) (group_below (first - 128) (long_number_at others)) ≡ Some y → (first % 128 ≤ y.0) × ((128 ≤ first) → 128 ≤ y.0)
least-of first others y true t lt e =
    let v = (part_is first y.0 others y.1 e).0 in
    let small = ltb-true first 128 t in
    (omega (arith, v, small), λ le. absurd (omega (arith, small, le)))
least-of first others y false t lt e = later (long_number_at others) e
  where
    last : (x : ℕ × List ℕ) (b : Bool) → eqb x.0 0 ≡ b → cond {A = Option Part} b None (Some (first - 128 + 128 * x.0, x.1)) ≡ Some y → (first % 128 ≤ y.0) × ((128 ≤ first) → 128 ≤ y.0)
    last x true u e = absurd cc
    last x false u e =
        let ne : x.0 ≡ 0 → ⊥ = eqb-false x.0 0 u in
        let high = ltb-false first 128 t in
        let v = (part_is (first - 128 + 128 * x.0) y.0 x.1 y.1 e).0 in
        (omega (arith, v, high, lt), λ le. omega (arith, v, ne))

    later : (r : Option (ℕ × List ℕ)) → group_below (first - 128) r ≡ Some y → (first % 128 ≤ y.0) × ((128 ≤ first) → 128 ≤ y.0)
    later None e = absurd cc
    later (Some x) e = last x (eqb x.0 0) refl e

pub reads-large : (bytes : List ℕ) (value unit first : ℕ) (others : List ℕ) → Reads bytes value unit (first ∷ others)
    → 2 ^ 64 ≤ value + unit * (first % 128) → number_at bytes ≡ None
unfolding number_at long_number_at
reads-large bytes value unit first others h large =
    let lt : first < 256 = h.fits 0 in
    rw h.reads (none-of (behind value unit (long_number_at (first ∷ others))) (λ x e.
    let b = behind-some value unit (long_number_at (first ∷ others)) x e in
    let least = least-of first others b.0 (ltb first 128) refl lt b.1 in
    omega (arith, b.2, large, mul-le-mul_left unit least.0)))

pub reads-long : (bytes : List ℕ) (value unit first : ℕ) (others : List ℕ) → Reads bytes value unit (first ∷ others) → 128 ≤ first
    → 2 ^ 64 ≤ unit * 128 → number_at bytes ≡ None
unfolding number_at long_number_at
reads-long bytes value unit first others h le large =
    let lt : first < 256 = h.fits 0 in
    rw h.reads (none-of (behind value unit (long_number_at (first ∷ others))) (λ x e.
    let b = behind-some value unit (long_number_at (first ∷ others)) x e in
    let least = least-of first others b.0 (ltb first 128) refl lt b.1 in
    omega (arith, b.2, large, mul-le-mul_left unit (least.1 le))))
