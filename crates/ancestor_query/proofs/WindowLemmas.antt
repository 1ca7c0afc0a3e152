-- A set of ids in one word.
use Rattle.std.proofs.Common.{◌≡◌, ◌≢◌, ℕ, zero, suc, ◌+◌, ◌-◌, ◌*◌, ◌/◌, ◌%◌, ◌^◌, ◌<◌, ◌≤◌, ◌⊎◌, inl, inr, ◌↔◌, true, List, [], ◌++◌, refl, sym, subst, ap, ◌∙◌, arith, ⊎_elim, Option, Some, None, le_of_suc-le-suc}
use Rattle.std.specs.Int.{bit_at, w64, trailing_zeros}
use Rattle.std.specs.Int.RustNames.{bit_or}
use Rattle.std.proofs.lemmas.Nat.{pow-add, or_lt, shr_le}
use Rattle.std.proofs.lemmas.Nat.Bits.{bit_at_set_same, bit_at_set_other, bit_at_above, bit_at-trailing_zeros, bit_at-zero, bit_at-lt}
use Rattle.std.proofs.lemmas.Bool.{cases_eq}
use Rattle.std.proofs.Math.Nat.{eq-or-lt_of_le, div-div-eq-div-mul, div-eq_of_lt, mod-lt}
use Rattle.std.proofs.Math.Pow.{pow_mono}
use Rattle.id_groups.specs.Lists.{IsIn}
use Rattle.commit_graph.proofs.Down.{in-left, in-right}
use Rattle.commit_graph.proofs.Histories.{in-append}
use Rattle.segment_codec.proofs.Tables.{le_or_lt}
use Rattle.ancestor_query.specs.Visits.{Keeps, Greatest, Peeks, greater_of}
use Rattle.ancestor_query.proofs.Work.{greatest-or}
use Rattle.ancestor_query.specs.Window.{put_at, ids_of_bits, window_ids, AreNumbers, Takes, IsGreatestOf}

put-head : (digit x : ℕ) (ids : List ℕ) → digit ≡ 1 → IsIn x (put_at digit x ids)
put-head zero x ids e = absurd (omega (arith, e))
put-head (suc digit) x ids e = inl refl

put-behind : (digit id x : ℕ) (ids : List ℕ) → IsIn x ids → IsIn x (put_at digit id ids)
put-behind zero id x ids i = i
put-behind (suc digit) id x ids i = inr i

put-either : (digit id x : ℕ) (ids : List ℕ) → digit < 2 → IsIn x (put_at digit id ids) → ((digit ≡ 1) × (x ≡ id)) ⊎ IsIn x ids
put-either zero id x ids lt i = inr i
put-either (suc digit) id x ids lt (inl e) = inl (omega (arith, lt), e)
put-either (suc digit) id x ids lt (inr i) = inr i

-- the id stands for one of the lowest bits
record Stands (count end bits x : ℕ) : Type 0 where
  pub place : ℕ
  pub within : place < count
  pub set : bit_at bits place ≡ 1
  pub is : x ≡ end - suc place

in-stands : (count end bits x : ℕ) → IsIn x (ids_of_bits count end bits) → Stands count end bits x
in-stands zero end bits x i = absurd i
in-stands (suc j) end bits x i = ⊎_elim
    (λ h. record { place = j; within = omega arith; set = h.0; is = h.1 })
    (λ k. let s = in-stands j end bits x k in let lt = s.within in record { place = s.place; within = omega (arith, lt); set = s.set; is = s.is })
    (put-either (bit_at bits j) (end - suc j) x (ids_of_bits j end bits) (bit_at-lt bits j) i)

stands-in : (count end bits place : ℕ) → place < count → bit_at bits place ≡ 1 → IsIn (end - suc place) (ids_of_bits count end bits)
stands-in zero end bits place lt set = absurd (omega (arith, lt))
stands-in (suc j) end bits place lt set = ⊎_elim
    (λ (e : place ≡ j). subst (λ k. IsIn (end - suc k) (ids_of_bits (suc j) end bits)) (sym e)
    (put-head (bit_at bits j) (end - suc j) (ids_of_bits j end bits) (subst (λ k. bit_at bits k ≡ 1) e set)))
    (λ (less : place < j). put-behind (bit_at bits j) (end - suc j) (end - suc place) (ids_of_bits j end bits) (stands-in j end bits place less set))
    (eq-or-lt_of_le (le_of_suc-le-suc lt))

-- the id lies below the end, and its bit is set
record Sits (end bits x : ℕ) : Type 0 where
  pub below : x < end
  pub set : bit_at bits (end - suc x) ≡ 1

in-sits : (end bits x : ℕ) → AreNumbers end bits → IsIn x (window_ids end bits) → Sits end bits x
unfolding window_ids
in-sits end bits x numbers i =
    let s = in-stands 64 end bits x i in let lt = numbers s.place s.set in let is = s.is in
    let same : s.place ≡ end - suc x = omega (arith, lt, is) in
    record { below = omega (arith, lt, is); set = subst (λ k. bit_at bits k ≡ 1) same s.set }

sits-in : (end bits x : ℕ) → bits < 2 ^ 64 → Sits end bits x → IsIn x (window_ids end bits)
unfolding window_ids
sits-in end bits x small s =
    let lt = s.below in
    let same : end - suc (end - suc x) ≡ x = omega (arith, lt) in
    let near : end - suc x < 64 = ⊎_elim (λ (le : 64 ≤ end - suc x). let off = bit_at_above bits 64 (end - suc x) small le in let on = s.set in absurd (omega (arith, off, on))) (λ h. h) (le_or_lt 64 (end - suc x)) in
    subst (λ y. IsIn y (ids_of_bits 64 end bits)) same (stands-in 64 end bits (end - suc x) near s.set)

-- no bit
none-in : (end x : ℕ) → IsIn x (window_ids end 0) → ⊥
unfolding window_ids
none-in end x i = let s = in-stands 64 end 0 x i in let on = s.set in let off = bit_at-zero s.place in omega (arith, on, off)

pub none-left : (end bits : ℕ) (now : List ℕ) → window_ids end bits ≡ now → bits ≡ 0 → (x : ℕ) → IsIn x now → ⊥
none-left end bits now view none x i = none-in end x (subst (λ b. IsIn x (window_ids end b)) none (subst (IsIn x) (sym view) i))

pub no-ids : (end : ℕ) → window_ids end 0 ≡ []
unfolding window_ids
no-ids end = refl

-- a bit is set
abbrev with_bit : ℕ → ℕ → ℕ
with_bit bits place = bit_or bits (1 * 2 ^ place % 2 ^ 64)

pub set-small : (bits place : ℕ) → bits < 2 ^ 64 → bit_or bits (1 * 2 ^ place % 2 ^ 64) < 2 ^ 64
set-small bits place small = or_lt 64 bits (1 * 2 ^ place % 2 ^ 64) small (mod-lt (1 * 2 ^ place) (omega arith))

pub set-numbers : (end bits place : ℕ) → AreNumbers end bits → place < end → place < 64 → AreNumbers end (bit_or bits (1 * 2 ^ place % 2 ^ 64))
set-numbers end bits place numbers lt near j on = ⊎_elim
    (λ (e : j ≡ place). omega (arith, e, lt))
    (λ (n : j ≢ place). numbers j (sym (bit_at_set_other w64 bits place near j n) ∙ on))
    (cases_eq j place)

set-keeps : (bits place j : ℕ) → place < 64 → bit_at bits j ≡ 1 → bit_at (with_bit bits place) j ≡ 1
set-keeps bits place j near on = ⊎_elim
    (λ (e : j ≡ place). subst (λ k. bit_at (with_bit bits place) k ≡ 1) (sym e) (bit_at_set_same w64 bits place near))
    (λ (n : j ≢ place). bit_at_set_other w64 bits place near j n ∙ on)
    (cases_eq j place)

set-comes : (end bits number x : ℕ) → AreNumbers end bits → bits < 2 ^ 64 → number < end → end - 1 - number < 64 → Sits end (with_bit bits (end - 1 - number)) x → IsIn x (window_ids end bits) ⊎ (x ≡ number)
set-comes end bits number x numbers small lt near s =
    let under = s.below in
    ⊎_elim
    (λ (e : end - suc x ≡ end - 1 - number). inr (omega (arith, e, lt, under)))
    (λ (n : end - suc x ≢ end - 1 - number).
    inl (sits-in end bits x small (record { below = under; set = sym (bit_at_set_other w64 bits (end - 1 - number) near (end - suc x) n) ∙ s.set })))
    (cases_eq (end - suc x) (end - 1 - number))

set-own : (end bits number x : ℕ) → number < end → end - 1 - number < 64 → x ≡ number → Sits end (with_bit bits (end - 1 - number)) x
set-own end bits number x lt near e =
    let same : end - suc x ≡ end - 1 - number = omega (arith, e, lt) in
    record { below = omega (arith, e, lt); set = subst (λ k. bit_at (with_bit bits (end - 1 - number)) k ≡ 1) (sym same) (bit_at_set_same w64 bits (end - 1 - number) near) }

set-ids : (end bits number : ℕ) → AreNumbers end bits → bits < 2 ^ 64 → number < end → end - 1 - number < 64
    → Takes (window_ids end bits) (window_ids end (bit_or bits (1 * 2 ^ (end - 1 - number) % 2 ^ 64))) number true
set-ids end bits number numbers small lt near x =
    let all = set-numbers end bits (end - 1 - number) numbers (omega (arith, lt)) near in
    let fits = set-small bits (end - 1 - number) small in (
      λ i. set-comes end bits number x numbers small lt near (in-sits end (with_bit bits (end - 1 - number)) x all i),
      λ a. sits-in end (with_bit bits (end - 1 - number)) x fits (⊎_elim
          (λ i. let s = in-sits end bits x numbers i in record { below = s.below; set = set-keeps bits (end - 1 - number) (end - suc x) near s.set })
          (λ e. set-own end bits number x lt near e)
          a),
    )

pub set-takes : (end bits number id : ℕ) (now : List ℕ) → AreNumbers end bits → bits < 2 ^ 64 → window_ids end bits ≡ now → number ≡ id → number < end → end - 1 - number < 64
    → Takes now (window_ids end (bit_or bits (1 * 2 ^ (end - 1 - number) % 2 ^ 64))) id true
set-takes end bits number id now numbers small view is lt near =
    let after : List ℕ = window_ids end (bit_or bits (1 * 2 ^ (end - 1 - number) % 2 ^ 64)) in
    subst (λ y. Takes now after y true) is (subst (λ l. Takes l after number true) view (set-ids end bits number numbers small lt near))

-- the bits move down
shifted-bit : (bits steps j : ℕ) → bit_at (bits / 2 ^ steps) j ≡ bit_at bits (steps + j)
shifted-bit bits steps j = ap (λ k. k % 2) (div-div-eq-div-mul bits (2 ^ steps) (2 ^ j) ∙ ap (λ k. bits / k) (sym (pow-add 2 steps j)))

-- nothing is left of a word that moves by its width
pub all-shifted : (bits steps : ℕ) → bits < 2 ^ 64 → 64 ≤ steps → 0 ≡ bits / 2 ^ steps
all-shifted bits steps small le = let more = pow_mono le in sym (div-eq_of_lt (omega (arith, small, more)))

slid-small : (bits steps : ℕ) → bits < 2 ^ 64 → bits / 2 ^ steps < 2 ^ 64
slid-small bits steps small = let le = shr_le bits steps in omega (arith, small, le)

slid-numbers : (end bits below : ℕ) → AreNumbers end bits → below < end → AreNumbers below (bits / 2 ^ (end - below))
slid-numbers end bits below numbers lt j on =
    let far = numbers (end - below + j) (sym (shifted-bit bits (end - below) j) ∙ on) in omega (arith, far, lt)

slid-bit : (end bits below x : ℕ) → below < end → x < below → bit_at (bits / 2 ^ (end - below)) (below - suc x) ≡ bit_at bits (end - suc x)
slid-bit end bits below x lt under =
    let same : end - below + (below - suc x) ≡ end - suc x = omega (arith, lt, under) in
    shifted-bit bits (end - below) (below - suc x) ∙ ap (bit_at bits) same

slid-ids : (end bits below : ℕ) → AreNumbers end bits → bits < 2 ^ 64 → below < end → Keeps (window_ids end bits) (window_ids below (bits / 2 ^ (end - below))) below
slid-ids end bits below numbers small lt = record {
  kept = λ x i.
      let s = in-sits below (bits / 2 ^ (end - below)) x (slid-numbers end bits below numbers lt) i in let under = s.below in
      sits-in end bits x small (record { below = omega (arith, lt, under); set = sym (slid-bit end bits below x lt under) ∙ s.set });
  lost = λ x i under.
      let s = in-sits end bits x numbers i in
      sits-in below (bits / 2 ^ (end - below)) x (slid-small bits (end - below) small) (record { below = under; set = slid-bit end bits below x lt under ∙ s.set });
}

pub moved-numbers : (end bits below after : ℕ) → AreNumbers end bits → below < end → after ≡ bits / 2 ^ (end - below) → AreNumbers below after
moved-numbers end bits below after numbers lt is = subst (AreNumbers below) (sym is) (slid-numbers end bits below numbers lt)

pub moved-small : (end bits below after : ℕ) → bits < 2 ^ 64 → after ≡ bits / 2 ^ (end - below) → after < 2 ^ 64
moved-small end bits below after small is = subst (λ b. b < 2 ^ 64) (sym is) (slid-small bits (end - below) small)

pub moved-keeps : (end bits below after : ℕ) (now : List ℕ) → AreNumbers end bits → bits < 2 ^ 64 → window_ids end bits ≡ now → below < end → after ≡ bits / 2 ^ (end - below) → Keeps now (window_ids below after) below
moved-keeps end bits below after now numbers small view lt is =
    subst (λ b. Keeps now (window_ids below b) below) (sym is)
    (subst (λ l. Keeps l (window_ids below (bits / 2 ^ (end - below))) below) view (slid-ids end bits below numbers small lt))

pub moved-under : (end bits below after : ℕ) → AreNumbers end bits → below < end → after ≡ bits / 2 ^ (end - below) → (x : ℕ) → IsIn x (window_ids below after) → x < below
moved-under end bits below after numbers lt is x i = (in-sits below after x (moved-numbers end bits below after numbers lt is) i).below

-- the end moves where there are no ids
pub emptied-keeps : (end bits after below : ℕ) (now : List ℕ) → window_ids end bits ≡ now → bits ≡ 0 → Keeps now (window_ids after bits) below
emptied-keeps end bits after below now view none = record {
  kept = λ x i. absurd (none-left after bits (window_ids after bits) refl none x i);
  lost = λ x i _. absurd (none-left end bits now view none x i);
}

pub all-under : (end bits : ℕ) (now : List ℕ) (below : ℕ) → AreNumbers end bits → window_ids end bits ≡ now → end ≤ below → (x : ℕ) → IsIn x now → x < below
all-under end bits now below numbers view le x i = let under = (in-sits end bits x numbers (subst (IsIn x) (sym view) i)).below in omega (arith, under, le)

-- the lowest bit stands for the greatest id
top-of : (end bits : ℕ) → AreNumbers end bits → 0 < bits → bits < 2 ^ 64 → IsGreatestOf (window_ids end bits) (Some (end - 1 - trailing_zeros w64 bits))
top-of end bits numbers some small =
    let low = bit_at-trailing_zeros w64 bits some small in
    let lt = numbers (trailing_zeros w64 bits) low.1 in
    let same : end - suc (end - 1 - trailing_zeros w64 bits) ≡ trailing_zeros w64 bits = omega (arith, lt) in (
      sits-in end bits (end - 1 - trailing_zeros w64 bits) small (record { below = omega (arith, lt); set = subst (λ k. bit_at bits k ≡ 1) (sym same) low.1 }),
      λ x i.
          let s = in-sits end bits x numbers i in let on = s.set in let under = s.below in
          ⊎_elim
          (λ (le : trailing_zeros w64 bits ≤ end - suc x). omega (arith, le, lt, under))
          (λ (less : end - suc x < trailing_zeros w64 bits). let off = low.2 (end - suc x) less in absurd (omega (arith, on, off)))
          (le_or_lt (trailing_zeros w64 bits) (end - suc x)),
    )

pub low-under : (end bits place : ℕ) → AreNumbers end bits → (bits ≡ 0 → ⊥) → bits < 2 ^ 64 → place ≡ trailing_zeros w64 bits → place < end
low-under end bits place numbers some small is =
    let low = bit_at-trailing_zeros w64 bits (omega (arith, some)) small in numbers place (subst (λ k. bit_at bits k ≡ 1) (sym is) low.1)

pub top-is : (end bits place number : ℕ) (now : List ℕ) → AreNumbers end bits → (bits ≡ 0 → ⊥) → bits < 2 ^ 64 → window_ids end bits ≡ now → place ≡ trailing_zeros w64 bits → number ≡ end - 1 - place
    → IsGreatestOf now (Some number)
top-is end bits place number now numbers some small view low is =
    subst (λ l. IsGreatestOf l (Some number)) view
    (subst (λ n. IsGreatestOf (window_ids end bits) (Some n)) (sym (is ∙ ap (λ k. end - 1 - k) low)) (top-of end bits numbers (omega (arith, some)) small))

under-bound : (ids : List ℕ) (below : ℕ) (r : Option ℕ) → ((x : ℕ) → IsIn x ids → x < below) → IsGreatestOf ids r → Greatest (λ x. IsIn x ids) below r
under-bound ids below None under h = λ x i _. h x i
under-bound ids below (Some top) under h = record { is = h.0; under = under top h.0; greatest = λ x i _. h.1 x i }

-- a list is a window and a heap
pub near-pushed : (before near near' far : List ℕ) (id : ℕ) → near ++ far ≡ before → Takes near near' id true → (x : ℕ) → IsIn x (near' ++ far) ↔ (IsIn x before ⊎ (x ≡ id))
near-pushed before near near' far id view takes x = subst (λ l. IsIn x (near' ++ far) ↔ (IsIn x l ⊎ (x ≡ id))) view (
  λ i. ⊎_elim (λ j. ⊎_elim (λ k. inl (in-left x near far k)) (λ e. inr e) ((takes x).0 j)) (λ j. inl (in-right x near far j)) (in-append x near' far i),
  λ s. ⊎_elim (λ j. ⊎_elim (λ k. in-left x near' far ((takes x).1 (inl k))) (λ k. in-right x near' far k) (in-append x near far j))
      (λ e. in-left x near' far ((takes x).1 (inr e))) s,
)

pub far-pushed : (before near near' far far' : List ℕ) (id : ℕ) → near ++ far ≡ before → near' ≡ near → ((x : ℕ) → IsIn x far' ↔ (IsIn x far ⊎ (x ≡ id))) → (x : ℕ) → IsIn x (near' ++ far') ↔ (IsIn x before ⊎ (x ≡ id))
far-pushed before near near' far far' id view same takes x =
    subst (λ l. IsIn x (l ++ far') ↔ (IsIn x before ⊎ (x ≡ id))) (sym same) (subst (λ l. IsIn x (near ++ far') ↔ (IsIn x l ⊎ (x ≡ id))) view (
      λ i. ⊎_elim (λ j. inl (in-left x near far j)) (λ j. ⊎_elim (λ k. inl (in-right x near far k)) (λ e. inr e) ((takes x).0 j)) (in-append x near far' i),
      λ s. ⊎_elim (λ j. ⊎_elim (λ k. in-left x near far' k) (λ k. in-right x near far' ((takes x).1 (inl k))) (in-append x near far j))
          (λ e. in-right x near far' ((takes x).1 (inr e))) s,
    ))

both-keep : (near near' far far' : List ℕ) (below : ℕ) → Keeps near near' below → Keeps far far' below → Keeps (near ++ far) (near' ++ far') below
both-keep near near' far far' below n f = record {
  kept = λ x i. ⊎_elim (λ j. in-left x near far (n.kept x j)) (λ j. in-right x near far (f.kept x j)) (in-append x near' far' i);
  lost = λ x i lt. ⊎_elim (λ j. in-left x near' far' (n.lost x j lt)) (λ j. in-right x near' far' (f.lost x j lt)) (in-append x near far i);
}

either-greatest : (near far : List ℕ) (below : ℕ) (r : Option ℕ) → Greatest (λ x. IsIn x near ⊎ IsIn x far) below r → Greatest (λ x. IsIn x (near ++ far)) below r
either-greatest near far below None h = λ x i lt. h x (in-append x near far i) lt
either-greatest near far below (Some top) h = record {
  is = ⊎_elim (λ i. in-left top near far i) (λ i. in-right top near far i) h.is;
  under = h.under;
  greatest = λ x i lt. h.greatest x (in-append x near far i) lt;
}

pub both-peek : (before near near' far far' : List ℕ) (below : ℕ) (a b r : Option ℕ) → near ++ far ≡ before → Keeps near near' below → ((x : ℕ) → IsIn x near' → x < below) → IsGreatestOf near' a
    → Peeks far far' below b → r ≡ greater_of a b → Peeks before (near' ++ far') below r
both-peek before near near' far far' below a b r view keeps under top peeks e =
    subst (λ l. Peeks l (near' ++ far') below r) view (record {
      keeps = both-keep near near' far far' below keeps peeks.keeps;
      greatest = either-greatest near' far' below r (subst (Greatest (λ x. IsIn x near' ⊎ IsIn x far') below) (sym e)
          (greatest-or (λ x. IsIn x near') (λ x. IsIn x far') below a b (under-bound near' below a under top) peeks.greatest));
    })

-- the window alone moves on
pub near-keep : (before near near' far : List ℕ) (below : ℕ) → near ++ far ≡ before → Keeps near near' below → Keeps before (near' ++ far) below
near-keep before near near' far below view n = subst (λ l. Keeps l (near' ++ far) below) view (both-keep near near' far far below n (record { kept = λ x i. i; lost = λ x i lt. i }))

pub in-both : (xs ys : List ℕ) (w : ℕ) → IsIn w (xs ++ ys) ↔ (IsIn w xs ⊎ IsIn w ys)
in-both xs ys w = (λ i. in-append w xs ys i, λ s. ⊎_elim (λ j. in-left w xs ys j) (λ j. in-right w xs ys j) s)

-- ids are put on the list behind a move
pub pushed-past : (before moved ids after : List ℕ) (below : ℕ) → Keeps before moved below → ((x : ℕ) → IsIn x after ↔ (IsIn x moved ⊎ IsIn x ids)) → Keeps (before ++ ids) after below
pushed-past before moved ids after below k p = record {
  kept = λ x i. ⊎_elim (λ j. in-left x before ids (k.kept x j)) (λ j. in-right x before ids j) ((p x).0 i);
  lost = λ x i lt. (p x).1 (⊎_elim (λ j. inl (k.lost x j lt)) (λ j. inr j) (in-append x before ids i));
}
