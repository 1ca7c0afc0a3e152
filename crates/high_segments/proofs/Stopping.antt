-- Behind which of sixteen segments no group of them ends.
use Rattle.std.proofs.Common.{◌≡◌, ℕ, zero, suc, ◌+◌, ◌-◌, ◌<◌, ◌≤◌, Bool, true, false, cond, List, [], ◌∷◌, length, take, drop, get_or, Some, sym, subst, ap, ◌∙◌, arith, le_of_suc-le-suc, ⊎_elim}
use Rattle.std.specs.Prelude.{slice_get, nat_eq}
use Rattle.std.specs.List.{list_any}
use Rattle.std.proofs.lemmas.Bool.{lt-leb}
use Rattle.std.proofs.lemmas.List.{drop-drop}
use Rattle.id_groups.specs.Lists.{is_in}
use Rattle.segment_codec.specs.Record.{Segment}
use Rattle.segment_codec.proofs.Numbers.{some_is}
use Rattle.segment_codec.proofs.Tables.{le_or_lt}
use Rattle.segment_rules.specs.Levels.{heads, group_size}
use Rattle.segment_levels.specs.Kept.{PlainLevel, segments_in}
use Rattle.segment_levels.proofs.Heading.{heads-some}
use Rattle.high_segments.specs.Noting.{AreNoted, HasNoChild}
use Rattle.high_segments.proofs.Places.{segments-length}
use Rattle.high_segments.proofs.Groups.{get-drop}
use Rattle.high_segments.proofs.Noting.{some-at, none-next}

-- so many segments, and two more, and others
abbrev pub behind : ℕ → ℕ → ℕ
behind zero k = suc (suc k)
behind (suc c) k = suc (behind c k)

behind-is : (c k : ℕ) → behind c k ≡ c + 2 + k
behind-is zero k = omega arith
behind-is (suc c) k = let e = behind-is c k in omega (arith, e)

two-more : (b : Bool) (h : ℕ) (hs : List ℕ) → 2 ≤ length hs → 2 ≤ length (cond b hs (h ∷ hs))
two-more true h hs le = le
two-more false h hs le = omega (arith, le)

-- a segment that none of those behind it has as a parent is a head beside the last one
pub two-at : (c k : ℕ) (xs : List Segment) (s : Segment) → slice_get xs c ≡ Some s → list_any (λ (r : Segment). is_in nat_eq s.high r.parents) (take (suc k) (drop (suc c) xs)) ≡ false
    → behind c k ≤ length xs → 2 ≤ length (heads (take (behind c k) xs))
two-at zero k [] s get none le = absurd cc
two-at zero k (x ∷ []) s get none le = absurd (omega (arith, le))
two-at zero k (x ∷ t ∷ more) s get none le =
    let some = heads-some t (take k more) in
    subst (λ (z : Segment). 2 ≤ length (heads (z ∷ t ∷ take k more))) (sym (some_is x s get))
    (let e = ap (λ (b : Bool). length (cond b (heads (t ∷ take k more)) (s.high ∷ heads (t ∷ take k more)))) none in omega (arith, e, some))
two-at (suc c) k [] s get none le = absurd cc
two-at (suc c) k (x ∷ xs) s get none le =
    two-more (list_any (λ (r : Segment). is_in nat_eq x.high r.parents) (take (behind c k) xs)) x.high (heads (take (behind c k) xs)) (two-at c k xs s get none (le_of_suc-le-suc le))

-- where no greater number of the first segments has one head, none of them is a group
pub stops : (count n : ℕ) (xs : List Segment) → count ≤ n → ((m : ℕ) → count < m → m ≤ n → 2 ≤ length (heads (take m xs))) → group_size n xs ≡ group_size count xs
unfolding group_size
stops count zero xs le more = ap (λ (m : ℕ). group_size m xs) (let z : zero ≡ count = omega (arith, le) in z)
stops count (suc n) xs le more =
    ⊎_elim
    (λ (last : suc n ≤ count). ap (λ (m : ℕ). group_size m xs) (let z : suc n ≡ count = omega (arith, le, last) in z))
    (λ (lt : count < suc n).
    let two = more (suc n) lt (omega arith) in
    ap (λ (b : Bool). cond b (suc n) (group_size n xs)) (lt-leb (length (heads (take (suc n) xs))) 1 (omega (arith, two)))
    ∙ stops count n xs (omega (arith, lt)) (λ m a b. more m a (omega (arith, b))))
    (le_or_lt (suc n) count)

-- behind a segment that isn't noted no group ends
pub most-noted : (below : PlainLevel) (note : List Bool) (from count : ℕ) → AreNoted (segments_in below) (length below.entries) note → from + 16 ≤ length below.entries → 1 ≤ count → count ≤ 16
    → (count < 16 → get_or note (from + count - 1) true ≡ false) → group_size 16 (drop from (segments_in below)) ≡ group_size count (drop from (segments_in below))
most-noted below note from count noted room some most last =
    let xs = segments_in below in
    let len = segments-length below in
    let left = Rattle.std.proofs.lemmas.List.length-drop from xs in
    stops count 16 (drop from xs) most (λ m lt le.
    let at = from + count - 1 in
    let s = some-at xs at (omega (arith, len, room, lt, le, some)) in
    let child = subst (λ (n : ℕ). HasNoChild xs n at) (sym len) (noted.others at (last (omega (arith, lt, le)))) in
    let here : at ≡ from + (count - 1) = omega (arith, some) in
    let next : at + 1 ≡ from + suc (count - 1) = omega (arith, some) in
    let none = none-next xs at s.0 s.1 child (suc (m - count - 1)) (omega (arith, lt, le, some)) (omega (arith, len, room, lt, le, some)) in
    let there : behind (count - 1) (m - count - 1) ≡ m = (let e = behind-is (count - 1) (m - count - 1) in omega (arith, e, lt, some)) in
    subst (λ (n : ℕ). 2 ≤ length (heads (take n (drop from xs)))) there
    (two-at (count - 1) (m - count - 1) (drop from xs) s.0 (get-drop from (count - 1) xs ∙ ap (slice_get xs) (sym here) ∙ s.1)
    (ap (λ (z : List Segment). list_any (λ (r : Segment). is_in nat_eq s.0.high r.parents) (take (suc (m - count - 1)) z)) (drop-drop (suc (count - 1)) from xs ∙ ap (λ (n : ℕ). drop n xs) (sym next)) ∙ none)
    (omega (arith, there, left, len, room, le))))
