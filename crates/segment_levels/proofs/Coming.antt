-- The segments of levels that come with more ids: on each level those behind the old ones.
use Rattle.std.proofs.Common.{◌≡◌, ℕ, zero, suc, ◌+◌, ◌-◌, ◌≤◌, inl, inr, Bool, true, false, cond, not, List, [], ◌∷◌, ◌++◌, length, drop, refl, sym, subst, ap, ap₂, ◌∙◌, arith}
use Rattle.std.specs.Prelude.{nat_eq, ◌&&◌, filter, flat_map}
use Rattle.std.specs.Cmp.Lexicographic.{pointwise, same_text}
use Rattle.std.specs.List.{range_with_len}
use Rattle.std.proofs.lemmas.Bool.{eqb-true}
use Rattle.std.proofs.lemmas.List.Elements.{filter-append}
use Rattle.id_groups.specs.Lists.{IsIn, is_in}
use Rattle.id_groups.proofs.Listing.{and_true, found, there}
use Rattle.segment_codec.specs.Record.{Segment}
use Rattle.segment_codec.specs.Table.{Follow}
use Rattle.segment_codec.proofs.Tables.{AreRising, follow-rising, over-in}
use Rattle.segment_rules.specs.Levels.{groups, level_segments, top_level}
use Rattle.segment_rules.specs.NewLevels.{same_segment, new_levels, high_levels}
use Rattle.segment_levels.specs.Whole.{IsWholeTo, Grows}
use Rattle.segment_levels.proofs.Leveled.{leveled, level-grows}

-- ---- the test of two segments

pub same-exact : (a b : Segment) → same_segment a b ≡ true → a ≡ b
same-exact a b h =
    let f = and_true (nat_eq a.low b.low && nat_eq a.high b.high && nat_eq a.level b.level) (pointwise nat_eq a.parents b.parents) h in
    let g = and_true (nat_eq a.low b.low && nat_eq a.high b.high) (nat_eq a.level b.level) f.0 in
    let k = and_true (nat_eq a.low b.low) (nat_eq a.high b.high) g.0 in
    ap (λ n. (let s : Segment = record a { low = n } in s)) (eqb-true a.low b.low k.0)
    ∙ ap (λ n. (let s : Segment = record a { low = b.low; high = n } in s)) (eqb-true a.high b.high k.1)
    ∙ ap (λ n. (let s : Segment = record a { low = b.low; high = b.high; level = n } in s)) (eqb-true a.level b.level g.1)
    ∙ ap (λ ps. (let s : Segment = record b { parents = ps } in s)) (same_text a.parents b.parents (sym f.1))

pointwise-self : (xs : List ℕ) → pointwise nat_eq xs xs ≡ true
pointwise-self [] = refl
pointwise-self (x ∷ xs) = ap (λ b. b && pointwise nat_eq xs xs) (Rattle.std.proofs.Common.eq-eqb x x refl) ∙ pointwise-self xs

pub same-self : (a : Segment) → same_segment a a ≡ true
same-self a =
    ap (λ b. b && nat_eq a.high a.high && nat_eq a.level a.level && pointwise nat_eq a.parents a.parents) (Rattle.std.proofs.Common.eq-eqb a.low a.low refl)
    ∙ ap (λ b. b && nat_eq a.level a.level && pointwise nat_eq a.parents a.parents) (Rattle.std.proofs.Common.eq-eqb a.high a.high refl)
    ∙ ap (λ b. b && pointwise nat_eq a.parents a.parents) (Rattle.std.proofs.Common.eq-eqb a.level a.level refl)
    ∙ pointwise-self a.parents

-- ---- what isn't old

fresh : List Segment → Segment → Bool
fresh olds s = not (is_in same_segment s olds)

old-not-fresh : (olds : List Segment) (s : Segment) → IsIn s olds → not (is_in same_segment s olds) ≡ false
old-not-fresh olds s i = ap not (there same_segment same-exact same-self s olds i)

none-fresh : (olds xs : List Segment) → ((s : Segment) → IsIn s xs → IsIn s olds) → filter (λ s. not (is_in same_segment s olds)) xs ≡ []
none-fresh olds [] h = refl
none-fresh olds (x ∷ xs) h =
    ap (λ b. cond b (x ∷ filter (λ s. not (is_in same_segment s olds)) xs) (filter (λ s. not (is_in same_segment s olds)) xs)) (old-not-fresh olds x (h x (inl refl)))
    ∙ none-fresh olds xs (λ s i. h s (inr i))

not-false : (b : Bool) → (b ≡ true → ⊥) → not b ≡ true
not-false true h = absurd (h refl)
not-false false h = refl

all-fresh : (olds xs : List Segment) → ((s : Segment) → IsIn s xs → IsIn s olds → ⊥) → filter (λ s. not (is_in same_segment s olds)) xs ≡ xs
all-fresh olds [] h = refl
all-fresh olds (x ∷ xs) h =
    ap (λ b. cond b (x ∷ filter (λ s. not (is_in same_segment s olds)) xs) (filter (λ s. not (is_in same_segment s olds)) xs))
    (not-false (is_in same_segment x olds) (λ e. h x (inl refl) (found same_segment same-exact same-self x olds e)))
    ∙ ap (λ z. x ∷ z) (all-fresh olds xs (λ s i. h s (inr i)))

-- in a rising list nothing stands twice
apart : (front back : List Segment) → AreRising (front ++ back) → (s : Segment) → IsIn s back → IsIn s front → s.low ≤ s.high → ⊥
apart [] back rise s i j le = j
apart (x ∷ front) back rise s i (inl e) le =
    let over = over-in x (front ++ back) s rise.1 (Rattle.segment_levels.proofs.Ascending.in-right s front back i) in
    let same = ap (λ (t : Segment). t.high) e in
    omega (arith, over, same, le)
apart (x ∷ front) back rise s i (inr j) le = apart front back rise.2 s i j le

-- of segments that follow one another, those that aren't among the first ones are those behind them
pub fresh-behind : (first end : ℕ) (olds more : List Segment) → Follow first end (olds ++ more) → filter (λ s. not (is_in same_segment s olds)) (olds ++ more) ≡ more
fresh-behind first end olds more h =
    filter-append (λ s. not (is_in same_segment s olds)) olds more
    ∙ ap₂ (λ a b. a ++ b) (none-fresh olds olds (λ s i. i))
    (all-fresh olds more (λ s i j.
    let w = Rattle.segment_codec.proofs.Tables.follow-within first end (olds ++ more) h s (Rattle.segment_levels.proofs.Ascending.in-right s olds more i) in
    apart olds more (follow-rising first end (olds ++ more) h) s i j w.1))

drop-front : (xs ys : List Segment) → drop (length xs) (xs ++ ys) ≡ ys
drop-front [] [] = refl
drop-front [] (y ∷ ys) = refl
drop-front (x ∷ xs) ys = drop-front xs ys

-- the new segments of a level
pub level-behind : (old new : List Segment) (end : ℕ) → IsWholeTo new end → Grows old new → (level : ℕ)
    → filter (λ s. not (is_in same_segment s (level_segments old level))) (level_segments new level) ≡ drop (length (level_segments old level)) (level_segments new level)
level-behind old new end w g level =
    let b = level-grows old new g level in
    let at = leveled new end w level in
    ap (filter (λ s. not (is_in same_segment s (level_segments old level)))) b.1
    ∙ fresh-behind 0 at.last (level_segments old level) b.0 (subst (Follow 0 at.last) b.1 at.follow)
    ∙ sym (ap (drop (length (level_segments old level))) b.1 ∙ drop-front (level_segments old level) b.0)

same-flat : {X Y : Type 0} (f g : X → List Y) → ((x : X) → f x ≡ g x) → (xs : List X) → flat_map f xs ≡ flat_map g xs
same-flat f g h [] = refl
same-flat f g h (x ∷ xs) = ap₂ (λ a b. a ++ b) (h x) (same-flat f g h xs)

pub new-behind : (old new : List Segment) (end : ℕ) → IsWholeTo new end → Grows old new
    → new_levels old new ≡ flat_map (λ level. drop (length (level_segments old level)) (level_segments new level)) (range_with_len 1 top_level)
new-behind old new end w g =
    same-flat (λ level. filter (λ s. not (is_in same_segment s (level_segments old level))) (level_segments new level))
    (λ level. drop (length (level_segments old level)) (level_segments new level)) (level-behind old new end w g) (range_with_len 1 top_level)

-- ---- from nothing

no-level : (level : ℕ) → level_segments [] level ≡ []
no-level zero = refl
no-level (suc level) = ap (groups (suc level) 0) (no-level level)

pub new-all : (new : List Segment) → new_levels [] new ≡ high_levels new
new-all new =
    same-flat (λ level. filter (λ s. not (is_in same_segment s (level_segments [] level))) (level_segments new level)) (level_segments new)
    (λ level. all-fresh (level_segments [] level) (level_segments new level) (λ s i j. subst (λ z. IsIn s z) (no-level level) j)) (range_with_len 1 top_level)
