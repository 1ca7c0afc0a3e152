-- Segments that are gone over: their heads, and their parents below an id.
use Rattle.std.proofs.Common.{◌≡◌, ℕ, zero, suc, ◌+◌, ◌<◌, ◌≤◌, Bool, true, false, cond, not, ◌||◌, List, [], ◌∷◌, ◌++◌, length, take, drop, Some, refl, sym, subst, ap, ◌∙◌, arith}
use Rattle.std.specs.Prelude.{nat_le, filter, flat_map, nat_eq, nat_lt, slice_get}
use Rattle.std.specs.List.{list_any}
use Rattle.std.proofs.lemmas.Bool.{le-leb, lt-leb}
use Rattle.std.proofs.lemmas.List.{append-nil}
use Rattle.std.proofs.lemmas.List.Elements.{filter-append}
use Rattle.std.proofs.lemmas.Grind.{flat_map-append}
use Rattle.std.proofs.lemmas.List.Concat.{flat_map-cons}
use Rattle.id_groups.specs.Lists.{is_in}
use Rattle.segment_codec.specs.Record.{Segment}
use Rattle.segment_rules.specs.Levels.{have_one_head, heads, group_size, parents_below}
use Rattle.segment_levels.proofs.Heading.{heads-some}

-- ---- filters

-- what isn't the number, and then isn't among others
pub filter-both : (n : ℕ) (ns hs : List ℕ) → filter (λ h. not (is_in nat_eq h (n ∷ ns))) hs ≡ filter (λ h. not (is_in nat_eq h ns)) (filter (λ h. not (nat_eq h n)) hs)
filter-both n ns [] = refl
filter-both n ns (h ∷ hs) = go (nat_eq h n) (is_in nat_eq h ns) refl (filter-both n ns hs)
  where
    go : (a b : Bool) → is_in nat_eq h ns ≡ b → filter (λ h. not (is_in nat_eq h (n ∷ ns))) hs ≡ filter (λ h. not (is_in nat_eq h ns)) (filter (λ h. not (nat_eq h n)) hs)
        → cond (not (a || b)) (h ∷ filter (λ h. not (is_in nat_eq h (n ∷ ns))) hs) (filter (λ h. not (is_in nat_eq h (n ∷ ns))) hs)
        ≡ filter (λ h. not (is_in nat_eq h ns)) (cond (not a) (h ∷ filter (λ h. not (nat_eq h n)) hs) (filter (λ h. not (nat_eq h n)) hs))
    go true b e rest = rest
    go false true e rest = rest ∙ sym (ap (λ c. cond (not c) (h ∷ filter (λ h. not (is_in nat_eq h ns)) (filter (λ h. not (nat_eq h n)) hs)) (filter (λ h. not (is_in nat_eq h ns)) (filter (λ h. not (nat_eq h n)) hs))) e)
    go false false e rest =
        ap (λ z. h ∷ z) rest ∙ sym (ap (λ c. cond (not c) (h ∷ filter (λ h. not (is_in nat_eq h ns)) (filter (λ h. not (nat_eq h n)) hs)) (filter (λ h. not (is_in nat_eq h ns)) (filter (λ h. not (nat_eq h n)) hs))) e)

pub filter-none : (hs : List ℕ) → filter (λ h. not (is_in nat_eq h [])) hs ≡ hs
filter-none [] = refl
filter-none (h ∷ hs) = ap (λ z. h ∷ z) (filter-none hs)

-- ---- heads

any-append : (id : ℕ) (xs : List Segment) (s : Segment) → list_any (λ t. is_in nat_eq id t.parents) (xs ++ s ∷ []) ≡ (list_any (λ t. is_in nat_eq id t.parents) xs || is_in nat_eq id s.parents)
any-append id [] s = or-false (is_in nat_eq id s.parents)
  where
    or-false : (b : Bool) → (b || false) ≡ (false || b)
    or-false true = refl
    or-false false = refl
any-append id (x ∷ xs) s = go (is_in nat_eq id x.parents) (any-append id xs s)
  where
    go : (a : Bool) → list_any (λ t. is_in nat_eq id t.parents) (xs ++ s ∷ []) ≡ (list_any (λ t. is_in nat_eq id t.parents) xs || is_in nat_eq id s.parents)
        → (a || list_any (λ t. is_in nat_eq id t.parents) (xs ++ s ∷ [])) ≡ ((a || list_any (λ t. is_in nat_eq id t.parents) xs) || is_in nat_eq id s.parents)
    go true e = refl
    go false e = e

-- the heads once there is one more segment
pub heads-more : (xs : List Segment) (s : Segment) → heads (xs ++ s ∷ []) ≡ filter (λ h. not (is_in nat_eq h s.parents)) (heads xs) ++ s.high ∷ []
heads-more [] s = refl
heads-more (x ∷ xs) s =
    ap (λ b. cond b (heads (xs ++ s ∷ [])) (x.high ∷ heads (xs ++ s ∷ []))) (any-append x.high xs s)
    ∙ go (list_any (λ t. is_in nat_eq x.high t.parents) xs) (is_in nat_eq x.high s.parents) refl (heads-more xs s)
  where
    go : (a b : Bool) → is_in nat_eq x.high s.parents ≡ b → heads (xs ++ s ∷ []) ≡ filter (λ h. not (is_in nat_eq h s.parents)) (heads xs) ++ s.high ∷ []
        → cond (a || b) (heads (xs ++ s ∷ [])) (x.high ∷ heads (xs ++ s ∷ [])) ≡ filter (λ h. not (is_in nat_eq h s.parents)) (cond a (heads xs) (x.high ∷ heads xs)) ++ s.high ∷ []
    go true b e rest = rest
    go false true e rest = rest ∙ ap (λ z. z ++ s.high ∷ []) (sym (ap (λ c. cond (not c) (x.high ∷ filter (λ h. not (is_in nat_eq h s.parents)) (heads xs)) (filter (λ h. not (is_in nat_eq h s.parents)) (heads xs))) e))
    go false false e rest = ap (λ z. x.high ∷ z) rest ∙ ap (λ z. z ++ s.high ∷ []) (sym (ap (λ c. cond (not c) (x.high ∷ filter (λ h. not (is_in nat_eq h s.parents)) (heads xs)) (filter (λ h. not (is_in nat_eq h s.parents)) (heads xs))) e))

-- ---- one more

pub take-next : (from k : ℕ) (xs : List Segment) (s : Segment) → slice_get xs (from + k) ≡ Some s → take (suc k) (drop from xs) ≡ take k (drop from xs) ++ s ∷ []
take-next zero k xs s e = here k xs s (ap (slice_get xs) (let z : k ≡ 0 + k = omega arith in z) ∙ e)
  where
    here : (k : ℕ) (xs : List Segment) (s : Segment) → slice_get xs k ≡ Some s → take (suc k) xs ≡ take k xs ++ s ∷ []
    here k [] s e = absurd cc
    here zero (x ∷ xs) s e = let same : x ≡ s = Rattle.segment_codec.proofs.Numbers.some_is x s e in ap (λ z. z ∷ take 0 xs) same ∙ nothing s xs
      where
        nothing : (s : Segment) (xs : List Segment) → s ∷ take 0 xs ≡ s ∷ []
        nothing s [] = refl
        nothing s (x ∷ xs) = refl
    here (suc k) (x ∷ xs) s e = ap (λ z. x ∷ z) (here k xs s e)
take-next (suc from) k [] s e = absurd (none (suc from + k) s e)
  where
    none : (n : ℕ) (s : Segment) → slice_get [] n ≡ Some s → ⊥
    none n s e = cc
take-next (suc from) k (x ∷ xs) s e = take-next from k xs s (ap (slice_get (x ∷ xs)) (let z : suc (from + k) ≡ suc from + k = omega arith in z) ∙ e)

pub record Scanned (xs : List Segment) (k : ℕ) (hs : List ℕ) (size : ℕ) : Type 0 where
  pub heads_are : hs ≡ heads (take k xs)
  pub size_is : size ≡ group_size k xs

pub scan-none : (xs : List Segment) → Scanned xs 0 [] 0
unfolding group_size
scan-none [] = record { heads_are = refl; size_is = refl }
scan-none (x ∷ xs) = record { heads_are = refl; size_is = refl }

heads-end : (xs : List Segment) (s : Segment) → 1 ≤ length (heads (xs ++ s ∷ []))
heads-end [] s = omega arith
heads-end (x ∷ xs) s = heads-some x (xs ++ s ∷ [])

module _ (below : List Segment) (from k : ℕ) (hs new : List ℕ) (size : ℕ) (s : Segment) (get : slice_get below (from + k) ≡ Some s)
    (scanned : Scanned (drop from below) k hs size) (add : new ≡ filter (λ h. not (is_in nat_eq h s.parents)) hs ++ s.high ∷ []) where
  next-take : take (suc k) (drop from below) ≡ take k (drop from below) ++ s ∷ []
  next-take = take-next from k below s get

  next-heads : new ≡ heads (take (suc k) (drop from below))
  next-heads =
      add ∙ ap (λ z. filter (λ h. not (is_in nat_eq h s.parents)) z ++ s.high ∷ []) scanned.heads_are
      ∙ sym (heads-more (take k (drop from below)) s) ∙ ap heads (sym next-take)

  one-more : suc k ≡ k + 1
  one-more = omega arith

  some-new : 1 ≤ length new
  some-new = let e = ap length (add ∙ ap (λ z. filter (λ h. not (is_in nat_eq h s.parents)) z ++ s.high ∷ []) scanned.heads_are ∙ sym (heads-more (take k (drop from below)) s)) in let le = heads-end (take k (drop from below)) s in omega (arith, e, le)

  pub scan-one : length new ≡ 1 → Scanned (drop from below) (k + 1) new (k + 1)
  unfolding group_size
  scan-one one =
      let le : length (heads (take (suc k) (drop from below))) ≤ 1 = (let e = ap length next-heads in omega (arith, e, one)) in
      subst (λ n. Scanned (drop from below) n new n) one-more
      (record { heads_are = next-heads; size_is = sym (ap (λ b. cond b (suc k) (group_size k (drop from below))) (le-leb (length (heads (take (suc k) (drop from below)))) 1 le)) })

  pub scan-more : (length new ≡ 1 → ⊥) → Scanned (drop from below) (k + 1) new size
  unfolding group_size
  scan-more more =
      let some = some-new in
      let lt : 1 < length (heads (take (suc k) (drop from below))) = (let e = ap length next-heads in not-one (length new) (length (heads (take (suc k) (drop from below)))) some more e) in
      subst (λ n. Scanned (drop from below) n new size) one-more
      (record { heads_are = next-heads; size_is = scanned.size_is ∙ sym (ap (λ b. cond b (suc k) (group_size k (drop from below))) (lt-leb (length (heads (take (suc k) (drop from below)))) 1 lt)) })
    where
      not-one : (a b : ℕ) → 1 ≤ a → (a ≡ 1 → ⊥) → a ≡ b → 1 < b
      not-one zero b some more e = absurd (omega (arith, some))
      not-one (suc zero) b some more e = absurd (more refl)
      not-one (suc (suc a)) b some more e = omega (arith, e)

-- ---- parents

pub below-more : (low from k : ℕ) (xs : List Segment) (s : Segment) (found new : List ℕ) → slice_get xs (from + k) ≡ Some s → found ≡ parents_below low (take k (drop from xs))
    → new ≡ found ++ filter (λ p. nat_lt p low) s.parents → new ≡ parents_below low (take (k + 1) (drop from xs))
below-more low from k xs s found new get h add =
    let one : suc k ≡ k + 1 = omega arith in
    add ∙ ap (λ z. z ++ filter (λ p. nat_lt p low) s.parents) h
    ∙ sym (filter-append (λ p. nat_lt p low) (flat_map (λ (t : Segment). t.parents) (take k (drop from xs))) s.parents)
    ∙ ap (filter (λ p. nat_lt p low)) (sym (flat_map-append (λ (t : Segment). t.parents) (take k (drop from xs)) (s ∷ [])
    ∙ ap (λ z. flat_map (λ (t : Segment). t.parents) (take k (drop from xs)) ++ z) (flat_map-cons (λ (t : Segment). t.parents) s [] ∙ append-nil s.parents)))
    ∙ ap (parents_below low) (sym (take-next from k xs s get))
    ∙ ap (λ n. parents_below low (take n (drop from xs))) one

-- ---- a first segment that none behind it has as a parent

any-prefix : (id n : ℕ) (more : List Segment) → list_any (λ (t : Segment). is_in nat_eq id t.parents) more ≡ false → list_any (λ (t : Segment). is_in nat_eq id t.parents) (take n more) ≡ false
any-prefix id zero [] e = refl
any-prefix id zero (t ∷ more) e = refl
any-prefix id (suc n) [] e = refl
any-prefix id (suc n) (t ∷ more) e = go (is_in nat_eq id t.parents) refl e (any-prefix id n more)
  where
    go : (b : Bool) → is_in nat_eq id t.parents ≡ b → (b || list_any (λ (t : Segment). is_in nat_eq id t.parents) more) ≡ false
        → (list_any (λ (t : Segment). is_in nat_eq id t.parents) more ≡ false → list_any (λ (t : Segment). is_in nat_eq id t.parents) (take n more) ≡ false)
        → (is_in nat_eq id t.parents || list_any (λ (t : Segment). is_in nat_eq id t.parents) (take n more)) ≡ false
    go true i f rest = absurd (let g : true ≡ false = f in cc)
    go false i f rest = ap (λ c. c || list_any (λ (t : Segment). is_in nat_eq id t.parents) (take n more)) i ∙ rest f

take-take-one : (n : ℕ) (t : Segment) (more : List Segment) → 1 ≤ length (heads (take (suc n) (t ∷ more)))
take-take-one n t more = heads-some t (take n more)

two-heads : (s t : Segment) (more : List Segment) (n : ℕ) → list_any (λ (r : Segment). is_in nat_eq s.high r.parents) (t ∷ more) ≡ false → have_one_head (take (suc (suc n)) (s ∷ t ∷ more)) ≡ false
two-heads s t more n e =
    let some = take-take-one n t more in
    let none = any-prefix s.high (suc n) (t ∷ more) e in
    ap (λ b. nat_le (length (cond b (heads (take (suc n) (t ∷ more))) (s.high ∷ heads (take (suc n) (t ∷ more))))) 1) none
    ∙ lt-leb (suc (length (heads (take (suc n) (t ∷ more))))) 1 (omega (arith, some))

alone : (n : ℕ) (s t : Segment) (more : List Segment) → list_any (λ (r : Segment). is_in nat_eq s.high r.parents) (t ∷ more) ≡ false → group_size (suc n) (s ∷ t ∷ more) ≡ 1
unfolding group_size
alone zero s t more e = refl
alone (suc n) s t more e = ap (λ b. cond b (suc (suc n)) (group_size (suc n) (s ∷ t ∷ more))) (two-heads s t more n e) ∙ alone n s t more e

size-take : (n : ℕ) (xs : List Segment) → group_size n xs ≡ group_size n (take n xs)
unfolding group_size
size-take n xs = go n n xs (omega arith)
  where
    same-take : (m n : ℕ) (xs : List Segment) → m ≤ n → take m xs ≡ take m (take n xs)
    same-take zero n xs le = none xs (take n xs)
      where
        none : (xs ys : List Segment) → take 0 xs ≡ take 0 ys
        none [] [] = refl
        none [] (y ∷ ys) = refl
        none (x ∷ xs) [] = refl
        none (x ∷ xs) (y ∷ ys) = refl
    same-take (suc m) zero xs le = absurd (omega (arith, le))
    same-take (suc m) (suc n) [] le = refl
    same-take (suc m) (suc n) (x ∷ xs) le = ap (λ z. x ∷ z) (same-take m n xs (omega (arith, le)))

    go : (m n : ℕ) (xs : List Segment) → m ≤ n → group_size m xs ≡ group_size m (take n xs)
    go zero n xs le = refl
    go (suc m) n xs le =
        ap (λ z. cond (have_one_head z) (suc m) (group_size m xs)) (same-take (suc m) n xs le)
        ∙ ap (λ k. cond (have_one_head (take (suc m) (take n xs))) (suc m) k) (go m n xs (omega (arith, le)))

-- where none of the fifteen behind the first has it as a parent, it is a group of its own
pub first-alone : (xs : List Segment) (s : Segment) (more : List Segment) → 16 ≤ length xs → xs ≡ s ∷ more → list_any (λ (r : Segment). is_in nat_eq s.high r.parents) (take 15 more) ≡ false → group_size 16 xs ≡ 1
first-alone xs s [] le is e = absurd (let l = ap length is in omega (arith, l, le))
first-alone xs s (t ∷ more) le is e = ap (group_size 16) is ∙ size-take 16 (s ∷ t ∷ more) ∙ alone 15 s t (take 14 more) e

-- ---- whether one of some segments has a parent

pub child-none : (id from k : ℕ) (xs : List Segment) (s : Segment) → slice_get xs (from + k) ≡ Some s → list_any (λ (t : Segment). is_in nat_eq id t.parents) (take k (drop from xs)) ≡ false
    → is_in nat_eq id s.parents ≡ false → list_any (λ (t : Segment). is_in nat_eq id t.parents) (take (k + 1) (drop from xs)) ≡ false
child-none id from k xs s get none here =
    let one : k + 1 ≡ suc k = omega arith in
    ap (λ n. list_any (λ (t : Segment). is_in nat_eq id t.parents) (take n (drop from xs))) one
    ∙ ap (list_any (λ (t : Segment). is_in nat_eq id t.parents)) (take-next from k xs s get) ∙ any-append id (take k (drop from xs)) s ∙ ap (λ b. b || is_in nat_eq id s.parents) none ∙ here

drop-one-more : (from : ℕ) (xs : List Segment) (s : Segment) → slice_get xs from ≡ Some s → drop from xs ≡ s ∷ drop (from + 1) xs
drop-one-more zero [] s e = absurd cc
drop-one-more zero (x ∷ xs) s e = ap (λ z. z ∷ xs) (Rattle.segment_codec.proofs.Numbers.some_is x s e)
drop-one-more (suc from) [] s e = absurd cc
drop-one-more (suc from) (x ∷ xs) s e = drop-one-more from xs s e ∙ ap (λ n. s ∷ drop n (x ∷ xs)) (let z : suc (from + 1) ≡ suc from + 1 = omega arith in z)

pub alone-at : (xs : List Segment) (from first : ℕ) (s : Segment) → from + 16 ≤ length xs → slice_get xs from ≡ Some s → first ≡ s.high
    → list_any (λ (r : Segment). is_in nat_eq first r.parents) (take 15 (drop (from + 1) xs)) ≡ false → 1 ≡ group_size 16 (drop from xs)
alone-at xs from first s room get is none =
    let left = Rattle.std.proofs.lemmas.List.length-drop from xs in
    sym (first-alone (drop from xs) s (drop (from + 1) xs) (omega (arith, left, room)) (drop-one-more from xs s get)
    (ap (λ n. list_any (λ (r : Segment). is_in nat_eq n r.parents) (take 15 (drop (from + 1) xs))) (sym is) ∙ none))
