-- How the segments of a level are grouped, and that a group that was made once stays.
use Rattle.std.proofs.Common.{◌≡◌, ℕ, zero, suc, ◌+◌, ◌-◌, ◌<◌, ◌≤◌, Bool, true, false, cond, List, [], ◌∷◌, ◌++◌, length, take, drop, refl, sym, ap, ◌∙◌, arith, le_of_suc-le-suc}
use Rattle.std.specs.Prelude.{nat_lt}
use Rattle.std.proofs.lemmas.Bool.{ltb-true, ltb-false, lt-ltb, le-ltb}
use Rattle.std.proofs.lemmas.List.{take-append-le, length-append}
use Rattle.segment_codec.specs.Record.{Segment}
use Rattle.segment_rules.specs.Levels.{have_one_head, group_limit, group_size, merged, groups, count_grouped}

-- a group is decided by its first segments
pub size-append : (n : ℕ) (xs ys : List Segment) → n ≤ length xs → group_size n (xs ++ ys) ≡ group_size n xs
unfolding group_size
size-append zero xs ys le = refl
size-append (suc n) xs ys le =
    ap (λ z. cond (have_one_head z) (suc n) (group_size n (xs ++ ys))) (take-append-le (suc n) xs ys le)
    ∙ ap (λ k. cond (have_one_head (take (suc n) xs)) (suc n) k) (size-append n xs ys (omega (arith, le)))

size-most-case : (n k : ℕ) (b : Bool) → k ≤ n → cond b (suc n) k ≤ suc n
size-most-case n k true le = omega arith
size-most-case n k false le = omega (arith, le)

pub size-most : (n : ℕ) (xs : List Segment) → group_size n xs ≤ n
unfolding group_size
size-most zero xs = omega arith
size-most (suc n) xs = size-most-case n (group_size n xs) (have_one_head (take (suc n) xs)) (size-most n xs)

size-some-case : (n k : ℕ) (b : Bool) → 1 ≤ k → 1 ≤ cond b (suc n) k
size-some-case n k true le = omega arith
size-some-case n k false le = le

pub size-some : (n : ℕ) (s : Segment) (more : List Segment) → 1 ≤ group_size (suc n) (s ∷ more)
unfolding group_size
size-some zero s more = omega arith
size-some (suc n) s more = size-some-case (suc n) (group_size (suc n) (s ∷ more)) (have_one_head (take (suc (suc n)) (s ∷ more))) (size-some n s more)

size-one-case : (n k : ℕ) (xs : List Segment) (b : Bool) → have_one_head (take (suc n) xs) ≡ b → have_one_head (take k xs) ≡ true → have_one_head (take (cond b (suc n) k) xs) ≡ true
size-one-case n k xs true e h = e
size-one-case n k xs false e h = h

-- the first segments have one head together
pub size-one : (n : ℕ) (xs : List Segment) → have_one_head (take (group_size n xs) xs) ≡ true
unfolding group_size
size-one zero xs = refl
size-one (suc n) xs = size-one-case n (group_size n xs) xs (have_one_head (take (suc n) xs)) refl (size-one n xs)

-- ---- one group

-- what the first group of segments is
pub record FirstGroup (s : Segment) (more : List Segment) : Type 0 where
  -- how many segments it has beside the first
  pub others : ℕ
  pub size : group_size group_limit (s ∷ more) ≡ suc others
  pub less : group_size group_limit (s ∷ more) - 1 ≡ others
  pub few : others ≤ 15
  pub one_head : have_one_head (s ∷ take others more) ≡ true

pub first-group : (s : Segment) (more : List Segment) → FirstGroup s more
first-group s more =
    let some : 1 ≤ group_size group_limit (s ∷ more) = size-some 15 s more in
    let most = size-most group_limit (s ∷ more) in
    let suc-is : group_size group_limit (s ∷ more) ≡ suc (group_size group_limit (s ∷ more) - 1) = omega (arith, some) in
    record {
      others = group_size group_limit (s ∷ more) - 1;
      size = suc-is;
      less = refl;
      few = omega (arith, most);
      one_head = ap (λ n. have_one_head (take n (s ∷ more))) (sym suc-is) ∙ size-one group_limit (s ∷ more);
    }

pub groups-few : (level : ℕ) (s : Segment) (more : List Segment) → length more < 15 → groups level 0 (s ∷ more) ≡ []
groups-few level s more lt =
    let size = group_size group_limit (s ∷ more) in
    ap (λ b. cond b [] (merged level s (take (size - 1) more) ∷ groups level (size - 1) more)) (lt-ltb (length more) 15 lt)

pub groups-many : (level : ℕ) (s : Segment) (more : List Segment) → 15 ≤ length more
    → groups level 0 (s ∷ more) ≡ merged level s (take (first-group s more).others more) ∷ groups level (first-group s more).others more
unfolding first-group
groups-many level s more le =
    let size = group_size group_limit (s ∷ more) in
    ap (λ b. cond b [] (merged level s (take (size - 1) more) ∷ groups level (size - 1) more)) (le-ltb (length more) 15 le)

pub count-few : (s : Segment) (more : List Segment) → length more < 15 → count_grouped 0 (s ∷ more) ≡ 0
count-few s more lt =
    let size = group_size group_limit (s ∷ more) in
    ap (λ b. cond b 0 (suc (count_grouped (size - 1) more))) (lt-ltb (length more) 15 lt)

pub count-many : (s : Segment) (more : List Segment) → 15 ≤ length more → count_grouped 0 (s ∷ more) ≡ suc (count_grouped (first-group s more).others more)
unfolding first-group
count-many s more le =
    let size = group_size group_limit (s ∷ more) in
    ap (λ b. cond b 0 (suc (count_grouped (size - 1) more))) (le-ltb (length more) 15 le)

-- ---- skipped segments

pub groups-skip : (level taken : ℕ) (xs : List Segment) → taken ≤ length xs → groups level taken xs ≡ groups level 0 (drop taken xs)
groups-skip level zero xs le = refl
groups-skip level (suc taken) [] le = absurd (omega (arith, le))
groups-skip level (suc taken) (s ∷ more) le = groups-skip level taken more (le_of_suc-le-suc le)

pub count-skip : (taken : ℕ) (xs : List Segment) → taken ≤ length xs → count_grouped taken xs ≡ taken + count_grouped 0 (drop taken xs)
count-skip zero xs le = omega arith
count-skip (suc taken) [] le = absurd (omega (arith, le))
count-skip (suc taken) (s ∷ more) le = let r = count-skip taken more (le_of_suc-le-suc le) in omega (arith, r)

pub few-or-many : (a : ℕ) (P : Type 0) → (a < 15 → P) → (15 ≤ a → P) → P
few-or-many a P few many = go (nat_lt a 15) refl
  where
    go : (b : Bool) → nat_lt a 15 ≡ b → P
    go true e = few (ltb-true a 15 e)
    go false e = many (ltb-false a 15 e)

pub count-most : (taken : ℕ) (xs : List Segment) → taken ≤ length xs → (taken ≤ count_grouped taken xs) × (count_grouped taken xs ≤ length xs)
count-most zero [] le = (omega arith, omega arith)
count-most (suc taken) [] le = absurd (omega (arith, le))
count-most (suc taken) (s ∷ more) le = let r = count-most taken more (le_of_suc-le-suc le) in let a = r.0 in let b = r.1 in (omega (arith, a), omega (arith, b))
count-most zero (s ∷ more) le =
    let g = first-group s more in let most = g.few in
    let r : 15 ≤ length more → (g.others ≤ count_grouped g.others more) × (count_grouped g.others more ≤ length more) = λ m. count-most g.others more (omega (arith, most, m)) in
    few-or-many (length more) ((0 ≤ count_grouped 0 (s ∷ more)) × (count_grouped 0 (s ∷ more) ≤ suc (length more)))
    (λ f. let e = count-few s more f in (omega arith, omega (arith, e)))
    (λ m. let e = count-many s more m in let b = (r m).1 in (omega arith, omega (arith, e, b)))

-- ---- more segments behind

abbrev pub left_of : ℕ → List Segment → List Segment
left_of taken xs = drop (count_grouped taken xs) xs

-- groups that were made stay, and the next ones begin where they ended
pub groups-append : (level taken : ℕ) (xs ys : List Segment) → taken ≤ length xs → groups level taken (xs ++ ys) ≡ groups level taken xs ++ groups level 0 (left_of taken xs ++ ys)
groups-append level zero [] ys le = refl
groups-append level (suc taken) [] ys le = absurd (omega (arith, le))
groups-append level (suc taken) (s ∷ more) ys le = groups-append level taken more ys (le_of_suc-le-suc le)
groups-append level zero (s ∷ more) ys le =
    let g = first-group s more in let most = g.few in
    let again : 15 ≤ length more → groups level g.others (more ++ ys) ≡ groups level g.others more ++ groups level 0 (left_of g.others more ++ ys) =
    λ m. groups-append level g.others more ys (omega (arith, most, m)) in
    few-or-many (length more) (groups level 0 (s ∷ more ++ ys) ≡ groups level 0 (s ∷ more) ++ groups level 0 (left_of 0 (s ∷ more) ++ ys))
    (λ f. sym (ap (λ z. z ++ groups level 0 (left_of 0 (s ∷ more) ++ ys)) (groups-few level s more f) ∙ ap (λ n. groups level 0 (drop n (s ∷ more) ++ ys)) (count-few s more f)))
    (λ m.
    let sum = length-append more ys in
    let same : (first-group s (more ++ ys)).others ≡ g.others = others-same s more ys m in
    groups-many level s (more ++ ys) (omega (arith, sum, m))
    ∙ ap (λ n. merged level s (take n (more ++ ys)) ∷ groups level n (more ++ ys)) same
    ∙ ap (λ z. merged level s z ∷ groups level g.others (more ++ ys)) (take-append-le g.others more ys (omega (arith, most, m)))
    ∙ ap (λ z. merged level s (take g.others more) ∷ z) (again m)
    ∙ sym (ap (λ z. z ++ groups level 0 (left_of 0 (s ∷ more) ++ ys)) (groups-many level s more m)
    ∙ ap (λ n. merged level s (take g.others more) ∷ (groups level g.others more ++ groups level 0 (drop n (s ∷ more) ++ ys))) (count-many s more m)))
  where
    others-same : (s : Segment) (more ys : List Segment) → 15 ≤ length more → (first-group s (more ++ ys)).others ≡ (first-group s more).others
    others-same s more ys m =
        let size : group_size group_limit (s ∷ (more ++ ys)) ≡ group_size group_limit (s ∷ more) = size-append group_limit (s ∷ more) ys (omega (arith, m)) in
        sym (first-group s (more ++ ys)).less ∙ ap (λ n. n - 1) size ∙ (first-group s more).less

pub count-append : (taken : ℕ) (xs ys : List Segment) → taken ≤ length xs → count_grouped taken (xs ++ ys) ≡ count_grouped taken xs + count_grouped 0 (left_of taken xs ++ ys)
count-append zero [] ys le = omega arith
count-append (suc taken) [] ys le = absurd (omega (arith, le))
count-append (suc taken) (s ∷ more) ys le = let r = count-append taken more ys (le_of_suc-le-suc le) in omega (arith, r)
count-append zero (s ∷ more) ys le =
    let g = first-group s more in let most = g.few in
    let again : 15 ≤ length more → count_grouped g.others (more ++ ys) ≡ count_grouped g.others more + count_grouped 0 (left_of g.others more ++ ys) =
    λ m. count-append g.others more ys (omega (arith, most, m)) in
    few-or-many (length more) (count_grouped 0 (s ∷ more ++ ys) ≡ count_grouped 0 (s ∷ more) + count_grouped 0 (left_of 0 (s ∷ more) ++ ys))
    (λ f. let e = count-few s more f in let d = ap (λ n. count_grouped 0 (drop n (s ∷ more) ++ ys)) e in omega (arith, e, d))
    (λ m.
    let sum = length-append more ys in
    let same : (first-group s (more ++ ys)).others ≡ g.others = others-same s more ys m in
    let a = count-many s (more ++ ys) (omega (arith, sum, m)) in
    let b = ap (λ n. count_grouped n (more ++ ys)) same in
    let c = again m in
    let d = count-many s more m in
    let e = ap (λ n. count_grouped 0 (drop n (s ∷ more) ++ ys)) d in
    omega (arith, a, b, c, d, e))
  where
    others-same : (s : Segment) (more ys : List Segment) → 15 ≤ length more → (first-group s (more ++ ys)).others ≡ (first-group s more).others
    others-same s more ys m =
        let size : group_size group_limit (s ∷ (more ++ ys)) ≡ group_size group_limit (s ∷ more) = size-append group_limit (s ∷ more) ys (omega (arith, m)) in
        sym (first-group s (more ++ ys)).less ∙ ap (λ n. n - 1) size ∙ (first-group s more).less
