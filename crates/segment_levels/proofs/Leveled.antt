-- What the segments of a level are, and how they follow one another.
use Rattle.std.proofs.Common.{◌≡◌, ℕ, zero, suc, ◌+◌, ◌-◌, ◌<◌, ◌≤◌, ◌^◌, inl, inr, List, [], ◌∷◌, ◌++◌, length, take, drop, refl, sym, subst, ap, ◌∙◌, arith, lit≤, ⊎_elim, le_of_suc-le-suc}
use Rattle.std.specs.Prelude.{nat_lt, nat_le, ◌||◌}
use Rattle.std.proofs.lemmas.Bool.{lt-ltb}
use Rattle.std.proofs.lemmas.List.{take-append-le, drop-append-le, length-append}
use Rattle.id_groups.specs.Lists.{IsIn}
use Rattle.id_groups.specs.Id.{id_end}
use Rattle.segment_codec.specs.Record.{Segment, IsSegment, HasLevelsParents}
use Rattle.segment_codec.specs.Table.{Follow}
use Rattle.segment_codec.proofs.Tables.{follow-ends}
use Rattle.segment_codec.proofs.Turns.{follow-behind}
use Rattle.segment_codec.proofs.Records.{same-group}
use Rattle.segment_codec.proofs.Orders.{ascending-distinct, ascending-means}
use Rattle.flat_segments.specs.Maximal.{begin_of}
use Rattle.flat_segments.proofs.Rising.{follow-begin}
use Rattle.segment_rules.specs.Levels.{merged, groups, count_grouped, level_segments, parents_below}
use Rattle.segment_levels.specs.Whole.{IsWholeTo, Grows}
use Rattle.segment_levels.proofs.Ascending.{Ascend, ascend-decided, ascend-few, ascending-ascends, all-from-in}
use Rattle.segment_levels.proofs.Grouping.{first-group, groups-few, groups-many, count-few, count-many, count-most, few-or-many, left_of, groups-append, count-append}
use Rattle.segment_levels.proofs.Heading.{IsGood, flat-good, merged-good, follow-take, follow-drop, in-take, follow-last}

-- the end of a run is one
pub one-end : (first end other : ℕ) (xs : List Segment) → Follow first end xs → Follow first other xs → end ≡ other
one-end first end other xs h g = sym (follow-behind first end xs h) ∙ follow-behind first other xs g

-- a segment of a higher level
pub record IsHigh (flats : List Segment) (end level : ℕ) (s : Segment) : Type 0 where
  pub good : IsGood flats s
  pub number : s.level ≡ level
  pub high : s.high < end
  pub ascend : Ascend 0 s.parents

pub record AreGroups (flats : List Segment) (first last level : ℕ) (segments : List Segment) : Type 0 where
  pub follow : Follow first last segments
  pub each : (s : Segment) → IsIn s segments → IsHigh flats last level s

higher : (flats : List Segment) (end more level : ℕ) (s : Segment) → end ≤ more → IsHigh flats end level s → IsHigh flats more level s
higher flats end more level s le h = record { good = h.good; number = h.number; high = (let lt = h.high in omega (arith, lt, le)); ascend = h.ascend }

pub grouped-facts : (flats : List Segment) (level taken first end : ℕ) (xs : List Segment) → Follow first end xs → ((s : Segment) → IsIn s xs → IsGood flats s) → taken ≤ length xs
    → AreGroups flats (begin_of end (drop taken xs)) (begin_of end (drop (count_grouped taken xs) xs)) level (groups level taken xs)
grouped-facts flats level zero first end [] h good le = record { follow = refl; each = λ s i. absurd i }
grouped-facts flats level (suc taken) first end [] h good le = absurd (omega (arith, le))
grouped-facts flats level (suc taken) first end (s ∷ more) h good le = grouped-facts flats level taken (s.high + 1) end more h.2 (λ t i. good t (inr i)) (le_of_suc-le-suc le)
grouped-facts flats level zero first end (s ∷ more) h good le =
    let g = first-group s more in let most = g.few in
    let again : 15 ≤ length more → AreGroups flats (begin_of end (drop g.others more)) (begin_of end (drop (count_grouped g.others more) more)) level (groups level g.others more) =
    λ m. grouped-facts flats level g.others (s.high + 1) end more h.2 (λ t i. good t (inr i)) (omega (arith, most, m)) in
    few-or-many (length more) (AreGroups flats s.low (begin_of end (drop (count_grouped 0 (s ∷ more)) (s ∷ more))) level (groups level 0 (s ∷ more)))
    (λ f. none (groups level 0 (s ∷ more)) (count_grouped 0 (s ∷ more)) (groups-few level s more f) (count-few s more f))
    (λ m.
    let a = again m in
    let cut = follow-take (s.high + 1) end g.others more (omega (arith, most, m)) h.2 in
    let here : Follow first (begin_of end (drop g.others more)) (s ∷ take g.others more) = (h.0, h.1, cut) in
    let last = follow-last first (begin_of end (drop g.others more)) s (take g.others more) here in
    let made = merged-good flats level first (begin_of end (drop g.others more)) s (take g.others more) here (λ t i. ⊎_elim (λ e. good t (inl e)) (λ j. good t (inr (in-take g.others more t j))) i) g.one_head in
    let order = made.order in
    let up = follow-ends (begin_of end (drop g.others more)) (begin_of end (drop (count_grouped g.others more) more)) (groups level g.others more) a.follow in
    some (merged level s (take g.others more)) (groups level g.others more) (count_grouped g.others more) (groups level 0 (s ∷ more)) (count_grouped 0 (s ∷ more)) (groups-many level s more m) (count-many s more m)
    (record {
      follow = (refl, order, subst (λ (n : ℕ). Follow n (begin_of end (drop (count_grouped g.others more) more)) (groups level g.others more)) (sym last) a.follow);
      each = λ t i. ⊎_elim
          (λ e. subst (λ (q : Segment). IsHigh flats (begin_of end (drop (count_grouped g.others more) more)) level q) (sym e)
          (record { good = made; number = refl; high = omega (arith, last, up); ascend = ascending-ascends (parents_below s.low (s ∷ take g.others more)) }))
          (λ j. a.each t j) i;
    }))
  where
    none : (gs : List Segment) (n : ℕ) → gs ≡ [] → n ≡ 0 → AreGroups flats s.low (begin_of end (drop n (s ∷ more))) level gs
    none gs n e z =
        subst (λ (k : ℕ). AreGroups flats s.low (begin_of end (drop k (s ∷ more))) level gs) (sym z)
        (subst (λ (k : List Segment). AreGroups flats s.low s.low level k) (sym e) (record { follow = refl; each = λ t i. absurd i }))

    some : (m : Segment) (rest : List Segment) (k : ℕ) (gs : List Segment) (n : ℕ) → gs ≡ m ∷ rest → n ≡ suc k
        → AreGroups flats s.low (begin_of end (drop k more)) level (m ∷ rest) → AreGroups flats s.low (begin_of end (drop n (s ∷ more))) level gs
    some m rest k gs n e z a =
        subst (λ (j : ℕ). AreGroups flats s.low (begin_of end (drop j (s ∷ more))) level gs) (sym z)
        (subst (λ (q : List Segment). AreGroups flats s.low (begin_of end (drop k more)) level q) (sym e) a)

-- ---- levels

-- the segments of a level follow one another from 0 on
pub record IsLeveled (flats : List Segment) (end level : ℕ) : Type 0 where
  pub last : ℕ
  pub follow : Follow 0 last (level_segments flats level)
  pub good : (s : Segment) → IsIn s (level_segments flats level) → IsGood flats s
  pub within : last ≤ end

begin-most : (end first n : ℕ) (xs : List Segment) → n ≤ length xs → Follow first end xs → begin_of end (drop n xs) ≤ end
begin-most end first n xs le h = follow-ends (begin_of end (drop n xs)) end (drop n xs) (follow-drop first end n xs le h)

begin-first : (end first : ℕ) (xs : List Segment) → Follow first end xs → begin_of end (drop 0 xs) ≡ first
begin-first end first xs h = follow-begin first end xs h

-- where the level above ends
pub groups-end : (flats : List Segment) (first end level : ℕ) (xs : List Segment) → Follow first end xs → ((s : Segment) → IsIn s xs → IsGood flats s)
    → AreGroups flats first (begin_of end (drop (count_grouped 0 xs) xs)) level (groups level 0 xs)
groups-end flats first end level xs h good =
    subst (λ (n : ℕ). AreGroups flats n (begin_of end (drop (count_grouped 0 xs) xs)) level (groups level 0 xs)) (begin-first end first xs h)
    (grouped-facts flats level 0 first end xs h good (omega arith))

pub leveled : (flats : List Segment) (end : ℕ) → IsWholeTo flats end → (level : ℕ) → IsLeveled flats end level
leveled flats end w zero =
    let le : length flats - 1 ≤ length flats = omega arith in
    record {
      last = begin_of end (drop (length flats - 1) flats);
      follow = follow-take 0 end (length flats - 1) flats le w.follow;
      good = λ s i. flat-good flats w.lawful s (in-take (length flats - 1) flats s i);
      within = begin-most end 0 (length flats - 1) flats le w.follow;
    }
leveled flats end w (suc level) =
    let b = leveled flats end w level in
    let xs = level_segments flats level in
    let g = groups-end flats 0 b.last (suc level) xs b.follow b.good in
    let most = count-most 0 xs (omega arith) in
    record {
      last = begin_of b.last (drop (count_grouped 0 xs) xs);
      follow = g.follow;
      good = λ s i. (g.each s i).good;
      within = let a = begin-most b.last 0 (count_grouped 0 xs) xs most.1 b.follow in let c = b.within in omega (arith, a, c);
    }

-- the segments of a level above 0
pub level-high : (flats : List Segment) (end : ℕ) → IsWholeTo flats end → (level : ℕ) (s : Segment) → IsIn s (level_segments flats (suc level)) → IsHigh flats end (suc level) s
level-high flats end w level s i =
    let b = leveled flats end w level in
    let xs = level_segments flats level in
    let g = groups-end flats 0 b.last (suc level) xs b.follow b.good in
    let most = count-most 0 xs (omega arith) in
    let a = begin-most b.last 0 (count_grouped 0 xs) xs most.1 b.follow in let c = b.within in
    higher flats (begin_of b.last (drop (count_grouped 0 xs) xs)) end (suc level) s (omega (arith, a, c)) (g.each s i)

-- they have spellings
pub high-segment : (flats : List Segment) (end level : ℕ) (s : Segment) → IsHigh flats end (suc level) s → suc level ≤ 7 → end ≤ 16777216 → IsSegment s
high-segment flats end level s h few small =
    let order = h.good.order in let high = h.high in let is = h.number in
    let from = ascend-decided 0 s.parents h.ascend in
    let below = all-from-in (λ p. p < s.low) s.parents h.good.below in
    let many = ascend-few 0 s.low s.parents h.ascend below (omega arith) in
    let wide : 16777216 ≤ 2 ^ 56 = lit≤ tt in
    let ids : 16777216 ≤ id_end = lit≤ tt in
    record {
      ascending = order;
      one_group = same-group s.low s.high order (left (nat_lt s.high (2 ^ 56)) (nat_le (2 ^ 56) s.low) (lt-ltb s.high (2 ^ 56) (omega (arith, high, small, wide))));
      valid = omega (arith, high, small, ids);
      level = omega (arith, is, few);
      below = below;
      distinct = ascending-distinct 0 s.parents from;
      level_parents = subst (λ (n : ℕ). HasLevelsParents n s.parents) (sym is) (omega (arith, many, order, high, small), ascending-means 0 s.parents from);
    }
  where
    left : (a b : Rattle.std.specs.Prelude.Bool) → a ≡ Rattle.std.specs.Prelude.true → (a || b) ≡ Rattle.std.specs.Prelude.true
    left Rattle.std.specs.Prelude.true b e = refl
    left Rattle.std.specs.Prelude.false b e = absurd cc

-- ---- a master group that grows

-- each level goes on
pub level-grows : (old new : List Segment) → Grows old new → (level : ℕ) → (more : List Segment) × (level_segments new level ≡ level_segments old level ++ more)
level-grows old new g zero = (g.more, g.is)
level-grows old new g (suc level) =
    let b = level-grows old new g level in
    (groups (suc level) 0 (left_of 0 (level_segments old level) ++ b.0), ap (groups (suc level) 0) b.1 ∙ groups-append (suc level) 0 (level_segments old level) b.0 (omega arith))

-- what is added to a level: the groups of what is left below it and of what was added there
pub level-more : (old new : List Segment) → Grows old new → (level : ℕ)
    → level_segments new (suc level) ≡ level_segments old (suc level) ++ groups (suc level) 0 (drop (count_grouped 0 (level_segments old level)) (level_segments new level))
level-more old new g level =
    let b = level-grows old new g level in
    let xs = level_segments old level in
    let most = count-most 0 xs (omega arith) in
    ap (groups (suc level) 0) b.1 ∙ groups-append (suc level) 0 xs b.0 (omega arith)
    ∙ ap (λ z. groups (suc level) 0 xs ++ groups (suc level) 0 z) (sym (ap (drop (count_grouped 0 xs)) b.1 ∙ drop-append-le (count_grouped 0 xs) xs b.0 most.1))

pub count-more : (old new : List Segment) → Grows old new → (level : ℕ)
    → count_grouped 0 (level_segments new level) ≡ count_grouped 0 (level_segments old level) + count_grouped 0 (drop (count_grouped 0 (level_segments old level)) (level_segments new level))
count-more old new g level =
    let b = level-grows old new g level in
    let xs = level_segments old level in
    let most = count-most 0 xs (omega arith) in
    ap (count_grouped 0) b.1 ∙ count-append 0 xs b.0 (omega arith)
    ∙ ap (λ z. count_grouped 0 xs + count_grouped 0 z) (sym (ap (drop (count_grouped 0 xs)) b.1 ∙ drop-append-le (count_grouped 0 xs) xs b.0 most.1))

-- where the next group of a level begins doesn't change
pub next-begin : (old new : List Segment) (end : ℕ) → Grows old new → (oldend : ℕ) → IsWholeTo old oldend → IsWholeTo new end → (level last : ℕ) → Follow 0 last (level_segments old (suc level))
    → (e : ℕ) → Follow 0 e (level_segments new level) → last ≡ begin_of e (drop (count_grouped 0 (level_segments old level)) (level_segments new level))
next-begin old new end g oldend w v level last h e f =
    let b = leveled old oldend w level in
    let xs = level_segments old level in
    let c = count_grouped 0 xs in
    let most = count-most 0 xs (omega arith) in
    let grown = level-grows old new g level in
    let ys = level_segments new level in
    let length-is = ap length grown.1 ∙ length-append xs grown.0 in
    let m = most.1 in
    let gs = groups-end old 0 b.last (suc level) xs b.follow b.good in
    let first = one-end 0 last (begin_of b.last (drop c xs)) (level_segments old (suc level)) h gs.follow in
    let front-old = follow-take 0 b.last c xs m b.follow in
    let front-new = follow-take 0 e c ys (omega (arith, m, length-is)) f in
    let same : take c ys ≡ take c xs = ap (take c) grown.1 ∙ take-append-le c xs grown.0 m in
    first ∙ one-end 0 (begin_of b.last (drop c xs)) (begin_of e (drop c ys)) (take c xs) front-old (subst (λ (z : List Segment). Follow 0 (begin_of e (drop c ys)) z) same front-new)

-- a level has no more segments than the one below
pub groups-fewer : (level taken : ℕ) (xs : List Segment) → taken ≤ length xs → length (groups level taken xs) ≤ length xs
groups-fewer level zero [] le = omega arith
groups-fewer level (suc taken) [] le = omega arith
groups-fewer level (suc taken) (s ∷ more) le = let r = groups-fewer level taken more (le_of_suc-le-suc le) in omega (arith, r)
groups-fewer level zero (s ∷ more) le =
    let g = first-group s more in let most = g.few in
    let again : 15 ≤ length more → length (groups level g.others more) ≤ length more = λ m. groups-fewer level g.others more (omega (arith, most, m)) in
    few-or-many (length more) (length (groups level 0 (s ∷ more)) ≤ suc (length more))
    (λ f. let e = ap length (groups-few level s more f) in omega (arith, e))
    (λ m. let e = ap length (groups-many level s more m) in let r = again m in omega (arith, e, r))
