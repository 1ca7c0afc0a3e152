-- Levels to which no group comes stay.
use Rattle.std.proofs.Common.{◌≡◌, ℕ, zero, suc, ◌+◌, ◌-◌, ◌<◌, List, [], ◌∷◌, ◌++◌, ◌⊎◌, length, drop, refl, sym, subst, ap, ◌∙◌, arith}
use Rattle.std.proofs.lemmas.List.{append-nil}
use Rattle.id_groups.specs.Lists.{IsIn}
use Rattle.segment_codec.specs.Record.{Segment}
use Rattle.segment_codec.specs.Table.{Follow}
use Rattle.segment_rules.specs.Levels.{groups, count_grouped, level_segments}
use Rattle.segment_levels.specs.Kept.{PlainLevel, PlainGroups, IsAlone, IsLevelOf, AreLevelsAbove, groups_in}
use Rattle.segment_levels.specs.Whole.{Grows}
use Rattle.segment_levels.proofs.Grouping.{groups-few, count-few}
use Rattle.segment_levels.proofs.Leveled.{level-more, count-more}
use Rattle.high_segments.specs.Growing.{AreMixed, MayGrow}
use Rattle.high_segments.proofs.Places.{segments-length}
use Rattle.high_segments.proofs.Holding.{each-stays}
use Rattle.high_segments.proofs.Mixing.{GrownSoFar}

-- fewer than sixteen segments have no group
none-come : (level : ℕ) (xs : List Segment) → length xs < 16 → groups level 0 xs ≡ []
none-come level [] lt = refl
none-come level (s ∷ more) lt = groups-few level s more (omega (arith, lt))

none-counted : (xs : List Segment) → length xs < 16 → count_grouped 0 xs ≡ 0
none-counted [] lt = refl
none-counted (s ∷ more) lt = count-few s more (omega (arith, lt))

module _ (old new : List Segment) (g : Grows old new) where
  -- a level whose segments and groups stay
  level-stays : (j : ℕ) (l : PlainGroups) → level_segments new (suc j) ≡ level_segments old (suc j) → count_grouped 0 (level_segments new j) ≡ count_grouped 0 (level_segments old j) → IsLevelOf old j l → IsLevelOf new j l
  level-stays j l same count is =
      let n = is.number in
      let less : l.level - 1 ≡ j = omega (arith, n) in
      record {
        number = is.number;
        follow = subst (λ (z : List Segment). Follow 0 l.end z) (sym same) is.follow;
        count = is.count ∙ ap length (sym same);
        grouped = is.grouped ∙ sym count;
        read = is.read;
        rise = is.rise;
        kept = λ s i. subst (λ (z : List Segment). IsIn s z) (sym same) (is.kept s i);
        each = λ s i. subst (λ (m : ℕ). IsIn s (groups_in l) ⊎ IsAlone (level_segments new j) m s) less (each-stays old new g j l is s (subst (λ (z : List Segment). IsIn s z) same i));
      }

  -- where a level stays, so do all above it
  stays-above : (j : ℕ) (levels : List PlainGroups) → level_segments new (suc j) ≡ level_segments old (suc j) → count_grouped 0 (level_segments new j) ≡ count_grouped 0 (level_segments old j)
      → AreLevelsAbove old j levels → AreLevelsAbove new j levels
  stays-above j [] same count h = h
  stays-above j (l ∷ more) same count h = (level-stays j l same count h.0, stays-above (suc j) more (ap (groups (suc (suc j)) 0) same) (ap (count_grouped 0) same) h.1)

  mixed-stays : (j k : ℕ) (levels : List PlainGroups) → level_segments new (suc (j + k)) ≡ level_segments old (suc (j + k)) → count_grouped 0 (level_segments new (j + k)) ≡ count_grouped 0 (level_segments old (j + k))
      → AreMixed old new j k levels → AreLevelsAbove new j levels
  mixed-stays j zero levels same count h =
      let is : j + 0 ≡ j = omega arith in
      stays-above j levels (subst (λ (n : ℕ). level_segments new (suc n) ≡ level_segments old (suc n)) is same) (subst (λ (n : ℕ). count_grouped 0 (level_segments new n) ≡ count_grouped 0 (level_segments old n)) is count) h
  mixed-stays j (suc k) [] same count h = absurd h
  mixed-stays j (suc k) (l ∷ more) same count h =
      let is : j + suc k ≡ suc j + k = omega arith in
      (h.0, mixed-stays (suc j) k more (subst (λ (n : ℕ). level_segments new (suc n) ≡ level_segments old (suc n)) is same) (subst (λ (n : ℕ). count_grouped 0 (level_segments new n) ≡ count_grouped 0 (level_segments old n)) is count) h.1)

-- where fewer than sixteen segments are left for a level, it is brought on with all above it
pub grown-short : (flats : PlainLevel) (levels : List PlainGroups) (below : PlainLevel) (k : ℕ) (now : List PlainGroups) → GrownSoFar flats levels below k now → k < length now → length below.entries < 16
    → (old new : List Segment) → MayGrow old new flats 0 levels → AreLevelsAbove new 0 now
grown-short flats levels below k now s lt few old new h =
    let g = s.goes old new h in
    let left = g.left lt in
    let len = segments-length below in
    let long = ap length left.segments in
    let short : length (drop (count_grouped 0 (level_segments old k)) (level_segments new k)) < 16 = omega (arith, len, long, few) in
    let same = level-more old new g.may.grows k ∙ ap (λ (z : List Segment). level_segments old (suc k) ++ z) (none-come (suc k) (drop (count_grouped 0 (level_segments old k)) (level_segments new k)) short) ∙ append-nil (level_segments old (suc k)) in
    let more = count-more old new g.may.grows k in
    let none = none-counted (drop (count_grouped 0 (level_segments old k)) (level_segments new k)) short in
    let count : count_grouped 0 (level_segments new k) ≡ count_grouped 0 (level_segments old k) = omega (arith, more, none) in
    let zero-is : k ≡ 0 + k = omega arith in
    mixed-stays old new g.may.grows 0 k now (subst (λ (n : ℕ). level_segments new (suc n) ≡ level_segments old (suc n)) zero-is same) (subst (λ (n : ℕ). count_grouped 0 (level_segments new n) ≡ count_grouped 0 (level_segments old n)) zero-is count) g.levels_are
