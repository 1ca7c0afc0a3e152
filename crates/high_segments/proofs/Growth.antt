-- Levels that are brought from those of some flat segments to those of more.
use Rattle.std.proofs.Common.{◌≡◌, ℕ, zero, suc, ◌+◌, ◌-◌, ◌<◌, ◌≤◌, ◌^◌, ◌⊎◌, List, [], ◌++◌, length, take, drop, sym, subst, ap, ◌∙◌, arith, lit≤}
use Rattle.std.specs.List.{AllByRecursion}
use Rattle.std.proofs.lemmas.List.{length-append, length-drop, length-take, take-append-le, drop-append-le, take-append-drop}
use Rattle.id_groups.specs.Lists.{IsIn}
use Rattle.segment_codec.specs.Record.{Segment}
use Rattle.segment_codec.specs.Table.{Follow}
use Rattle.flat_segments.specs.Maximal.{begin_of}
use Rattle.segment_rules.specs.Levels.{merged, groups, count_grouped, level_segments}
use Rattle.segment_levels.specs.Kept.{PlainLevel, PlainGroups, segments_in, groups_in, IsAlone, IsLevelOf}
use Rattle.segment_levels.specs.Sound.{IsSound}
use Rattle.high_segments.specs.Growing.{AddsGroups, AreBelow, KeepsRun, IsLeft, MayBecome}
use Rattle.segment_levels.proofs.Ascending.{all-from-in}
use Rattle.segment_levels.proofs.Grouping.{count-most}
use Rattle.segment_levels.proofs.Heading.{follow-drop, in-drop}
use Rattle.segment_levels.proofs.Leveled.{IsHigh, one-end, leveled, level-high, level-more, count-more, next-begin, level-grows, groups-fewer, groups-end}
use Rattle.high_segments.proofs.Places.{segments-length}
use Rattle.high_segments.proofs.Holding.{each-stays}
use Rattle.high_segments.proofs.Alone.{one-same}

pub level-fewer : (flats : List Segment) (k : ℕ) → length (level_segments flats k) ≤ length flats
level-fewer flats zero = let t = length-take (length flats - 1) flats in omega (arith, t)
level-fewer flats (suc k) = let a = groups-fewer (suc k) 0 (level_segments flats k) (omega arith) in let b = level-fewer flats k in omega (arith, a, b)

-- a segment of a level above 0 is its own group of one
merged-alone : (flats : List Segment) (end level n : ℕ) (s : Segment) → IsHigh flats end level s → merged n s [] ≡ record s { level = n }
merged-alone flats end level n s h = one-same n s h.ascend (λ p i. h.good.below p i)

module _ (old new : List Segment) (m : MayBecome old new) (j : ℕ) (below : PlainLevel) (left : IsLeft old new j below) (l : PlainGroups) (is : IsLevelOf old j l) where
  -- how many segments below are in groups already
  abbrev c : ℕ
  c = count_grouped 0 (level_segments old j)

  c-most : count_grouped 0 (level_segments old j) ≤ length (level_segments new j)
  c-most =
      let g = level-grows old new m.grows j in
      let a = (count-most 0 (level_segments old j) (omega arith)).1 in
      let e = ap length g.1 ∙ length-append (level_segments old j) g.0 in omega (arith, a, e)

  below-length : length below.entries + count_grouped 0 (level_segments old j) ≡ length (level_segments new j)
  below-length =
      let a = segments-length below in let b = ap length left.segments in let d = length-drop c (level_segments new j) in
      let x = c-most in omega (arith, a, b, d, x)

  pub sound : IsSound below
  sound =
      let le = c-most in
      let at = leveled new m.new_end m.new_whole j in
      let within = at.within in let small = m.small in let wide : 16777216 ≤ 2 ^ 56 = lit≤ tt in
      let same = one-end 0 below.end at.last (level_segments new j) left.follow at.follow in
      record {
        read = left.read;
        first = begin_of below.end (drop c (level_segments new j));
        follow = subst (λ (z : List Segment). Follow (begin_of below.end (drop c (level_segments new j))) below.end z) (sym left.segments) (follow-drop 0 below.end c (level_segments new j) le left.follow);
        below = subst (AllByRecursion (λ s. AllByRecursion (λ p. p < s.low) s.parents)) (sym left.segments)
            (all-from-in (λ s. AllByRecursion (λ p. p < s.low) s.parents) (drop c (level_segments new j))
            (λ s i. all-from-in (λ p. p < s.low) s.parents (at.good s (in-drop c (level_segments new j) s i)).below));
        small = omega (arith, same, within, small, wide);
      }

  pub begins : l.end ≡ begin_of below.end (segments_in below)
  begins =
      next-begin old new m.new_end m.grows m.old_end m.old_whole m.new_whole j l.end is.follow below.end left.follow
      ∙ ap (begin_of below.end) (sym left.segments)

  pub counted : l.grouped + length below.entries < 2 ^ 64
  counted =
      let f = m.few in let a = level-fewer new j in let b = below-length in let d = is.grouped in
      let wide : 2 ^ 32 ≤ 2 ^ 64 = lit≤ tt in omega (arith, f, a, b, d, wide)

  pub are-below : AreBelow (suc j) (segments_in below) (level_segments new j)
  are-below = record { each = λ high s i. go j high s (in-drop c (level_segments new j) s (subst (λ z. IsIn s z) left.segments i)) }
    where
      go : (k : ℕ) → 2 ≤ suc k → (s : Segment) → IsIn s (level_segments new k) → IsIn s (level_segments new k) × (merged (suc k) s [] ≡ record s { level = suc k })
      go zero high s i = absurd (omega (arith, high))
      go (suc k) high s i = (i, merged-alone new m.new_end (suc k) (suc (suc k)) s (level-high new m.new_end m.new_whole k s i))

  -- the row that begins with what is left of the level as it was
  module _ (first : PlainLevel) (from : ℕ) (within : from ≤ length (level_segments old (suc j))) (segments : segments_in first ≡ drop from (level_segments old (suc j)))
      (level : first.level ≡ l.level) (end : first.end ≡ l.end) (grouped : first.grouped ≡ l.grouped) where
    number : first.level ≡ suc j
    number = level ∙ is.number

    parts : take from (level_segments old (suc j)) ++ segments_in first ≡ level_segments old (suc j)
    parts = ap (λ z. take from (level_segments old (suc j)) ++ z) segments ∙ take-append-drop from (level_segments old (suc j))

    pub keeps-first : KeepsRun (take from (level_segments old (suc j))) (level_segments new j) first l
    keeps-first =
        let n = is.number in
        record {
          level = sym level;
          some = omega (arith, n);
          end = sym end;
          grouped = sym grouped;
          read = is.read;
          rise = is.rise;
          kept = λ s i. subst (λ z. IsIn s z) (sym parts) (is.kept s i);
          each = λ s i. each-stays old new m.grows j l is s (subst (λ z. IsIn s z) parts i);
        }

    module _ (run : PlainLevel) (adds : AddsGroups below 0 first run) where
      run-number : run.level ≡ suc j
      run-number = adds.level ∙ number

      added : groups first.level 0 (segments_in below) ≡ groups (suc j) 0 (drop c (level_segments new j))
      added = ap (λ n. groups n 0 (segments_in below)) number ∙ ap (groups (suc j) 0) left.segments

      new-is : level_segments new (suc j) ≡ level_segments old (suc j) ++ groups (suc j) 0 (drop c (level_segments new j))
      new-is = level-more old new m.grows j

      pub run-segments : segments_in run ≡ drop from (level_segments new (suc j))
      run-segments =
          adds.segments ∙ ap (λ z. z ++ groups first.level 0 (segments_in below)) segments ∙ ap (λ z. drop from (level_segments old (suc j)) ++ z) added
          ∙ sym (ap (drop from) new-is ∙ drop-append-le from (level_segments old (suc j)) (groups (suc j) 0 (drop c (level_segments new j))) within)

      counted-now : run.grouped ≡ count_grouped 0 (level_segments new j)
      counted-now =
          let a = adds.grouped in let b = ap (count_grouped 0) left.segments in let d = count-more old new m.grows j in let e = is.grouped in
          let f = grouped in omega (arith, a, b, d, e, f)

      end-is : run.end ≡ begin_of below.end (drop (count_grouped 0 (level_segments new j)) (level_segments new j))
      end-is =
          let b = ap (count_grouped 0) left.segments in let d = count-more old new m.grows j in
          let sum : c + (0 + count_grouped 0 (segments_in below)) ≡ count_grouped 0 (level_segments new j) = omega (arith, b, d) in
          let n = 0 + count_grouped 0 (segments_in below) in
          adds.end ∙ ap (λ z. begin_of below.end (drop n z)) left.segments
          ∙ ap (begin_of below.end) (Rattle.std.proofs.lemmas.List.drop-drop n c (level_segments new j) ∙ ap (λ k. drop k (level_segments new j)) sum)

      pub follow-now : Follow 0 run.end (level_segments new (suc j))
      follow-now =
          let at = leveled new m.new_end m.new_whole j in
          let g = groups-end new 0 below.end (suc j) (level_segments new j) left.follow at.good in
          subst (λ (n : ℕ). Follow 0 n (level_segments new (suc j))) (sym end-is) g.follow

      new-parts : take from (level_segments old (suc j)) ++ segments_in run ≡ level_segments new (suc j)
      new-parts =
          ap (λ z. take from (level_segments old (suc j)) ++ z) run-segments
          ∙ ap (λ z. z ++ drop from (level_segments new (suc j)))
          (sym (ap (take from) new-is ∙ take-append-le from (level_segments old (suc j)) (groups (suc j) 0 (drop c (level_segments new j))) within))
          ∙ take-append-drop from (level_segments new (suc j))

      -- how many segments the level has more
      pub more-are : l.count + (length run.entries - length first.entries) ≡ length (level_segments new (suc j))
      more-are =
          let a = segments-length run in let b = segments-length first in let d = ap length segments in let e = ap length run-segments in
          let f = length-drop from (level_segments old (suc j)) in let g = length-drop from (level_segments new (suc j)) in
          let h = ap length new-is ∙ length-append (level_segments old (suc j)) (groups (suc j) 0 (drop c (level_segments new j))) in
          let n = is.count in let w = within in omega (arith, a, b, d, e, f, g, h, n, w)

      pub longer : length first.entries ≤ length run.entries
      longer =
          let a = segments-length run in let b = segments-length first in
          let e = ap length adds.segments ∙ length-append (segments_in first) (groups first.level 0 (segments_in below)) in omega (arith, a, b, e)

      pub few-more : l.count + (length run.entries - length first.entries) < 2 ^ 64
      few-more =
          let a = more-are in let b = level-fewer new (suc j) in let f = m.few in let wide : 2 ^ 32 ≤ 2 ^ 64 = lit≤ tt in omega (arith, a, b, f, wide)

      -- the level as it is now
      pub level-now : (kept : PlainGroups) → KeepsRun (take from (level_segments old (suc j))) (level_segments new j) run kept → kept.count ≡ l.count
          → IsLevelOf new j (record kept { count = kept.count + (length run.entries - length first.entries) })
      level-now kept k count =
          let n = k.level ∙ run-number in
          let same : kept.level - 1 ≡ j = omega (arith, n) in
          record {
            number = n;
            follow = subst (λ (e : ℕ). Follow 0 e (level_segments new (suc j))) (sym k.end) follow-now;
            count = ap (λ n. n + (length run.entries - length first.entries)) count ∙ more-are;
            grouped = k.grouped ∙ counted-now;
            read = k.read;
            rise = k.rise;
            kept = λ s i. subst (λ z. IsIn s z) new-parts (k.kept s i);
            each = λ s i. subst (λ n. IsIn s (groups_in kept) ⊎ IsAlone (level_segments new j) n s) same (k.each s (subst (λ z. IsIn s z) (sym new-parts) i));
          }

      -- what is left of it for the next one
      pub left-now : from ≡ count_grouped 0 (level_segments old (suc j)) → IsLeft old new (suc j) run
      left-now e = record {
        number = run-number;
        segments = run-segments ∙ ap (λ n. drop n (level_segments new (suc j))) e;
        follow = follow-now;
        read = adds.read;
      }
