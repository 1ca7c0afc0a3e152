-- The numbers of segments on the levels.
use Rattle.std.proofs.Common.{◌≡◌, ℕ, zero, suc, ◌+◌, ◌<◌, ◌≤◌, ◌^◌, cond, List, [], ◌∷◌, ◌++◌, length, map, refl, sym, subst, ap, ◌∙◌, arith, append_assoc}
use Rattle.std.specs.List.{range_with_len, AllByRecursion}
use Rattle.std.proofs.lemmas.Bool.{lt-ltb, le-ltb}
use Rattle.std.proofs.lemmas.List.{append-nil, length-append}
use Rattle.segment_codec.specs.Record.{Segment}
use Rattle.segment_rules.specs.Levels.{level_segments}
use Rattle.segment_levels.specs.Kept.{KeptLevels, PlainGroups, AreLevelsAbove, AreLevelsOf}
use Rattle.segment_rules.specs.Levels.{before_none, level_counts}
use Rattle.segment_levels.specs.Counts.{kept_counts}
use Rattle.high_segments.proofs.Growth.{level-fewer}
use Rattle.high_segments.proofs.Belonging.{above-count}

abbrev pub lens : List PlainGroups → List ℕ
lens levels = before_none (map (λ l. l.count) levels)

abbrev pub AreFew : List PlainGroups → Type 0
AreFew levels = AllByRecursion (λ l. l.count < 2 ^ 32) levels

all-few : (flats : List Segment) (k : ℕ) (levels : List PlainGroups) → length flats < 2 ^ 32 → AreLevelsAbove flats k levels → AreFew levels
all-few flats k [] lt h = tt
all-few flats k (l ∷ more) lt h =
    let b = h.0.count in let c = level-fewer flats (suc k) in
    (omega (arith, b, c, lt), all-few flats (suc k) more lt h.1)

all-lengths : (flats : List Segment) (k : ℕ) (levels : List PlainGroups) → AreLevelsAbove flats k levels
    → map (λ (l : PlainGroups). l.count) levels ≡ map (λ j. length (level_segments flats j)) (range_with_len (suc k) (length levels))
all-lengths flats k [] h = refl
all-lengths flats k (l ∷ more) h =
    let one : suc k + 1 ≡ suc (suc k) = omega arith in
    ap (λ n. n ∷ map (λ (l : PlainGroups). l.count) more) h.0.count
    ∙ ap (λ z. length (level_segments flats (suc k)) ∷ z) (all-lengths flats (suc k) more h.1 ∙ ap (λ n. map (λ j. length (level_segments flats j)) (range_with_len n (length more))) (sym one))

pub counts-are : (kept : KeptLevels) (flats : List Segment) → AreLevelsOf kept flats → kept_counts kept ≡ level_counts flats
counts-are kept flats h =
    let n = above-count flats 0 kept.levels h.levels in
    let seven : length kept.levels ≡ 7 = omega (arith, n) in
    ap (λ k. k ∷ lens kept.levels) h.count
    ∙ ap (λ z. length flats ∷ before_none z) (all-lengths flats 0 kept.levels h.levels ∙ ap (λ k. map (λ j. length (level_segments flats j)) (range_with_len 1 k)) seven)

pub record Counting (kept : KeptLevels) (counts : List ℕ) (rest : List PlainGroups) : Type 0 where
  pub goes : (flats : List Segment) → AreLevelsOf kept flats → (counts ++ lens rest ≡ kept_counts kept) × (length counts + length rest ≡ 8) × AreFew rest

pub counting-none : (kept : KeptLevels) (counts : List ℕ) (rest : List PlainGroups) → kept.flat_count < 2 ^ 32 → counts ≡ kept.flat_count ∷ [] → rest ≡ kept.levels → Counting kept counts rest
counting-none kept counts rest small c e = record {
  goes = λ flats h.
      let n = above-count flats 0 kept.levels h.levels in let len = ap length c in let more = ap length e in let is = h.count in (
        ap (λ z. z ++ lens rest) c ∙ ap (λ z. kept.flat_count ∷ lens z) e,
        omega (arith, n, len, more),
        subst AreFew (sym e) (all-few flats 0 kept.levels (omega (arith, small, is)) h.levels),
      );
}

module _ (kept : KeptLevels) (counts : List ℕ) (rest : List PlainGroups) (l : PlainGroups) (others : List PlainGroups) (e : rest ≡ l ∷ others) (g : Counting kept counts rest) (count : ℕ) (is : l.count < 2 ^ 32 → count ≡ l.count) where
  count-is : (flats : List Segment) → AreLevelsOf kept flats → count ≡ l.count
  count-is flats h = is (subst AreFew e (g.goes flats h).2).0

  -- a level without segments is the end
  pub counting-end : count ≡ 0 → (flats : List Segment) → AreLevelsOf kept flats → counts ≡ level_counts flats
  counting-end none flats h =
      let c = count-is flats h in
      let zero-len : l.count ≤ 0 = omega (arith, c, none) in
      sym (append-nil counts) ∙ ap (λ z. counts ++ z) (sym (ap lens e ∙ ap (λ b. cond b (l.count ∷ lens others) []) (le-ltb 0 (l.count) zero-len)))
      ∙ (g.goes flats h).0 ∙ counts-are kept flats h

  pub counting-more : (new : List ℕ) → (count ≡ 0 → ⊥) → (length counts < 8 → new ≡ counts ++ count ∷ []) → Counting kept new others
  counting-more new some pushed = record {
    goes = λ flats h.
        let c = count-is flats h in
        let room = (g.goes flats h).1 in let len = ap length e in
        let p = pushed (omega (arith, room, len)) in
        let plen = ap length p ∙ length-append counts (count ∷ []) in
        let lt : 0 < l.count = not-zero (l.count) (λ z. some (c ∙ z)) in (
          ap (λ z. z ++ lens others) p ∙ append_assoc counts (count ∷ []) (lens others)
              ∙ ap (λ n. counts ++ n ∷ lens others) c
              ∙ ap (λ z. counts ++ z) (sym (ap lens e ∙ ap (λ b. cond b (l.count ∷ lens others) []) (lt-ltb 0 (l.count) lt)))
              ∙ (g.goes flats h).0,
          omega (arith, room, len, plen),
          (subst AreFew e (g.goes flats h).2).1,
        );
  }
    where
      not-zero : (n : ℕ) → (n ≡ 0 → ⊥) → 0 < n
      not-zero zero h = absurd (h refl)
      not-zero (suc n) h = omega arith

pub counting-all : (kept : KeptLevels) (counts : List ℕ) (rest : List PlainGroups) → rest ≡ [] → Counting kept counts rest → (flats : List Segment) → AreLevelsOf kept flats → counts ≡ level_counts flats
counting-all kept counts rest e g flats h = sym (append-nil counts) ∙ ap (λ z. counts ++ lens z) (sym e) ∙ (g.goes flats h).0 ∙ counts-are kept flats h
