-- A view and the levels of its table.
use Rattle.std.proofs.Common.{◌≡◌, ℕ, zero, suc, ◌+◌, ◌<◌, ◌≤◌, ◌^◌, Bool, true, false, cond, ◌&&◌, List, [], ◌∷◌, length, take, Option, Some, None, refl, sym, subst, ap, ◌∙◌, arith, lit≤, ⊎_elim}
use Rattle.std.specs.Prelude.{nat_eq, nat_lt, nat_le}
use Rattle.std.specs.List.{list_all, range_with_len}
use Rattle.std.proofs.lemmas.Bool.{lt-leb, ltb-true, leb-true}
use Rattle.id_groups.specs.Lists.{IsIn}
use Rattle.id_groups.proofs.Listing.{and_true, both_true, in-all-true}
use Rattle.segment_codec.specs.Record.{Segment}
use Rattle.segment_codec.specs.Table.{segment_at, parents_in, parents_at, IsHeld, IsHeaded, Follow}
use Rattle.segment_codec.specs.Flat.{if_ends}
use Rattle.segment_codec.proofs.Tables.{follow-held}
use Rattle.flat_segments.specs.Kept.{KeptFlats as FlatKept}
use Rattle.flat_segments.specs.Placed.{PlacedSegment}
use Rattle.flat_segments.specs.Views.{view_flats, master_flats, other_flats, master_count}
use Rattle.flat_segments.specs.declared.view.FlatView.{FlatView}
use Rattle.flat_segments.proofs.Graphs.{cut-ids, cut-parents}
use Rattle.flat_segments.proofs.Looking.{at-front}
use Rattle.segment_rules.specs.Levels.{level_segments, top_level}
use Rattle.segment_levels.specs.Kept.{KeptLevels, PlainGroups, AreLevelsAbove}
use Rattle.segment_levels.specs.Whole.{IsWholeTo}
use Rattle.segment_levels.specs.Flats.{flats_of}
use Rattle.segment_levels.specs.Tests.{is_kept, is_ending, are_levels}
use Rattle.segment_levels.specs.Endings.{at_level, held_from, high_ending, level_ending, BelongTogether}
use Rattle.segment_levels.proofs.Ascending.{all-from-in, ascend-few, ascend-decided}
use Rattle.segment_levels.proofs.Deciding.{EndingFacts, ending-decided, ending-none, all-kept-means, all-kept-decided}
use Rattle.segment_levels.proofs.Leveled.{level-high}
use Rattle.segment_levels.proofs.Viewing.{ends-in}
use Rattle.high_segments.specs.Growing.{AreReadable, MayBecome}
use Rattle.high_segments.specs.Nested.{are_nested}
use Rattle.high_segments.proofs.Batch.{table-whole}
use Rattle.high_segments.proofs.Holding.{grows-self, held-mixed, whole-mixed, whole-readable}
use Rattle.high_segments.proofs.Nesting.{nested}

-- ---- what is headed in the whole group is headed in a part that has its ids

pub headed-part : (whole flats : List Segment) (count : ℕ) (s : Segment) → ((x : ℕ) → x < count → parents_at flats x ≡ parents_at whole x) → ((x : ℕ) → x < count → IsHeld flats x)
    → s.low ≤ s.high → s.high < count → IsHeaded whole s → IsHeaded flats s
headed-part whole flats count s same held order high h =
    record {
      low_held = held s.low (omega (arith, order, high));
      high_held = held s.high high;
      one_head = λ y i lt. let c = h.one_head y i lt in let b = c.1.1 in (c.0, c.1, subst (λ z. IsIn y z) (sym (same c.0 (omega (arith, b, high)))) c.2);
      outside = λ child p i j lt. let b = i.1 in h.outside child p i (subst (λ z. IsIn p z) (same child (omega (arith, b, high))) j) lt;
      stored = λ p i. let c = h.stored p i in let b = c.1.1 in (c.0, c.1, subst (λ z. IsIn p z) (sym (same c.0 (omega (arith, b, high)))) c.2);
    }

-- ---- levels

pub above-count : (whole : List Segment) (k : ℕ) (levels : List PlainGroups) → AreLevelsAbove whole k levels → k + length levels ≡ 7
above-count whole k [] h = omega (arith, h)
above-count whole k (l ∷ more) h = let r = above-count whole (suc k) more h.1 in omega (arith, r)

at-ends : (n id : ℕ) (o : Option Segment) → at_level n (if_ends id o) ≡ if_ends id (at_level n o)
at-ends n id None = refl
at-ends n id (Some s) = go (nat_eq s.high id)
  where
    go : (b : Bool) → at_level n (cond b (Some s) None) ≡ cond b (at_level n (Some s)) None
    go true = refl
    go false = refl

-- what ends in the levels that are kept is what ends in those of the flat segments
pub same-endings : (whole : List Segment) (end count : ℕ) (levels : List PlainGroups) (j id : ℕ) → IsWholeTo whole end → end ≤ 16777216 → length whole < 2 ^ 32 → AreLevelsAbove whole 0 levels
    → high_ending count levels (suc j) id ≡ level_ending whole count (suc j) id
same-endings whole end count levels j id w small few h =
    let n = above-count whole 0 levels h in
    let seven : length levels ≡ 7 = omega (arith, n) in
    ⊎_elim
    (λ (le : suc j ≤ 7).
    let m : MayBecome whole whole = record { old_end = end; new_end = end; old_whole = w; new_whole = w; grows = grows-self whole; order = omega arith; small = small; few = few } in
    let held = held-mixed whole whole m 0 j levels (whole-mixed whole 0 j levels h (omega (arith, le, seven))) (omega (arith, le, seven)) id None (λ some. absurd (omega (arith, some))) in
    let plus : 0 + j ≡ j = omega arith in
    let is : at_level (suc j) (held_from None (take (suc j) levels) id) ≡ segment_at (level_segments whole (suc j)) id =
    subst (λ k. at_level (suc k) (held_from None (take (suc j) levels) id) ≡ segment_at (level_segments whole (suc k)) id) plus held in
    ap (λ k. cond (nat_lt id count && nat_le (suc j) k) (at_level (suc j) (if_ends id (held_from None (take (suc j) levels) id))) None) seven
    ∙ ap (λ o. cond (nat_lt id count && nat_le (suc j) 7) o None) (at-ends (suc j) id (held_from None (take (suc j) levels) id) ∙ ap (if_ends id) is))
    (λ (out : 7 < suc j).
    let no = lt-leb (suc j) 7 out in
    ap (λ k. cond (nat_lt id count && nat_le (suc j) k) (at_level (suc j) (if_ends id (held_from None (take (suc j) levels) id))) None) seven
    ∙ ap (λ b. cond b (at_level (suc j) (if_ends id (held_from None (take (suc j) levels) id))) None) (and-false (nat_lt id count) (nat_le (suc j) 7) no)
    ∙ ap (λ b. cond b (if_ends id (segment_at (level_segments whole (suc j)) id)) None) (sym (and-false (nat_lt id count) (nat_le (suc j) 7) no)))
    (Rattle.segment_codec.proofs.Tables.le_or_lt (suc j) 7)
  where
    and-false : (a b : Bool) → b ≡ false → (a && b) ≡ false
    and-false true b e = e
    and-false false b e = refl

module _ (whole flats : List Segment) (end count : ℕ) (w : IsWholeTo whole end) (small : end ≤ 16777216) (few : length whole < 2 ^ 32) (same : (x : ℕ) → x < count → parents_at flats x ≡ parents_at whole x) (held : (x : ℕ) → x < count → IsHeld flats x) where
  -- a segment of a level that ends below the count
  ending-facts : (j : ℕ) (s : Segment) → suc j ≤ 7 → IsIn s (level_segments whole (suc j)) → s.high < count → EndingFacts flats (suc j) s.high s
  ending-facts j s le i lt =
      let h = level-high whole end w j s i in
      let order = h.good.order in let high = h.high in let number = h.number in
      let wide : 16777216 ≤ 2 ^ 56 = lit≤ tt in
      let below = all-from-in (λ p. p < s.low) s.parents h.good.below in
      let many = ascend-few 0 s.low s.parents h.ascend below (omega arith) in
      record {
        high = record {
          order = order;
          high = omega (arith, high, small, wide);
          level = omega (arith, number, le);
          below = below;
          ascend = ascend-decided 0 s.parents h.ascend;
          few = omega (arith, many, order, high, small);
        };
        level_is = number;
        ends = refl;
        headed = headed-part whole flats count s same held order lt h.good.headed;
      }

  ending-lawful : (j id : ℕ) → is_ending flats (suc j) id (level_ending whole count (suc j) id) ≡ true
  ending-lawful j id = go (nat_lt id count) refl (nat_le (suc j) top_level) refl (if_ends id (segment_at (level_segments whole (suc j)) id)) refl
    where
      go : (a : Bool) → nat_lt id count ≡ a → (b : Bool) → nat_le (suc j) top_level ≡ b → (o : Option Segment) → if_ends id (segment_at (level_segments whole (suc j)) id) ≡ o
          → is_ending flats (suc j) id (cond (a && b) o None) ≡ true
      go false e b f o g = ending-none flats (suc j) id
      go true e false f o g = ending-none flats (suc j) id
      go true e true f None g = ending-none flats (suc j) id
      go true e true f (Some s) g =
          let at = ends-in (level_segments whole (suc j)) id s g in
          let lt = ltb-true id count e in let high = at.high in
          ending-decided flats (suc j) id s
          (subst (λ n. EndingFacts flats (suc j) n s) at.high (ending-facts j s (leb-true (suc j) 7 f) at.in_it (omega (arith, lt, high))))

  pub are-lawful : (levels : List PlainGroups) → AreLevelsAbove whole 0 levels → are_levels flats count levels ≡ true
  are-lawful levels h =
      both_true (list_all is_kept levels) _
      (all-kept-decided levels (whole-readable whole end w small 0 levels h))
      (in-all-true (λ k. list_all (λ id. is_ending flats (suc k) id (high_ending count levels (suc k) id)) (range_with_len 0 count)) (range_with_len 0 (length levels))
      (λ k i. in-all-true (λ id. is_ending flats (suc k) id (high_ending count levels (suc k) id)) (range_with_len 0 count)
      (λ id j. ap (is_ending flats (suc k) id) (same-endings whole end count levels k id w small few h) ∙ ending-lawful k id)))

-- ---- a view

module _ (v : FlatView) (levels : KeptLevels) (table : FlatKept) (records : List PlacedSegment) (b : BelongTogether v levels table records) where
  whole-is : IsWholeTo (flats_of table records) table.end
  whole-is = table-whole table records b.table_of

  ids : Follow 0 (master_count v) (master_flats v)
  ids = subst (λ (z : List Segment). Follow 0 (master_count v) z) (sym b.flats) (cut-ids (master_count v) 0 table.end (flats_of table records) whole-is.follow (omega arith) b.below)

  part-held : (x : ℕ) → x < master_count v → IsHeld (view_flats v) x
  part-held x lt = let h = follow-held 0 (master_count v) (master_flats v) ids x (omega arith) lt in (h.0, at-front (master_flats v) (other_flats v) x h.0 h.1)

  part-parents : (x : ℕ) → x < master_count v → parents_at (view_flats v) x ≡ parents_at (flats_of table records) x
  part-parents x lt =
      let h = follow-held 0 (master_count v) (master_flats v) ids x (omega arith) lt in
      ap (λ o. parents_in o x) (at-front (master_flats v) (other_flats v) x h.0 h.1 ∙ sym h.1)
      ∙ ap (λ z. parents_at z x) b.flats
      ∙ cut-parents (master_count v) 0 table.end x (flats_of table records) whole-is.follow lt

  few-flats : length (flats_of table records) < 2 ^ 32
  few-flats = let n = follow-few 0 table.end (flats_of table records) whole-is.follow in let small = b.small in let wide : 16777216 < 2 ^ 32 = lit≤ tt in omega (arith, n, small, wide)
    where
      follow-few : (first end : ℕ) (xs : List Segment) → Follow first end xs → length xs + first ≤ end
      follow-few first end [] h = omega (arith, h)
      follow-few first end (s ∷ more) h = let r = follow-few (s.high + 1) end more h.2 in let o = h.1 in omega (arith, r, o)

  pub together-lawful : are_levels (view_flats v) (master_count v) levels.levels ≡ true
  together-lawful = are-lawful (flats_of table records) (view_flats v) table.end (master_count v) whole-is b.small few-flats part-parents part-held levels.levels b.levels_of.levels

  pub together-endings : (j id : ℕ) → high_ending (master_count v) levels.levels (suc j) id ≡ level_ending (flats_of table records) (master_count v) (suc j) id
  together-endings j id = same-endings (flats_of table records) table.end (master_count v) levels.levels j id whole-is b.small few-flats b.levels_of.levels

  pub together-nested : are_nested (master_count v) levels.levels ≡ true
  together-nested = nested (flats_of table records) table.end (master_count v) levels.levels whole-is together-endings

-- ---- a look-up

-- so many of the levels can be read
pub front-readable : (n : ℕ) (levels : List PlainGroups) → AreReadable levels → AreReadable (take n levels)
front-readable zero [] h = tt
front-readable zero (l ∷ more) h = tt
front-readable (suc n) [] h = tt
front-readable (suc n) (l ∷ more) h = (h.0, front-readable n more h.1)

pub levels-readable : (flats : List Segment) (count : ℕ) (levels : List PlainGroups) → are_levels flats count levels ≡ true → AreReadable levels
levels-readable flats count levels h = all-kept-means levels (and_true (list_all is_kept levels) _ h).0
