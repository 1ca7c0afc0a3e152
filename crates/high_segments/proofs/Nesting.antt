-- Where a segment of a level ends, one of level 1 does: an id within a group of level 1 ends none.
use Rattle.std.proofs.Common.{◌≡◌, ℕ, zero, suc, ◌<◌, ◌≤◌, Bool, true, false, cond, ◌&&◌, ◌||◌, not, List, [], ◌∷◌, length, map, get_or, take, Option, Some, None, inl, inr, refl, sym, subst, ap, ◌∙◌, arith, le_of_suc-le-suc}
use Rattle.std.specs.Prelude.{nat_eq, nat_lt, nat_le, slice_index_or}
use Rattle.std.specs.List.{list_all, range_with_len}
use Rattle.std.proofs.lemmas.Bool.{ltb-true, leb-true, eq-eqb, eqb-true, lt-ltb}
use Rattle.id_groups.specs.Lists.{IsIn}
use Rattle.id_groups.proofs.Listing.{all-in, in-all-true}
use Rattle.segment_codec.specs.Record.{Segment}
use Rattle.segment_codec.specs.Table.{segment_at}
use Rattle.segment_codec.specs.Flat.{if_ends}
use Rattle.segment_codec.proofs.Tables.{rising-at, follow-rising}
use Rattle.segment_rules.specs.Levels.{level_segments, top_level}
use Rattle.segment_levels.specs.Kept.{PlainGroup, PlainGroups, groups_in, made_in}
use Rattle.segment_levels.specs.Sound.{IsReadable}
use Rattle.segment_levels.specs.Whole.{IsWholeTo}
use Rattle.segment_levels.specs.Tests.{is_found}
use Rattle.segment_levels.specs.Endings.{or_else, at_level, held_from, high_ending, level_ending, ending_in}
use Rattle.segment_levels.proofs.Deciding.{range-in}
use Rattle.segment_levels.proofs.Leveled.{leveled, level-high}
use Rattle.segment_levels.proofs.Reading.{levels-nest}
use Rattle.segment_levels.proofs.Viewing.{ends-in, rise-rising}
use Rattle.high_segments.specs.Growing.{AreReadable}
use Rattle.high_segments.specs.Nested.{are_nested}

-- ---- a group that has an id

made-in : (level : ℕ) (bytes : List ℕ) (gs : List PlainGroup) (k : ℕ) (d : PlainGroup) → k < length gs → IsIn (made_in level bytes (get_or gs k d)) (map (made_in level bytes) gs)
made-in level bytes [] k d lt = absurd (omega (arith, lt))
made-in level bytes (g ∷ gs) zero d lt = inl refl
made-in level bytes (g ∷ gs) (suc k) d lt = inr (made-in level bytes gs k d (le_of_suc-le-suc lt))

pub group-has : (l : PlainGroups) (id k : ℕ) (d : PlainGroup) → IsReadable l → k < length l.groups → (get_or l.groups k d).low ≤ id → id ≤ (get_or l.groups k d).high
    → segment_at (groups_in l) id ≡ Some (made_in l.level l.bytes (get_or l.groups k d))
group-has l id k d r lt low high =
    rising-at (groups_in l) id (made_in l.level l.bytes (get_or l.groups k d)) (rise-rising 0 l.end (groups_in l) r.rise) (made-in l.level l.bytes l.groups k d lt) (low, high)

-- ---- levels of whole flat segments

-- where a segment of a level ends, one of level 1 does
ends-first : (flats : List Segment) (k : ℕ) (s : Segment) → IsIn s (level_segments flats (suc k)) → (t : Segment) × IsIn t (level_segments flats 1) × (t.high ≡ s.high)
ends-first flats zero s i = (s, i, refl)
ends-first flats (suc k) s i =
    let b = levels-nest flats (suc k) s i in
    let r = ends-first flats k b.0 b.1 in
    (r.0, r.1, r.2 ∙ b.2)

first-found : (whole : List Segment) (end count id : ℕ) → IsWholeTo whole end → (t : Segment) → IsIn t (level_segments whole 1) → t.high ≡ id → id < count → is_found (level_ending whole count 1 id) ≡ true
first-found whole end count id w t i high lt =
    let at = leveled whole end w 1 in
    let order = (level-high whole end w 0 t i).good.order in
    let found = rising-at (level_segments whole 1) id t (follow-rising 0 at.last (level_segments whole 1) at.follow) i (omega (arith, order, high), omega (arith, high)) in
    ap (λ b. is_found (cond (b && nat_le 1 top_level) (if_ends id (segment_at (level_segments whole 1) id)) None)) (lt-ltb id count lt)
    ∙ ap (λ o. is_found (if_ends id o)) found
    ∙ ap (λ b. is_found (cond b (Some t) None)) (eq-eqb t.high id high)

level-nested : (whole : List Segment) (end count k id : ℕ) → IsWholeTo whole end → (not (is_found (level_ending whole count (suc k) id)) || is_found (level_ending whole count 1 id)) ≡ true
level-nested whole end count k id w = go (nat_lt id count) refl (nat_le (suc k) top_level) (if_ends id (segment_at (level_segments whole (suc k)) id)) refl
  where
    go : (a : Bool) → nat_lt id count ≡ a → (b : Bool) → (o : Option Segment) → if_ends id (segment_at (level_segments whole (suc k)) id) ≡ o
        → (not (is_found (cond (a && b) o None)) || is_found (level_ending whole count 1 id)) ≡ true
    go false e b o g = refl
    go true e false o g = refl
    go true e true None g = refl
    go true e true (Some s) g =
        let at = ends-in (level_segments whole (suc k)) id s g in
        let first = ends-first whole k s at.in_it in
        first-found whole end count id w first.0 first.1 (first.2 ∙ at.high) (ltb-true id count e)

pub nested : (whole : List Segment) (end count : ℕ) (levels : List PlainGroups) → IsWholeTo whole end → ((k id : ℕ) → high_ending count levels (suc k) id ≡ level_ending whole count (suc k) id)
    → are_nested count levels ≡ true
unfolding are_nested
nested whole end count levels w same =
    in-all-true (λ k. list_all (λ id. not (is_found (high_ending count levels (suc k) id)) || is_found (high_ending count levels 1 id)) (range_with_len 0 count)) (range_with_len 0 (length levels))
    (λ k i. in-all-true (λ id. not (is_found (high_ending count levels (suc k) id)) || is_found (high_ending count levels 1 id)) (range_with_len 0 count)
    (λ id j. ap (λ o. not (is_found o) || is_found (high_ending count levels 1 id)) (same k id) ∙ ap (λ o. not (is_found (level_ending whole count (suc k) id)) || is_found o) (same 0 id) ∙ level-nested whole end count k id w))

-- ---- a look-up

-- an id within a group of level 1 ends no segment
pub within-none : (count : ℕ) (l : PlainGroups) (more : List PlainGroups) (k id : ℕ) (s : Segment) → are_nested count (l ∷ more) ≡ true → segment_at (groups_in l) id ≡ Some s → (s.high ≡ id → ⊥)
    → high_ending count (l ∷ more) (suc k) id ≡ None
unfolding are_nested
within-none count l more k id s h e out =
    go (nat_lt id count) refl (nat_le (suc k) (length (l ∷ more))) refl (at_level (suc k) (if_ends id (held_from None (take (suc k) (l ∷ more)) id))) refl
  where
    ends-none : (b : Bool) → nat_eq s.high id ≡ b → cond b (Some s) None ≡ None
    ends-none true g = absurd (out (eqb-true s.high id g))
    ends-none false g = refl

    held-none : (b : Bool) → at_level 1 (if_ends id (cond b (or_else (Some s) None) None)) ≡ None
    held-none true = ap (at_level 1) (ends-none (nat_eq s.high id) refl)
    held-none false = refl

    first-none : high_ending count (l ∷ more) 1 id ≡ None
    first-none = ap (λ o. cond (nat_lt id count && nat_le 1 (length (l ∷ more))) o None) (ap (λ o. at_level 1 (if_ends id (cond (nat_lt id l.end) (or_else o None) None))) e ∙ held-none (nat_lt id l.end)) ∙ none (nat_lt id count && nat_le 1 (length (l ∷ more)))
      where
        none : (b : Bool) → cond b (let o : Option Segment = None in o) None ≡ None
        none true = refl
        none false = refl

    lacks : (o : Option Segment) → (not (is_found o) || is_found (high_ending count (l ∷ more) 1 id)) ≡ true → o ≡ None
    lacks None t = refl
    lacks (Some q) t = absurd (false-true (subst (λ o. is_found o ≡ true) first-none t))
      where
        false-true : false ≡ true → ⊥
        false-true x = absurd cc

    go : (a : Bool) → nat_lt id count ≡ a → (b : Bool) → nat_le (suc k) (length (l ∷ more)) ≡ b → (o : Option Segment) → at_level (suc k) (if_ends id (held_from None (take (suc k) (l ∷ more)) id)) ≡ o
        → cond (a && b) o None ≡ None
    go false x b y o z = refl
    go true x false y o z = refl
    go true x true y o z =
        let lt = ltb-true id count x in let le = leb-true (suc k) (length (l ∷ more)) y in
        let each = λ (j : ℕ). list_all (λ i. not (is_found (high_ending count (l ∷ more) (suc j) i)) || is_found (high_ending count (l ∷ more) 1 i)) (range_with_len 0 count) in
        let here = all-in each (range_with_len 0 (length (l ∷ more))) h k (range-in 0 (length (l ∷ more)) k (omega arith) (omega (arith, le))) in
        let at = all-in (λ i. not (is_found (high_ending count (l ∷ more) (suc k) i)) || is_found (high_ending count (l ∷ more) 1 i)) (range_with_len 0 count) here id (range-in 0 count id (omega arith) (omega (arith, lt))) in
        sym z ∙ sym (ap (λ b. cond b (at_level (suc k) (if_ends id (held_from None (take (suc k) (l ∷ more)) id))) None) (ap (λ p. p && nat_le (suc k) (length (l ∷ more))) x ∙ y)) ∙ lacks (high_ending count (l ∷ more) (suc k) id) at

pub first-readable : (levels : List PlainGroups) (d : PlainGroups) → AreReadable levels → 1 ≤ length levels → IsReadable (slice_index_or levels 0 d)
first-readable [] d h le = absurd (omega (arith, le))
first-readable (l ∷ more) d h le = h.0

pub first-ends : (flats : List Segment) (count : ℕ) (levels : List PlainGroups) (d : PlainGroups) (level id : ℕ) (s : Segment) → are_nested count levels ≡ true → 1 ≤ level → 1 ≤ length levels
    → segment_at (groups_in (slice_index_or levels 0 d)) id ≡ Some s → id < s.high → ending_in flats count levels level id ≡ None
first-ends flats count [] d level id s h one le e lt = absurd (omega (arith, le))
first-ends flats count (l ∷ more) d zero id s h one le e lt = absurd (omega (arith, one))
first-ends flats count (l ∷ more) d (suc k) id s h one le e lt = within-none count l more k id s h e (λ same. omega (arith, same, lt))
