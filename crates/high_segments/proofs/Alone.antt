-- Segments of which none groups with those behind it go up as they are.
use Rattle.std.proofs.Common.{◌≡◌, ℕ, zero, suc, ◌+◌, ◌-◌, ◌<◌, ◌≤◌, inl, inr, Bool, true, false, cond, ◌||◌, List, [], ◌∷◌, ◌++◌, length, map, take, drop, Some, refl, sym, subst, ap, ◌∙◌, arith, true≢false, ⊎_elim}
use Rattle.std.specs.Prelude.{nat_eq, nat_lt, slice_get, flat_map}
use Rattle.std.specs.List.{list_any, list_all, AllByRecursion}
use Rattle.std.proofs.lemmas.Bool.{lt-ltb, ltb-true, eqb-true, eq-eqb}
use Rattle.std.proofs.lemmas.List.{length-map, length-take, take-append-drop, drop-append-le, append-nil}
use Rattle.id_groups.specs.Lists.{IsIn, is_in}
use Rattle.id_groups.proofs.Listing.{found, there, and_true, both_true}
use Rattle.segment_codec.specs.Record.{Segment, parents_bytes}
use Rattle.segment_codec.specs.Number.{number_bytes}
use Rattle.segment_codec.specs.Reading.{ascend_from}
use Rattle.segment_codec.proofs.Numbers.{some_is}
use Rattle.segment_codec.specs.Table.{Follow}
use Rattle.segment_codec.proofs.Tables.{all-pass, follow-ends}
use Rattle.flat_segments.specs.Entries.{PlainEntry}
use Rattle.flat_segments.specs.Maximal.{begin_of, up_to}
use Rattle.flat_segments.specs.Runs.{is_read, low_of}
use Rattle.segment_rules.specs.Levels.{heads, have_one_head, group_size, group_limit, merged, groups, count_grouped, parents_below, ascending}
use Rattle.segment_levels.specs.Kept.{PlainLevel, PlainGroups, begun_in, segments_in, groups_in}
use Rattle.segment_levels.specs.Sound.{IsSound, HasFront}
use Rattle.segment_levels.proofs.Ascending.{Ascend, ascend-means, ascend-same, ascending-ascends, ascending-in, in-ascending, in-kept, kept-in, kept-passes, in-left, in-either}
use Rattle.segment_levels.proofs.Grouping.{first-group, groups-few, groups-many, count-few, count-many, few-or-many, size-append}
use Rattle.segment_levels.proofs.Heading.{follow-take, in-take}
use Rattle.high_segments.specs.Growing.{AddsGroup, AddsGroups, AreBelow, KeepsRun, reached, with_entry}
use Rattle.high_segments.specs.Lone.{AreLone, raised}
use Rattle.high_segments.proofs.Groups.{group-at, get-drop, in-drop, in-first}
use Rattle.high_segments.proofs.Places.{segments-length}
use Rattle.high_segments.proofs.Keeping.{rise-more}

-- ---- a segment as a group of one

-- the segment as the one of a level
abbrev pub one : ℕ → Segment → Segment
one level s = merged level s []

-- its parents lie below it
abbrev pub HasBelow : Segment → Type 0
HasBelow s = (p : ℕ) → IsIn p s.parents → p < s.low

in-one : (level : ℕ) (s : Segment) → HasBelow s → (p : ℕ) → IsIn p s.parents → IsIn p (one level s).parents
in-one level s below p i =
    let ps = parents_below s.low (s ∷ []) in
    in-ascending ps p (in-kept (λ q. nat_lt q s.low) (s.parents ++ []) p (lt-ltb p s.low (below p i)) (in-left p s.parents [] i))

one-in : (level : ℕ) (s : Segment) (p : ℕ) → IsIn p (one level s).parents → IsIn p s.parents
one-in level s p i =
    let ps = parents_below s.low (s ∷ []) in
    subst (λ z. IsIn p z) (append-nil s.parents) (kept-in (λ q. nat_lt q s.low) (s.parents ++ []) p (ascending-in ps p i))

-- where its parents ascend, it is itself
pub one-same : (level : ℕ) (s : Segment) → Ascend 0 s.parents → HasBelow s → merged level s [] ≡ record s { level = level }
one-same level s up below =
    let ps = parents_below s.low (s ∷ []) in
    let same : ascending ps ≡ s.parents =
    ascend-same 0 (ascending ps) s.parents (ascending-ascends ps) up (λ p i. one-in level s p i) (λ p i. in-one level s below p i) in
    ap (λ z. (let q : Segment = record { low = s.low; high = s.high; level = level; parents = z } in q)) same

one-below : (level : ℕ) (s : Segment) → HasBelow (one level s)
one-below level s p i =
    let ps = parents_below s.low (s ∷ []) in
    ltb-true p s.low (kept-passes (λ q. nat_lt q s.low) (s.parents ++ []) p (ascending-in ps p i))

-- on every level above it is the same
one-again : (n level : ℕ) (s : Segment) → merged n (one level s) [] ≡ record (one level s) { level = n }
one-again n level s = one-same n (one level s) (ascending-ascends (parents_below s.low (s ∷ []))) (one-below level s)

bool-same : (a b : Bool) → (a ≡ true → b ≡ true) → (b ≡ true → a ≡ true) → a ≡ b
bool-same true b to from = sym (to refl)
bool-same false true to from = absurd (true≢false (sym (from refl)))
bool-same false false to from = refl

one-parents : (level : ℕ) (s : Segment) → HasBelow s → (h : ℕ) → is_in nat_eq h (one level s).parents ≡ is_in nat_eq h s.parents
one-parents level s below h =
    bool-same (is_in nat_eq h (one level s).parents) (is_in nat_eq h s.parents)
    (λ e. there nat_eq eqb-true (λ n. eq-eqb n n refl) h s.parents (one-in level s h (found nat_eq eqb-true (λ n. eq-eqb n n refl) h (one level s).parents e)))
    (λ e. there nat_eq eqb-true (λ n. eq-eqb n n refl) h (one level s).parents (in-one level s below h (found nat_eq eqb-true (λ n. eq-eqb n n refl) h s.parents e)))

-- ---- segments as groups of one

any-one : (level h : ℕ) (xs : List Segment) → ((s : Segment) → IsIn s xs → HasBelow s) → list_any (λ t. is_in nat_eq h t.parents) (map (one level) xs) ≡ list_any (λ t. is_in nat_eq h t.parents) xs
any-one level h [] below = refl
any-one level h (s ∷ more) below =
    ap (λ b. b || list_any (λ t. is_in nat_eq h t.parents) (map (one level) more)) (one-parents level s (below s (inl refl)) h)
    ∙ ap (λ b. is_in nat_eq h s.parents || b) (any-one level h more (λ t i. below t (inr i)))

heads-one : (level : ℕ) (xs : List Segment) → ((s : Segment) → IsIn s xs → HasBelow s) → heads (map (one level) xs) ≡ heads xs
heads-one level [] below = refl
heads-one level (s ∷ more) below =
    let test = λ (z : List Segment). list_any (λ t. is_in nat_eq s.high t.parents) z in
    ap (λ b. cond b (heads (map (one level) more)) (s.high ∷ heads (map (one level) more))) (any-one level s.high more (λ t i. below t (inr i)))
    ∙ ap (λ z. cond (test more) z (s.high ∷ z)) (heads-one level more (λ t i. below t (inr i)))

take-map : (level n : ℕ) (xs : List Segment) → take n (map (one level) xs) ≡ map (one level) (take n xs)
take-map level zero [] = refl
take-map level zero (x ∷ xs) = refl
take-map level (suc n) [] = refl
take-map level (suc n) (x ∷ xs) = ap (λ z. one level x ∷ z) (take-map level n xs)

drop-map : (level n : ℕ) (xs : List Segment) → drop n (map (one level) xs) ≡ map (one level) (drop n xs)
drop-map level zero xs = refl
drop-map level (suc n) [] = refl
drop-map level (suc n) (x ∷ xs) = drop-map level n xs

size-one : (level n : ℕ) (xs : List Segment) → ((s : Segment) → IsIn s xs → HasBelow s) → group_size n (map (one level) xs) ≡ group_size n xs
unfolding group_size
size-one level zero xs below = refl
size-one level (suc n) xs below =
    let test = λ (z : List ℕ). Rattle.std.specs.Prelude.nat_le (length z) 1 in
    ap (λ z. cond (have_one_head z) (suc n) (group_size n (map (one level) xs))) (take-map level (suc n) xs)
    ∙ ap (λ z. cond (test z) (suc n) (group_size n (map (one level) xs))) (heads-one level (take (suc n) xs) (λ s i. below s (in-take (suc n) xs s i)))
    ∙ ap (λ k. cond (have_one_head (take (suc n) xs)) (suc n) k) (size-one level n xs below)

-- ---- all groups are of one segment

-- each that is decided is a group of its own
abbrev pub AreSingle : List Segment → Type 0
AreSingle xs = (at : ℕ) → at + 16 ≤ length xs → group_size group_limit (drop at xs) ≡ 1

single-next : (s : Segment) (more : List Segment) → AreSingle (s ∷ more) → AreSingle more
single-next s more h at le = h (suc at) (omega (arith, le))

none-others : (s : Segment) (more : List Segment) → group_size group_limit (s ∷ more) ≡ 1 → (first-group s more).others ≡ 0
none-others s more e = let g = first-group s more in let is = g.size in omega (arith, is, e)

take-zero : {X : Type 0} (xs : List X) → take 0 xs ≡ []
take-zero [] = refl
take-zero (x ∷ xs) = refl

-- as many as are decided are in groups
pub single-counted : (xs : List Segment) → AreSingle xs → count_grouped 0 xs ≡ length xs - 15
single-counted [] h = refl
single-counted (s ∷ more) h =
    few-or-many (length more) (count_grouped 0 (s ∷ more) ≡ suc (length more) - 15)
    (λ f. let e = count-few s more f in omega (arith, e, f))
    (λ m.
    let e = count-many s more m in
    let none = none-others s more (h 0 (omega (arith, m))) in
    let same = ap (λ n. count_grouped n more) none in
    let rest = single-counted more (single-next s more h) in
    omega (arith, e, same, rest, m))

-- and their groups are they
pub single-groups : (level : ℕ) (xs : List Segment) → AreSingle xs → groups level 0 xs ≡ map (one level) (take (length xs - 15) xs)
single-groups level [] h = refl
single-groups level (s ∷ more) h =
    few-or-many (length more) (groups level 0 (s ∷ more) ≡ map (one level) (take (suc (length more) - 15) (s ∷ more)))
    (λ f.
    let none : suc (length more) - 15 ≡ 0 = omega (arith, f) in
    groups-few level s more f ∙ sym (ap (λ n. map (one level) (take n (s ∷ more))) none))
    (λ m.
    let none = none-others s more (h 0 (omega (arith, m))) in
    let next : suc (length more) - 15 ≡ suc (length more - 15) = omega (arith, m) in
    groups-many level s more m
    ∙ ap (λ n. merged level s (take n more) ∷ groups level n more) none
    ∙ ap (λ z. merged level s z ∷ groups level 0 more) (take-zero more)
    ∙ ap (λ z. one level s ∷ z) (single-groups level more (single-next s more h))
    ∙ sym (ap (λ n. map (one level) (take n (s ∷ more))) next))

-- there are no more groups than segments in them
fewer : (level taken : ℕ) (xs : List Segment) → taken ≤ length xs → taken + length (groups level taken xs) ≤ count_grouped taken xs
fewer level zero [] le = omega arith
fewer level (suc taken) [] le = absurd (omega (arith, le))
fewer level (suc taken) (s ∷ more) le = let r = fewer level taken more (omega (arith, le)) in omega (arith, r)
fewer level zero (s ∷ more) le =
    let g = first-group s more in let most = g.few in
    let again : 15 ≤ length more → g.others + length (groups level g.others more) ≤ count_grouped g.others more = λ m. fewer level g.others more (omega (arith, most, m)) in
    few-or-many (length more) (0 + length (groups level 0 (s ∷ more)) ≤ count_grouped 0 (s ∷ more))
    (λ f. let e = ap length (groups-few level s more f) in omega (arith, e))
    (λ m. let e = ap length (groups-many level s more m) in let c = count-many s more m in let r = again m in omega (arith, e, c, r))

-- where there are as many groups as segments in them, each is of one
pub counted-single : (level : ℕ) (xs : List Segment) → length (groups level 0 xs) ≡ count_grouped 0 xs → AreSingle xs
counted-single level [] e at le = absurd (omega (arith, le))
counted-single level (s ∷ more) e at le =
    let g = first-group s more in let most = g.few in
    let m : 15 ≤ length more = omega (arith, le) in
    let long = ap length (groups-many level s more m) in
    let count = count-many s more m in
    let r = fewer level g.others more (omega (arith, most, m)) in
    let none : g.others ≡ 0 = omega (arith, e, long, count, r) in
    let same = ap (λ n. length (groups level n more)) none in
    let same-count = ap (λ n. count_grouped n more) none in
    let is = g.size in
    at-case at le (omega (arith, is, none)) (counted-single level more (omega (arith, e, long, count, same, same-count)))
  where
    at-case : (at : ℕ) → at + 16 ≤ suc (length more) → group_size group_limit (s ∷ more) ≡ 1 → AreSingle more → group_size group_limit (drop at (s ∷ more)) ≡ 1
    at-case zero le one-is rest = one-is
    at-case (suc at) le one-is rest = rest at (omega (arith, le))

-- first ones of single segments are single, and so as groups of one
single-first : (level n : ℕ) (xs : List Segment) → ((s : Segment) → IsIn s xs → HasBelow s) → AreSingle xs → AreSingle (map (one level) (take n xs))
single-first level n xs below h at le =
    let len = length-map (take n xs) (one level) in
    let few = length-take n xs in
    let long : at + 16 ≤ length (take n xs) = omega (arith, le, len) in
    let parts = ap (drop at) (sym (take-append-drop n xs)) ∙ drop-append-le at (take n xs) (drop n xs) (omega (arith, long)) in
    let left = Rattle.std.proofs.lemmas.List.length-drop at (take n xs) in
    ap (group_size group_limit) (drop-map level at (take n xs))
    ∙ size-one level group_limit (drop at (take n xs)) (λ s i. below s (in-take n xs s (Rattle.segment_levels.proofs.Heading.in-drop at (take n xs) s i)))
    ∙ sym (size-append group_limit (drop at (take n xs)) (drop n xs) (omega (arith, left, long)))
    ∙ ap (group_size group_limit) (sym parts)
    ∙ h at (omega (arith, long, few))

in-map : (level : ℕ) (xs : List Segment) (s : Segment) → IsIn s (map (one level) xs) → (t : Segment) × IsIn t xs × (s ≡ one level t)
in-map level [] s i = absurd i
in-map level (x ∷ xs) s (inl e) = (x, inl refl, e)
in-map level (x ∷ xs) s (inr i) = let r = in-map level xs s i in (r.0, inr r.1, r.2)

-- the groups of single segments are single themselves
pub lone-groups : (level : ℕ) (xs : List Segment) → ((s : Segment) → IsIn s xs → HasBelow s) → AreSingle xs → AreLone (groups level 0 xs)
lone-groups level xs below h =
    subst AreLone (sym (single-groups level xs h))
    (record {
      sizes = single-first level (length xs - 15) xs below h;
      same = λ n s i.
          let r = in-map level (take (length xs - 15) xs) s i in
          subst (λ (z : Segment). merged n z [] ≡ record z { level = n }) (sym r.2) (one-again n level r.0);
    })

-- ---- a row that goes up as it is

-- the segment under another number
abbrev at-number : ℕ → Segment → Segment
at-number level s = record s { level = level }

same-ones : (level : ℕ) (xs : List Segment) → ((s : Segment) → IsIn s xs → merged level s [] ≡ record s { level = level }) → map (one level) xs ≡ map (at-number level) xs
same-ones level [] h = refl
same-ones level (x ∷ xs) h = ap (λ z. z ∷ map (one level) xs) (h x (inl refl)) ∙ ap (λ z. at-number level x ∷ z) (same-ones level xs (λ s i. h s (inr i)))

begun-low : (level : ℕ) (bytes : List ℕ) (end : ℕ) (es : List PlainEntry) → begin_of end (map (begun_in level bytes) es) ≡ low_of end es
begun-low level bytes end [] = refl
begun-low level bytes end (e ∷ es) = refl

next-low : (end n : ℕ) (es : List PlainEntry) → low_of (low_of end (drop n es)) (take n es) ≡ low_of end es
next-low end zero [] = refl
next-low end zero (e ∷ es) = refl
next-low end (suc n) [] = refl
next-low end (suc n) (e ∷ es) = refl

-- so many first ones of a row, under another number
first-segments : (from level : ℕ) (bytes : List ℕ) (end n : ℕ) (es : List PlainEntry)
    → up_to (low_of end (drop n es)) (map (begun_in level bytes) (take n es)) ≡ map (at-number level) (take n (up_to end (map (begun_in from bytes) es)))
first-segments from level bytes end zero [] = refl
first-segments from level bytes end zero (e ∷ es) = refl
first-segments from level bytes end (suc n) [] = refl
first-segments from level bytes end (suc n) (e ∷ es) =
    let made = λ (h : ℕ). (let q : Segment = record (begun_in level bytes e) { high = h - 1 } in q) in
    let ends = begun-low level bytes (low_of end (drop n es)) (take n es) ∙ next-low end n es ∙ sym (begun-low from bytes end es) in
    ap (λ h. made h ∷ up_to (low_of end (drop n es)) (map (begun_in level bytes) (take n es))) ends
    ∙ ap (λ z. made (begin_of end (map (begun_in from bytes) es)) ∷ z) (first-segments from level bytes end n es)

first-end : (level : ℕ) (bytes : List ℕ) (end n : ℕ) (es : List PlainEntry) → low_of end (drop n es) ≡ begin_of end (drop n (up_to end (map (begun_in level bytes) es)))
first-end level bytes end zero [] = refl
first-end level bytes end zero (e ∷ es) = refl
first-end level bytes end (suc n) [] = refl
first-end level bytes end (suc n) (e ∷ es) = first-end level bytes end n es

first-read : (bytes : List ℕ) (n : ℕ) (es : List PlainEntry) → list_all (is_read bytes) es ≡ true → list_all (is_read bytes) (take n es) ≡ true
first-read bytes zero [] h = refl
first-read bytes zero (e ∷ es) h = refl
first-read bytes (suc n) [] h = refl
first-read bytes (suc n) (e ∷ es) h =
    let b = and_true (is_read bytes e) (list_all (is_read bytes) es) h in
    both_true (is_read bytes e) (list_all (is_read bytes) (take n es)) b.0 (first-read bytes n es b.1)

follow-begin : (first end : ℕ) (xs : List Segment) → Follow first end xs → first ≡ begin_of end xs
follow-begin first end [] h = h
follow-begin first end (x ∷ xs) h = sym h.0

module _ (below : PlainLevel) (sound : IsSound below) (lone : AreLone (segments_in below)) (old : PlainLevel) (none : old.entries ≡ []) where
  size-is : length (segments_in below) - 15 ≡ length below.entries - 15
  size-is = ap (λ n. n - 15) (segments-length below)

  groups-are : (level : ℕ) → groups level 0 (segments_in below) ≡ map (one level) (take (length below.entries - 15) (segments_in below))
  groups-are level = single-groups level (segments_in below) lone.sizes ∙ ap (λ n. map (one level) (take n (segments_in below))) size-is

  count-is : count_grouped 0 (segments_in below) ≡ length below.entries - 15
  count-is = single-counted (segments_in below) lone.sizes ∙ size-is

  raised-segments : (level grouped : ℕ) → segments_in (raised below level grouped) ≡ groups level 0 (segments_in below)
  raised-segments level grouped =
      let n = length below.entries - 15 in
      first-segments below.level level below.bytes below.end n below.entries
      ∙ sym (same-ones level (take n (segments_in below)) (λ s i. lone.same level s (in-take n (segments_in below) s i)))
      ∙ sym (groups-are level)

  none-in : segments_in old ≡ []
  none-in = ap (λ z. up_to old.end (map (begun_in old.level old.bytes) z)) none

  end-is : (raised below old.level old.grouped).end ≡ begin_of below.end (drop (0 + count_grouped 0 (segments_in below)) (segments_in below))
  end-is =
      let c = count-is in
      let same : length below.entries - 15 ≡ 0 + count_grouped 0 (segments_in below) = omega (arith, c) in
      first-end below.level below.bytes below.end (length below.entries - 15) below.entries ∙ ap (λ n. begin_of below.end (drop n (segments_in below))) same

  pub raised-adds : AddsGroups below 0 old (raised below old.level old.grouped)
  raised-adds =
      let c = count-is in
      record {
        level = refl;
        segments = raised-segments old.level old.grouped ∙ sym (ap (λ z. z ++ groups old.level 0 (segments_in below)) none-in);
        grouped = omega (arith, c);
        end = end-is;
        read = first-read below.bytes (length below.entries - 15) below.entries sound.read;
      }

  -- the end goes up
  pub raised-end : begin_of below.end (segments_in below) ≤ (raised below old.level old.grouped).end
  raised-end =
      let n = length below.entries - 15 in
      let len = segments-length below in
      let f = follow-take sound.first below.end n (segments_in below) (omega (arith, len)) sound.follow in
      let up = follow-ends sound.first (begin_of below.end (drop n (segments_in below))) (take n (segments_in below)) f in
      let at = follow-begin sound.first below.end (segments_in below) sound.follow in
      let e = first-end below.level below.bytes below.end n below.entries in
      omega (arith, up, at, e)

  pub raised-lone : AreLone (segments_in (raised below old.level old.grouped))
  raised-lone =
      subst AreLone (sym (raised-segments old.level old.grouped))
      (lone-groups old.level (segments_in below)
      (λ s i. below-in (segments_in below) sound.below s i) lone.sizes)
    where
      below-in : (xs : List Segment) → AllByRecursion (λ s. AllByRecursion (λ p. p < s.low) s.parents) xs → (s : Segment) → IsIn s xs → HasBelow s
      below-in xs all s i p j = all-pass (λ q. q < s.low) s.parents (all-pass (λ t. AllByRecursion (λ q. q < t.low) t.parents) xs all s i) p j

  -- what is kept stays, since each that goes up is found below
  pub raised-keeps : (front belows : List Segment) (l : PlainGroups) → 2 ≤ old.level → old.end ≡ begin_of below.end (segments_in below) → KeepsRun front belows old l → AreBelow old.level (segments_in below) belows
      → KeepsRun front belows (raised below old.level old.grouped) (reached l (raised below old.level old.grouped).end (length below.entries - 15))
  raised-keeps front belows l high begin k are =
      let n = length below.entries - 15 in
      let up = raised-end in
      let ends = k.end in
      let number = k.level in
      let old-is : front ++ segments_in old ≡ front = ap (λ z. front ++ z) none-in ∙ append-nil front in
      record {
        level = k.level;
        some = k.some;
        end = refl;
        grouped = ap (λ m. m + n) k.grouped;
        read = k.read;
        rise = rise-more 0 l.end (raised below old.level old.grouped).end (groups_in l) k.rise (omega (arith, up, ends, begin));
        kept = λ s i. in-left s front (segments_in (raised below old.level old.grouped)) (subst (λ z. IsIn s z) old-is (k.kept s i));
        each = λ s i. ⊎_elim (λ j. k.each s (subst (λ z. IsIn s z) (sym old-is) j))
            (λ j.
            let r = in-map old.level (take n (segments_in below)) s (subst (λ z. IsIn s z) (raised-segments old.level old.grouped ∙ groups-are old.level) j) in
            let b = are.each high r.0 (in-take n (segments_in below) r.0 r.1) in
            let suc-is : old.level ≡ suc (l.level - 1) = omega (arith, number, high) in
            inr (record {
              below = r.0;
              is_below = b.0;
              same = r.2 ∙ b.1 ∙ ap (λ m. (let q : Segment = record r.0 { level = m } in q)) suc-is;
              high = omega (arith, number, high);
            }))
            (in-either s front (segments_in (raised below old.level old.grouped)) i);
      }

-- the row as it is made
pub raised-is : (below old : PlainLevel) (n level grouped : ℕ) → n ≡ length below.entries - 15 → level ≡ old.level → grouped ≡ old.grouped + n
    → record { level = level; entries = take n below.entries; bytes = below.bytes; end = low_of below.end (drop n below.entries); grouped = grouped } ≡ raised below old.level old.grouped
raised-is below old n level grouped e f g =
    let made = λ (m number count : ℕ). (let q : PlainLevel = record { level = number; entries = take m below.entries; bytes = below.bytes; end = low_of below.end (drop m below.entries); grouped = count } in q) in
    ap (λ m. made m level grouped) e ∙ ap (λ m. made (length below.entries - 15) m grouped) f ∙ ap (made (length below.entries - 15) old.level) (g ∙ ap (λ m. old.grouped + m) e)

-- what was kept stands in front
pub reached-front : (l : PlainGroups) (end n : ℕ) → HasFront l (reached l end n)
reached-front l end n = record { level = refl; groups = []; bytes = []; groups_are = sym (append-nil l.groups); bytes_are = sym (append-nil l.bytes) }

-- ---- a row that was grown from none

-- where all groups of a row were added to none, as many as segments in them, they are single
pub grown-lone : (below old new : PlainLevel) → IsSound below → AddsGroups below 0 old new → length old.entries ≡ 0 → length new.entries ≡ new.grouped - old.grouped → AreLone (segments_in new)
grown-lone below old new sound adds none many =
    let empty = segments-length old in
    let len = segments-length new in
    let gs = groups old.level 0 (segments_in below) in
    let count = adds.grouped in
    let is : segments_in new ≡ gs = adds.segments ∙ ap (λ z. z ++ gs) (nothing (segments_in old) (omega (arith, empty, none))) in
    let long = ap length is in
    subst AreLone (sym is)
    (lone-groups old.level (segments_in below) (λ s i p j. all-pass (λ q. q < s.low) s.parents (all-pass (λ t. AllByRecursion (λ q. q < t.low) t.parents) (segments_in below) sound.below s i) p j)
    (counted-single old.level (segments_in below) (omega (arith, long, len, many, count))))
  where
    nothing : (xs : List Segment) → length xs ≡ 0 → xs ≡ []
    nothing [] e = refl
    nothing (x ∷ xs) e = absurd (omega (arith, e))

-- ---- a segment that is added as it stands

-- where its parents ascend, a single segment is its group
pub add-lone : (below : PlainLevel) (at size : ℕ) (s : Segment) (old new : PlainLevel) → IsSound below → at + 16 ≤ length below.entries → size ≡ 1 → size ≡ group_size group_limit (drop at (segments_in below))
    → slice_get (segments_in below) at ≡ Some s → ascend_from 0 s.parents ≡ true → new ≡ with_entry old old.end (parents_bytes s) (s.high + 1) (old.grouped + 1) → (parents : List ℕ) × AddsGroup below at old new size parents
add-lone below at size s old new sound room one size-is get up is =
    let g = group-at below at room in
    let zero-at : at + 0 ≡ at = omega arith in
    let here : g.first ≡ s =
    some_is g.first s (ap (λ z. slice_get z 0) (sym g.are) ∙ get-drop at 0 (segments_in below) ∙ ap (slice_get (segments_in below)) zero-at ∙ get) in
    let ascends = ascend-means 0 g.first.parents (subst (λ (q : Segment). ascend_from 0 q.parents ≡ true) (sym here) up) in
    let below-first = first-below g.first (in-drop at (segments_in below) g.first (in-first (drop at (segments_in below)) g.first g.others g.are)) in
    let alone = one-same old.level g.first ascends below-first in
    let none : size - 1 ≡ 0 = omega (arith, one) in
    let added = λ (ps : List ℕ) (high n : ℕ). with_entry old old.end (flat_map number_bytes ps) (high + 1) (old.grouped + n) in (
      (merged old.level g.first (take (size - 1) g.others)).parents,
      record {
        first = g.first;
        others = g.others;
        are = g.are;
        size_is = size-is ∙ ap (group_size group_limit) g.are;
        parents_are = refl;
        new_is = is ∙ ap (λ (q : Segment). added q.parents q.high 1) (sym here) ∙ ap (λ (q : Segment). added q.parents q.high 1) (sym alone)
            ∙ ap (λ z. added (merged old.level g.first z).parents (merged old.level g.first z).high 1) (sym (take-zero g.others))
            ∙ ap (λ n. added (merged old.level g.first (take n g.others)).parents (merged old.level g.first (take n g.others)).high 1) (sym none)
            ∙ ap (added (merged old.level g.first (take (size - 1) g.others)).parents (merged old.level g.first (take (size - 1) g.others)).high) (sym one);
      },
    )
  where
    first-below : (t : Segment) → IsIn t (segments_in below) → HasBelow t
    first-below t i p j = all-pass (λ q. q < t.low) t.parents (all-pass (λ u. AllByRecursion (λ q. q < u.low) u.parents) (segments_in below) sound.below t i) p j
