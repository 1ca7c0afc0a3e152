-- A level to which groups are added.
use Rattle.std.proofs.Common.{◌≡◌, ℕ, zero, suc, ◌+◌, ◌-◌, ◌<◌, ◌≤◌, ◌^◌, true, List, [], ◌∷◌, ◌++◌, length, map, take, drop, Some, refl, sym, subst, ap, ◌∙◌, arith, lit≤, append_assoc, le_of_suc-le-suc}
use Rattle.std.specs.Prelude.{slice_get, flat_map, nat_le, nat_lt}
use Rattle.std.specs.Str.{bytes_eq}
use Rattle.std.specs.List.{list_all, AllByRecursion}
use Rattle.std.proofs.lemmas.Bool.{le-leb, ltb-true}
use Rattle.std.proofs.lemmas.List.{length-append, length-drop, take-append-le, drop-append-le, map-append, append-nil, take_at, drop_at, drop-drop}
use Rattle.std.proofs.lemmas.Slice.Eq.{bytes_eq-Decides}
use Rattle.id_groups.specs.Lists.{IsIn}
use Rattle.id_groups.proofs.Listing.{and_true, both_true}
use Rattle.segment_codec.specs.Record.{Segment}
use Rattle.segment_codec.specs.Number.{number_bytes, numbers_in, HasNumber}
use Rattle.segment_codec.specs.Table.{Follow}
use Rattle.segment_codec.proofs.Lists.{in-numbers}
use Rattle.segment_codec.proofs.Tables.{follow-within}
use Rattle.flat_segments.specs.Entries.{PlainEntry}
use Rattle.flat_segments.specs.Maximal.{begin_of, up_to}
use Rattle.flat_segments.specs.Runs.{slice_in, is_read}
use Rattle.flat_segments.proofs.Searching.{IsRead, read-means}
use Rattle.segment_rules.specs.Levels.{merged, last_id, parents_below, ascending, groups, count_grouped, group_size, group_limit}
use Rattle.segment_levels.specs.Kept.{PlainLevel, begun_in, segments_in}
use Rattle.segment_levels.specs.Sound.{IsSound}
use Rattle.high_segments.specs.Growing.{with_entry, with_group, AddsGroup, AddsGroups}
use Rattle.segment_levels.proofs.Ascending.{all-from-in, ascending-in, kept-passes}
use Rattle.segment_levels.proofs.Grouping.{first-group, groups-few, groups-many, groups-skip, count-few, count-many, count-skip, size-some, size-most}
use Rattle.segment_levels.proofs.Heading.{follow-drop, follow-take, follow-last}
use Rattle.high_segments.proofs.Places.{segments-length}

-- ---- one more entry

pub read-decided : (bytes : List ℕ) (e : PlainEntry) → IsRead bytes e → is_read bytes e ≡ true
unfolding is_read
read-decided bytes e h =
    let slice = slice_in bytes e in
    both_true (nat_le (e.place + e.len) (length bytes)) (bytes_eq slice (flat_map number_bytes (numbers_in slice)))
    (le-leb (e.place + e.len) (length bytes) h.within) ((bytes_eq-Decides slice (flat_map number_bytes (numbers_in slice))).1 h.spelled)

-- what an entry names stays, whatever comes behind the bytes
pub slice-stays : (bytes more : List ℕ) (e : PlainEntry) → e.place + e.len ≤ length bytes → slice_in (bytes ++ more) e ≡ slice_in bytes e
slice-stays bytes more e le =
    let left = length-drop e.place bytes in
    ap (take e.len) (drop-append-le e.place bytes more (omega (arith, le))) ∙ take-append-le e.len (drop e.place bytes) more (omega (arith, left, le))

pub read-stays : (bytes more : List ℕ) (e : PlainEntry) → IsRead bytes e → IsRead (bytes ++ more) e
read-stays bytes more e h =
    let le = h.within in let len = length-append bytes more in
    let same = slice-stays bytes more e le in
    record { within = omega (arith, le, len); spelled = same ∙ h.spelled ∙ ap (λ z. flat_map number_bytes (numbers_in z)) (sym same) }

pub record Stays (level : ℕ) (bytes more : List ℕ) (es : List PlainEntry) : Type 0 where
  pub read : list_all (is_read (bytes ++ more)) es ≡ true
  pub begun : map (begun_in level (bytes ++ more)) es ≡ map (begun_in level bytes) es

pub all-stay : (level : ℕ) (bytes more : List ℕ) (es : List PlainEntry) → list_all (is_read bytes) es ≡ true → Stays level bytes more es
all-stay level bytes more [] h = record { read = refl; begun = refl }
all-stay level bytes more (e ∷ es) h =
    let b = and_true (is_read bytes e) (list_all (is_read bytes) es) h in
    let r = read-means bytes e b.0 in
    let s = all-stay level bytes more es b.1 in
    let made = λ (z : List ℕ). (let q : Segment = record { low = e.low; high = e.low; level = level; parents = numbers_in z } in q) in
    record {
      read = both_true (is_read (bytes ++ more) e) (list_all (is_read (bytes ++ more)) es) (read-decided (bytes ++ more) e (read-stays bytes more e r)) s.read;
      begun = ap (λ z. made z ∷ map (begun_in level (bytes ++ more)) es) (slice-stays bytes more e r.within) ∙ ap (λ z. begun_in level bytes e ∷ z) s.begun;
    }

all-read-append : (bytes : List ℕ) (es fs : List PlainEntry) → list_all (is_read bytes) es ≡ true → list_all (is_read bytes) fs ≡ true → list_all (is_read bytes) (es ++ fs) ≡ true
all-read-append bytes [] fs h g = g
all-read-append bytes (e ∷ es) fs h g =
    let b = and_true (is_read bytes e) (list_all (is_read bytes) es) h in
    both_true (is_read bytes e) (list_all (is_read bytes) (es ++ fs)) b.0 (all-read-append bytes es fs b.1 g)

pub up_to-append : (end : ℕ) (xs ys : List Segment) → up_to end (xs ++ ys) ≡ up_to (begin_of end ys) xs ++ up_to end ys
up_to-append end [] ys = refl
up_to-append end (x ∷ xs) ys = ap (λ n. record x { high = n - 1 } ∷ up_to end (xs ++ ys)) (begins xs) ∙ ap (λ z. record x { high = begin_of (begin_of end ys) xs - 1 } ∷ z) (up_to-append end xs ys)
  where
    begins : (xs : List Segment) → begin_of end (xs ++ ys) ≡ begin_of (begin_of end ys) xs
    begins [] = refl
    begins (x ∷ xs) = refl

-- a level with one more entry, whose parents are spelled
module _ (l : PlainLevel) (low end grouped : ℕ) (parents spelled : List ℕ) (is : spelled ≡ flat_map number_bytes parents) (have : AllByRecursion HasNumber parents) (read : list_all (is_read l.bytes) l.entries ≡ true) where
  new-slice : slice_in (l.bytes ++ spelled) (record { place = length l.bytes; len = length spelled; low = low }) ≡ spelled
  new-slice = ap (take (length spelled)) (drop_at l.bytes spelled (length l.bytes) refl) ∙ ap (take (length spelled)) (sym (append-nil spelled)) ∙ take_at spelled [] (length spelled) refl

  new-parents : numbers_in (slice_in (l.bytes ++ spelled) (record { place = length l.bytes; len = length spelled; low = low })) ≡ parents
  new-parents = ap numbers_in (new-slice ∙ is) ∙ in-numbers parents have

  pub entry-read : list_all (is_read (with_entry l low spelled end grouped).bytes) (with_entry l low spelled end grouped).entries ≡ true
  entry-read =
      all-read-append (l.bytes ++ spelled) l.entries (record { place = length l.bytes; len = length spelled; low = low } ∷ []) (all-stay l.level l.bytes spelled l.entries read).read
      (both_true (is_read (l.bytes ++ spelled) (record { place = length l.bytes; len = length spelled; low = low })) true
      (read-decided (l.bytes ++ spelled) (record { place = length l.bytes; len = length spelled; low = low })
      (record { within = (let len = length-append l.bytes spelled in omega (arith, len)); spelled = new-slice ∙ is ∙ ap (flat_map number_bytes) (sym new-parents) })) refl)

  -- what begins
  pub entry-begun : map (begun_in l.level (l.bytes ++ spelled)) (l.entries ++ record { place = length l.bytes; len = length spelled; low = low } ∷ [])
      ≡ map (begun_in l.level l.bytes) l.entries ++ record { low = low; high = low; level = l.level; parents = parents } ∷ []
  entry-begun =
      let made = λ (z : List ℕ). (let q : Segment = record { low = low; high = low; level = l.level; parents = z } in q) in
      map-append (begun_in l.level (l.bytes ++ spelled)) l.entries (record { place = length l.bytes; len = length spelled; low = low } ∷ [])
      ∙ ap (λ z. z ++ begun_in l.level (l.bytes ++ spelled) (record { place = length l.bytes; len = length spelled; low = low }) ∷ []) (all-stay l.level l.bytes spelled l.entries read).begun
      ∙ ap (λ z. map (begun_in l.level l.bytes) l.entries ++ made z ∷ []) new-parents

  pub entry-segments : low ≡ l.end → segments_in (with_entry l low spelled end grouped) ≡ segments_in l ++ record { low = low; high = end - 1; level = l.level; parents = parents } ∷ []
  entry-segments begins =
      ap (up_to end) entry-begun
      ∙ up_to-append end (map (begun_in l.level l.bytes) l.entries) (record { low = low; high = low; level = l.level; parents = parents } ∷ [])
      ∙ ap (λ n. up_to n (map (begun_in l.level l.bytes) l.entries) ++ record { low = low; high = end - 1; level = l.level; parents = parents } ∷ []) begins

-- ---- one group

pub in-first : {X : Type 0} (xs : List X) (x : X) (more : List X) → xs ≡ x ∷ more → IsIn x xs
in-first xs x more e = subst (λ z. IsIn x z) (sym e) (Rattle.std.proofs.Common.inl refl)

some-drop : (at : ℕ) (xs : List Segment) → at < length xs → (s : Segment) × (more : List Segment) × (drop at xs ≡ s ∷ more)
some-drop zero [] lt = absurd (omega (arith, lt))
some-drop zero (x ∷ xs) lt = (x, xs, refl)
some-drop (suc at) [] lt = absurd (omega (arith, lt))
some-drop (suc at) (x ∷ xs) lt = some-drop at xs (le_of_suc-le-suc lt)

pub get-drop : (at k : ℕ) (xs : List Segment) → slice_get (drop at xs) k ≡ slice_get xs (at + k)
get-drop zero k xs = ap (slice_get xs) (let z : k ≡ 0 + k = omega arith in z)
get-drop (suc at) k [] = refl
get-drop (suc at) k (x ∷ xs) = get-drop at k xs ∙ ap (slice_get (x ∷ xs)) (let z : suc (at + k) ≡ suc at + k = omega arith in z)

-- the last segment of a group
get-last : (s : Segment) (more : List Segment) (k : ℕ) (q : Segment) → slice_get (s ∷ more) k ≡ Some q → q.high ≡ last_id s.high (take k more)
get-last s [] zero q e = ap (λ (t : Segment). t.high) (sym (Rattle.segment_codec.proofs.Numbers.some_is s q e))
get-last s (t ∷ more) zero q e = ap (λ (t : Segment). t.high) (sym (Rattle.segment_codec.proofs.Numbers.some_is s q e))
get-last s [] (suc k) q e = absurd cc
get-last s (t ∷ more) (suc k) q e = get-last t more k q e

pub record Group (below : PlainLevel) (at : ℕ) : Type 0 where
  pub first : Segment
  pub others : List Segment
  pub are : drop at (segments_in below) ≡ first ∷ others
  pub low : begin_of below.end (drop at (segments_in below)) ≡ first.low
  pub some : 1 ≤ group_size group_limit (drop at (segments_in below))
  pub most : group_size group_limit (drop at (segments_in below)) ≤ 16
  pub many : 15 ≤ length others

pub group-at : (below : PlainLevel) (at : ℕ) → at + 16 ≤ length below.entries → Group below at
group-at below at room =
    let len = segments-length below in
    let d = some-drop at (segments_in below) (omega (arith, room, len)) in
    let left = length-drop at (segments_in below) in
    let e = ap length d.2 in
    record {
      first = d.0;
      others = d.1;
      are = d.2;
      low = ap (begin_of below.end) d.2;
      some = subst (λ (z : List Segment). 1 ≤ group_size group_limit z) (sym d.2) (size-some 15 d.0 d.1);
      most = size-most group_limit (drop at (segments_in below));
      many = omega (arith, e, left, len, room);
    }

pub add-group : (below : PlainLevel) (at size low last : ℕ) (parents : List ℕ) (q : Segment) (old new : PlainLevel) → at + 16 ≤ length below.entries
    → size ≡ group_size group_limit (drop at (segments_in below)) → low ≡ begin_of below.end (drop at (segments_in below))
    → parents ≡ ascending (parents_below low (take size (drop at (segments_in below)))) → slice_get (segments_in below) (at + size - 1) ≡ Some q → last ≡ q.high
    → new ≡ with_group old parents (last + 1) size → AddsGroup below at old new size parents
add-group below at size low last parents q old new room size-is low-is parents-is get last-is new-is =
    let g = group-at below at room in
    let some = g.some in
    let size-one : size ≡ suc (size - 1) = omega (arith, some, size-is) in
    let place : at + (size - 1) ≡ at + size - 1 = omega (arith, some, size-is) in
    let high = get-last g.first g.others (size - 1) q (ap (λ z. slice_get z (size - 1)) (sym g.are) ∙ get-drop at (size - 1) (segments_in below) ∙ ap (slice_get (segments_in below)) place ∙ get) in
    let taken : take size (drop at (segments_in below)) ≡ g.first ∷ take (size - 1) g.others = ap (take size) g.are ∙ ap (λ n. take n (g.first ∷ g.others)) size-one in
    let same : parents ≡ ascending (parents_below g.first.low (g.first ∷ take (size - 1) g.others)) =
    parents-is ∙ ap (λ n. ascending (parents_below n (take size (drop at (segments_in below))))) (low-is ∙ g.low) ∙ ap (λ z. ascending (parents_below g.first.low z)) taken in
    record {
      first = g.first;
      others = g.others;
      are = g.are;
      size_is = size-is ∙ ap (group_size group_limit) g.are;
      parents_are = same;
      new_is = new-is ∙ ap (λ z. with_group old z (last + 1) size) same
          ∙ ap (λ n. with_group old (ascending (parents_below g.first.low (g.first ∷ take (size - 1) g.others))) (n + 1) size) (last-is ∙ high);
    }

-- ---- all groups

pub record AddsSoFar (below : PlainLevel) (from at : ℕ) (old now : PlainLevel) : Type 0 where
  pub order : from ≤ at
  pub within : at ≤ length (segments_in below)
  pub level : now.level ≡ old.level
  pub end : now.end ≡ begin_of below.end (drop at (segments_in below))
  pub segments : segments_in now ++ groups old.level 0 (drop at (segments_in below)) ≡ segments_in old ++ groups old.level 0 (drop from (segments_in below))
  pub grouped : now.grouped ≡ old.grouped + (at - from)
  pub counted : (at - from) + count_grouped 0 (drop at (segments_in below)) ≡ count_grouped 0 (drop from (segments_in below))
  pub read : list_all (is_read now.bytes) now.entries ≡ true

pub adds-none : (below : PlainLevel) (from : ℕ) (old : PlainLevel) → from ≤ length below.entries → old.end ≡ begin_of below.end (drop from (segments_in below))
    → list_all (is_read old.bytes) old.entries ≡ true → AddsSoFar below from from old old
adds-none below from old le end read =
    let len = segments-length below in
    record {
      order = omega arith;
      within = omega (arith, le, len);
      level = refl;
      end = end;
      segments = refl;
      grouped = omega arith;
      counted = omega arith;
      read = read;
    }

number-has : (low : ℕ) (ns : List ℕ) → low ≤ 2 ^ 56 → ((p : ℕ) → IsIn p ns → p < low) → AllByRecursion HasNumber ns
number-has low ns le h = let wide : 2 ^ 56 ≤ 2 ^ 64 = lit≤ tt in all-from-in HasNumber ns (λ p i. let lt = h p i in omega (arith, lt, le, wide))

drop-more : (at n : ℕ) (xs : List Segment) (s : Segment) (more : List Segment) → drop at xs ≡ s ∷ more → drop n more ≡ drop (at + suc n) xs
drop-more at n xs s more e = ap (drop (suc n)) (sym e) ∙ drop-drop (suc n) at xs

pub in-drop : {X : Type 0} (n : ℕ) (xs : List X) (x : X) → IsIn x (drop n xs) → IsIn x xs
in-drop zero xs x i = i
in-drop (suc n) [] x i = absurd i
in-drop (suc n) (y ∷ ys) x i = Rattle.std.proofs.Common.inr (in-drop n ys x i)

module _ (below : PlainLevel) (sound : IsSound below) (from at size : ℕ) (old now new : PlainLevel) (h : AddsSoFar below from at old now) (room : at + 16 ≤ length below.entries) (parents : List ℕ) (g : AddsGroup below at now new size parents) where
  segs : List Segment
  segs = segments_in below

  len-is : length (segments_in below) ≡ length below.entries
  len-is = segments-length below

  pub many : 15 ≤ length g.others
  many = let e = ap length g.are in let left = length-drop at (segments_in below) in let len = len-is in omega (arith, e, left, len, room)

  abbrev n : ℕ
  n = (first-group g.first g.others).others

  pub few : (first-group g.first g.others).others ≤ 15
  few = (first-group g.first g.others).few

  pub size-suc : size ≡ suc (first-group g.first g.others).others
  size-suc = g.size_is ∙ (first-group g.first g.others).size

  pub size-less : size - 1 ≡ (first-group g.first g.others).others
  size-less = let e = size-suc in omega (arith, e)

  pub next-drop : drop (first-group g.first g.others).others g.others ≡ drop (at + size) (segments_in below)
  next-drop = drop-more at n (segments_in below) g.first g.others g.are ∙ ap (λ k. drop (at + k) (segments_in below)) (sym size-suc)

  pub follow-here : Follow g.first.low below.end (g.first ∷ g.others)
  follow-here =
      let le : at ≤ length (segments_in below) = (let len = len-is in omega (arith, len, room)) in
      let f = follow-drop sound.first below.end at (segments_in below) le sound.follow in
      subst (λ k. Follow k below.end (g.first ∷ g.others)) (ap (begin_of below.end) g.are) (subst (λ (z : List Segment). Follow (begin_of below.end (drop at (segments_in below))) below.end z) g.are f)

  pub high-is : last_id g.first.high (take (first-group g.first g.others).others g.others) + 1 ≡ begin_of below.end (drop (at + size) (segments_in below))
  high-is =
      let f = follow-here in
      let m = many in let few = few in
      follow-last g.first.low (begin_of below.end (drop n g.others)) g.first (take n g.others)
      (f.0, f.1, follow-take (g.first.high + 1) below.end n g.others (omega (arith, m, few)) f.2)
      ∙ ap (begin_of below.end) next-drop

  pub low-is : now.end ≡ g.first.low
  low-is = h.end ∙ ap (begin_of below.end) g.are

  low-small : g.first.low ≤ 2 ^ 56
  low-small =
      let i : IsIn g.first (segments_in below) = in-drop at (segments_in below) g.first (in-first (drop at (segments_in below)) g.first g.others g.are) in
      let w = follow-within sound.first below.end (segments_in below) sound.follow g.first i in
      let a = w.1 in let b = w.2 in let c = sound.small in omega (arith, a, b, c)

  pub have : AllByRecursion HasNumber (merged now.level g.first (take (size - 1) g.others)).parents
  have =
      number-has g.first.low (ascending (parents_below g.first.low (g.first ∷ take (size - 1) g.others))) low-small
      (λ p i. ltb-true p g.first.low (kept-passes (λ q. nat_lt q g.first.low) (flat_map (λ (s : Segment). s.parents) (g.first ∷ take (size - 1) g.others)) p (ascending-in (parents_below g.first.low (g.first ∷ take (size - 1) g.others)) p i)))

  pub new-segments : segments_in new ≡ segments_in now ++ merged old.level g.first (take (first-group g.first g.others).others g.others) ∷ []
  new-segments =
      let m = merged now.level g.first (take (size - 1) g.others) in
      let one : m.high + 1 - 1 ≡ m.high = omega arith in
      let made = λ (low high level : ℕ). (let q : Segment = record { low = low; high = high; level = level; parents = m.parents } in segments_in now ++ q ∷ []) in
      ap segments_in g.new_is
      ∙ entry-segments now now.end (m.high + 1) (now.grouped + size) m.parents (flat_map number_bytes m.parents) refl have h.read refl
      ∙ ap (λ k. made k (m.high + 1 - 1) now.level) low-is ∙ ap (λ k. made g.first.low k now.level) one
      ∙ ap (λ k. segments_in now ++ merged k g.first (take (size - 1) g.others) ∷ []) h.level
      ∙ ap (λ k. segments_in now ++ merged old.level g.first (take k g.others) ∷ []) size-less

  groups-here : groups old.level 0 (drop at (segments_in below)) ≡ merged old.level g.first (take (first-group g.first g.others).others g.others) ∷ groups old.level 0 (drop (at + size) (segments_in below))
  groups-here =
      let m = many in let few = few in
      ap (groups old.level 0) g.are ∙ groups-many old.level g.first g.others many
      ∙ ap (λ z. merged old.level g.first (take n g.others) ∷ z) (groups-skip old.level n g.others (omega (arith, m, few)) ∙ ap (groups old.level 0) next-drop)

  counted-here : count_grouped 0 (drop at (segments_in below)) ≡ size + count_grouped 0 (drop (at + size) (segments_in below))
  counted-here =
      let m = many in let few = few in
      let a = ap (count_grouped 0) g.are ∙ count-many g.first g.others many in
      let b = count-skip n g.others (omega (arith, m, few)) in
      let c = ap (count_grouped 0) next-drop in
      let d = size-suc in
      omega (arith, a, b, c, d)

  pub adds-more : AddsSoFar below from (at + size) old new
  adds-more =
      let few = few in let suc-is = size-suc in let len = len-is in let order = h.order in
      let m = merged now.level g.first (take (size - 1) g.others) in
      record {
        order = omega (arith, order);
        within = omega (arith, room, few, suc-is, len);
        level = ap (λ (l : PlainLevel). l.level) g.new_is ∙ h.level;
        end = ap (λ (l : PlainLevel). l.end) g.new_is ∙ ap (λ k. last_id g.first.high (take k g.others) + 1) size-less ∙ high-is;
        segments =
            ap (λ z. z ++ groups old.level 0 (drop (at + size) (segments_in below))) new-segments
            ∙ append_assoc (segments_in now) (merged old.level g.first (take n g.others) ∷ []) (groups old.level 0 (drop (at + size) (segments_in below)))
            ∙ ap (λ z. segments_in now ++ z) (sym groups-here) ∙ h.segments;
        grouped = (let a = ap (λ (l : PlainLevel). l.grouped) g.new_is in let b = h.grouped in omega (arith, a, b, order));
        counted = (let a = counted-here in let b = h.counted in omega (arith, a, b, order));
        read = ap (λ (l : PlainLevel). list_all (is_read l.bytes) l.entries) g.new_is
            ∙ entry-read now now.end (m.high + 1) (now.grouped + size) m.parents (flat_map number_bytes m.parents) refl have h.read;
      }

groups-end-few : (level : ℕ) (xs : List Segment) → length xs < 16 → (groups level 0 xs ≡ []) × (count_grouped 0 xs ≡ 0)
groups-end-few level [] lt = (refl, refl)
groups-end-few level (s ∷ more) lt = (groups-few level s more (omega (arith, lt)), count-few s more (omega (arith, lt)))

pub adds-all : (below : PlainLevel) (from at : ℕ) (old now : PlainLevel) → AddsSoFar below from at old now → length below.entries < at + 16 → AddsGroups below from old now
adds-all below from at old now h lt =
    let len = segments-length below in
    let left = length-drop at (segments_in below) in
    let none = groups-end-few old.level (drop at (segments_in below)) (omega (arith, left, len, lt)) in
    let order = h.order in let c = h.counted in let g = h.grouped in let z = none.1 in
    let at-is : at ≡ from + count_grouped 0 (drop from (segments_in below)) = omega (arith, order, c, z) in
    record {
      level = h.level;
      segments = sym (append-nil (segments_in now)) ∙ ap (λ z. segments_in now ++ z) (sym none.0) ∙ h.segments;
      grouped = omega (arith, order, c, z, g);
      end = h.end ∙ ap (λ k. begin_of below.end (drop k (segments_in below))) at-is;
      read = h.read;
    }

pub adds-size : (below : PlainLevel) (at size : ℕ) (old new : PlainLevel) (parents : List ℕ) → AddsGroup below at old new size parents → (1 ≤ size) × (size ≤ 16)
adds-size below at size old new parents g =
    let is = g.size_is in let suc-is = (first-group g.first g.others).size in let few = (first-group g.first g.others).few in
    (omega (arith, is, suc-is), omega (arith, is, suc-is, few))

-- the bytes of the parents of a group that was added
pub group-spelled : (below : PlainLevel) (at size : ℕ) (old new : PlainLevel) (parents : List ℕ) → AddsGroup below at old new size parents → drop (length old.bytes) new.bytes ≡ flat_map number_bytes parents
group-spelled below at size old new parents g =
    let m = merged old.level g.first (take (size - 1) g.others) in
    ap (λ (l : PlainLevel). drop (length old.bytes) l.bytes) g.new_is ∙ drop_at old.bytes (flat_map number_bytes m.parents) (length old.bytes) refl ∙ ap (flat_map number_bytes) (sym g.parents_are)
