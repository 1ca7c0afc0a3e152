-- What is kept of a level to which the groups of a row are added.
use Rattle.std.proofs.Common.{◌≡◌, ℕ, zero, suc, ◌+◌, ◌-◌, ◌<◌, ◌≤◌, inl, inr, Bool, true, false, cond, ◌||◌, List, [], ◌∷◌, ◌++◌, length, map, take, drop, refl, sym, subst, ap, ◌∙◌, arith, append_assoc, ⊎_elim}
use Rattle.std.specs.Prelude.{flat_map, nat_eq, nat_lt}
use Rattle.std.specs.List.{list_all, AllByRecursion}
use Rattle.std.proofs.lemmas.Bool.{ltb-false}
use Rattle.std.proofs.lemmas.List.{length-append, map-append, append-nil, take_at, drop_at}
use Rattle.id_groups.specs.Lists.{IsIn}
use Rattle.id_groups.proofs.Listing.{and_true, both_true}
use Rattle.segment_codec.specs.Record.{Segment}
use Rattle.segment_codec.specs.Number.{number_bytes, numbers_in, HasNumber}
use Rattle.segment_codec.proofs.Lists.{in-numbers}
use Rattle.segment_codec.proofs.Tables.{follow-ends}
use Rattle.flat_segments.specs.Maximal.{begin_of}
use Rattle.flat_segments.specs.Runs.{slice_in, is_read}
use Rattle.flat_segments.proofs.Searching.{read-means}
use Rattle.segment_rules.specs.Levels.{merged, last_id}
use Rattle.segment_levels.specs.Kept.{PlainLevel, PlainGroup, PlainGroups, IsAlone, Rise, segments_in, groups_in, made_in, entry_of}
use Rattle.segment_levels.specs.Sound.{IsSound, HasFront}
use Rattle.segment_levels.proofs.Ascending.{in-left, in-right, in-either}
use Rattle.segment_levels.proofs.Grouping.{first-group}
use Rattle.segment_levels.proofs.Heading.{follow-take}
use Rattle.high_segments.specs.Growing.{with_kept, with_next, reached, AddsGroup, AreBelow, KeepsRun}
use Rattle.high_segments.proofs.Groups.{AddsSoFar, adds-none, read-decided, read-stays, slice-stays, in-first, in-drop}

-- ---- one more group

pub record StayMade (level : ℕ) (bytes more : List ℕ) (gs : List PlainGroup) : Type 0 where
  pub read : list_all (λ g. is_read (bytes ++ more) (entry_of g)) gs ≡ true
  pub made : map (made_in level (bytes ++ more)) gs ≡ map (made_in level bytes) gs

pub stay-made : (level : ℕ) (bytes more : List ℕ) (gs : List PlainGroup) → list_all (λ g. is_read bytes (entry_of g)) gs ≡ true → StayMade level bytes more gs
stay-made level bytes more [] h = record { read = refl; made = refl }
stay-made level bytes more (g ∷ gs) h =
    let b = and_true (is_read bytes (entry_of g)) (list_all (λ g. is_read bytes (entry_of g)) gs) h in
    let r = read-means bytes (entry_of g) b.0 in
    let s = stay-made level bytes more gs b.1 in
    let with = λ (z : List ℕ). (let q : Segment = record { low = g.low; high = g.high; level = level; parents = numbers_in z } in q) in
    record {
      read = both_true (is_read (bytes ++ more) (entry_of g)) (list_all (λ g. is_read (bytes ++ more) (entry_of g)) gs) (read-decided (bytes ++ more) (entry_of g) (read-stays bytes more (entry_of g) r)) s.read;
      made = ap (λ z. with z ∷ map (made_in level (bytes ++ more)) gs) (slice-stays bytes more (entry_of g) r.within) ∙ ap (λ z. made_in level bytes g ∷ z) s.made;
    }

all-append : (p : PlainGroup → Bool) (xs ys : List PlainGroup) → list_all p xs ≡ true → list_all p ys ≡ true → list_all p (xs ++ ys) ≡ true
all-append p [] ys h g = g
all-append p (x ∷ xs) ys h g = let b = and_true (p x) (list_all p xs) h in both_true (p x) (list_all p (xs ++ ys)) b.0 (all-append p xs ys b.1 g)

pub rise-append : (least end more : ℕ) (xs : List Segment) (s : Segment) → Rise least end xs → end ≤ s.low → s.low ≤ s.high → s.high < more → Rise least more (xs ++ s ∷ [])
rise-append least end more [] s h begins order ends = (omega (arith, h, begins), order, omega (arith, ends))
rise-append least end more (x ∷ xs) s h begins order ends = (h.0, h.1, rise-append (x.high + 1) end more xs s h.2 begins order ends)

pub rise-more : (least end more : ℕ) (xs : List Segment) → Rise least end xs → end ≤ more → Rise least more xs
rise-more least end more [] h le = omega (arith, h, le)
rise-more least end more (x ∷ xs) h le = (h.0, h.1, rise-more (x.high + 1) end more xs h.2 le)

-- a level that keeps one more group
module _ (l : PlainGroups) (parents : List ℕ) (end : ℕ) (have : AllByRecursion HasNumber parents) (read : list_all (λ g. is_read l.bytes (entry_of g)) l.groups ≡ true) where
  abbrev new-group : PlainGroup
  new-group = record { place = length l.bytes; len = length (flat_map number_bytes parents); low = l.end; high = end - 1 }

  new-slice : slice_in (l.bytes ++ flat_map number_bytes parents) (entry_of new-group) ≡ flat_map number_bytes parents
  new-slice =
      let spelled = flat_map number_bytes parents in
      ap (take (length spelled)) (drop_at l.bytes spelled (length l.bytes) refl) ∙ ap (take (length spelled)) (sym (append-nil spelled)) ∙ take_at spelled [] (length spelled) refl

  new-parents : numbers_in (slice_in (l.bytes ++ flat_map number_bytes parents) (entry_of new-group)) ≡ parents
  new-parents = ap numbers_in new-slice ∙ in-numbers parents have

  pub kept-read : list_all (λ g. is_read (l.bytes ++ flat_map number_bytes parents) (entry_of g)) (l.groups ++ new-group ∷ []) ≡ true
  kept-read =
      let spelled = flat_map number_bytes parents in
      all-append (λ g. is_read (l.bytes ++ spelled) (entry_of g)) l.groups (new-group ∷ []) (stay-made l.level l.bytes spelled l.groups read).read
      (both_true (is_read (l.bytes ++ spelled) (entry_of new-group)) true
      (read-decided (l.bytes ++ spelled) (entry_of new-group)
      (record { within = (let len = length-append l.bytes spelled in omega (arith, len)); spelled = new-slice ∙ ap (flat_map number_bytes) (sym new-parents) })) refl)

  pub kept-groups : groups_in (with_kept l parents end) ≡ groups_in l ++ record { low = l.end; high = end - 1; level = l.level; parents = parents } ∷ []
  kept-groups =
      let spelled = flat_map number_bytes parents in
      let made = λ (z : List ℕ). (let q : Segment = record { low = l.end; high = end - 1; level = l.level; parents = z } in q) in
      map-append (made_in l.level (l.bytes ++ spelled)) l.groups (new-group ∷ [])
      ∙ ap (λ z. z ++ made_in l.level (l.bytes ++ spelled) new-group ∷ []) (stay-made l.level l.bytes spelled l.groups read).made
      ∙ ap (λ z. groups_in l ++ made z ∷ []) new-parents

take-zero : {X : Type 0} (xs : List X) → take 0 xs ≡ []
take-zero [] = refl
take-zero (x ∷ xs) = refl

or-none : (a b : Bool) → (a || b) ≡ false → (a ≡ false) × (b ≡ false)
or-none true b e = absurd cc
or-none false b e = (refl, e)

-- ---- the next segment of a level

module _ (front belows : List Segment) (below : PlainLevel) (sound : IsSound below) (from at size : ℕ) (old now new : PlainLevel) (h : AddsSoFar below from at old now) (room : at + 16 ≤ length below.entries)
    (parents : List ℕ) (g : AddsGroup below at now new size parents) (l : PlainGroups) (k : KeepsRun front belows now l) (are : AreBelow old.level (segments_in below) belows) where
  abbrev m : Segment
  m = merged old.level g.first (take (first-group g.first g.others).others g.others)

  segments-are : front ++ segments_in new ≡ (front ++ segments_in now) ++ m ∷ []
  segments-are =
      ap (λ z. front ++ z) (Rattle.high_segments.proofs.Groups.new-segments below sound from at size old now new h room parents g)
      ∙ sym (append_assoc front (segments_in now) (m ∷ []))

  number : l.level ≡ old.level
  number = k.level ∙ h.level

  low-is : l.end ≡ m.low
  low-is = k.end ∙ Rattle.high_segments.proofs.Groups.low-is below sound from at size old now new h room parents g

  parents-are : parents ≡ m.parents
  parents-are =
      g.parents_are
      ∙ ap (λ n. (merged old.level g.first (take n g.others)).parents) (Rattle.high_segments.proofs.Groups.size-less below sound from at size old now new h room parents g)

  end-is : new.end ≡ m.high + 1
  end-is =
      ap (λ (p : PlainLevel). p.end) g.new_is
      ∙ ap (λ n. last_id g.first.high (take n g.others) + 1) (Rattle.high_segments.proofs.Groups.size-less below sound from at size old now new h room parents g)

  order : m.low ≤ m.high
  order =
      let f = Rattle.high_segments.proofs.Groups.follow-here below sound from at size old now new h room parents g in
      let n = (first-group g.first g.others).others in
      let few = (first-group g.first g.others).few in
      let many = Rattle.high_segments.proofs.Groups.many below sound from at size old now new h room parents g in
      let up = follow-ends (g.first.high + 1) (begin_of below.end (drop n g.others)) (take n g.others) (follow-take (g.first.high + 1) below.end n g.others (omega (arith, few, many)) f.2) in
      let next = ap (begin_of below.end) (Rattle.high_segments.proofs.Groups.next-drop below sound from at size old now new h room parents g) in
      let high = Rattle.high_segments.proofs.Groups.high-is below sound from at size old now new h room parents g in
      let first = f.1 in omega (arith, up, next, high, first)

  have : AllByRecursion HasNumber parents
  have =
      subst (AllByRecursion HasNumber) (sym g.parents_are)
      (Rattle.high_segments.proofs.Groups.have below sound from at size old now new h room parents g)

  new-level : now.level ≡ new.level
  new-level = ap (λ (p : PlainLevel). p.level) (sym g.new_is)

  new-grouped : l.grouped + size ≡ new.grouped
  new-grouped = ap (λ n. n + size) k.grouped ∙ ap (λ (p : PlainLevel). p.grouped) (sym g.new_is)

  -- a single one is the segment below
  alone : size ≡ 1 → 2 ≤ old.level → IsAlone belows (l.level - 1) m
  alone one high =
      let less = Rattle.high_segments.proofs.Groups.size-less below sound from at size old now new h room parents g in
      let none : (first-group g.first g.others).others ≡ 0 = omega (arith, one, less) in
      let i : IsIn g.first (segments_in below) = in-drop at (segments_in below) g.first (in-first (drop at (segments_in below)) g.first g.others g.are) in
      let b = are.each high g.first i in
      let n = number in
      let suc-is : old.level ≡ suc (l.level - 1) = omega (arith, n, high) in
      record {
        below = g.first;
        is_below = b.0;
        same = ap (λ n. merged old.level g.first (take n g.others)) none ∙ ap (merged old.level g.first) (take-zero g.others) ∙ b.1
            ∙ ap (λ n. (let q : Segment = record g.first { level = n } in q)) suc-is;
        high = omega (arith, n, high);
      }

  made-is : record { low = l.end; high = new.end - 1; level = l.level; parents = parents } ≡ m
  made-is =
      let made = λ (low high level : ℕ) (ps : List ℕ). (let q : Segment = record { low = low; high = high; level = level; parents = ps } in q) in
      let e = end-is in
      let high : new.end - 1 ≡ m.high = omega (arith, e) in
      ap (λ n. made n (new.end - 1) l.level parents) low-is ∙ ap (λ n. made m.low n l.level parents) high
      ∙ ap (λ n. made m.low m.high n parents) number ∙ ap (made m.low m.high old.level) parents-are

  goes : (b : Bool) → (nat_lt 1 size || nat_eq l.level 1) ≡ b → KeepsRun front belows new (reached (cond b (with_kept l parents new.end) l) new.end size)
  goes true e =
      let groups-are = kept-groups l parents new.end have k.read ∙ ap (λ z. groups_in l ++ z ∷ []) made-is in
      let low = low-is in let ends = end-is in
      record {
        level = k.level ∙ new-level;
        some = k.some;
        end = refl;
        grouped = new-grouped;
        read = kept-read l parents new.end have k.read;
        rise = subst (Rise 0 new.end) (sym groups-are) (rise-append 0 l.end new.end (groups_in l) m k.rise (omega (arith, low)) order (omega (arith, ends)));
        kept = λ s i. subst (λ z. IsIn s z) (sym segments-are)
            (⊎_elim (λ j. in-left s (front ++ segments_in now) (m ∷ []) (k.kept s j)) (λ j. in-right s (front ++ segments_in now) (m ∷ []) j)
            (in-either s (groups_in l) (m ∷ []) (subst (λ z. IsIn s z) groups-are i)));
        each = λ s i. ⊎_elim
            (λ j. ⊎_elim (λ q. inl (subst (λ z. IsIn s z) (sym groups-are) (in-left s (groups_in l) (m ∷ []) q))) (λ a. inr a) (k.each s j))
            (λ j. inl (subst (λ z. IsIn s z) (sym groups-are) (in-right s (groups_in l) (m ∷ []) j)))
            (in-either s (front ++ segments_in now) (m ∷ []) (subst (λ z. IsIn s z) segments-are i));
      }
  goes false e =
      let no = or-none (nat_lt 1 size) (nat_eq l.level 1) e in
      let low = low-is in let ends = end-is in let o = order in
      let few = ltb-false 1 size no.0 in
      let suc-is = Rattle.high_segments.proofs.Groups.size-suc below sound from at size old now new h room parents g in
      let some = k.some in let n = number in
      let high : 2 ≤ old.level = not-one l.level old.level n some no.1 in
      record {
        level = k.level ∙ new-level;
        some = k.some;
        end = refl;
        grouped = new-grouped;
        read = k.read;
        rise = rise-more 0 l.end new.end (groups_in l) k.rise (omega (arith, low, ends, o));
        kept = λ s i. subst (λ z. IsIn s z) (sym segments-are) (in-left s (front ++ segments_in now) (m ∷ []) (k.kept s i));
        each = λ s i. ⊎_elim (λ j. k.each s j)
            (λ j. ⊎_elim (λ q. inr (subst (IsAlone belows (l.level - 1)) (sym q) (alone (omega (arith, few, suc-is)) high))) (λ none. absurd none) j)
            (in-either s (front ++ segments_in now) (m ∷ []) (subst (λ z. IsIn s z) segments-are i));
      }
    where
      not-one : (a b : ℕ) → a ≡ b → 1 ≤ a → nat_eq a 1 ≡ false → 2 ≤ b
      not-one zero b e some h = absurd (omega (arith, some))
      not-one (suc zero) b e some h = absurd cc
      not-one (suc (suc a)) b e some h = omega (arith, e)

  pub keeps-next : KeepsRun front belows new (with_next l parents new.end size)
  keeps-next = goes (nat_lt 1 size || nat_eq l.level 1) refl

-- ---- what was kept stands in front

pub front-self : (l : PlainGroups) → HasFront l l
front-self l = record { level = refl; groups = []; bytes = []; groups_are = sym (append-nil l.groups); bytes_are = sym (append-nil l.bytes) }

pub front-then : (a b c : PlainGroups) → HasFront a b → HasFront b c → HasFront a c
front-then a b c f g = record {
  level = g.level ∙ f.level;
  groups = f.groups ++ g.groups;
  bytes = f.bytes ++ g.bytes;
  groups_are = g.groups_are ∙ ap (λ z. z ++ g.groups) f.groups_are ∙ append_assoc a.groups f.groups g.groups;
  bytes_are = g.bytes_are ∙ ap (λ z. z ++ g.bytes) f.bytes_are ∙ append_assoc a.bytes f.bytes g.bytes;
}

pub front-parts : (old : PlainGroups) (level end grouped count : ℕ) (gs hs : List PlainGroup) (bs cs more : List ℕ) → record { level = level; groups = gs; bytes = bs; end = end; grouped = grouped; count = count } ≡ old
    → hs ≡ gs → cs ≡ bs ++ more → HasFront old (record { level = level; groups = hs; bytes = cs; end = end; grouped = grouped; count = count })
front-parts old level end grouped count gs hs bs cs more is e f =
    let new : PlainGroups = record { level = level; groups = hs; bytes = cs; end = end; grouped = grouped; count = count } in
    subst (λ (p : PlainGroups). HasFront p new) is (record { level = refl; groups = []; bytes = more; groups_are = e ∙ sym (append-nil gs); bytes_are = f })

-- with the next segment
pub front-next : (l : PlainGroups) (parents : List ℕ) (end size : ℕ) → HasFront l (with_next l parents end size)
front-next l parents end size = go (nat_lt 1 size || nat_eq l.level 1)
  where
    go : (b : Bool) → HasFront l (reached (cond b (with_kept l parents end) l) end size)
    go true = record {
      level = refl;
      groups = record { place = length l.bytes; len = length (flat_map number_bytes parents); low = l.end; high = end - 1 } ∷ [];
      bytes = flat_map number_bytes parents;
      groups_are = refl;
      bytes_are = refl;
    }
    go false = record { level = refl; groups = []; bytes = []; groups_are = sym (append-nil l.groups); bytes_are = sym (append-nil l.bytes) }

-- ---- all of them

pub record GrowsSoFar (below : PlainLevel) (at : ℕ) (old now : PlainLevel) (kept held : PlainGroups) : Type 0 where
  pub adds : AddsSoFar below 0 at old now
  pub keeps : (front belows : List Segment) → KeepsRun front belows old kept → AreBelow old.level (segments_in below) belows → KeepsRun front belows now held
  pub front : HasFront kept held
  pub grouped : held.grouped ≡ now.grouped
  pub count : held.count ≡ kept.count

pub grows-none : (below : PlainLevel) (old : PlainLevel) (kept : PlainGroups) → old.end ≡ begin_of below.end (segments_in below) → kept.grouped ≡ old.grouped → list_all (is_read old.bytes) old.entries ≡ true → GrowsSoFar below 0 old old kept kept
grows-none below old kept begin grouped read = record {
  adds = adds-none below 0 old (omega arith) begin read;
  keeps = λ front belows k are. k;
  front = front-self kept;
  grouped = grouped;
  count = refl;
}

next-count-case : (l : PlainGroups) (parents : List ℕ) (end size : ℕ) (b : Bool) → (reached (cond b (with_kept l parents end) l) end size).count ≡ l.count
next-count-case l parents end size true = refl
next-count-case l parents end size false = refl

next-grouped-case : (l : PlainGroups) (parents : List ℕ) (end size : ℕ) (b : Bool) → (reached (cond b (with_kept l parents end) l) end size).grouped ≡ l.grouped + size
next-grouped-case l parents end size true = refl
next-grouped-case l parents end size false = refl

pub grows-more : (below : PlainLevel) (sound : IsSound below) (at size : ℕ) (old now new : PlainLevel) (kept held next : PlainGroups) (parents : List ℕ) → GrowsSoFar below at old now kept held → at + 16 ≤ length below.entries
    → AddsGroup below at now new size parents → next ≡ with_next held parents new.end size → GrowsSoFar below (at + size) old new kept next
grows-more below sound at size old now new kept held next parents s room g is = record {
  adds = Rattle.high_segments.proofs.Groups.adds-more below sound 0 at size old now new s.adds room parents g;
  keeps = λ front belows k are. subst (KeepsRun front belows new) (sym is) (keeps-next front belows below sound 0 at size old now new s.adds room parents g held (s.keeps front belows k are) are);
  front = front-then kept held next s.front (subst (HasFront held) (sym is) (front-next held parents new.end size));
  grouped = ap (λ (l : PlainGroups). l.grouped) is ∙ next-grouped-case held parents new.end size (nat_lt 1 size || nat_eq held.level 1) ∙ ap (λ n. n + size) s.grouped ∙ ap (λ (p : PlainLevel). p.grouped) (sym g.new_is);
  count = ap (λ (l : PlainGroups). l.count) is ∙ next-count-case held parents new.end size (nat_lt 1 size || nat_eq held.level 1) ∙ s.count;
}
