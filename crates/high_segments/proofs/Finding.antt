-- The kept group that has an id.
use Rattle.std.proofs.Common.{◌≡◌, ℕ, zero, suc, ◌+◌, ◌-◌, ◌<◌, ◌≤◌, inl, inr, true, false, List, [], ◌∷◌, length, map, get_or, Some, None, refl, sym, subst, ap, ◌∙◌, arith, le_of_suc-le-suc, suc-le-suc, zero-le, le_refl}
use Rattle.std.specs.Prelude.{nat_le}
use Rattle.std.specs.List.{list_all, AllWithin}
use Rattle.std.specs.List.Sorted.{IsPartitionedBy}
use Rattle.std.proofs.lemmas.Bool.{leb-true, leb-false, le-leb, lt-leb}
use Rattle.std.proofs.lemmas.List.{get_or_default}
use Rattle.id_groups.specs.Lists.{IsIn}
use Rattle.id_groups.proofs.Listing.{and_true}
use Rattle.segment_codec.specs.Record.{Segment}
use Rattle.segment_codec.specs.Table.{segment_at}
use Rattle.segment_codec.proofs.Tables.{found-head, found-behind}
use Rattle.flat_segments.specs.Runs.{is_read}
use Rattle.segment_levels.specs.Kept.{PlainGroup, PlainGroups, groups_in, made_in, entry_of, Rise}
use Rattle.segment_levels.specs.Sound.{IsReadable}

pub rise-end : (least end : ℕ) (xs : List Segment) → Rise least end xs → least ≤ end
rise-end least end [] h = h
rise-end least end (s ∷ more) h = let a = h.0 in let b = h.1 in let r = rise-end (s.high + 1) end more h.2 in omega (arith, a, b, r)

rise-none : (least end id : ℕ) (xs : List Segment) → Rise least end xs → id < least → segment_at xs id ≡ None
rise-none least end id [] h lt = refl
rise-none least end id (s ∷ more) h lt =
    let a = h.0 in let b = h.1 in
    found-behind s more id (λ i. let c = i.0 in absurd (omega (arith, a, c, lt))) ∙ rise-none (s.high + 1) end id more h.2 (omega (arith, a, b, lt))

module _ (level : ℕ) (bytes : List ℕ) (end : ℕ) where
  abbrev made : List PlainGroup → List Segment
  made gs = map (made_in level bytes) gs

  lows-least : (least : ℕ) (gs : List PlainGroup) (j : ℕ) (d : PlainGroup) → Rise least end (made gs) → j < length gs → least ≤ (get_or gs j d).low
  lows-least least [] j d h lt = absurd (omega (arith, lt))
  lows-least least (g ∷ gs) zero d h lt = h.0
  lows-least least (g ∷ gs) (suc j) d h lt =
      let a = h.0 in let b = h.1 in let r = lows-least (g.high + 1) gs j d h.2 (le_of_suc-le-suc lt) in omega (arith, a, b, r)

  lows-rise : (least : ℕ) (gs : List PlainGroup) (i j : ℕ) (d : PlainGroup) → Rise least end (made gs) → i ≤ j → j < length gs → (get_or gs i d).low ≤ (get_or gs j d).low
  lows-rise least [] i j d h le lt = absurd (omega (arith, lt))
  lows-rise least (g ∷ gs) zero zero d h le lt = le_refl _
  lows-rise least (g ∷ gs) zero (suc j) d h le lt =
      let b = h.1 in let r = lows-least (g.high + 1) gs j d h.2 (le_of_suc-le-suc lt) in omega (arith, b, r)
  lows-rise least (g ∷ gs) (suc i) zero d h le lt = absurd (omega (arith, le))
  lows-rise least (g ∷ gs) (suc i) (suc j) d h le lt = lows-rise (g.high + 1) gs i j d h.2 (le_of_suc-le-suc le) (le_of_suc-le-suc lt)

  -- what begins before a group that doesn't begin above the id doesn't either
  pub front-to : (least id : ℕ) (gs : List PlainGroup) (at : ℕ) (d : PlainGroup) → Rise least end (made gs) → at < length gs → (get_or gs at d).low ≤ id
      → AllWithin (λ (g : PlainGroup). nat_le g.low id ≡ true) gs 0 (at + 1)
  front-to least id gs at d h lt le k e from to =
      let rise = lows-rise least gs k at e h (omega (arith, to)) lt in
      let same = ap (λ (x : PlainGroup). x.low) (get_or_default gs at d e lt) in le-leb _ _ (omega (arith, rise, same, le))

  -- what stands behind a group that begins above the id begins above it
  pub back-from : (least id : ℕ) (gs : List PlainGroup) (at : ℕ) (d : PlainGroup) → Rise least end (made gs) → at < length gs → id < (get_or gs at d).low
      → AllWithin (λ (g : PlainGroup). nat_le g.low id ≡ false) gs at (length gs)
  back-from least id gs at d h lt above k e from to =
      let rise = lows-rise least gs at k e h from to in
      let same = ap (λ (x : PlainGroup). x.low) (get_or_default gs at d e lt) in lt-leb _ _ (omega (arith, rise, same, above))

  pub lows-parted : (least id : ℕ) (gs : List PlainGroup) → Rise least end (made gs) → IsPartitionedBy (λ (g : PlainGroup). nat_le g.low id) gs
  lows-parted least id gs h i j d le lt t = let low = leb-true _ _ t in let rise = lows-rise least gs i j d h le lt in le-leb _ _ (omega (arith, low, rise))

  -- where all begin above the id, none has it
  pub find-none : (least id : ℕ) (gs : List PlainGroup) → Rise least end (made gs) → AllWithin (λ (g : PlainGroup). nat_le g.low id ≡ false) gs 0 (length gs) → segment_at (made gs) id ≡ None
  find-none least id [] h back = refl
  find-none least id (g ∷ gs) h back =
      let out = leb-false g.low id (back 0 g zero-le (omega arith)) in rise-none g.low end id (made (g ∷ gs)) (le_refl _, h.1, h.2) out

  -- the last one that doesn't begin above the id
  pub record GroupAt (gs : List PlainGroup) (id : ℕ) (g : PlainGroup) : Type 0 where
    pub is_in : IsIn (made_in level bytes g) (made gs)
    pub read : is_read bytes (entry_of g) ≡ true
    pub order : g.low ≤ g.high
    pub within : g.high < end
    pub here : id ≤ g.high → segment_at (made gs) id ≡ Some (made_in level bytes g)
    pub past : g.high < id → segment_at (made gs) id ≡ None

  pub group-at : (least id : ℕ) (gs : List PlainGroup) (j : ℕ) (d : PlainGroup) → list_all (λ g. is_read bytes (entry_of g)) gs ≡ true → Rise least end (made gs) → j < length gs
      → AllWithin (λ (g : PlainGroup). nat_le g.low id ≡ true) gs 0 (suc j) → AllWithin (λ (g : PlainGroup). nat_le g.low id ≡ false) gs (suc j) (length gs)
      → GroupAt gs id (get_or gs j d)
  group-at least id [] j d read h lt front back = absurd (omega (arith, lt))
  group-at least id (g ∷ gs) zero d read h lt front back =
      let b = and_true (is_read bytes (entry_of g)) (list_all (λ g. is_read bytes (entry_of g)) gs) read in
      let low = leb-true g.low id (front 0 g zero-le (omega arith)) in
      let up = rise-end (g.high + 1) end (made gs) h.2 in
      record {
        is_in = inl refl;
        read = b.0;
        order = h.1;
        within = omega (arith, up);
        here = λ le. found-head (made_in level bytes g) (made gs) id (low, le);
        past = λ over. found-behind (made_in level bytes g) (made gs) id (λ i. let c = i.1 in absurd (omega (arith, c, over))) ∙ none gs h.2 back;
      }
    where
      none : (fs : List PlainGroup) → Rise (g.high + 1) end (made fs) → AllWithin (λ (g : PlainGroup). nat_le g.low id ≡ false) (g ∷ fs) 1 (suc (length fs)) → segment_at (made fs) id ≡ None
      none [] r back = refl
      none (f ∷ fs) r back = let out = leb-false f.low id (back 1 f (omega arith) (omega arith)) in rise-none f.low end id (made (f ∷ fs)) (le_refl _, r.1, r.2) out
  group-at least id (g ∷ gs) (suc j) d read h lt front back =
      let b = and_true (is_read bytes (entry_of g)) (list_all (λ g. is_read bytes (entry_of g)) gs) read in
      let r = group-at (g.high + 1) id gs j d b.1 h.2 (le_of_suc-le-suc lt) (λ k x a c. front (suc k) x zero-le (suc-le-suc c)) (λ k x a c. back (suc k) x (suc-le-suc a) (suc-le-suc c)) in
      let low = first-low gs (le_of_suc-le-suc lt) h.2 front in
      let skip = found-behind (made_in level bytes g) (made gs) id (λ i. let c = i.1 in absurd (omega (arith, c, low))) in
      record {
        is_in = inr r.is_in;
        read = r.read;
        order = r.order;
        within = r.within;
        here = λ le. skip ∙ r.here le;
        past = λ over. skip ∙ r.past over;
      }
    where
      first-low : (fs : List PlainGroup) → j < length fs → Rise (g.high + 1) end (made fs) → AllWithin (λ (g : PlainGroup). nat_le g.low id ≡ true) (g ∷ fs) 0 (suc (suc j)) → g.high < id
      first-low [] lt r front = absurd (omega (arith, lt))
      first-low (f ∷ fs) lt r front = let a = leb-true f.low id (front 1 f zero-le (omega arith)) in let c = r.0 in omega (arith, a, c)

-- in a level that can be read
module _ (l : PlainGroups) (s : IsReadable l) (id count : ℕ) (gs : List PlainGroup) (are : gs ≡ l.groups) (front : AllWithin (λ (g : PlainGroup). nat_le g.low id ≡ true) gs 0 count)
    (back : AllWithin (λ (g : PlainGroup). nat_le g.low id ≡ false) gs count (length gs)) where
  pub found-none : count ≡ 0 → segment_at (groups_in l) id ≡ None
  found-none e =
      find-none l.level l.bytes l.end 0 id l.groups s.rise
      (subst (λ (z : List PlainGroup). AllWithin (λ (g : PlainGroup). nat_le g.low id ≡ false) z 0 (length z)) are (subst (λ n. AllWithin (λ (g : PlainGroup). nat_le g.low id ≡ false) gs n (length gs)) e back))

  pub found-at : count ≤ length gs → (count ≡ 0 → ⊥) → (g : PlainGroup) → g ≡ get_or l.groups (count - 1) g → GroupAt l.level l.bytes l.end l.groups id g
  found-at within some g is =
      let one : suc (count - 1) ≡ count = not-zero count some in
      let len = ap length are in
      subst (GroupAt l.level l.bytes l.end l.groups id) (sym is)
      (group-at l.level l.bytes l.end 0 id l.groups (count - 1) g s.read s.rise (omega (arith, one, within, len))
      (subst (λ (z : List PlainGroup). AllWithin (λ (g : PlainGroup). nat_le g.low id ≡ true) z 0 (suc (count - 1))) are (subst (λ n. AllWithin (λ (g : PlainGroup). nat_le g.low id ≡ true) gs 0 n) (sym one) front))
      (subst (λ (z : List PlainGroup). AllWithin (λ (g : PlainGroup). nat_le g.low id ≡ false) z (suc (count - 1)) (length z)) are
      (subst (λ n. AllWithin (λ (g : PlainGroup). nat_le g.low id ≡ false) gs n (length gs)) (sym one) back)))
    where
      not-zero : (n : ℕ) → (n ≡ 0 → ⊥) → suc (n - 1) ≡ n
      not-zero zero h = absurd (h refl)
      not-zero (suc n) h = omega arith
