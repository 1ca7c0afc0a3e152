-- Children that edges lead to.
use Rattle.std.proofs.Common.{◌≡◌, ◌∙◌, ℕ, zero, suc, ◌+◌, ◌-◌, ◌/◌, ◌%◌, ◌<◌, ◌≤◌, ◌^◌, ◌⊎◌, inl, inr, ◌↔◌, true, false, List, [], ◌∷◌, Some, length, get_or, max, sym, subst, ap, arith, ⊎_elim, le_of_suc-le-suc, zero-le}
use Rattle.std.specs.Prelude.{slice_get, nat_lt}
use Rattle.std.specs.List.{AllWithin}
use Rattle.std.specs.List.Sorted.{IsNonDecreasing, IsPartitionedBy}
use Rattle.std.proofs.lemmas.Bool.{ltb-true, ltb-false, lt-ltb}
use Rattle.id_groups.specs.Lists.{IsIn}
use Rattle.id_groups.specs.declared.span.IdSpan.{IdSpan}
use Rattle.commit_graph.specs.Sets as sets
use Rattle.segment_codec.specs.Edges.{edge_of, AreEdgesOf}
use Rattle.segment_codec.specs.Record.{Segment}
use Rattle.segment_codec.specs.Table.{Cover, IsLawful}
use Rattle.segment_codec.proofs.Numbers.{some_is}
use Rattle.segment_codec.proofs.Tables.{le_or_lt, AreRising, over-in, segment-in, lawful-rising, lawful-at, parent-below}
use Rattle.span_set.specs.Members.{IsMember, ids_of}
use Rattle.span_set.proofs.Counts.{ids-member, member-ids}
use Rattle.ancestor_query.specs.Graph.{table_graph}
use Rattle.range_query.specs.Edges.{IsNextIn, AreBegun, AreAdded}
use Rattle.range_query.specs.Parts.{HasParentIn}
use Rattle.range_query.proofs.Bounds.{cover-held}
use Rattle.range_query.proofs.ChildLemmas.{child-held, child-part, part-child}
use Rattle.range_query.proofs.Rows.{at-in}

-- ---- edges as numbers

div-up : (a b : ℕ) → a ≤ b → a / 2 ^ 32 ≤ b / 2 ^ 32
div-up a b le = omega (arith, le)

edge-parent : (p k : ℕ) → k < 2 ^ 32 → edge_of p k / 2 ^ 32 ≡ p
edge-parent p k lt = omega (arith, lt)

edge-place : (p k : ℕ) → k < 2 ^ 32 → edge_of p k % 2 ^ 32 ≡ k
edge-place p k lt = omega (arith, lt)

pub edges-parted : (n : ℕ) (xs : List ℕ) → IsNonDecreasing xs → IsPartitionedBy (λ (e : ℕ). nat_lt (e / 2 ^ 32) n) xs
edges-parted n xs h i j d le lt t = let more = ltb-true _ _ t in let up = div-up (get_or xs i d) (get_or xs j d) (h i j d le lt) in lt-ltb _ _ (omega (arith, more, up))

edge-at : (e : ℕ) (xs : List ℕ) → IsIn e xs → (j : ℕ) × (j < length xs) × (get_or xs j 0 ≡ e)
edge-at e [] i = absurd i
edge-at e (x ∷ xs) (inl same) = (0, omega arith, sym same)
edge-at e (x ∷ xs) (inr i) = let r = edge-at e xs i in let lt = r.1 in (suc r.0, omega (arith, lt), r.2)

-- ---- the segments that edges lead to

in-at : (flats : List Segment) (s : Segment) → IsIn s flats → (k : ℕ) × (slice_get flats k ≡ Some s)
in-at [] s i = absurd i
in-at (t ∷ rest) s (inl e) = (0, ap (λ (z : Segment). Some z) (sym e))
in-at (t ∷ rest) s (inr i) = let r = in-at rest s i in (suc r.0, r.1)

rise-low : (flats : List Segment) (p k : ℕ) (t s : Segment) → AreRising flats → p ≤ k → slice_get flats p ≡ Some t → slice_get flats k ≡ Some s → t.low ≤ s.low
rise-low [] p k t s h le e f = absurd cc
rise-low (x ∷ rest) zero zero t s h le e f = let same = ap (λ (z : Segment). z.low) (some_is t s (sym e ∙ f)) in omega (arith, same)
rise-low (x ∷ rest) zero (suc k) t s h le e f =
    let same = ap (λ (z : Segment). z.low) (some_is x t e) in let over = over-in x rest s h.1 (at-in rest k s f) in let order = h.0 in omega (arith, same, over, order)
rise-low (x ∷ rest) (suc p) zero t s h le e f = absurd (omega (arith, le))
rise-low (x ∷ rest) (suc p) (suc k) t s h le e f = rise-low rest p k t s h.2 (le_of_suc-le-suc le) e f

pub low-behind : (flats : List Segment) → IsLawful flats → (p k : ℕ) (t s : Segment) → p ≤ k → slice_get flats p ≡ Some t → slice_get flats k ≡ Some s → t.low ≤ s.low
low-behind flats lawful p k t s le e f = rise-low flats p k t s (lawful-rising flats lawful) le e f

-- ---- going over the edges of a parent

-- What begins on the id is in the answer, or its edge stands at a place or behind it.
pub record Leads (flats : List Segment) (count id : ℕ) (edges : List ℕ) (at : ℕ) (answer : List IdSpan) : Type 0 where
  pub above : AllWithin (λ e. id ≤ e / 2 ^ 32) edges at (length edges)
  pub left : (k : ℕ) (s : Segment) → k < count → slice_get flats k ≡ Some s → IsIn id s.parents
      → IsMember answer s.low ⊎ ((j : ℕ) × (at ≤ j) × (j < length edges) × (get_or edges j 0 ≡ edge_of id k))

pub leads-first : (flats : List Segment) (count id : ℕ) (edges : List ℕ) (at : ℕ) (answer : List IdSpan) → count ≤ 2 ^ 32 → AreEdgesOf edges count flats
    → AllWithin (λ e. nat_lt (e / 2 ^ 32) id ≡ true) edges 0 at → AllWithin (λ e. nat_lt (e / 2 ^ 32) id ≡ false) edges at (length edges) → Leads flats count id edges at answer
leads-first flats count id edges at answer few a front back =
    record {
      above = λ k d ge lt. ltb-false _ _ (back k d ge lt);
      left = λ k s lt e i.
          let r = edge-at (edge_of id k) edges (a.whole k s id lt e i) in
          let is = edge-parent id k (omega (arith, lt, few)) in
          ⊎_elim
          (λ (ge : at ≤ r.0). inr (r.0, ge, r.1, r.2))
          (λ (before : r.0 < at).
          let under = ltb-true _ _ (subst (λ n. nat_lt (n / 2 ^ 32) id ≡ true) r.2 (front r.0 0 zero-le before)) in absurd (omega (arith, under, is)))
          (le_or_lt at r.0);
    }

pub leads-next : (flats : List Segment) (set : List IdSpan) (count id : ℕ) (edges : List ℕ) (at next r : ℕ) (old new : List IdSpan) → count ≤ 2 ^ 32 → IsMember set id → next ≡ suc at
    → get_or edges at 0 ≡ r → ((x : ℕ) → IsMember old x → IsMember new x)
    → ((s : Segment) → slice_get flats (r % 2 ^ 32) ≡ Some s → HasParentIn set s → IsMember new s.low) → Leads flats count id edges at old → Leads flats count id edges next new
leads-next flats set count id edges at next r old new few member step is kept added l =
    record {
      above = λ k d ge lt. l.above k d (omega (arith, ge, step)) lt;
      left = λ k s lt e i.
          ⊎_elim
          (λ m. inl (kept s.low m))
          (λ (b : (j : ℕ) × (at ≤ j) × (j < length edges) × (get_or edges j 0 ≡ edge_of id k)). let ge = b.1 in
          ⊎_elim
          (λ (past : next ≤ b.0). inr (b.0, past, b.2, b.3))
          (λ (here : b.0 < next).
          let same : b.0 ≡ at = omega (arith, here, ge, step) in
          let edge : r ≡ edge_of id k = sym is ∙ subst (λ n. get_or edges n 0 ≡ edge_of id k) same b.3 in
          let place : r % 2 ^ 32 ≡ k = ap (λ n. n % 2 ^ 32) edge ∙ edge-place id k (omega (arith, lt, few)) in
          inl (added s (ap (slice_get flats) place ∙ e) (id, i, member)))
          (le_or_lt next b.0))
          (l.left k s lt e i);
    }

pub leads-done : (flats : List Segment) (count id : ℕ) (edges : List ℕ) (at : ℕ) (answer : List IdSpan) → count ≤ 2 ^ 32 → AllWithin (λ e. id < e / 2 ^ 32) edges at (length edges)
    → Leads flats count id edges at answer → AreBegun flats count id answer
leads-done flats count id edges at answer few none l k s lt e i =
    ⊎_elim
    (λ m. m)
    (λ (b : (j : ℕ) × (at ≤ j) × (j < length edges) × (get_or edges j 0 ≡ edge_of id k)).
    let is = edge-parent id k (omega (arith, lt, few)) in
    let over = subst (λ n. id < n / 2 ^ 32) b.3 (none b.0 0 b.1 b.2) in absurd (omega (arith, over, is)))
    (l.left k s lt e i)

-- ---- children

module _ (flats : List Segment) (lawful : IsLawful flats) (set : List IdSpan) where
  abbrev Child : ℕ → Type 0
  Child x = sets.children (table_graph flats) (IsMember set) x

  pub edge-sound : (k x : ℕ) (s : Segment) → slice_get flats k ≡ Some s → {N O : Type 0} → N ↔ (O ⊎ ((x ≡ s.low) × HasParentIn set s)) → N → O ⊎ Child x
  edge-sound k x s at e m = ⊎_elim (λ o. inl o) (λ h. inr (part-child flats lawful set s (at-in flats k s at) x (inl h))) (e.0 m)

  pub next-child : (id x : ℕ) → IsMember set id → IsNextIn flats id x → Child x
  next-child id x member n =
      let f = segment-in flats id n.0 n.1 in let low = f.1.0 in let high = n.2 in let is = n.3 in
      part-child flats lawful set n.0 f.0 x (inr (omega (arith, low, is), omega (arith, high, is), (let back : id ≡ x - 1 = omega (arith, is) in subst (IsMember set) back member)))

  -- all children below an id that no segment without edges begins below
  pub all-begun : (count end : ℕ) (answer : List IdSpan) → ((k : ℕ) (s : Segment) → count ≤ k → slice_get flats k ≡ Some s → end ≤ s.low)
      → ((y : ℕ) → IsMember set y → AreAdded flats count y answer) → (x : ℕ) → x < end → Child x → IsMember answer x
  all-begun count end answer behind added x lt c =
      let held = child-held flats x c.0 c.2 in
      let s = held.0 in
      let f = segment-in flats x s held.1 in let high = f.1.1 in
      ⊎_elim
      (λ (l : (x ≡ s.low) × HasParentIn set s).
      let k = in-at flats s f.0 in let same = l.0 in
      ⊎_elim
      (λ (out : count ≤ k.0). let ge = behind k.0 s out k.1 in absurd (omega (arith, ge, same, lt)))
      (λ (few : k.0 < count). subst (IsMember answer) (sym same) ((added l.1.0 l.1.2).begun k.0 s few k.1 l.1.1))
      (le_or_lt count k.0))
      (λ m. let low = m.0 in
      let is : x ≡ (x - 1) + 1 = omega (arith, low) in
      (added (x - 1) m.2).next x (s, lawful-at flats lawful (x - 1) s f.0 (omega (arith, low), omega (arith, high)), omega (arith, low, high), is))
      (child-part flats lawful set s f.0 x f.1 c)

  -- a child is one of the ids of either group
  pub from-whole : (first all : List IdSpan) (low master others from : ℕ) → Cover flats master others → from ≡ max low (2 ^ 56)
      → ((x : ℕ) → from ≤ x → x < 2 ^ 56 + others → Child x → IsMember first x) → ((x : ℕ) → low ≤ x → x < master → Child x → IsMember all x)
      → ((x : ℕ) → IsMember first x → IsMember all x) → (x : ℕ) → low ≤ x → Child x → IsMember all x
  from-whole first all low master others from cover start whole_a whole_b kept x ge c =
      ⊎_elim (λ a. let lt = a.1 in whole_b x ge (omega (arith, lt)) c) (λ a. let over = a.0 in kept x (whole_a x (omega (arith, over, ge, start)) a.1 c))
      ((cover-held flats master others cover x).0 (child-held flats x c.0 c.2))

  -- those below an id by edges, the others on a way down
  pub all-whole : (none first all : List IdSpan) (lowest end low : ℕ) → none ≡ [] → ((x : ℕ) → IsMember set x → lowest ≤ x) → low ≡ max end (lowest + 1)
      → ((x : ℕ) → IsMember first x → IsMember none x ⊎ Child x) → ((x : ℕ) → x < end → Child x → IsMember first x)
      → ((x : ℕ) → IsMember all x → IsMember first x ⊎ Child x) → ((x : ℕ) → low ≤ x → Child x → IsMember all x)
      → ((x : ℕ) → IsMember first x → IsMember all x) → (x : ℕ) → IsMember all x ↔ Child x
  all-whole none first all lowest end low empty least start sound_a whole_a sound_b whole_b kept x = (
    λ m. ⊎_elim (λ n. ⊎_elim (λ o. absurd (subst (λ l. IsMember l x) empty o)) (λ c. c) (sound_a x n)) (λ c. c) (sound_b x m),
    λ c. let above = least c.0 c.1 in let under = (parent-below flats lawful x c.0 c.2).0 in
        ⊎_elim (λ (ge : end ≤ x). whole_b x (omega (arith, ge, above, under, start)) c) (λ (lt : x < end). kept x (whole_a x lt c)) (le_or_lt end x),
  )

-- ---- going over the members

-- the ids that are left are members, and of each other the children are added
pub record EachAdded (flats : List Segment) (set : List IdSpan) (count : ℕ) (left : List ℕ) (answer : List IdSpan) : Type 0 where
  pub within : (y : ℕ) → IsIn y left → IsMember set y
  pub added : (y : ℕ) → IsMember set y → IsIn y left ⊎ AreAdded flats count y answer

pub added-more : (flats : List Segment) (count y : ℕ) (old new : List IdSpan) → ((x : ℕ) → IsMember old x → IsMember new x) → AreAdded flats count y old → AreAdded flats count y new
added-more flats count y old new kept a = record { next = λ x n. kept x (a.next x n); begun = λ k s lt e i. kept s.low (a.begun k s lt e i) }

pub each-first : (flats : List Segment) (set : List IdSpan) (count : ℕ) (left : List ℕ) (answer : List IdSpan) → left ≡ ids_of set → EachAdded flats set count left answer
each-first flats set count left answer same = record {
  within = λ y i. ids-member set y (subst (IsIn y) same i);
  added = λ y m. inl (subst (IsIn y) (sym same) (member-ids set y m));
}

pub each-next : (flats : List Segment) (set : List IdSpan) (count id : ℕ) (left rest : List ℕ) (old new : List IdSpan) → left ≡ id ∷ rest → ((x : ℕ) → IsMember old x → IsMember new x)
    → AreAdded flats count id new → EachAdded flats set count left old → EachAdded flats set count rest new
each-next flats set count id left rest old new is kept a h = record {
  within = λ y i. h.within y (subst (IsIn y) (sym is) (inr i));
  added = λ y m.
      ⊎_elim
      (λ i. ⊎_elim (λ (e : y ≡ id). inr (subst (λ z. AreAdded flats count z new) (sym e) a)) (λ j. inl j) (subst (IsIn y) is i))
      (λ b. inr (added-more flats count y old new kept b)) (h.added y m);
}

pub each-done : (flats : List Segment) (set : List IdSpan) (count : ℕ) (left : List ℕ) (answer : List IdSpan) → left ≡ [] → EachAdded flats set count left answer
    → (y : ℕ) → IsMember set y → AreAdded flats count y answer
each-done flats set count left answer empty h y m = ⊎_elim (λ i. absurd (subst (IsIn y) empty i)) (λ a. a) (h.added y m)
