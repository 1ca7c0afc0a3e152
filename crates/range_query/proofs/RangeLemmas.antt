-- Which ids of a descent descend from a set, segment by segment.
use Rattle.std.proofs.Common.{◌≡◌, ℕ, zero, suc, ◌-◌, ◌<◌, ◌≤◌, ◌⊎◌, inl, inr, ◌↔◌, List, [], ◌∷◌, Some, length, get_or, take, drop, sym, subst, ap, ◌∙◌, arith, ⊎_elim, le_refl, le_of_suc-le-suc, refl}
use Rattle.std.specs.Prelude.{slice_get}
use Rattle.id_groups.specs.Lists.{IsIn}
use Rattle.id_groups.specs.declared.span.IdSpan.{IdSpan}
use Rattle.commit_graph.specs.Graph.{Reaches}
use Rattle.commit_graph.specs.Sets as sets
use Rattle.commit_graph.proofs.Walks.{reaches-self, reaches-parent, reaches-trans}
use Rattle.segment_codec.specs.Record.{Segment}
use Rattle.segment_codec.specs.Table.{IsInSegment, IsHeld, IsLawful}
use Rattle.segment_codec.proofs.Tables.{parents-low, parent-below, lawful-rising, AreRising}
use Rattle.span_set.specs.Members.{IsMember}
use Rattle.ancestor_query.specs.Graph.{table_graph}
use Rattle.ancestor_query.proofs.Graphs.{reach-down}
use Rattle.range_query.specs.Places.{IsOf, IsPlace}
use Rattle.range_query.specs.Parts.{StandBelow, StandFrom, IsMetIn, IsMissedIn, IsClosedFrom}
use Rattle.range_query.specs.Cuts.{IsCut, IsSettled}
use Rattle.range_query.specs.declared.cut.Cut.{Cut}
use Rattle.range_query.proofs.Rows.{at-in, held-of, of-parts, of-take, of-from, of-before, of-all, before-place}
use Rattle.range_query.proofs.DescendantLemmas.{desc-least, down}

-- what is reached from a set and lies no lower than an id is closed from there on
pub reached-closed : (flats : List Segment) (to below : List IdSpan) (lowest : ℕ)
    → ((x : ℕ) → IsMember below x ↔ (sets.ancestors (table_graph flats) (IsMember to) x × (lowest ≤ x))) → IsClosedFrom (table_graph flats) lowest below
reached-closed flats to below lowest down x y m r le =
    let h = ((down x).0 m).0 in (down y).1 ((h.0, h.1, reaches-trans (table_graph flats) h.0 x y h.2 r), le)

-- what is missed of the descent in the segments before a place
pub record Misses (flats : List Segment) (from below : List IdSpan) (k : ℕ) (missed : List IdSpan) : Type 0 where
  pub sound : (x : ℕ) → IsMember missed x → sets.descendants (table_graph flats) (IsMember from) x → ⊥
  pub gone : (x : ℕ) → IsMember missed x → IsOf (take k flats) x
  pub whole : (x : ℕ) → IsMember below x → IsOf (take k flats) x → sets.descendants (table_graph flats) (IsMember from) x ⊎ IsMember missed x

module _ (flats : List Segment) (lawful : IsLawful flats) (from : List IdSpan) (lowest : ℕ) (below : List IdSpan)
    (least : StandFrom lowest from) (over : StandFrom lowest below) (inside : (x : ℕ) → IsMember below x → IsHeld flats x)
    (closed : IsClosedFrom (table_graph flats) lowest below) where
  abbrev Desc : ℕ → Type 0
  Desc x = sets.descendants (table_graph flats) (IsMember from) x

  -- an id of the descent stands before a place or from it on
  placed : (k x : ℕ) → IsMember below x → IsOf (take k flats) x ⊎ IsOf (drop k flats) x
  placed k x b = of-parts flats k x (held-of flats x (inside x b))

  -- what reaches an id that descends does so too
  desc-up : (x y : ℕ) → Reaches (table_graph flats) x y → Desc y → Desc x
  desc-up x y r d = (d.0, d.1, reaches-trans (table_graph flats) x y d.0 r d.2)

  -- nothing is missed before the place of the lowest id
  pub misses-none : (place : ℕ) (missed : List IdSpan) → missed ≡ [] → IsPlace flats lowest place → Misses flats from below place missed
  misses-none place missed e p = record {
    sound = λ x m d. subst (λ l. IsMember l x) e m;
    gone = λ x m. absurd (subst (λ l. IsMember l x) e m);
    whole = λ x b o. let lt = before-place flats lowest place place x p (le_refl place) o in let le = over x b in absurd (omega arith);
  }

  module _ (k : ℕ) (s : Segment) (at : slice_get flats k ≡ Some s) (before : List IdSpan) (h : Misses flats from below k before) where
    i : IsIn s flats
    i = at-in flats k s at

    rising : AreRising flats
    rising = lawful-rising flats lawful

    pub misses-over : StandBelow s.low before
    misses-over x m = of-before flats k s x rising at (h.gone x m)

    -- an id of the descent that lies below the segment descends or is missed
    under : (x : ℕ) → IsMember below x → x < s.low → Desc x ⊎ IsMember before x
    under x b lt = h.whole x b (⊎_elim (λ a. a) (λ o. let le = of-from flats k s x rising at o in absurd (omega arith)) (placed k x b))

    -- an id of the segment that descends is met
    desc-met : (x : ℕ) → IsInSegment x s → Desc x → IsMetIn before from lowest s x
    desc-met x j d = ⊎_elim
        (λ r. (r.0, inr r.1, r.2, r.3))
        (λ r. (s.low, inl (refl, (r.0, r.1, desc-least flats lawful from lowest least r.0 r.2, λ m. h.sound r.0 m r.2)), le_refl s.low, j.0))
        (down flats lawful from s i d.2.0 x d.0 j d.1 d.2.1)

    -- an id of the descent in the segment that is met descends
    met-desc : (x : ℕ) → IsInSegment x s → IsMember below x → IsMetIn before from lowest s x → Desc x
    met-desc x j b t =
        let y = t.0 in let low = t.2 in let le = t.3 in let top = j.1 in
        let r = reach-down flats lawful s i (x - y) x y (omega arith) low top in
        ⊎_elim
        (λ e. let p = e.1.0 in
        let own = subst (IsIn p) (sym (ap (λ z. (table_graph flats).parents z) e.0 ∙ parents-low flats lawful s i)) e.1.1 in
        let way = reaches-trans (table_graph flats) x y p r (reaches-parent (table_graph flats) y p p own (reaches-self (table_graph flats) p)) in
        let same : y ≡ s.low = e.0 in
        let lt : p < s.low = let b = (parent-below flats lawful y p own).0 in omega arith in
        ⊎_elim (λ d. desc-up x p way d) (λ m. absurd (e.1.3 m)) (under p (closed x p b way e.1.2) lt))
        (λ m. (y, m, r)) t.1

    pub misses-more : (next : ℕ) (after : List IdSpan) → next ≡ suc k
        → ((x : ℕ) → IsMember before x → IsMember after x)
        → ((x : ℕ) → IsMember after x → IsMember before x ⊎ IsMissedIn before from lowest s x)
        → ((x : ℕ) → IsMember below x → IsInSegment x s → IsMember after x ⊎ IsMetIn before from lowest s x)
        → Misses flats from below next after
    misses-more next after n kept sound whole = record {
      sound = λ x m d. ⊎_elim (λ a. h.sound x a d) (λ a. a.1 (desc-met x a.0 d)) (sound x m);
      gone = λ x m. (parts x).1 (⊎_elim (λ a. inl (h.gone x a)) (λ a. inr a.0) (sound x m));
      whole = λ x b o. ⊎_elim
          (λ a. ⊎_elim (λ d. inl d) (λ m. inr (kept x m)) (h.whole x b a))
          (λ j. ⊎_elim (λ m. inr m) (λ t. inl (met-desc x j b t)) (whole x b j))
          ((parts x).0 o);
    }
      where
        parts : (x : ℕ) → IsOf (take next flats) x ↔ (IsOf (take k flats) x ⊎ IsInSegment x s)
        parts x = subst (λ j. IsOf (take j flats) x ↔ (IsOf (take k flats) x ⊎ IsInSegment x s)) (sym n) (of-take flats k s x at)

    -- where the segment begins above all of the descent nothing is left
    pub misses-stop : (greatest : ℕ) → ((x : ℕ) → IsMember below x → x ≤ greatest) → greatest < s.low → (x : ℕ) → IsMember below x → Desc x ⊎ IsMember before x
    misses-stop greatest most out x b = let le = most x b in under x b (omega arith)

    -- where a cut is settled all that is left descends
    pub misses-settled : (cuts : List Cut) → ((c : Cut) → IsIn c cuts → IsCut (table_graph flats) (IsMember below) c) → IsSettled before lowest cuts s.low
        → (x : ℕ) → IsMember below x → Desc x ⊎ IsMember before x
    misses-settled cuts all t x b = ⊎_elim
        (λ a. h.whole x b a)
        (λ o. let place = t.2 in let start = t.4 in
        let from = of-from flats k s x rising at o in
        let way = all t.0 t.1 t.3 x b (omega arith) in
        let y = way.0 in let low = way.2 in let lt = way.3 in
        inl (desc-up x y way.1 (⊎_elim
        (λ d. d)
        (λ m. let less = t.5 y m in absurd (omega arith))
        (under y (closed x y b way.1 (omega arith)) (omega arith)))))
        (placed k x b)

  pub misses-whole : (k : ℕ) (missed : List IdSpan) → length flats ≤ k → Misses flats from below k missed → (x : ℕ) → IsMember below x → Desc x ⊎ IsMember missed x
  misses-whole k missed all h x b = h.whole x b (⊎_elim (λ a. a) (λ o. absurd (of-all flats k x all o)) (placed k x b))

-- the cut at a place of a list is one of the list
pub cut-at : (cuts : List Cut) (k : ℕ) (d : Cut) → k < length cuts → IsIn (get_or cuts k d) cuts
cut-at [] k d lt = absurd (omega arith)
cut-at (c ∷ cuts) zero d lt = inl refl
cut-at (c ∷ cuts) (suc k) d lt = inr (cut-at cuts k d (le_of_suc-le-suc lt))

-- what is in the descent and isn't missed is the range
pub range-exact : (flats : List Segment) → IsLawful flats → (from to : List IdSpan) (lowest : ℕ) (below missed answer : List IdSpan) → ((x : ℕ) → IsMember from x → lowest ≤ x)
    → ((x : ℕ) → IsMember below x ↔ (sets.ancestors (table_graph flats) (IsMember to) x × (lowest ≤ x)))
    → ((x : ℕ) → IsMember missed x → sets.descendants (table_graph flats) (IsMember from) x → ⊥)
    → ((x : ℕ) → IsMember below x → sets.descendants (table_graph flats) (IsMember from) x ⊎ IsMember missed x)
    → ((x : ℕ) → IsMember answer x ↔ (IsMember below x × (IsMember missed x → ⊥)))
    → (x : ℕ) → IsMember answer x ↔ sets.range (table_graph flats) (IsMember from) (IsMember to) x
range-exact flats lawful from to lowest below missed answer least down sound whole same x = (
  λ m. let h = (same x).0 m in (⊎_elim (λ d. d) (λ n. absurd (h.1 n)) (whole x h.0), ((down x).0 h.0).0),
  λ h. (same x).1 ((down x).1 (h.1, desc-least flats lawful from lowest least x h.0), λ m. sound x m h.0),
)
