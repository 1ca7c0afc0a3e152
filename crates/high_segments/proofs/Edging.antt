-- The edges of a table's flat segments are those of its views, which lend as many as they have places of the master group.
use Rattle.std.proofs.Common.{◌≡◌, ℕ, zero, suc, ◌+◌, ◌-◌, ◌<◌, ◌≤◌, Bool, true, false, cond, List, [], ◌∷◌, ◌++◌, length, min, Option, Some, None, inl, inr, refl, sym, subst, ap, arith, le_of_suc-le-suc}
use Rattle.std.specs.Prelude.{nat_eq, nat_lt, slice_get}
use Rattle.std.specs.List.{range_with_len}
use Rattle.std.proofs.lemmas.Bool.{eqb-true, eq-eqb, ltb-false}
use Rattle.id_groups.specs.Lists.{IsIn, is_in}
use Rattle.id_groups.proofs.Listing.{all-in, in-all-true, found, there}
use Rattle.segment_codec.specs.Edges.{edge_of, AreEdgesOf}
use Rattle.segment_codec.specs.Record.{Segment}
use Rattle.segment_codec.specs.Table.{Follow}
use Rattle.segment_codec.proofs.Numbers.{some_is}
use Rattle.flat_segments.specs.Kept.{KeptFlats as FlatKept}
use Rattle.flat_segments.specs.Maximal.{cut}
use Rattle.flat_segments.specs.Placed.{PlacedSegment}
use Rattle.flat_segments.specs.Views.{view_flats, master_flats, other_flats, master_count}
use Rattle.flat_segments.specs.declared.view.FlatView.{FlatView}
use Rattle.flat_segments.proofs.Graphs.{cut-none}
use Rattle.segment_levels.specs.Endings.{BelongTogether}
use Rattle.segment_levels.specs.Flats.{flats_of}
use Rattle.segment_levels.specs.Kept.{KeptLevels}
use Rattle.segment_levels.proofs.Deciding.{range-in}
use Rattle.high_segments.specs.Edged.{has_edges, are_edged}
use Rattle.high_segments.proofs.Batch.{table-whole}

-- ---- tests

in-means : (n : ℕ) (ns : List ℕ) → is_in nat_eq n ns ≡ true → IsIn n ns
in-means n ns h = found nat_eq eqb-true (λ x. eq-eqb x x refl) n ns h

in-decided : (n : ℕ) (ns : List ℕ) → IsIn n ns → is_in nat_eq n ns ≡ true
in-decided n ns h = there nat_eq eqb-true (λ x. eq-eqb x x refl) n ns h

range-below : (a n x : ℕ) → IsIn x (range_with_len a n) → x < a + n
range-below a zero x i = absurd i
range-below a (suc n) x (inl e) = omega (arith, e)
range-below a (suc n) x (inr i) = let h = range-below (a + 1) n x i in omega (arith, h)

has-decided : (edges : List ℕ) (k : ℕ) (o : Option Segment) → ((s : Segment) (p : ℕ) → o ≡ Some s → IsIn p s.parents → IsIn (edge_of p k) edges) → has_edges edges k o ≡ true
has-decided edges k None h = refl
has-decided edges k (Some s) h = in-all-true (λ p. is_in nat_eq (edge_of p k) edges) s.parents (λ p i. in-decided (edge_of p k) edges (h s p refl i))

has-means : (edges : List ℕ) (k : ℕ) (o : Option Segment) (s : Segment) (p : ℕ) → o ≡ Some s → IsIn p s.parents → has_edges edges k o ≡ true → IsIn (edge_of p k) edges
has-means edges k o s p e i h = in-means (edge_of p k) edges (all-in (λ q. is_in nat_eq (edge_of q k) edges) s.parents (subst (λ z. has_edges edges k z ≡ true) e h) p i)

pub edged-decided : (edges : List ℕ) (count : ℕ) (flats : List Segment) → AreEdgesOf edges count flats → are_edged edges count flats ≡ true
unfolding are_edged
edged-decided edges count flats h =
    in-all-true (λ k. has_edges edges k (slice_get flats k)) (range_with_len 0 count)
    (λ k i. let lt = range-below 0 count k i in has-decided edges k (slice_get flats k) (λ s p e j. h.whole k s p (omega (arith, lt)) e j))

pub edged-means : (edges : List ℕ) (count : ℕ) (flats : List Segment) → are_edged edges count flats ≡ true
    → (k : ℕ) (s : Segment) (p : ℕ) → k < count → slice_get flats k ≡ Some s → IsIn p s.parents → IsIn (edge_of p k) edges
unfolding are_edged
edged-means edges count flats h k s p lt e i =
    has-means edges k (slice_get flats k) s p e i (all-in (λ j. has_edges edges j (slice_get flats j)) (range_with_len 0 count) h k (range-in 0 count k (omega arith) (omega (arith, lt))))

-- ---- views

get-first : (xs ys : List Segment) (k : ℕ) (s : Segment) → k < length xs → slice_get (xs ++ ys) k ≡ Some s → slice_get xs k ≡ Some s
get-first [] ys k s lt e = absurd (omega (arith, lt))
get-first (x ∷ xs) ys zero s lt e = e
get-first (x ∷ xs) ys (suc k) s lt e = get-first xs ys k s (le_of_suc-le-suc lt) e

-- what is cut has the parents of the segments that stand at the same places
cut-get : (below first end k : ℕ) (xs : List Segment) (s : Segment) → Follow first end xs → slice_get (cut below xs) k ≡ Some s
    → (t : Segment) × (slice_get xs k ≡ Some t) × (s.parents ≡ t.parents)
cut-get below first end k [] s h e = absurd cc
cut-get below first end k (x ∷ xs) s h e = go (λ j. cut-get below (x.high + 1) end j xs s h.2) k (nat_lt x.low below) refl e
  where
    go : ((j : ℕ) → slice_get (cut below xs) j ≡ Some s → (t : Segment) × (slice_get xs j ≡ Some t) × (s.parents ≡ t.parents))
        → (j : ℕ) (b : Bool) → nat_lt x.low below ≡ b → slice_get (cond b (record x { high = min x.high (below - 1) } ∷ cut below xs) (cut below xs)) j ≡ Some s
        → (t : Segment) × (slice_get (x ∷ xs) j ≡ Some t) × (s.parents ≡ t.parents)
    go rest zero true f g = (x, refl, sym (ap (λ (z : Segment). z.parents) (some_is (record x { high = min x.high (below - 1) }) s g)))
    go rest (suc j) true f g = rest j g
    go rest j false f g =
        let ge = ltb-false x.low below f in let low = h.0 in let order = h.1 in
        let none = subst (λ (z : List Segment). slice_get z j ≡ Some s) (cut-none below (x.high + 1) end xs h.2 (omega (arith, ge, low, order))) g in absurd cc

-- of so many segments of the master group, cut at some id, each edge is there that is there of the whole ones
pub view-edges : (edges : List ℕ) (count n below first end : ℕ) (whole front others : List Segment) → Follow first end whole → AreEdgesOf edges count whole → front ≡ cut below whole
    → n ≤ count → n ≤ length front → AreEdgesOf edges n (front ++ others)
view-edges edges count n below first end whole front others h a same le within =
    record {
      order = a.order;
      whole = λ k s p lt e i.
          let at = get-first front others k s (omega (arith, lt, within)) e in
          let t = cut-get below first end k whole s h (subst (λ (z : List Segment). slice_get z k ≡ Some s) same at) in
          a.whole k t.0 p (omega (arith, lt, le)) t.1 (subst (λ (z : List ℕ). IsIn p z) t.2 i);
    }

pub view-edged : (v : FlatView) (levels : KeptLevels) (table : FlatKept) (records : List PlacedSegment) → BelongTogether v levels table records → (edges : List ℕ) (count n : ℕ)
    → AreEdgesOf edges count (flats_of table records) → n ≤ count → n ≤ length (master_flats v) → AreEdgesOf edges n (view_flats v)
view-edged v levels table records b edges count n a le within =
    view-edges edges count n (master_count v) 0 table.end (flats_of table records) (master_flats v) (other_flats v) (table-whole table records b.table_of).follow a b.flats le within
