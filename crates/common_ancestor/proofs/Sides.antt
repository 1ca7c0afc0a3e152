-- One side of a visit from the greatest id down: what a set reaches, and which of it waits or is left to another list.
use Rattle.std.proofs.Common.{ℕ, ◌<◌, ◌≤◌, ◌^◌, ◌⊎◌, inl, inr, List, [], ◌∷◌, sym, subst, arith, ⊎_elim}
use Rattle.id_groups.specs.Lists.{IsIn}
use Rattle.commit_graph.specs.Graph.{IsWalk}
use Rattle.commit_graph.specs.Sets as sets
use Rattle.commit_graph.proofs.Walks.{reaches-self}
use Rattle.segment_codec.specs.Record.{Segment}
use Rattle.segment_codec.specs.Table.{IsHeld, IsLawful}
use Rattle.segment_codec.proofs.Tables.{le_or_lt, parent-below}
use Rattle.ancestor_query.specs.Graph.{table_graph}
use Rattle.ancestor_query.specs.Visits.{ToVisit, Keeps}
use Rattle.ancestor_query.proofs.Down.{anc-parent, anc-bound}

-- The work has what the set S reaches, among it each id below the frontier that is a parent of one at or above it, but for
-- those that Left says are looked after elsewhere.
pub record Side (flats : List Segment) (S Left : ℕ → Type 0) (frontier : ℕ) (work : List ℕ) : Type 0 where
  pub sound : (w : ℕ) → IsIn w work → sets.ancestors (table_graph flats) S w
  pub whole : (y p : ℕ) → sets.ancestors (table_graph flats) S y → frontier ≤ y → IsIn p ((table_graph flats).parents y) → p < frontier → IsIn p work ⊎ Left p

module _ (flats : List Segment) (lawful : IsLawful flats) (S : ℕ → Type 0) where
  abbrev Anc : ℕ → Type 0
  Anc z = sets.ancestors (table_graph flats) S z

  module _ (Q : ℕ → Type 0) (down : (u p : ℕ) → Q u → IsIn p ((table_graph flats).parents u) → Q p) (a : ℕ)
      (here : (w : ℕ) → S w → w < a → Q w)
      (whole : (y p : ℕ) → Anc y → a ≤ y → IsIn p ((table_graph flats).parents y) → p < a → Q p) where
    along : (u : ℕ) (walk : List ℕ) (z : ℕ) → Anc u → (u < a → Q u) → IsWalk (table_graph flats) u walk z → z < a → Q z
    along u [] z au f e lt = subst Q e (f (subst (λ n. n < a) (sym e) lt))
    along u (p ∷ walk) z au f w lt =
        along p walk z (anc-parent flats lawful S u p au w.0)
        (λ pa. ⊎_elim (λ (le : a ≤ u). whole u p au le w.0 pa) (λ (ua : u < a). down u p (f ua) w.0) (le_or_lt a u))
        w.1 lt

    pub below : (z : ℕ) → Anc z → z < a → Q z
    below z h lt = along h.0 h.2.0 z (h.0, h.1, reaches-self (table_graph flats) h.0) (λ la. here h.0 h.1 la) h.2.1 lt

  module _ (Left : ℕ → Type 0) (a : ℕ) (work : List ℕ) (side : Side flats S Left a work) where
    -- what holds of all that waits or is left, and of each parent of what it holds of, holds of all that is reached below
    pub side-all : (Q : ℕ → Type 0) → ((u p : ℕ) → Q u → IsIn p ((table_graph flats).parents u) → Q p)
        → ((w : ℕ) → ToVisit S work w → w < a → Q w) → ((p : ℕ) → Left p → p < a → Q p) → (z : ℕ) → Anc z → z < a → Q z
    side-all Q down here left = below Q down a (λ w s lt. here w (inl s) lt)
        (λ y p ay le i lt. ⊎_elim (λ j. here p (inr j) lt) (λ k. left p k lt) (side.whole y p ay le i lt))

    -- it lies below a bound where all that waits or is left does
    pub side-under : (bound : ℕ) → ((w : ℕ) → ToVisit S work w → w < a → w < bound) → ((p : ℕ) → Left p → p < a → p < bound) → (z : ℕ) → Anc z → z < a → z < bound
    side-under bound here left = side-all (λ z. z < bound) (λ u p h i. let lt = (parent-below flats lawful u p i).0 in omega arith) here left

    pub side-kept : (after : List ℕ) → Keeps work after a → Side flats S Left a after
    side-kept after k = record {
      sound = λ w i. side.sound w (k.kept w i);
      whole = λ y p ay le i lt. ⊎_elim (λ j. inl (k.lost p j lt)) (λ h. inr h) (side.whole y p ay le i lt);
    }

    pub side-visit : (x : ℕ) → ToVisit S work x → Anc x
    side-visit x h = ⊎_elim (λ m. (x, m, reaches-self (table_graph flats) x)) (λ i. side.sound x i) h

    -- the frontier goes down to low: what is said of the ids that it passes
    pub side-step : (More : ℕ → Type 0) (low : ℕ) (more : List ℕ) → low ≤ a
        → ((w : ℕ) → IsIn w work → IsIn w more) → ((w : ℕ) → IsIn w more → Anc w) → ((p : ℕ) → Left p → More p)
        → ((y p : ℕ) → Anc y → low ≤ y → y < a → IsIn p ((table_graph flats).parents y) → p < low → IsIn p more ⊎ More p)
        → Side flats S More low more
    side-step More low more le longer sound left near = record {
      sound = sound;
      whole = λ y p ay over i lt. ⊎_elim
          (λ (far : a ≤ y). ⊎_elim (λ j. inl (longer p j)) (λ h. inr (left p h)) (side.whole y p ay far i (omega arith)))
          (λ (under : y < a). near y p ay over under i lt) (le_or_lt a y);
    }

  module _ (inside : (x : ℕ) → S x → IsHeld flats x) where
    pub side-none : (Left : ℕ → Type 0) → Side flats S Left (2 ^ 57) []
    side-none Left = record {
      sound = λ w i. absurd i;
      whole = λ y p ay le i lt. let b = anc-bound flats lawful S inside y ay in absurd (omega arith);
    }
