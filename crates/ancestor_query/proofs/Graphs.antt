-- The graph of a lawful table: what the ids of a segment reach, and which ids are held.
use Rattle.std.proofs.Common.{◌≡◌, ℕ, zero, suc, ◌+◌, ◌-◌, ◌<◌, ◌≤◌, ◌^◌, inl, inr, List, [], ◌∷◌, Some, refl, sym, subst, ap, ◌∙◌, arith, ⊎_elim}
use Rattle.id_groups.specs.Lists.{IsIn}
use Rattle.commit_graph.specs.Graph.{IsWalk, Reaches}
use Rattle.commit_graph.proofs.Naming.{each}
use Rattle.commit_graph.proofs.Walks.{reaches-parent, reaches-self, reaches-trans}
use Rattle.segment_codec.specs.Record.{Segment, IsSegment}
use Rattle.segment_codec.specs.Table.{IsInSegment, segment_at, parents_at, IsHeld, IsLawful, IsHeaded, IsEnding}
use Rattle.segment_codec.proofs.Tables.{le_or_lt, segment-in, parents-low, parents-over, parent-below}
use Rattle.ancestor_query.specs.Graph.{table_graph, IsJump}

in-one : (p q : ℕ) → IsIn p (q ∷ []) → p ≡ q
in-one p q h = ⊎_elim (λ e. e) (λ n. absurd n) h

-- a held id lies below the end of all ids
pub held-bound : (flats : List Segment) → IsLawful flats → (x : ℕ) → IsHeld flats x → x < 2 ^ 57
held-bound flats lawful x h =
    let f = segment-in flats x h.0 h.1 in
    let top = (lawful.each h.0 f.0).segment.valid in let le = f.1.1 in omega arith

-- what is reached from a held id is held, and lies no higher
pub reached-held : (flats : List Segment) → IsLawful flats → (m : ℕ) (walk : List ℕ) (x : ℕ) → IsHeld flats m → IsWalk (table_graph flats) m walk x → IsHeld flats x
reached-held flats lawful m [] x b e = subst (IsHeld flats) e b
reached-held flats lawful m (p ∷ walk) x b w = reached-held flats lawful p walk x (parent-below flats lawful m p w.0).1 w.1

pub walk-down : (flats : List Segment) → IsLawful flats → (m : ℕ) (walk : List ℕ) (x : ℕ) → IsWalk (table_graph flats) m walk x → x ≤ m
walk-down flats lawful m [] x e = omega arith
walk-down flats lawful m (p ∷ walk) x w =
    let lt = (parent-below flats lawful m p w.0).0 in let le = walk-down flats lawful p walk x w.1 in omega arith

pub reached-below : (flats : List Segment) → IsLawful flats → (m x : ℕ) → Reaches (table_graph flats) m x → x ≤ m
reached-below flats lawful m x r = walk-down flats lawful m r.0 x r.1

module _ (flats : List Segment) (lawful : IsLawful flats) where
  module _ (s : Segment) (i : IsIn s flats) where
    -- within a flat segment each id reaches those below it
    pub reach-down : (n x y : ℕ) → x ≡ y + n → s.low ≤ y → x ≤ s.high → Reaches (table_graph flats) x y
    reach-down zero x y e low high = ([], omega arith)
    reach-down (suc n) x y e low high =
        reaches-parent (table_graph flats) x (x - 1) y (subst (IsIn (x - 1)) (sym (parents-over flats lawful s i x (omega arith) high)) (inl refl))
        (reach-down n (x - 1) y (omega arith) low (omega arith))

    -- the ids of a flat segment up to one of them
    pub flat-jump : (x : ℕ) → IsInSegment x s → IsJump (table_graph flats) s.low x s.parents
    flat-jump x h =
        let low = h.0 in let high = h.1 in
        record {
          order = low;
          reaches = λ y a b. reach-down (x - y) x y (omega arith) a (omega arith);
          out = λ y p a b j lt. ⊎_elim
              (λ (same : y ≡ s.low). subst (IsIn p) (ap (λ z. parents_at flats z) same ∙ parents-low flats lawful s i) j)
              (λ (over : s.low < y). let e = in-one p (y - 1) (subst (IsIn p) (parents-over flats lawful s i y over (omega arith)) j) in absurd (omega arith))
              (⊎_elim (λ (le : y ≤ s.low). inl (omega arith)) (λ (lt : s.low < y). inr lt) (le_or_lt y s.low));
          only = λ p j. (each (λ q. q < s.low) s.parents (lawful.each s i).segment.below p j, s.low, omega arith, low, subst (IsIn p) (sym (parents-low flats lawful s i)) j);
        }

  -- the ids of the flat segment that has an id, up to this one
  pub segment-jump : (x : ℕ) (s : Segment) → segment_at flats x ≡ Some s → IsJump (table_graph flats) s.low x s.parents
  segment-jump x s e = let f = segment-in flats x s e in flat-jump s f.0 x f.1

  -- a range with one head
  module _ (s : Segment) (ok : IsSegment s) (h : IsHeaded flats s) where
    climb : (n y : ℕ) → s.low ≤ y → y ≤ s.high → s.high - y ≤ n → Reaches (table_graph flats) s.high y
    climb zero y a b le = let e : s.high ≡ y = omega arith in subst (Reaches (table_graph flats) s.high) e (reaches-self (table_graph flats) s.high)
    climb (suc n) y a b le = ⊎_elim
        (λ (top : s.high ≤ y). let e : s.high ≡ y = omega arith in subst (Reaches (table_graph flats) s.high) e (reaches-self (table_graph flats) s.high))
        (λ (under : y < s.high).
        let c = h.one_head y (a, b) under in
        let up = (parent-below flats lawful c.0 y c.2).0 in
        let low_c = c.1.0 in let high_c = c.1.1 in
        reaches-trans (table_graph flats) s.high c.0 y (climb n c.0 low_c high_c (omega arith)) (y ∷ [], (c.2, refl)))
        (le_or_lt s.high y)

    pub headed-jump : IsJump (table_graph flats) s.low s.high s.parents
    headed-jump = record {
      order = ok.ascending;
      reaches = λ y a b. climb (s.high - y) y a b (omega arith);
      out = λ y p a b j lt. h.outside y p (a, b) j lt;
      only = λ p j. let c = h.stored p j in (each (λ q. q < s.low) s.parents ok.below p j, c.0, c.1.0, c.1.1, c.2);
    }

  -- a segment of any level that ends at an id
  pub ending-segment : (level id : ℕ) (s : Segment) → IsEnding flats level id s → IsSegment s × (s.high ≡ id)
  ending-segment zero id s h = ((lawful.each s h.0).segment, h.1)
  ending-segment (suc k) id s h = (h.0, h.2)

  pub ending-jump : (level id : ℕ) (s : Segment) → IsEnding flats level id s → IsJump (table_graph flats) s.low id s.parents
  ending-jump zero id s h =
      let order = (lawful.each s h.0).segment.ascending in
      subst (λ x. IsJump (table_graph flats) s.low x s.parents) h.1 (flat-jump s h.0 s.high (order, omega arith))
  ending-jump (suc k) id s h = subst (λ x. IsJump (table_graph flats) s.low x s.parents) h.2 (headed-jump s h.0 h.3)
