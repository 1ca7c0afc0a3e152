-- What all members of a set reach, one piece of a segment after another.
use Rattle.std.proofs.Common.{◌≡◌, ℕ, ◌+◌, ◌-◌, ◌<◌, ◌≤◌, ◌⊎◌, inl, inr, ◌↔◌, List, [], ◌∷◌, Some, length, true, true≢false, nat_eq, refl, sym, subst, ◌∙◌, arith, ⊎_elim}
use Rattle.std.proofs.lemmas.Bool.{ne_eqb}
use Rattle.id_groups.specs.Lists.{IsIn}
use Rattle.id_groups.specs.declared.span.IdSpan.{IdSpan}
use Rattle.id_groups.specs.Span.{IsInSpan}
use Rattle.commit_graph.specs.Graph.{IsWalk, Reaches}
use Rattle.commit_graph.specs.Sets as sets
use Rattle.commit_graph.proofs.Walks.{reaches-self, reaches-trans, reaches-parent}
use Rattle.segment_codec.specs.Record.{Segment}
use Rattle.segment_codec.specs.Table.{segment_at, IsHeld, IsLawful}
use Rattle.segment_codec.proofs.Tables.{le_or_lt, segment-in, parent-below}
use Rattle.span_set.specs.Members.{IsMember, IsCanonical}
use Rattle.ancestor_query.specs.Graph.{table_graph}
use Rattle.ancestor_query.proofs.Graphs.{reach-down, reached-held, reached-below}
use Rattle.common_ancestor.specs.Meets.{AreLast, AllReach}

-- a list of length 0 has nothing
pub empty-list : {X : Type 0} (l : List X) → true ≡ nat_eq (length l) 0 → l ≡ []
empty-list [] e = refl
empty-list (x ∷ xs) e = absurd (true≢false (e ∙ ne_eqb (length (x ∷ xs)) 0 (omega arith)))

module _ (flats : List Segment) (lawful : IsLawful flats) where
  abbrev Anc : (ℕ → Type 0) → ℕ → Type 0
  Anc S z = sets.ancestors (table_graph flats) S z

  -- what is reached by a walk of some steps is a parent of something reached
  last-step : (u : ℕ) (walk : List ℕ) (z : ℕ) → IsWalk (table_graph flats) u walk z → (u ≡ z) ⊎ ((c : ℕ) × Reaches (table_graph flats) u c × IsIn z ((table_graph flats).parents c))
  last-step u [] z e = inl e
  last-step u (p ∷ walk) z w = inr (⊎_elim
      (λ (e : p ≡ z). (u, reaches-self (table_graph flats) u, subst (λ q. IsIn q ((table_graph flats).parents u)) e w.0))
      (λ h. (h.0, reaches-parent (table_graph flats) u p h.0 w.0 h.1, h.2)) (last-step p walk z w.1))

  -- a set of last ids has exactly the last of what it reaches
  pub last-heads : (S C : ℕ → Type 0) → AreLast (table_graph flats) S → ((z : ℕ) → Anc S z ↔ C z) → (z : ℕ) → S z ↔ sets.heads (table_graph flats) C z
  last-heads S C last same z = (
    λ s. ((same z).0 (z, s, reaches-self (table_graph flats) z), λ p. last z s (p.0, (same p.0).1 p.1, p.2)),
    λ h. let a = (same z).1 h.0 in
        ⊎_elim (λ (e : a.0 ≡ z). subst S e a.1) (λ l. absurd (h.1 (l.0, (same l.0).0 (a.0, a.1, l.1), l.2))) (last-step a.0 a.2.0 z a.2.1),
  )

  pub anc-one : (S : ℕ → Type 0) (m : ℕ) → ((x : ℕ) → S x ↔ (x ≡ m)) → (z : ℕ) → Anc S z ↔ Reaches (table_graph flats) m z
  anc-one S m only z = (λ h. subst (λ x. Reaches (table_graph flats) x z) ((only h.0).0 h.1) h.2, λ r. (m, (only m).1 refl, r))

  -- the set of one id is last
  pub one-last : (S : ℕ → Type 0) (m : ℕ) → ((x : ℕ) → S x ↔ (x ≡ m)) → AreLast (table_graph flats) S
  one-last S m only x s p =
      let e = (only x).0 s in
      let le = reached-below flats lawful m p.0 ((anc-one S m only p.0).0 p.1) in
      let lt = (parent-below flats lawful p.0 x p.2).0 in absurd (omega arith)

  -- The set reaches what the first one and each id from `end` to `high` do.
  pub record Pieces (start : List IdSpan) (end high : ℕ) (rest : List IdSpan) : Type 0 where
    pub reached : (z : ℕ) → Anc (IsMember rest) z ↔ (Anc (IsMember start) z × AllReach (table_graph flats) (λ m. (end ≤ m) × (m ≤ high)) z)
    pub last : AreLast (table_graph flats) (IsMember rest)
    pub canonical : IsCanonical rest

  module _ (start : List IdSpan) (end high : ℕ) (rest : List IdSpan) (p : Pieces start end high rest) where
    pub pieces-held : ((x : ℕ) → IsMember start x → IsHeld flats x) → (x : ℕ) → IsMember rest x → IsHeld flats x
    pieces-held held x m =
        let a = ((p.reached x).0 (x, m, reaches-self (table_graph flats) x)).0 in
        reached-held flats lawful a.0 a.2.0 x (held a.0 a.1) a.2.1

    -- one more piece: the ids of a segment from its lowest that counts up to the end
    pub pieces-next : (x : ℕ) (s : Segment) (lowest : ℕ) (next : List IdSpan) → x + 1 ≡ end → segment_at flats x ≡ Some s → s.low ≤ lowest → lowest ≤ x → end ≤ high + 1
        → ((z : ℕ) → Anc (IsMember next) z ↔ (Anc (IsMember rest) z × Reaches (table_graph flats) lowest z)) → AreLast (table_graph flats) (IsMember next) → IsCanonical next → Pieces start lowest high next
    pieces-next x s lowest next ends at low lx within meets last canonical =
        let f = segment-in flats x s at in let top = f.1.1 in
        record {
          reached = λ z. (
            λ a. let b = (meets z).0 a in let r = (p.reached z).0 b.0 in (
              r.0,
              λ m h. ⊎_elim
                  (λ (ge : end ≤ m). r.1 m (ge, h.1))
                  (λ (lt : m < end). let ml = h.0 in
                  reaches-trans (table_graph flats) m lowest z (reach-down flats lawful s f.0 (m - lowest) m lowest (omega arith) low (omega arith)) b.1)
                  (le_or_lt end m),
            ),
            λ h. (meets z).1 ((p.reached z).1 (h.0, λ m i. let ge = i.0 in h.1 m (omega arith, i.1)), h.1 lowest (omega arith, omega arith)),
          );
          last = last;
          canonical = canonical;
        }

    -- all pieces of a span are met
    pub pieces-end : (low : ℕ) → low ≡ end → (z : ℕ) → Anc (IsMember rest) z ↔ (Anc (IsMember start) z × AllReach (table_graph flats) (λ m. (low ≤ m) × (m ≤ high)) z)
    pieces-end low e z = subst (λ l. Anc (IsMember rest) z ↔ (Anc (IsMember start) z × AllReach (table_graph flats) (λ m. (l ≤ m) × (m ≤ high)) z)) (sym e) (p.reached z)

    -- nothing is left
    pub pieces-empty : (low : ℕ) → low ≤ end → rest ≡ [] → (z : ℕ) → Anc (IsMember rest) z ↔ (Anc (IsMember start) z × AllReach (table_graph flats) (λ m. (low ≤ m) × (m ≤ high)) z)
    pieces-empty low le none z = (
      λ a. absurd (subst (λ l. IsMember l a.0) none a.1),
      λ h. (p.reached z).1 (h.0, λ m i. let ge = i.0 in h.1 m (omega arith, i.1)),
    )

  -- The set has the last of what the first id and all of these reach.
  pub record Done (first : ℕ) (done set : List IdSpan) : Type 0 where
    pub reached : (z : ℕ) → Anc (IsMember set) z ↔ (Reaches (table_graph flats) first z × AllReach (table_graph flats) (IsMember done) z)
    pub last : AreLast (table_graph flats) (IsMember set)
    pub canonical : IsCanonical set

  pub done-start : (first : ℕ) (one : List IdSpan) → ((z : ℕ) → IsMember one z ↔ (z ≡ first)) → IsCanonical one → Done first [] one
  done-start first one only canonical = record {
    reached = λ z. (λ a. ((anc-one (IsMember one) first only z).0 a, λ m i. absurd i), λ h. (anc-one (IsMember one) first only z).1 h.0);
    last = one-last (IsMember one) first only;
    canonical = canonical;
  }

  module _ (first : ℕ) (done set : List IdSpan) (d : Done first done set) where
    pub done-held : IsHeld flats first → (x : ℕ) → IsMember set x → IsHeld flats x
    done-held held x m = let r = ((d.reached x).0 (x, m, reaches-self (table_graph flats) x)).0 in reached-held flats lawful first r.0 x held r.1

    pub done-next : (span : IdSpan) (more next : List IdSpan) → ((z : ℕ) → IsMember more z ↔ (IsMember done z ⊎ IsInSpan z span))
        → ((z : ℕ) → Anc (IsMember next) z ↔ (Anc (IsMember set) z × AllReach (table_graph flats) (λ m. IsInSpan m span) z))
        → AreLast (table_graph flats) (IsMember next) → IsCanonical next → Done first more next
    done-next span more next taken meets last canonical = record {
      reached = λ z. (
        λ a. let b = (meets z).0 a in let r = (d.reached z).0 b.0 in
            (r.0, λ m i. ⊎_elim (λ o. r.1 m o) (λ n. b.1 m n) ((taken m).0 i)),
        λ h. (meets z).1 ((d.reached z).1 (h.0, λ m i. h.1 m ((taken m).1 (inl i))), λ m i. h.1 m ((taken m).1 (inr i))),
      );
      last = last;
      canonical = canonical;
    }

    pub done-common : IsMember done first → (x : ℕ) → Anc (IsMember set) x ↔ sets.common (table_graph flats) (IsMember done) x
    done-common member x = (λ a. ((first, member), ((d.reached x).0 a).1), λ h. (d.reached x).1 (h.1 first member, h.1))

    pub done-gca : IsMember done first → (z : ℕ) → IsMember set z ↔ sets.gca (table_graph flats) (IsMember done) z
    done-gca member z = last-heads (IsMember set) (sets.common (table_graph flats) (IsMember done)) d.last (done-common member) z

  -- what all members reach is held
  pub gca-held : (S : ℕ → Type 0) → ((x : ℕ) → S x → IsHeld flats x) → (r : List IdSpan) → ((x : ℕ) → IsMember r x ↔ sets.gca (table_graph flats) S x) → (x : ℕ) → IsMember r x → IsHeld flats x
  gca-held S held r same x m =
      let h = ((same x).0 m).0 in let w = h.1 h.0.0 h.0.1 in
      reached-held flats lawful h.0.0 w.0 x (held h.0.0 h.0.1) w.1
