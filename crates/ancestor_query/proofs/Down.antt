-- Visits from the greatest id down: what a jump keeps, and what is left at the end.
use Rattle.std.proofs.Common.{ℕ, ◌<◌, ◌≤◌, ◌^◌, ◌⊎◌, inl, inr, ◌↔◌, List, [], ◌∷◌, refl, sym, subst, arith, ⊎_elim}
use Rattle.id_groups.specs.Lists.{IsIn}
use Rattle.commit_graph.specs.Graph.{IsWalk, Reaches}
use Rattle.commit_graph.specs.Sets as sets
use Rattle.commit_graph.proofs.Walks.{reaches-trans, reaches-self}
use Rattle.segment_codec.specs.Record.{Segment}
use Rattle.segment_codec.specs.Table.{IsHeld, IsLawful}
use Rattle.segment_codec.proofs.Tables.{le_or_lt, parent-below}
use Rattle.ancestor_query.specs.Graph.{table_graph, IsJump}
use Rattle.ancestor_query.specs.Visits.{ToVisit, Keeps, IsGreatest, IsFrontier}
use Rattle.ancestor_query.proofs.Graphs.{reached-held, held-bound}

module _ (flats : List Segment) (lawful : IsLawful flats) (S : ℕ → Type 0) where
  abbrev Anc : ℕ → Type 0
  Anc z = sets.ancestors (table_graph flats) S z

  pub anc-reach : (u z : ℕ) → Anc u → Reaches (table_graph flats) u z → Anc z
  anc-reach u z a r = (a.0, a.1, reaches-trans (table_graph flats) a.0 u z a.2 r)

  pub anc-parent : (u p : ℕ) → Anc u → IsIn p ((table_graph flats).parents u) → Anc p
  anc-parent u p a i = anc-reach u p a (p ∷ [], (i, refl))

  pub anc-visit : (work : List ℕ) → ((w : ℕ) → IsIn w work → Anc w) → (x : ℕ) → ToVisit S work x → Anc x
  anc-visit work sound x h = ⊎_elim (λ m. (x, m, reaches-self (table_graph flats) x)) (λ i. sound x i) h

  -- An ancestor below the frontier is at or below something to visit: Q holds of what is to visit, and of all ids below such.
  module _ (Q : ℕ → Type 0) (down : (u p : ℕ) → Q u → p < u → Q p) (a : ℕ) (work : List ℕ)
      (here : (w : ℕ) → ToVisit S work w → w < a → Q w)
      (whole : (y p : ℕ) → Anc y → a ≤ y → IsIn p ((table_graph flats).parents y) → p < a → IsIn p work) where
    along : (u : ℕ) (walk : List ℕ) (z : ℕ) → Anc u → (u < a → Q u) → IsWalk (table_graph flats) u walk z → z < a → Q z
    along u [] z au f e lt = subst Q e (f (subst (λ n. n < a) (sym e) lt))
    along u (p ∷ walk) z au f w lt =
        along p walk z (anc-parent u p au w.0)
        (λ pa. ⊎_elim (λ (le : a ≤ u). here p (inr (whole u p au le w.0 pa)) pa) (λ (ua : u < a). down u p (f ua) (parent-below flats lawful u p w.0).0) (le_or_lt a u))
        w.1 lt

    pub below-frontier : (z : ℕ) → Anc z → z < a → Q z
    below-frontier z h lt = along h.0 h.2.0 z (h.0, h.1, reaches-self (table_graph flats) h.0) (λ la. here h.0 (inl h.1) la) h.2.1 lt

  pub frontier-kept : (a : ℕ) (before after : List ℕ) → Keeps before after a → IsFrontier flats S a before → IsFrontier flats S a after
  frontier-kept a before after k f = record {
    sound = λ w i. f.sound w (k.kept w i);
    whole = λ y p ay le i lt. k.lost p (f.whole y p ay le i lt) lt;
  }

  module _ (a : ℕ) (work : List ℕ) (f : IsFrontier flats S a work) where
    module _ (x : ℕ) (top : IsGreatest (ToVisit S work) a x) where
      pub anc-top : Anc x
      anc-top = anc-visit work f.sound x top.is

      -- no ancestor lies between
      pub anc-at_most : (z : ℕ) → Anc z → z < a → z ≤ x
      anc-at_most = below-frontier (λ z. z ≤ x) (λ u p h lt. omega arith) a work top.greatest f.whole

      pub frontier-jump : (low : ℕ) (parents more : List ℕ) → IsJump (table_graph flats) low x parents → ((w : ℕ) → IsIn w more ↔ (IsIn w work ⊎ IsIn w parents)) → IsFrontier flats S low more
      frontier-jump low parents more jump pushed =
          let order = jump.order in let under = top.under in
          record {
            sound = λ w i. ⊎_elim (λ o. f.sound w o)
                (λ p. let h = jump.only w p in anc-parent h.1 w (anc-reach x h.1 anc-top (jump.reaches h.1 h.2 h.3)) h.4) ((pushed w).0 i);
            whole = λ y p ay le i lt. (pushed p).1 (⊎_elim
                (λ (far : a ≤ y). inl (f.whole y p ay far i (omega arith)))
                (λ (near : y < a). inr (jump.out y p le (anc-at_most y ay near) i lt)) (le_or_lt a y));
          }

    pub none-below : ((w : ℕ) → ToVisit S work w → w < a → ⊥) → (z : ℕ) → Anc z → z < a → ⊥
    none-below none = below-frontier (λ _. ⊥) (λ u p n lt. n) a work none f.whole

  module _ (inside : (x : ℕ) → S x → IsHeld flats x) where
    pub anc-inside : (z : ℕ) → Anc z → IsHeld flats z
    anc-inside z h = reached-held flats lawful h.0 h.2.0 z (inside h.0 h.1) h.2.1

    pub anc-bound : (z : ℕ) → Anc z → z < 2 ^ 57
    anc-bound z h = held-bound flats lawful z (anc-inside z h)

    pub frontier-none : (work : List ℕ) → ((w : ℕ) → IsIn w work → Anc w) → IsFrontier flats S (2 ^ 57) work
    frontier-none work sound = record { sound = sound; whole = λ y p ay le i lt. let b = anc-bound y ay in absurd (omega arith) }
