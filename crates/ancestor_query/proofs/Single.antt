-- What one id reaches.
use Rattle.std.proofs.Common.{◌≡◌, ℕ, ◌<◌, ◌≤◌, ◌^◌, ◌⊎◌, ◌↔◌, inl, inr, List, [], Option, Some, None, refl, sym, subst, arith, ⊎_elim}
use Rattle.id_groups.specs.Lists.{IsIn}
use Rattle.commit_graph.specs.Graph.{Reaches}
use Rattle.commit_graph.specs.Sets as sets
use Rattle.commit_graph.proofs.Walks.{reaches-trans}
use Rattle.segment_codec.specs.Record.{Segment}
use Rattle.segment_codec.specs.Table.{IsHeld, IsLawful}
use Rattle.ancestor_query.specs.Graph.{table_graph, IsJump}
use Rattle.ancestor_query.specs.Visits.{ToVisit, IsGreatest, Peeks, IsFrontier, Pending}
use Rattle.ancestor_query.proofs.Down.{frontier-kept, frontier-jump, frontier-none, anc-at_most, anc-top, none-below, anc-inside}

module _ (flats : List Segment) (lawful : IsLawful flats) (y : ℕ) (inside : IsHeld flats y) where
  anc-of : (z : ℕ) → Reaches (table_graph flats) y z → sets.ancestors (table_graph flats) (λ z. z ≡ y) z
  anc-of z r = (y, refl, r)

  of-anc : (z : ℕ) → sets.ancestors (table_graph flats) (λ z. z ≡ y) z → Reaches (table_graph flats) y z
  of-anc z h = subst (λ m. Reaches (table_graph flats) m z) h.1 h.2

  own-held : (x : ℕ) → x ≡ y → IsHeld flats x
  own-held x e = subst (IsHeld flats) (sym e) inside

  pub pending-start : (work : List ℕ) → ((w : ℕ) → IsIn w work → w ≡ y) → IsIn y work → Pending flats y (2 ^ 57) work
  pending-start work only own = record {
    pending = frontier-none flats lawful (λ z. z ≡ y) own-held work (λ w i. (y, refl, ([], sym (only w i))));
    own = λ _. own;
  }

  module _ (a : ℕ) (before after : List ℕ) (p : Pending flats y a before) where
    module _ (r : Option ℕ) (peeks : Peeks before after a r) where
      still : IsFrontier flats (λ z. z ≡ y) a after
      still = frontier-kept flats lawful (λ z. z ≡ y) a before after peeks.keeps p.pending

      y-in : y < a → IsIn y after
      y-in lt = peeks.keeps.lost y (p.own lt) lt

    module _ (peeks : Peeks before after a None) where
      pub reaches-none : (x : ℕ) → x < a → Reaches (table_graph flats) y x → ⊥
      reaches-none x lt r =
          none-below flats lawful (λ z. z ≡ y) a after (still None peeks)
          (λ w t la. ⊎_elim (λ m. peeks.greatest y (y-in None peeks (subst (λ n. n < a) m la)) (subst (λ n. n < a) m la)) (λ i. peeks.greatest w i la) t)
          x (anc-of x r) lt

    module _ (id : ℕ) (peeks : Peeks before after a (Some id)) where
      top : IsGreatest (ToVisit (λ z. z ≡ y) after) a id
      top = record {
        is = inr peeks.greatest.is;
        under = peeks.greatest.under;
        greatest = λ w t la. ⊎_elim
            (λ (e : w ≡ y). let ya : y < a = omega arith in let le = peeks.greatest.greatest y (y-in (Some id) peeks ya) ya in omega arith)
            (λ i. peeks.greatest.greatest w i la) t;
      }

      pub reaches-at_most : (x : ℕ) → x < a → Reaches (table_graph flats) y x → x ≤ id
      reaches-at_most x lt r = anc-at_most flats lawful (λ z. z ≡ y) a after (still (Some id) peeks) id top x (anc-of x r) lt

      pub id-held : IsHeld flats id
      id-held = anc-inside flats lawful (λ z. z ≡ y) own-held id (anc-top flats lawful (λ z. z ≡ y) a after (still (Some id) peeks) id top)

      reaches-id : Reaches (table_graph flats) y id
      reaches-id = of-anc id (anc-top flats lawful (λ z. z ≡ y) a after (still (Some id) peeks) id top)

      module _ (low : ℕ) (parents : List ℕ) (jump : IsJump (table_graph flats) low id parents) where
        pub reaches-in : (x : ℕ) → low ≤ x → x ≤ id → Reaches (table_graph flats) y x
        reaches-in x a b = reaches-trans (table_graph flats) y id x reaches-id (jump.reaches x a b)

        pub falls : low < a
        falls = let o = jump.order in let u = peeks.greatest.under in omega arith

        pub pending-turn : (more : List ℕ) → ((w : ℕ) → IsIn w more ↔ (IsIn w after ⊎ IsIn w parents)) → Pending flats y low more
        pending-turn more pushed =
            let order = jump.order in let u = peeks.greatest.under in
            record {
              pending = frontier-jump flats lawful (λ z. z ≡ y) a after (still (Some id) peeks) id top low parents more jump pushed;
              own = λ lt. (pushed y).1 (inl (y-in (Some id) peeks (omega arith)));
            }
