-- A visit of what one set reaches and another doesn't.
use Rattle.std.proofs.Common.{◌≡◌, ℕ, suc, ◌<◌, ◌≤◌, ◌^◌, ◌⊎◌, inl, inr, ◌↔◌, List, [], Option, Some, None, max, sym, subst, arith, ⊎_elim}
use Rattle.std.specs.Prelude.{MatchOption, ⊤}
use Rattle.id_groups.specs.declared.span.IdSpan.{IdSpan}
use Rattle.commit_graph.specs.Sets as sets
use Rattle.segment_codec.specs.Record.{Segment}
use Rattle.segment_codec.specs.Table.{IsHeld, IsLawful}
use Rattle.segment_codec.proofs.Tables.{le_or_lt, parent-below}
use Rattle.span_set.specs.Members.{IsMember}
use Rattle.ancestor_query.specs.Graph.{table_graph, IsJump}
use Rattle.ancestor_query.specs.Visits.{ToVisit, Keeps, IsGreatest, Greatest, IsNext}
use Rattle.ancestor_query.proofs.Down.{anc-reach, anc-parent, anc-inside, anc-bound}
use Rattle.common_ancestor.specs.Jumps.{IsFloor, IsJumpAbove}
use Rattle.common_ancestor.specs.Turns.{first_above, greater_with, Puts, PutsEither}
use Rattle.common_ancestor.proofs.Jumps.{IsStep, jump-step}
use Rattle.common_ancestor.proofs.Sides.{Side, side-all, side-under, side-kept, side-visit, side-step, side-none}

-- The answer has exactly what A reaches and B doesn't, from the frontier on. Of what A reaches, what B reaches too is left.
pub record OnlyVisits (flats : List Segment) (A B : ℕ → Type 0) (frontier : ℕ) (mine theirs : List ℕ) (answer : List IdSpan) : Type 0 where
  pub exact : (x : ℕ) → IsMember answer x ↔ (sets.only (table_graph flats) A B x × (frontier ≤ x))
  pub own : Side flats A (sets.ancestors (table_graph flats) B) frontier mine
  pub other : Side flats B (λ _. ⊥) frontier theirs

first_over : (low : ℕ) (r : Option ℕ) (start : ℕ) → start ≡ first_above low r → low ≤ start
first_over low None start e = omega arith
first_over low (Some y) start e = omega arith

module _ (flats : List Segment) (lawful : IsLawful flats) (A B : ℕ → Type 0) where
  abbrev Anc : (ℕ → Type 0) → ℕ → Type 0
  Anc S z = sets.ancestors (table_graph flats) S z

  pub only-kept : (a : ℕ) (mine theirs mine2 theirs2 : List ℕ) (answer : List IdSpan) → Keeps mine mine2 a → Keeps theirs theirs2 a
      → OnlyVisits flats A B a mine theirs answer → OnlyVisits flats A B a mine2 theirs2 answer
  only-kept a mine theirs mine2 theirs2 answer k l v = record {
    exact = v.exact;
    own = side-kept flats lawful A (Anc B) a mine v.own mine2 k;
    other = side-kept flats lawful B (λ _. ⊥) a theirs v.other theirs2 l;
  }

  module _ (a : ℕ) (mine theirs : List ℕ) (answer : List IdSpan) (v : OnlyVisits flats A B a mine theirs answer) where
    -- what A reaches below the frontier lies no higher than the greatest that waits for it, or B reaches it
    own-at_most : (m : ℕ) → ((w : ℕ) → ToVisit A mine w → w < a → w ≤ m) → (z : ℕ) → Anc A z → z < a → (z ≤ m) ⊎ Anc B z
    own-at_most m top = side-all flats lawful A (Anc B) a mine v.own (λ z. (z ≤ m) ⊎ Anc B z)
        (λ u p q i. ⊎_elim (λ (le : u ≤ m). let lt = (parent-below flats lawful u p i).0 in inl (omega arith)) (λ b. inr (anc-parent flats lawful B u p b i)) q)
        (λ w h lt. inl (top w h lt)) (λ p h lt. inr h)

    other-under : (bound : ℕ) → ((w : ℕ) → ToVisit B theirs w → w < a → w < bound) → (z : ℕ) → Anc B z → z < a → z < bound
    other-under bound top = side-under flats lawful B (λ _. ⊥) a theirs v.other bound top (λ p n lt. absurd n)

    -- nothing of B is in the segment below the id: its ids are A's alone
    pub mine-turn : (x : ℕ) (s : Segment) (more : List ℕ) (longer : List IdSpan) → IsGreatest (ToVisit A mine) a x → IsJump (table_graph flats) s.low x s.parents
        → ((w : ℕ) → ToVisit B theirs w → w < a → w < s.low) → Puts mine s.parents more
        → ((z : ℕ) → IsMember longer z ↔ (IsMember answer z ⊎ ((s.low ≤ z) × (z ≤ x)))) → OnlyVisits flats A B s.low more theirs longer
    mine-turn x s more longer top jump none put added =
        let order = jump.order in let under = top.under in
        let here : Anc A x = side-visit flats lawful A (Anc B) a mine v.own x top.is in
        record {
          exact = λ z. (
            λ m. ⊎_elim (λ o. let e = (v.exact z).0 o in let le = e.1 in (e.0, omega arith))
                (λ i. let le = i.1 in ((anc-reach flats lawful A x z here (jump.reaches z i.0 i.1), λ b. let lt = other-under s.low none z b (omega arith) in let ge = i.0 in absurd (omega arith)), i.0)) ((added z).0 m),
            λ h. (added z).1 (⊎_elim (λ (le : a ≤ z). inl ((v.exact z).1 (h.0, le)))
                (λ (lt : z < a). ⊎_elim (λ (le : z ≤ x). inr (h.1, le)) (λ b. absurd (h.0.1 b)) (own-at_most x top.greatest z h.0.0 lt)) (le_or_lt a z)),
          );
          own = side-step flats lawful A (Anc B) a mine v.own (Anc B) s.low more (omega arith) (λ w i. (put.put w).1 (inl i))
              (λ w i. ⊎_elim (λ o. v.own.sound w o) (λ p. let h = jump.only w p in anc-parent flats lawful A h.1 w (anc-reach flats lawful A x h.1 here (jump.reaches h.1 h.2 h.3)) h.4) ((put.put w).0 i))
              (λ p h. h)
              (λ y p ay low lt i out. ⊎_elim (λ (le : y ≤ x). inl ((put.put p).1 (inr (jump.out y p low le i out)))) (λ b. inr (anc-parent flats lawful B y p b i)) (own-at_most x top.greatest y ay lt));
          other = side-step flats lawful B (λ _. ⊥) a theirs v.other (λ _. ⊥) s.low theirs (omega arith) (λ w i. i) v.other.sound (λ p h. h)
              (λ y p ay low lt i out. let lt2 = other-under s.low none y ay lt in absurd (omega arith));
        }

    -- B reaches y in the segment: of its ids those above are A's alone
    pub theirs-turn : (x y : ℕ) (s : Segment) (more : List ℕ) (longer : List IdSpan) → ((w : ℕ) → ToVisit A mine w → w < a → w ≤ x)
        → x < a → (y < x → ToVisit A mine x) → IsStep flats x y s.low s.parents
        → IsGreatest (ToVisit B theirs) a y → y ≤ x → s.low ≤ y → Puts theirs s.parents more
        → ((z : ℕ) → IsMember longer z ↔ (IsMember answer z ⊎ ((suc y ≤ z) × (z ≤ x)))) → OnlyVisits flats A B s.low mine more longer
    theirs-turn x y s more longer top under own step reached yx low put added =
        let jump = step.jump in
        let order = jump.order in
        let below_y = step.shared low yx in
        let there : Anc B y = side-visit flats lawful B (λ _. ⊥) a theirs v.other y reached.is in
        let none : (z : ℕ) → Anc B z → z < a → z < suc y = other-under (suc y) (λ w h lt. let le = reached.greatest w h lt in omega arith) in
        record {
          exact = λ z. (
            λ m. ⊎_elim (λ o. let e = (v.exact z).0 o in let le = e.1 in (e.0, omega arith))
                (λ i. let ge = i.0 in let le = i.1 in
                let here : Anc A x = side-visit flats lawful A (Anc B) a mine v.own x (own (omega arith)) in
                ((anc-reach flats lawful A x z here (jump.reaches z (omega arith) i.1), λ b. let lt = none z b (omega arith) in absurd (omega arith)), omega arith)) ((added z).0 m),
            λ h. (added z).1 (⊎_elim (λ (le : a ≤ z). inl ((v.exact z).1 (h.0, le)))
                (λ (lt : z < a). ⊎_elim
                (λ (le : z ≤ x). ⊎_elim (λ (zy : z ≤ y). absurd (h.0.1 (anc-reach flats lawful B y z there (below_y.reaches z h.1 zy)))) (λ (yz : y < z). inr (omega arith, le)) (le_or_lt z y))
                (λ b. absurd (h.0.1 b)) (own-at_most x top z h.0.0 lt)) (le_or_lt a z)),
          );
          own = side-step flats lawful A (Anc B) a mine v.own (Anc B) s.low mine (omega arith) (λ w i. i) v.own.sound (λ p h. h)
              (λ z p az ge lt i out. inr (⊎_elim
              (λ (le : z ≤ x). ⊎_elim
              (λ (zy : z ≤ y). anc-parent flats lawful B z p (anc-reach flats lawful B y z there (below_y.reaches z ge zy)) i)
              (λ (yz : y < z). let h = below_y.only p (jump.out z p ge le i out) in anc-parent flats lawful B h.1 p (anc-reach flats lawful B y h.1 there (below_y.reaches h.1 h.2 h.3)) h.4)
              (le_or_lt z y))
              (λ b. anc-parent flats lawful B z p b i) (own-at_most x top z az lt)));
          other = side-step flats lawful B (λ _. ⊥) a theirs v.other (λ _. ⊥) s.low more (omega arith) (λ w i. (put.put w).1 (inl i))
              (λ w i. ⊎_elim (λ o. v.other.sound w o) (λ p. let h = below_y.only w p in anc-parent flats lawful B h.1 w (anc-reach flats lawful B y h.1 there (below_y.reaches h.1 h.2 h.3)) h.4) ((put.put w).0 i))
              (λ p h. h)
              (λ z p az ge lt i out. let le = none z az lt in inl ((put.put p).1 (inr (below_y.out z p ge (omega arith) i out))));
        }

    -- a turn: the greatest that waits, of either side, and its segment
    module _ (m : ℕ) (top : IsGreatest (ToVisit A mine) a m) where
      only-turn-own : (x : ℕ) (s : Segment) (start : ℕ) (more_mine more_theirs : List ℕ) (longer : List IdSpan) → x ≡ m → start ≡ s.low → IsJump (table_graph flats) s.low x s.parents
          → ((w : ℕ) → ToVisit B theirs w → w < a → w < s.low) → PutsEither s.low start s.parents mine theirs more_mine more_theirs
          → ((z : ℕ) → IsMember longer z ↔ (IsMember answer z ⊎ ((start ≤ z) × (z ≤ x)))) → OnlyVisits flats A B s.low more_mine more_theirs longer
      only-turn-own x s start more_mine more_theirs longer ex es jump none puts added =
          ⊎_elim (λ h. let lt = h.0 in absurd (omega arith))
          (λ h. subst (λ t. OnlyVisits flats A B s.low more_mine t longer) (sym h.2)
          (mine-turn x s more_mine longer (subst (IsGreatest (ToVisit A mine) a) (sym ex) top) jump none h.1
          (subst (λ q. (z : ℕ) → IsMember longer z ↔ (IsMember answer z ⊎ ((q ≤ z) × (z ≤ x)))) es added))) puts

      pub only-turn : (x floor : ℕ) (s : Segment) (r : Option ℕ) (start : ℕ) (more_mine more_theirs : List ℕ) (longer : List IdSpan)
          → Greatest (ToVisit B theirs) a r → x ≡ greater_with m r → start ≡ first_above s.low r → IsJumpAbove flats x floor s → MatchOption r ⊤ (λ y. IsFloor x y floor)
          → PutsEither s.low start s.parents mine theirs more_mine more_theirs
          → ((z : ℕ) → IsMember longer z ↔ (IsMember answer z ⊎ ((start ≤ z) × (z ≤ x)))) → OnlyVisits flats A B s.low more_mine more_theirs longer
      only-turn x floor s None start more_mine more_theirs longer reached ex es goes free puts added =
          only-turn-own x s start more_mine more_theirs longer ex es goes.jump (λ w t lt. absurd (reached w t lt)) puts added
      only-turn x floor s (Some y) start more_mine more_theirs longer reached ex es goes free puts added =
          let um = top.under in let uy = reached.under in
          let step = jump-step flats lawful x floor s y goes free in
          ⊎_elim
          (λ (low : s.low ≤ y).
          let est : start ≡ suc y = omega arith in
          ⊎_elim
          (λ h. subst (λ t. OnlyVisits flats A B s.low t more_theirs longer) (sym h.1)
          (theirs-turn x y s more_theirs longer (λ w t lt. let le = top.greatest w t lt in omega arith) (omega arith)
          (λ lt. let e : m ≡ x = omega arith in subst (ToVisit A mine) e top.is) step reached (omega arith) low h.2
          (subst (λ q. (z : ℕ) → IsMember longer z ↔ (IsMember answer z ⊎ ((q ≤ z) × (z ≤ x)))) est added)))
          (λ h. let le = h.0 in absurd (omega arith)) puts)
          (λ (under : y < s.low).
          let inside = goes.jump.order in
          only-turn-own x s start more_mine more_theirs longer (omega arith) (omega arith) goes.jump
          (λ w t lt. let le = reached.greatest w t lt in omega arith) puts added)
          (le_or_lt s.low y)

      pub only-under : (r : Option ℕ) → Greatest (ToVisit B theirs) a r → greater_with m r < a
      only-under None reached = top.under
      only-under (Some y) reached = let um = top.under in let uy = reached.under in omega arith

      pub only-held : ((x : ℕ) → A x → IsHeld flats x) → ((x : ℕ) → B x → IsHeld flats x) → (r : Option ℕ) → Greatest (ToVisit B theirs) a r → IsHeld flats (greater_with m r)
      only-held inside_a inside_b None reached = anc-inside flats lawful A inside_a m (side-visit flats lawful A (Anc B) a mine v.own m top.is)
      only-held inside_a inside_b (Some y) reached =
          ⊎_elim
          (λ (le : m ≤ y). let e : y ≡ max m y = omega arith in
          subst (IsHeld flats) e (anc-inside flats lawful B inside_b y (side-visit flats lawful B (λ _. ⊥) a theirs v.other y reached.is)))
          (λ (lt : y < m). let e : m ≡ max m y = omega arith in
          subst (IsHeld flats) e (anc-inside flats lawful A inside_a m (side-visit flats lawful A (Anc B) a mine v.own m top.is)))
          (le_or_lt m y)

    pub only-done : Greatest (ToVisit A mine) a None → (z : ℕ) → IsMember answer z ↔ sets.only (table_graph flats) A B z
    only-done none z = (
      λ m. ((v.exact z).0 m).0,
      λ h. ⊎_elim (λ (le : a ≤ z). (v.exact z).1 (h, le))
          (λ (lt : z < a). absurd (h.1 (side-all flats lawful A (Anc B) a mine v.own (Anc B) (λ u p b i. anc-parent flats lawful B u p b i) (λ w t wa. absurd (none w t wa)) (λ p b pa. b) z h.0 lt)))
          (le_or_lt a z),
    )

  -- the same by what the two look-ups of a turn give
  module _ (a : ℕ) (mine theirs mine2 theirs2 : List ℕ) (answer : List IdSpan) (v : OnlyVisits flats A B a mine theirs answer)
      (m : ℕ) (r : Option ℕ) (next : IsNext A mine mine2 a (Some m)) (reached : IsNext B theirs theirs2 a r) (x : ℕ) (ex : x ≡ greater_with m r) where
    kept2 : OnlyVisits flats A B a mine2 theirs2 answer
    kept2 = only-kept a mine theirs mine2 theirs2 answer next.keeps reached.keeps v

    pub turn-held : ((z : ℕ) → A z → IsHeld flats z) → ((z : ℕ) → B z → IsHeld flats z) → IsHeld flats x
    turn-held inside_a inside_b = subst (IsHeld flats) (sym ex) (only-held a mine2 theirs2 answer kept2 m next.greatest inside_a inside_b r reached.greatest)

    module _ (s : Segment) (floor : ℕ) (goes : IsJumpAbove flats x floor s) (low start : ℕ) (el : low ≡ s.low) (es : start ≡ first_above low r) where
      pub turn-falls : low < a
      turn-falls = let under = only-under a mine2 theirs2 answer kept2 m next.greatest r reached.greatest in let le = goes.jump.order in omega arith

      -- the ids taken are of one group
      pub turn-group : start < 2 ^ 56 → x < 2 ^ 56
      turn-group lt =
          let over : low ≤ start = first_over low r start es in goes.group (omega arith)

      pub turn-visits : (ids more_mine more_theirs : List ℕ) (longer : List IdSpan) → MatchOption r ⊤ (λ y. IsFloor x y floor) → ids ≡ s.parents → PutsEither low start ids mine2 theirs2 more_mine more_theirs
          → ((z : ℕ) → IsMember longer z ↔ (IsMember answer z ⊎ ((start ≤ z) × (z ≤ x)))) → OnlyVisits flats A B low more_mine more_theirs longer
      turn-visits ids more_mine more_theirs longer free ei puts added =
          subst (λ l. OnlyVisits flats A B l more_mine more_theirs longer) (sym el)
          (only-turn a mine2 theirs2 answer kept2 m next.greatest x floor s r start more_mine more_theirs longer reached.greatest ex
          (subst (λ l. start ≡ first_above l r) el es) goes free
          (subst (λ l. PutsEither l start s.parents mine2 theirs2 more_mine more_theirs) el (subst (λ i. PutsEither low start i mine2 theirs2 more_mine more_theirs) ei puts)) added)

  module _ (inside_a : (x : ℕ) → A x → IsHeld flats x) (inside_b : (x : ℕ) → B x → IsHeld flats x) where
    pub only-none : OnlyVisits flats A B (2 ^ 57) [] [] []
    only-none = record {
      exact = λ z. (λ m. absurd m, λ h. let lt = anc-bound flats lawful A inside_a z h.0.0 in let le = h.1 in absurd (omega arith));
      own = side-none flats lawful A inside_a (Anc B);
      other = side-none flats lawful B inside_b (λ _. ⊥);
    }
