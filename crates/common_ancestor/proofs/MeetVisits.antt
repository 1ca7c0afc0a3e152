-- A visit of what two sets both reach.
use Rattle.std.proofs.Common.{◌≡◌, ℕ, suc, ◌<◌, ◌≤◌, ◌^◌, ◌⊎◌, inl, inr, ◌↔◌, List, [], ◌∷◌, Option, Some, None, min, max, refl, sym, subst, ap, arith, ⊎_elim}
use Rattle.id_groups.specs.Lists.{IsIn}
use Rattle.id_groups.specs.declared.span.IdSpan.{IdSpan}
use Rattle.commit_graph.specs.Graph.{Reaches}
use Rattle.commit_graph.specs.Sets as sets
use Rattle.commit_graph.proofs.Walks.{reaches-self, reaches-trans}
use Rattle.segment_codec.specs.Record.{Segment}
use Rattle.segment_codec.specs.Table.{IsHeld, IsLawful}
use Rattle.segment_codec.proofs.Tables.{le_or_lt, parent-below}
use Rattle.span_set.specs.Members.{IsMember}
use Rattle.ancestor_query.specs.Graph.{table_graph, IsJump}
use Rattle.ancestor_query.specs.Visits.{ToVisit, Keeps, IsGreatest, Greatest}
use Rattle.ancestor_query.proofs.Down.{anc-reach, anc-parent, anc-inside, anc-bound}
use Rattle.common_ancestor.specs.Turns.{Puts}
use Rattle.common_ancestor.specs.Meets.{AreLast, greatest_of, shared_of, PutsOne, AddsShared}
use Rattle.common_ancestor.proofs.Jumps.{IsStep}
use Rattle.common_ancestor.proofs.Sides.{Side, side-all, side-under, side-visit, side-step, side-none}

-- what both sets reach
abbrev pub Both : List Segment → (ℕ → Type 0) → (ℕ → Type 0) → ℕ → Type 0
Both flats A B x = sets.ancestors (table_graph flats) A x × sets.ancestors (table_graph flats) B x

-- Of what both reach, each id from the frontier on is reached from the answer, whose ids are no parents of such. What waits
-- for both are parents of such, among them each below the frontier of one from it on.
pub record Shared (flats : List Segment) (A B : ℕ → Type 0) (frontier : ℕ) (both : List ℕ) (answer : List IdSpan) : Type 0 where
  pub sound : (x : ℕ) → IsMember answer x → Both flats A B x × (sets.parents (table_graph flats) (Both flats A B) x → ⊥)
  pub reached : (x : ℕ) → Both flats A B x → frontier ≤ x → sets.ancestors (table_graph flats) (IsMember answer) x
  pub waits : (w : ℕ) → IsIn w both → sets.parents (table_graph flats) (Both flats A B) w × sets.ancestors (table_graph flats) (IsMember answer) w
  pub whole : (y p : ℕ) → Both flats A B y → frontier ≤ y → IsIn p ((table_graph flats).parents y) → p < frontier → IsIn p both

-- On either side what waits for both is left.
pub record MeetVisits (flats : List Segment) (A B : ℕ → Type 0) (frontier : ℕ) (lefts rights both : List ℕ) (answer : List IdSpan) : Type 0 where
  pub left : Side flats A (λ p. IsIn p both) frontier lefts
  pub right : Side flats B (λ p. IsIn p both) frontier rights
  pub shared : Shared flats A B frontier both answer

none-some : (y : ℕ) → None ≡ Some y → ⊥
none-some y e = cc

some-number : (k y : ℕ) → Some k ≡ Some y → k ≡ y
some-number k y e = cc

module _ (flats : List Segment) (lawful : IsLawful flats) where
  abbrev Anc : (ℕ → Type 0) → ℕ → Type 0
  Anc S z = sets.ancestors (table_graph flats) S z

  -- one side's part of a turn
  module _ (S : ℕ → Type 0) (a : ℕ) (work both : List ℕ) (side : Side flats S (λ p. IsIn p both) a work) where
    pub side-bound : (bound : ℕ) → ((w : ℕ) → ToVisit S work w → w < a → w < bound) → ((w : ℕ) → IsIn w both → w < a → w < bound) → (z : ℕ) → Anc S z → z < a → z < bound
    side-bound bound here left = side-under flats lawful S (λ p. IsIn p both) a work side bound here left

    pub side-dropped : (after2 both2 : List ℕ) → Keeps work after2 a → Keeps both both2 a → Side flats S (λ p. IsIn p both2) a after2
    side-dropped after2 both2 k l = record {
      sound = λ w i. side.sound w (k.kept w i);
      whole = λ y p ay le i lt. ⊎_elim (λ j. inl (k.lost p j lt)) (λ h. inr (l.lost p h lt)) (side.whole y p ay le i lt);
    }

    -- the segment's parents went to the side's own list
    pub side-own : (x : ℕ) (s : Segment) (more : List ℕ) → IsJump (table_graph flats) s.low x s.parents → Anc S x → x < a → ((z : ℕ) → Anc S z → z < a → z ≤ x) → Puts work s.parents more
        → Side flats S (λ p. IsIn p both) s.low more
    side-own x s more jump here under top put =
        let order = jump.order in
        side-step flats lawful S (λ p. IsIn p both) a work side (λ p. IsIn p both) s.low more (omega arith) (λ w i. (put.put w).1 (inl i))
        (λ w i. ⊎_elim (λ o. side.sound w o) (λ p. let h = jump.only w p in anc-parent flats lawful S h.1 w (anc-reach flats lawful S x h.1 here (jump.reaches h.1 h.2 h.3)) h.4) ((put.put w).0 i))
        (λ p h. h)
        (λ y p ay low lt i out. inl ((put.put p).1 (inr (jump.out y p low (top y ay lt) i out))))

    -- they went to the list of both
    pub side-both : (x : ℕ) (s : Segment) (more : List ℕ) → IsJump (table_graph flats) s.low x s.parents → x < a → ((z : ℕ) → Anc S z → z < a → z ≤ x) → Puts both s.parents more
        → Side flats S (λ p. IsIn p more) s.low work
    side-both x s more jump under top put =
        let order = jump.order in
        side-step flats lawful S (λ p. IsIn p both) a work side (λ p. IsIn p more) s.low work (omega arith) (λ w i. i) side.sound
        (λ p h. (put.put p).1 (inl h))
        (λ y p ay low lt i out. inr ((put.put p).1 (inr (jump.out y p low (top y ay lt) i out))))

    -- the side reaches nothing in the segment
    pub side-past : (low : ℕ) → low ≤ a → ((z : ℕ) → Anc S z → z < a → z < low) → Side flats S (λ p. IsIn p both) low work
    side-past low le none =
        side-step flats lawful S (λ p. IsIn p both) a work side (λ p. IsIn p both) low work le (λ w i. i) side.sound (λ p h. h)
        (λ y p ay ge lt i out. let under = none y ay lt in absurd (omega arith))

  module _ (A B : ℕ → Type 0) where
    abbrev C : ℕ → Type 0
    C z = Both flats A B z

    pub both-reach : (u z : ℕ) → C u → Reaches (table_graph flats) u z → C z
    both-reach u z h r = (anc-reach flats lawful A u z h.0 r, anc-reach flats lawful B u z h.1 r)

    pub both-parent : (u p : ℕ) → C u → IsIn p ((table_graph flats).parents u) → C p
    both-parent u p h i = both-reach u p h (p ∷ [], (i, refl))

    pub anc-more : (answer longer : List IdSpan) → ((z : ℕ) → IsMember answer z → IsMember longer z) → (z : ℕ) → Anc (IsMember answer) z → Anc (IsMember longer) z
    anc-more answer longer more z h = (h.0, more h.0 h.1, h.2)

    module _ (a : ℕ) (both : List ℕ) (answer : List IdSpan) (k : Shared flats A B a both answer) where
      pub shared-dropped : (both2 : List ℕ) → Keeps both both2 a → Shared flats A B a both2 answer
      shared-dropped both2 l = record {
        sound = k.sound;
        reached = k.reached;
        waits = λ w i. k.waits w (l.kept w i);
        whole = λ y p cy le i lt. l.lost p (k.whole y p cy le i lt) lt;
      }

      pub shared-same : (longer : List IdSpan) → ((z : ℕ) → IsMember longer z ↔ IsMember answer z) → Shared flats A B a both longer
      shared-same longer same =
          let grows : (z : ℕ) → IsMember answer z → IsMember longer z = λ z m. (same z).1 m in
          record {
            sound = λ z m. k.sound z ((same z).0 m);
            reached = λ z cz ge. anc-more answer longer grows z (k.reached z cz ge);
            waits = λ w i. let h = k.waits w i in (h.0, anc-more answer longer grows w h.1);
            whole = k.whole;
          }

      -- nothing of both is in the segment
      pub shared-past : (low : ℕ) → low ≤ a → ((z : ℕ) → C z → z < a → z < low) → Shared flats A B low both answer
      shared-past low le none = record {
        sound = k.sound;
        reached = λ z cz ge. ⊎_elim (λ (far : a ≤ z). k.reached z cz far) (λ (lt : z < a). let under = none z cz lt in absurd (omega arith)) (le_or_lt a z);
        waits = k.waits;
        whole = λ y p cy ge i lt. ⊎_elim (λ (far : a ≤ y). k.whole y p cy far i (omega arith)) (λ (near : y < a). let under = none y cy near in absurd (omega arith)) (le_or_lt a y);
      }

      -- both reach y, and nothing above it below the frontier; it is in the answer where it doesn't wait
      pub shared-turn : (x y : ℕ) (s : Segment) (more : List ℕ) (longer : List IdSpan) → IsStep flats x y s.low s.parents → x < a → s.low ≤ y → y ≤ x → C y
          → ((z : ℕ) → C z → z < a → z ≤ y) → Puts both s.parents more
          → (IsIn y both × ((z : ℕ) → IsMember longer z ↔ IsMember answer z)) ⊎ ((IsIn y both → ⊥) × ((z : ℕ) → IsMember longer z ↔ (IsMember answer z ⊎ (z ≡ y))))
          → Shared flats A B s.low more longer
      shared-turn x y s more longer step under low yx cy top put taken =
          let order = step.jump.order in
          let jump = step.shared low yx in
          let grows : (z : ℕ) → IsMember answer z → IsMember longer z = λ z m. ⊎_elim (λ t. (t.1 z).1 m) (λ t. (t.1 z).1 (inl m)) taken in
          let from_y : Anc (IsMember longer) y =
          ⊎_elim (λ t. anc-more answer longer grows y (k.waits y t.0).1) (λ t. (y, (t.1 y).1 (inr refl), reaches-self (table_graph flats) y)) taken in
          let near : (z : ℕ) → C z → s.low ≤ z → z < a → Anc (IsMember longer) z =
          λ z cz ge lt. (from_y.0, from_y.1, reaches-trans (table_graph flats) from_y.0 y z from_y.2 (jump.reaches z ge (top z cz lt))) in
          record {
            sound = λ z m. ⊎_elim
                (λ t. k.sound z ((t.1 z).0 m))
                (λ t. ⊎_elim (λ o. k.sound z o)
                (λ e. subst (λ q. C q × (sets.parents (table_graph flats) C q → ⊥)) (sym e) (
                  cy,
                  λ p. let lt = (parent-below flats lawful p.0 y p.2).0 in
                      ⊎_elim (λ (far : a ≤ p.0). t.0 (k.whole p.0 y p.1 far p.2 (omega arith))) (λ (pa : p.0 < a). let le = top p.0 p.1 pa in absurd (omega arith)) (le_or_lt a p.0),
                ))
                ((t.1 z).0 m)) taken;
            reached = λ z cz ge. ⊎_elim (λ (far : a ≤ z). anc-more answer longer grows z (k.reached z cz far)) (λ (lt : z < a). near z cz ge lt) (le_or_lt a z);
            waits = λ w i. ⊎_elim (λ o. let h = k.waits w o in (h.0, anc-more answer longer grows w h.1))
                (λ p. let h = jump.only w p in
                let le = h.3 in
                let cc_h : C h.1 = both-reach y h.1 cy (jump.reaches h.1 h.2 h.3) in
                ((h.1, cc_h, h.4), anc-parent flats lawful (IsMember longer) h.1 w (near h.1 cc_h h.2 (omega arith)) h.4)) ((put.put w).0 i);
            whole = λ z p cz ge i lt. (put.put p).1 (⊎_elim (λ (far : a ≤ z). inl (k.whole z p cz far i (omega arith)))
                (λ (pa : z < a). inr (jump.out z p ge (top z cz pa) i lt)) (le_or_lt a z));
          }

    -- One turn: the greatest that wait on either side and for both, the segment of the greatest of all, and the greatest id
    -- that both are known to reach if it is in that segment.
    module _ (a : ℕ) (lefts rights both : List ℕ) (answer : List IdSpan) (v : MeetVisits flats A B a lefts rights both answer) where
      wait-c : (k : ℕ) → IsIn k both → C k
      wait-c k i = let h = (v.shared.waits k i).0 in both-parent h.0 k h.1 h.2

      module _ (l r : ℕ) (top_l : IsGreatest (ToVisit A lefts) a l) (top_r : IsGreatest (ToVisit B rights) a r) where
        here-l : Anc A l
        here-l = side-visit flats lawful A (λ p. IsIn p both) a lefts v.left l top_l.is

        here-r : Anc B r
        here-r = side-visit flats lawful B (λ p. IsIn p both) a rights v.right r top_r.is

        left-under : (bound : ℕ) → l < bound → ((w : ℕ) → IsIn w both → w < a → w < bound) → (z : ℕ) → Anc A z → z < a → z < bound
        left-under bound lt waits = side-bound A a lefts both v.left bound (λ w t wa. let le = top_l.greatest w t wa in omega arith) waits

        right-under : (bound : ℕ) → r < bound → ((w : ℕ) → IsIn w both → w < a → w < bound) → (z : ℕ) → Anc B z → z < a → z < bound
        right-under bound lt waits = side-bound B a rights both v.right bound (λ w t wa. let le = top_r.greatest w t wa in omega arith) waits

        -- the lesser of two that wait is reached from the segment's greatest
        lesser-c : (x y : ℕ) (s : Segment) → IsJump (table_graph flats) s.low x s.parents → x ≡ max l r → y ≡ min l r → s.low ≤ y → C y
        lesser-c x y s jump ex ey low =
            ⊎_elim
            (λ (le : l ≤ r). let el : l ≡ y = omega arith in let er : r ≡ x = omega arith in
            (subst (Anc A) el here-l, anc-reach flats lawful B x y (subst (Anc B) er here-r) (jump.reaches y low (omega arith))))
            (λ (lt : r < l). let er : r ≡ y = omega arith in let el : l ≡ x = omega arith in
            (anc-reach flats lawful A x y (subst (Anc A) el here-l) (jump.reaches y low (omega arith)), subst (Anc B) er here-r))
            (le_or_lt l r)

        module _ (x y : ℕ) where
          -- what holds of the two ids of a turn
          pub record Tops (s : Segment) (o : Option ℕ) : Type 0 where
            pub under : x < a
            pub order : y ≤ x
            pub of_left : (z : ℕ) → Anc A z → z < a → z ≤ x
            pub of_right : (z : ℕ) → Anc B z → z < a → z ≤ x
            pub of_both : (z : ℕ) → C z → z < a → z ≤ y
            pub is_both : s.low ≤ y → C y
            pub waiting : (IsIn y both × (o ≡ Some y)) ⊎ ((IsIn y both → ⊥) × (o ≡ Some y → ⊥))
            pub passed : y < s.low → (x ≡ max l r) × (min l r < s.low) × ((w : ℕ) → IsIn w both → w < a → w < s.low)

          module _ (s : Segment) (step : IsStep flats x y s.low s.parents) where
            pub tops-of : (o : Option ℕ) → Greatest (λ w. IsIn w both) a o → x ≡ greatest_of l r o → y ≡ shared_of l r o → Tops s o
            tops-of None none ex ey =
                let ul = top_l.under in let ur = top_r.under in
                let waits : (bound w : ℕ) → IsIn w both → w < a → w < bound = λ bound w i wa. absurd (none w i wa) in
                record {
                  under = omega arith;
                  order = omega arith;
                  of_left = λ z az lt. let b = left-under (suc l) (omega arith) (waits (suc l)) z az lt in omega arith;
                  of_right = λ z bz lt. let b = right-under (suc r) (omega arith) (waits (suc r)) z bz lt in omega arith;
                  of_both = λ z cz lt. let b = left-under (suc l) (omega arith) (waits (suc l)) z cz.0 lt in let d = right-under (suc r) (omega arith) (waits (suc r)) z cz.1 lt in omega arith;
                  is_both = lesser-c x y s step.jump ex ey;
                  waiting = inr (λ i. none y i (omega arith), λ e. none-some y e);
                  passed = λ lt. (ex, omega arith, waits s.low);
                }
            tops-of (Some k) top ex ey =
                let ul = top_l.under in let ur = top_r.under in let uk = top.under in
                let waits : (bound : ℕ) → k < bound → (w : ℕ) → IsIn w both → w < a → w < bound = λ bound kb w i wa. let le = top.greatest w i wa in omega arith in
                record {
                  under = omega arith;
                  order = omega arith;
                  of_left = λ z az lt. let b = left-under (suc x) (omega arith) (waits (suc x) (omega arith)) z az lt in omega arith;
                  of_right = λ z bz lt. let b = right-under (suc x) (omega arith) (waits (suc x) (omega arith)) z bz lt in omega arith;
                  of_both = λ z cz lt.
                      let b = left-under (suc (max l k)) (omega arith) (waits (suc (max l k)) (omega arith)) z cz.0 lt in
                      let d = right-under (suc (max r k)) (omega arith) (waits (suc (max r k)) (omega arith)) z cz.1 lt in omega arith;
                  is_both = λ low. ⊎_elim
                      (λ (le : min l r ≤ k). let e : k ≡ y = omega arith in subst C e (wait-c k top.is))
                      (λ (lt : k < min l r). lesser-c x y s step.jump (omega arith) (omega arith) low) (le_or_lt (min l r) k);
                  waiting = ⊎_elim
                      (λ (le : y ≤ k). let e : k ≡ y = omega arith in inl (subst (λ w. IsIn w both) e top.is, ap (λ w. Some w) e))
                      (λ (lt : k < y). inr (λ i. let le = top.greatest y i (omega arith) in absurd (omega arith), λ e. let same = some-number k y e in absurd (omega arith))) (le_or_lt y k);
                  passed = λ lt. let inside = step.jump.order in (omega arith, omega arith, waits s.low (omega arith));
                }

            pub meet-turn : (o : Option ℕ) → Tops s o → (lefts2 rights2 both2 : List ℕ) (longer : List IdSpan)
                → PutsOne s.low y l r s.parents (lefts, rights, both) (lefts2, rights2, both2) → AddsShared s.low y o answer longer
                → MeetVisits flats A B s.low lefts2 rights2 both2 longer
            meet-turn o t lefts2 rights2 both2 longer puts adds =
                let inside = step.jump.order in
                let under = t.under in
                ⊎_elim
                (λ p. let low = p.0 in
                subst (λ q. MeetVisits flats A B s.low q rights2 both2 longer) (sym p.1)
                (subst (λ q. MeetVisits flats A B s.low lefts q both2 longer) (sym p.2)
                (record {
                  left = side-both A a lefts both v.left x s both2 step.jump t.under t.of_left p.3;
                  right = side-both B a rights both v.right x s both2 step.jump t.under t.of_right p.3;
                  shared = shared-turn a both answer v.shared x y s both2 longer step t.under p.0 t.order (t.is_both p.0) t.of_both p.3
                      (⊎_elim
                      (λ w. inl (w.0, λ z. (λ m. ⊎_elim (λ k. k) (λ h. absurd (h.2 (subst (λ q. o ≡ Some q) (sym h.0) w.1))) ((adds z).0 m), λ m. (adds z).1 (inl m))))
                      (λ w. inr (
                        w.0,
                        λ z. (
                          λ m. ⊎_elim (λ k. inl k) (λ h. inr h.0) ((adds z).0 m),
                          λ m. (adds z).1 (⊎_elim (λ k. inl k) (λ e. inr (e, subst (λ q. s.low ≤ q) (sym e) p.0, λ q. w.1 (subst (λ n. o ≡ Some n) e q))) m),
                        ),
                      ))
                      t.waiting);
                })))
                (λ rest.
                let low : y < s.low = ⊎_elim (λ p. p.0) (λ p. p.0) rest in
                let pass = t.passed low in
                let ex = pass.0 in let few = pass.1 in
                let same : (z : ℕ) → IsMember longer z ↔ IsMember answer z = λ z. (λ m. ⊎_elim (λ k. k) (λ h. let e = h.0 in let le = h.1 in absurd (omega arith)) ((adds z).0 m), λ m. (adds z).1 (inl m)) in
                ⊎_elim
                (λ p. let lr = p.1 in let er : r ≡ x = omega arith in
                subst (λ q. MeetVisits flats A B s.low q rights2 both2 longer) (sym p.2)
                (subst (λ q. MeetVisits flats A B s.low lefts rights2 q longer) (sym p.4)
                (record {
                  left = side-past A a lefts both v.left s.low (omega arith) (left-under s.low (omega arith) pass.2);
                  right = side-own B a rights both v.right x s rights2 step.jump (subst (Anc B) er here-r) t.under t.of_right p.3;
                  shared = shared-same s.low both answer (shared-past a both answer v.shared s.low (omega arith) (λ z cz lt. left-under s.low (omega arith) pass.2 z cz.0 lt)) longer same;
                })))
                (λ p. let rl = p.1 in let el : l ≡ x = omega arith in
                subst (λ q. MeetVisits flats A B s.low lefts2 q both2 longer) (sym p.3)
                (subst (λ q. MeetVisits flats A B s.low lefts2 rights q longer) (sym p.4)
                (record {
                  left = side-own A a lefts both v.left x s lefts2 step.jump (subst (Anc A) el here-l) t.under t.of_left p.2;
                  right = side-past B a rights both v.right s.low (omega arith) (right-under s.low (omega arith) pass.2);
                  shared = shared-same s.low both answer (shared-past a both answer v.shared s.low (omega arith) (λ z cz lt. right-under s.low (omega arith) pass.2 z cz.1 lt)) longer same;
                }))) rest) puts

        pub greatest-under : (o : Option ℕ) → Greatest (λ w. IsIn w both) a o → greatest_of l r o < a
        greatest-under None none = let ul = top_l.under in let ur = top_r.under in omega arith
        greatest-under (Some k) top = let ul = top_l.under in let ur = top_r.under in let uk = top.under in omega arith

        greater-held : ((z : ℕ) → A z → IsHeld flats z) → ((z : ℕ) → B z → IsHeld flats z) → (x : ℕ) → x ≡ max l r → IsHeld flats x
        greater-held inside_a inside_b x ex =
            ⊎_elim
            (λ (le : l ≤ r). let e : r ≡ x = omega arith in subst (IsHeld flats) e (anc-inside flats lawful B inside_b r here-r))
            (λ (lt : r < l). let e : l ≡ x = omega arith in subst (IsHeld flats) e (anc-inside flats lawful A inside_a l here-l))
            (le_or_lt l r)

        -- the greatest of all is held
        pub greatest-held : ((z : ℕ) → A z → IsHeld flats z) → ((z : ℕ) → B z → IsHeld flats z) → (o : Option ℕ) → Greatest (λ w. IsIn w both) a o
            → (x : ℕ) → x ≡ greatest_of l r o → IsHeld flats x
        greatest-held inside_a inside_b None none x ex = greater-held inside_a inside_b x ex
        greatest-held inside_a inside_b (Some k) top x ex =
            ⊎_elim
            (λ (le : max l r ≤ k). let e : k ≡ x = omega arith in subst (IsHeld flats) e (anc-inside flats lawful A inside_a k (wait-c k top.is).0))
            (λ (lt : k < max l r). greater-held inside_a inside_b x (omega arith)) (le_or_lt (max l r) k)

      -- where one side has nothing left that waits, all that both reach is reached from the answer
      done-side : (S : ℕ → Type 0) (work : List ℕ) → Side flats S (λ p. IsIn p both) a work → ((w : ℕ) → ToVisit S work w → w < a → ⊥) → (z : ℕ) → Anc S z → z < a → Anc (IsMember answer) z
      done-side S work side none = side-all flats lawful S (λ p. IsIn p both) a work side (Anc (IsMember answer))
          (λ u p h i. anc-parent flats lawful (IsMember answer) u p h i) (λ w t wa. absurd (none w t wa)) (λ p i pa. (v.shared.waits p i).1)

      pub meet-done : ((w : ℕ) → ToVisit A lefts w → w < a → ⊥) ⊎ ((w : ℕ) → ToVisit B rights w → w < a → ⊥) → (z : ℕ) → Anc (IsMember answer) z ↔ C z
      meet-done none z = (
        λ h. both-reach h.0 z (v.shared.sound h.0 h.1).0 h.2,
        λ cz. ⊎_elim (λ (le : a ≤ z). v.shared.reached z cz le)
            (λ (lt : z < a). ⊎_elim (λ n. done-side A lefts v.left n z cz.0 lt) (λ n. done-side B rights v.right n z cz.1 lt) none) (le_or_lt a z),
      )

      pub meet-last : AreLast (table_graph flats) (IsMember answer)
      meet-last x m p = (v.shared.sound x m).1 (p.0, both-reach p.1.0 p.0 (v.shared.sound p.1.0 p.1.1).0 p.1.2, p.2)

    pub meet-kept : (a : ℕ) (lefts rights both lefts2 rights2 both2 : List ℕ) (answer : List IdSpan) → Keeps lefts lefts2 a → Keeps rights rights2 a → Keeps both both2 a
        → MeetVisits flats A B a lefts rights both answer → MeetVisits flats A B a lefts2 rights2 both2 answer
    meet-kept a lefts rights both lefts2 rights2 both2 answer k l m v = record {
      left = side-dropped A a lefts both v.left lefts2 both2 k m;
      right = side-dropped B a rights both v.right rights2 both2 l m;
      shared = shared-dropped a both answer v.shared both2 m;
    }

    module _ (inside_a : (x : ℕ) → A x → IsHeld flats x) (inside_b : (x : ℕ) → B x → IsHeld flats x) where
      pub meet-none : MeetVisits flats A B (2 ^ 57) [] [] [] []
      meet-none = record {
        left = side-none flats lawful A inside_a (λ p. IsIn p []);
        right = side-none flats lawful B inside_b (λ p. IsIn p []);
        shared = record {
          sound = λ x m. absurd m;
          reached = λ x cx le. let lt = anc-bound flats lawful A inside_a x cx.0 in absurd (omega arith);
          waits = λ w i. absurd i;
          whole = λ y p cy le i lt. let b = anc-bound flats lawful A inside_a y cy.0 in absurd (omega arith);
        };
      }
