-- What holds at each turn of a walk down.
use Rattle.std.proofs.Common.{◌≡◌, ℕ, zero, suc, ◌-◌, ◌<◌, ◌≤◌, ◌^◌, ◌⊎◌, inl, inr, ◌↔◌, List, [], ◌∷◌, ◌++◌, Option, Some, None, length, take, drop, max, refl, sym, subst, arith, ⊎_elim, le_refl}
use Rattle.std.specs.Prelude.{slice_get}
use Rattle.id_groups.specs.Lists.{IsIn}
use Rattle.commit_graph.specs.Graph.{Reaches}
use Rattle.commit_graph.specs.Sets as sets
use Rattle.commit_graph.proofs.Naming.{each}
use Rattle.commit_graph.proofs.Walks.{reaches-self, reaches-parent, reaches-trans}
use Rattle.segment_codec.specs.Record.{Segment}
use Rattle.segment_codec.specs.Table.{IsInSegment, IsHeld, IsLawful}
use Rattle.segment_codec.proofs.Tables.{le_or_lt, parents-low, lawful-rising, AreRising}
use Rattle.ancestor_query.specs.Graph.{table_graph, IsJump}
use Rattle.ancestor_query.specs.Visits.{ToVisit, Keeps, IsGreatest, IsFrontier}
use Rattle.ancestor_query.specs.Window.{IsGreatestOf}
use Rattle.ancestor_query.proofs.Graphs.{flat-jump, reach-down, reached-below, held-bound}
use Rattle.ancestor_query.proofs.Down.{anc-reach, anc-inside, anc-top, below-frontier, frontier-kept, frontier-jump}
use Rattle.range_query.specs.Places.{IsOf}
use Rattle.range_query.specs.Cuts.{IsCut}
use Rattle.range_query.specs.Falls.{AreAbove, one_above, IsEndOf, IsOfBoth, IsLeastParent}
use Rattle.range_query.specs.declared.cut.Cut.{Cut}
use Rattle.range_query.proofs.Rows.{at-in, held-of, of-in, of-parts, of-take, of-before, at-or-behind}
use Rattle.range_query.proofs.FallLemmas.{end-lower}

pub both-list : (xs ys : List ℕ) (w : ℕ) → IsIn w (xs ++ ys) ↔ IsOfBoth xs ys w
both-list [] ys w = (λ i. inr i, λ h. ⊎_elim (λ n. absurd n) (λ i. i) h)
both-list (x ∷ xs) ys w =
    let h = both-list xs ys w in (
      λ q. ⊎_elim (λ e. inl (inl e)) (λ i. ⊎_elim (λ a. inl (inr a)) (λ b. inr b) (h.0 i)) q,
      λ q. ⊎_elim (λ a. ⊎_elim (λ e. inl e) (λ i. inr (h.1 (inl i))) a) (λ b. inr (h.1 (inr b))) q,
    )

pub end-of-window : (near : List ℕ) (low : ℕ) (o : Option ℕ) (n : ℕ) → n ≡ one_above o → IsGreatestOf near o → ((w : ℕ) → IsIn w near → w < low) → IsEndOf (λ w. IsIn w near) low n
end-of-window near low None n e g under = record {
  within = omega arith;
  is = λ some. absurd (omega arith);
  over = λ w i lt. absurd (g w i);
}
end-of-window near low (Some x) n e g under =
    let lt = under x g.0 in
    record {
      within = omega arith;
      is = λ some. let same : x ≡ n - 1 = omega arith in subst (λ y. IsIn y near) same g.0;
      over = λ w i less. let le = g.1 w i in omega arith;
    }

pub end-of-both : (P Q : ℕ → Type 0) (b m n r : ℕ) → r ≡ max m n → IsEndOf P b m → IsEndOf Q b n → IsEndOf (λ w. P w ⊎ Q w) b r
end-of-both P Q b m n r e f g =
    let fw = f.within in let gw = g.within in
    record {
      within = omega arith;
      is = λ some. ⊎_elim
          (λ (le : n ≤ m). let same : m ≡ r = omega arith in inl (subst (λ k. P (k - 1)) same (f.is (omega arith))))
          (λ (lt : m < n). let same : n ≡ r = omega arith in inr (subst (λ k. Q (k - 1)) same (g.is (omega arith)))) (le_or_lt n m);
      over = λ w h lt. ⊎_elim (λ p. let u = f.over w p lt in omega arith) (λ q. let u = g.over w q lt in omega arith) h;
    }

-- after what lies from a bound on is let go, and ids below it wait
module _ (low : ℕ) (parents near far near1 far1 near2 far2 : List ℕ) (slid : Keeps near near1 low) (dropped : Keeps far far1 low)
    (pushed : (w : ℕ) → IsOfBoth near2 far2 w ↔ (IsOfBoth near1 far1 w ⊎ IsIn w parents)) where
  pub visit-keeps : Keeps ((near ++ far) ++ parents) (near2 ++ far2) low
  visit-keeps = record {
    kept = λ w j. (both-list (near ++ far) parents w).1 (⊎_elim
        (λ q. inl ((both-list near far w).1 (⊎_elim (λ a. inl (slid.kept w a)) (λ b. inr (dropped.kept w b)) q)))
        (λ p. inr p) ((pushed w).0 ((both-list near2 far2 w).0 j)));
    lost = λ w j lt. (both-list near2 far2 w).1 ((pushed w).1 (⊎_elim
        (λ q. inl (⊎_elim (λ a. inl (slid.lost w a lt)) (λ b. inr (dropped.lost w b lt)) ((both-list near far w).0 q)))
        (λ p. inr p) ((both-list (near ++ far) parents w).0 j)));
  }

module _ (flats : List Segment) (S : ℕ → Type 0) (lowest : ℕ) where
  abbrev Anc : ℕ → Type 0
  Anc z = sets.ancestors (table_graph flats) S z

  -- all from `reached` and the lowest on is found, and one below `reached` is the greatest to visit; the segments from the place on begin no lower
  pub record Falls (place reached : ℕ) (near far : List ℕ) (least end : ℕ) (Found : ℕ → Type 0) (cuts : List Cut) : Type 0 where
    pub exact : (z : ℕ) → Found z ↔ (Anc z × (reached ≤ z) × (lowest ≤ z))
    pub pending : IsFrontier flats S reached (near ++ far)
    pub inside : (w : ℕ) → IsIn w near → w < reached
    pub ends : IsEndOf (ToVisit S far) reached end
    pub top : 0 < reached → ToVisit S (near ++ far) (reached - 1)
    pub above : (s : Segment) → IsIn s (drop place flats) → reached ≤ s.low
    pub ways : 0 < least → (z : ℕ) → Found z → (y : ℕ) × Reaches (table_graph flats) z y × (least ≤ y) × (y < reached)
    pub known : (c : Cut) → IsIn c cuts → (reached ≤ c.at) × IsCut (table_graph flats) Found c
    pub within : place ≤ length flats
    pub bound : reached ≤ 2 ^ 57

  module _ (lawful : IsLawful flats) (held : (x : ℕ) → S x → IsHeld flats x) where
    rising : AreRising flats
    rising = lawful-rising flats lawful

    pub falls-none : (place : ℕ) (far : List ℕ) (least end : ℕ) (Found : ℕ → Type 0) (cuts : List Cut) → Keeps [] far (2 ^ 57) → IsEndOf (ToVisit S far) (2 ^ 57) end
        → ((x : ℕ) → Found x → ⊥) → cuts ≡ [] → place ≤ length flats → ((x : ℕ) → S x → AreAbove x (drop place flats))
        → Falls place end [] far least end Found cuts
    falls-none place far least end Found cuts keeps ends none empty within over =
        let nothing : (w : ℕ) → IsIn w far → ⊥ = λ w i. keeps.kept w i in
        let under : (z : ℕ) → Anc z → z < end = λ z a. let lt = ends.over a.0 (inl a.1) (held-bound flats lawful a.0 (held a.0 a.1)) in let le = reached-below flats lawful a.0 z a.2 in omega arith in
        record {
          exact = λ z. (λ f. absurd (none z f), λ h. let lt = under z h.0 in let le = h.1 in absurd (omega arith));
          pending = record { sound = λ w i. absurd (nothing w i); whole = λ y p a le i lt. let u = under y a in absurd (omega arith) };
          inside = λ w i. absurd i;
          ends = record { within = le_refl end; is = ends.is; over = λ w v lt. lt };
          top = ends.is;
          above = λ s i. ⊎_elim (λ (le : end ≤ 0). omega arith)
              (λ (some : 0 < end). ⊎_elim (λ m. let lt = over (end - 1) m s i in omega arith) (λ j. absurd (nothing (end - 1) j)) (ends.is some)) (le_or_lt end 0);
          ways = λ some z f. absurd (none z f);
          known = λ c i. absurd (subst (IsIn c) empty i);
          within = within;
          bound = ends.within;
        }

    module _ (place reached : ℕ) (near far : List ℕ) (least end : ℕ) (Found : ℕ → Type 0) (cuts : List Cut) (h : Falls place reached near far least end Found cuts) (low-in : lowest < reached) where
      abbrev x : ℕ
      x = reached - 1

      top : IsGreatest (ToVisit S (near ++ far)) reached x
      top = record { is = h.top (omega arith); under = omega arith; greatest = λ w v lt. omega arith }

      anc-x : Anc x
      anc-x = anc-top flats lawful S reached (near ++ far) h.pending x top

      before : IsOf (take place flats) x
      before = ⊎_elim (λ a. a) (λ o. let r = of-in (drop place flats) x o in let le = h.above r.0 r.1 in let low = r.2.0 in absurd (omega arith))
          (of-parts flats place x (held-of flats x (anc-inside flats lawful S held x anc-x)))

      pub falls-place : 0 < place
      falls-place = go place before
        where
          go : (n : ℕ) → IsOf (take n flats) x → 0 < n
          go zero o = absurd o
          go (suc n) o = omega arith

      module _ (next : ℕ) (s : Segment) (one : place ≡ suc next) (at : slice_get flats next ≡ Some s) where
        i : IsIn s flats
        i = at-in flats next s at

        pub falls-past : reached ≤ s.low → Falls next reached near far least end Found cuts
        falls-past le =
            let within = h.within in
            record {
              exact = h.exact;
              pending = h.pending;
              inside = h.inside;
              ends = h.ends;
              top = h.top;
              above = λ t j. ⊎_elim (λ e. subst (λ (q : Segment). reached ≤ q.low) (sym e) le) (λ k. h.above t k) (at-or-behind flats next place s t one at j);
              ways = h.ways;
              known = h.known;
              within = omega arith;
              bound = h.bound;
            }

        module _ (visits : s.low < reached) where
          pub falls-in : IsInSegment x s
          falls-in = ⊎_elim (λ o. let lt = of-before flats next s x rising at o in absurd (omega arith)) (λ q. q)
              ((of-take flats next s x at).0 (subst (λ n. IsOf (take n flats) x) one before))

          jump : IsJump (table_graph flats) s.low x s.parents
          jump = flat-jump flats lawful s i x falls-in

          parent-under : (p : ℕ) → IsIn p s.parents → p < s.low
          parent-under p j = each (λ q. q < s.low) s.parents (lawful.each s i).segment.below p j

          -- after what lies from the segment's lowest on is let go, and its parents wait
          module _ (near2 far2 : List ℕ) (end2 least2 reached2 n : ℕ) (o : Option ℕ)
              (keeps : Keeps ((near ++ far) ++ s.parents) (near2 ++ far2) s.low) (inside2 : (w : ℕ) → IsIn w near2 → w < s.low)
              (end2-is : (b : ℕ) → s.low ≤ b → IsEndOf (ToVisit S far) b end → IsEndOf (ToVisit S far2) s.low end2)
              (least2-is : IsLeastParent s.parents least least2)
              (greatest : IsGreatestOf near2 o) (n-is : n ≡ one_above o) (reached2-is : reached2 ≡ max n end2) where
            ends2 : IsEndOf (ToVisit S far2) s.low end2
            ends2 = end2-is reached (omega arith) h.ends

            all2 : IsEndOf (λ w. IsIn w near2 ⊎ ToVisit S far2 w) s.low reached2
            all2 = end-of-both (λ w. IsIn w near2) (ToVisit S far2) s.low n end2 reached2 reached2-is (end-of-window near2 s.low o n n-is greatest inside2) ends2

            visit-all : (w : ℕ) → ToVisit S (near2 ++ far2) w → IsIn w near2 ⊎ ToVisit S far2 w
            visit-all w v = ⊎_elim (λ m. inr (inl m)) (λ j. ⊎_elim (λ a. inl a) (λ b. inr (inr b)) ((both-list near2 far2 w).0 j)) v

            all-visit : (w : ℕ) → IsIn w near2 ⊎ ToVisit S far2 w → ToVisit S (near2 ++ far2) w
            all-visit w v = ⊎_elim (λ a. inr ((both-list near2 far2 w).1 (inl a))) (λ q. ⊎_elim (λ m. inl m) (λ b. inr ((both-list near2 far2 w).1 (inr b))) q) v

            abbrev more : List ℕ
            more = (near ++ far) ++ s.parents

            front : IsFrontier flats S s.low (near2 ++ far2)
            front = frontier-kept flats lawful S s.low more (near2 ++ far2) keeps
                (frontier-jump flats lawful S reached (near ++ far) h.pending x top s.low s.parents more jump (both-list (near ++ far) s.parents))

            -- no ancestor lies between
            lower : (z : ℕ) → Anc z → z < s.low → z < reached2
            lower = below-frontier flats lawful S (λ z. z < reached2) (λ u p q lt. omega arith) s.low (near2 ++ far2) (λ w v lt. all2.over w (visit-all w v) lt) front.whole

            module _ (Found2 : ℕ → Type 0) (found : (z : ℕ) → Found2 z ↔ (Found z ⊎ ((max s.low lowest ≤ z) × (z < reached)))) where
              exact2 : (z : ℕ) → Found2 z ↔ (Anc z × (reached2 ≤ z) × (lowest ≤ z))
              exact2 z =
                  let within = all2.within in (
                    λ f. ⊎_elim (λ q. let k = (h.exact z).0 q in let le = k.1 in (k.0, omega arith, k.2))
                        (λ q. let a = q.0 in let b = q.1 in (anc-reach flats lawful S x z anc-x (jump.reaches z (omega arith) (omega arith)), omega arith, omega arith)) ((found z).0 f),
                    λ k. let from = k.1 in let low = k.2 in (found z).1 (⊎_elim (λ (le : reached ≤ z). inl ((h.exact z).1 (k.0, le, low)))
                        (λ (lt : z < reached). ⊎_elim (λ (le : s.low ≤ z). inr (omega arith, lt)) (λ (less : z < s.low). let u = lower z k.0 less in absurd (omega arith)) (le_or_lt s.low z)) (le_or_lt reached z)),
                  )

              -- from the segment a way goes on to a parent
              out : 0 < least2 → (z : ℕ) → s.low ≤ z → z ≤ x → (y : ℕ) × Reaches (table_graph flats) z y × (least2 ≤ y) × (y < s.low)
              out some z from to = go s.parents refl
                where
                  go : (ps : List ℕ) → s.parents ≡ ps → (y : ℕ) × Reaches (table_graph flats) z y × (least2 ≤ y) × (y < s.low)
                  go [] e = let none = least2-is.none e in absurd (omega arith)
                  go (p ∷ ps) e =
                      let own : IsIn p s.parents = subst (IsIn p) (sym e) (inl refl) in
                      let top = falls-in.1 in (
                        p,
                        reaches-trans (table_graph flats) z s.low p (reach-down flats lawful s i (z - s.low) z s.low (omega arith) (le_refl s.low) (omega arith))
                            (reaches-parent (table_graph flats) s.low p p (subst (IsIn p) (sym (parents-low flats lawful s i)) own) (reaches-self (table_graph flats) p)),
                        least2-is.each p own,
                        parent-under p own,
                      )

              ways2 : 0 < least2 → (z : ℕ) → Found2 z → (y : ℕ) × Reaches (table_graph flats) z y × (least2 ≤ y) × (y < s.low)
              ways2 some z f =
                  let most = least2-is.most in
                  ⊎_elim
                  (λ q.
                  let w = h.ways (omega arith) z q in let a = w.2 in let b = w.3 in
                  ⊎_elim
                  (λ (le : s.low ≤ w.0). let r = out some w.0 le (omega arith) in (r.0, reaches-trans (table_graph flats) z w.0 r.0 w.1 r.1, r.2, r.3))
                  (λ (lt : w.0 < s.low). (w.0, w.1, omega arith, lt))
                  (le_or_lt s.low w.0))
                  (λ q. let a = q.0 in let b = q.1 in out some z (omega arith) (omega arith))
                  ((found z).0 f)

              pub falls-turn : (cuts2 : List Cut) → ((c : Cut) → IsIn c cuts2 → IsIn c cuts ⊎ (c ≡ record { at = s.low; least = least2 }))
                  → Falls next reached2 near2 far2 least2 end2 Found2 cuts2
              falls-turn cuts2 kept =
                  let within = all2.within in let e2 : end2 ≤ reached2 = omega arith in let whole = h.within in let b = h.bound in
                  record {
                    exact = exact2;
                    pending = record {
                      sound = front.sound;
                      whole = λ y p a le j lt. ⊎_elim (λ (from : s.low ≤ y). front.whole y p a from j (omega arith))
                          (λ (less : y < s.low). let u = lower y a less in absurd (omega arith)) (le_or_lt s.low y);
                    };
                    inside = λ w j. all2.over w (inl j) (inside2 w j);
                    ends = end-lower (ToVisit S far2) s.low reached2 end2 within e2 ends2;
                    top = λ some. all-visit (reached2 - 1) (all2.is some);
                    above = λ t j. ⊎_elim (λ e. subst (λ (q : Segment). reached2 ≤ q.low) (sym e) within)
                        (λ k. let le = h.above t k in omega arith) (at-or-behind flats next place s t one at j);
                    ways = λ some z f. let w = ways2 some z f in (w.0, w.1, w.2, lower w.0 (anc-reach flats lawful S z w.0 ((exact2 z).0 f).0 w.1) w.3);
                    known = λ c j. ⊎_elim
                        (λ k. let old = h.known c k in let le = old.0 in (omega arith, λ some z f from. old.1 some z (⊎_elim (λ q. q) (λ q. let lt = q.1 in absurd (omega arith)) ((found z).0 f)) from))
                        (λ e. subst (λ (d : Cut). (reached2 ≤ d.at) × IsCut (table_graph flats) Found2 d) (sym e) (within, λ some z f from. ways2 some z f))
                        (kept c j);
                    within = omega arith;
                    bound = omega arith;
                  }

    -- when nothing from the lowest id on is left
    module _ (place reached : ℕ) (near far : List ℕ) (least end : ℕ) (Found : ℕ → Type 0) (cuts : List Cut) (h : Falls place reached near far least end Found cuts) where
      pub falls-done : reached ≤ lowest → (z : ℕ) → Found z ↔ (Anc z × (lowest ≤ z))
      falls-done le z = (
        λ m. let k = (h.exact z).0 m in (k.0, k.2),
        λ k. let low = k.1 in (h.exact z).1 (k.0, omega arith, low),
      )

      pub falls-cuts : (c : Cut) → IsIn c cuts → IsCut (table_graph flats) Found c
      falls-cuts c j = (h.known c j).1
