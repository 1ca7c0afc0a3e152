-- The best jump at an id.
use Rattle.std.proofs.Common.{◌≡◌, ℕ, zero, suc, ◌+◌, ◌-◌, ◌<◌, ◌≤◌, ◌^◌, ◌⊎◌, inl, inr, IsTrue, Bool, true, false, nat_lt, List, [], ◌∷◌, Option, Some, None, refl, sym, subst, ap, ◌∙◌, arith, ⊎_elim, if◌then◌else◌}
use Rattle.std.specs.Prelude.{MatchOption, IsSome}
use Rattle.std.proofs.lemmas.Bool.{ltb-true, ltb-false, lt-ltb}
use Rattle.id_groups.specs.Lists.{IsIn}
use Rattle.id_groups.specs.Id.{is_master_id}
use Rattle.commit_graph.specs.Graph.{IsWalk}
use Rattle.segment_codec.specs.Record.{Segment}
use Rattle.segment_codec.specs.Lent.{segment_of}
use Rattle.segment_codec.specs.declared.lent.SegmentRef.{SegmentRef}
use Rattle.segment_codec.specs.Table.{segment_at, IsHeld, IsLawful, IsEnding}
use Rattle.segment_codec.proofs.Tables.{le_or_lt, segment-in, parent-below, lawful-at}
use Rattle.ancestor_query.specs.Graph.{table_graph, IsJump}
use Rattle.ancestor_query.specs.Jumps.{lower_of, IsBest}
use Rattle.ancestor_query.specs.Counts.{EndsWhole}
use Rattle.ancestor_query.proofs.Graphs.{segment-jump, ending-segment, ending-jump}

some-one : (a b : Segment) (o : Option Segment) → o ≡ Some a → o ≡ Some b → a ≡ b
some-one a b o e f = cc

none-one : (a : Segment) (o : Option Segment) → o ≡ None → o ≡ Some a → ⊥
none-one a o e f = cc

-- a look-up of a held id finds a segment
pub looked-up : (flats : List Segment) (x : ℕ) (r : Option SegmentRef) → MatchOption r (segment_at flats x ≡ None) (λ s. segment_at flats x ≡ Some (segment_of s)) → IsHeld flats x → IsSome r
looked-up flats x None h b = absurd (none-one b.0 (segment_at flats x) h b.1)
looked-up flats x (Some s) h b = refl

-- the segment of a look-up that found one
pub found-at : (flats : List Segment) (x : ℕ) (r : Option SegmentRef) (s : SegmentRef) → r ≡ Some s → MatchOption r (segment_at flats x ≡ None) (λ s. segment_at flats x ≡ Some (segment_of s)) → segment_at flats x ≡ Some (segment_of s)
found-at flats x r s e h = subst (λ r. MatchOption r (segment_at flats x ≡ None) (λ s. segment_at flats x ≡ Some (segment_of s))) e h

-- a segment that begins in master ends there
pub same-group : (low high : ℕ) → is_master_id low ≡ is_master_id high → low < 2 ^ 56 → high < 2 ^ 56
same-group low high e lt = ltb-true high (2 ^ 56) (sym e ∙ lt-ltb low (2 ^ 56) lt)

module _ (flats : List Segment) (ending : ℕ → ℕ → Option Segment) (id : ℕ) where
  pub best-start : IsLawful flats → (s : Segment) → segment_at flats id ≡ Some s → IsBest flats ending 1 id s
  best-start lawful s found =
      let f = segment-in flats id s found in let high = f.1.1 in
      record {
        jump = segment-jump flats lawful id s found;
        group = λ small. let h = same-group s.low s.high (lawful.each s f.0).segment.one_group small in omega arith;
        flat = λ t e. let same = ap (λ (q : Segment). q.low) (some-one s t (segment_at flats id) found e) in omega arith;
        each = λ k s a b e. absurd (omega arith);
      }

  module _ (lawful : IsLawful flats) where
    pub best-next : (k n : ℕ) → n ≡ k + 1 → (best : Segment) (o : Option SegmentRef) (next : Segment) → IsBest flats ending k id best
        → MatchOption o (ending k id ≡ None) (λ s. ending k id ≡ Some (segment_of s)) → ((s : Segment) → ending k id ≡ Some s → IsEnding flats k id s)
        → MatchOption o (next ≡ best) (λ s. next ≡ lower_of best (Some (segment_of s))) → IsBest flats ending n id next
    best-next k n en best None next b found law r = record {
      jump = subst (λ (q : Segment). IsJump (table_graph flats) q.low id q.parents) (sym r) b.jump;
      group = subst (λ (q : Segment). q.low < 2 ^ 56 → id < 2 ^ 56) (sym r) b.group;
      flat = λ s e. let same = ap (λ (q : Segment). q.low) r in let h = b.flat s e in omega arith;
      each = λ j s pos lt e. let same = ap (λ (q : Segment). q.low) r in
          ⊎_elim (λ (le : k ≤ j). absurd (none-one s (ending k id) found (subst (λ i. ending i id ≡ Some s) (let i : j ≡ k = omega arith in i) e)))
          (λ (l : j < k). let h = b.each j s pos l e in omega arith) (le_or_lt k j);
    }
    best-next k n en best (Some t) next b found law r = go (nat_lt (segment_of t).low best.low) refl r
      where
        go : (c : Bool) → nat_lt (segment_of t).low best.low ≡ c → next ≡ (if nat_lt (segment_of t).low best.low then segment_of t else best) → IsBest flats ending n id next
        go true e r =
            let same : next ≡ segment_of t = r ∙ ap (λ c. if c then segment_of t else best) e in
            let lt = ltb-true (segment_of t).low best.low e in
            let end = law (segment_of t) found in
            let ok = ending-segment flats lawful k id (segment_of t) end in
            let low = ap (λ (q : Segment). q.low) same in
            record {
              jump = subst (λ (q : Segment). IsJump (table_graph flats) q.low id q.parents) (sym same) (ending-jump flats lawful k id (segment_of t) end);
              group = λ small. subst (λ x. x < 2 ^ 56) ok.1 (same-group (segment_of t).low (segment_of t).high ok.0.one_group (subst (λ x. x < 2 ^ 56) low small));
              flat = λ s f. let h = b.flat s f in omega arith;
              each = λ j s pos l f. ⊎_elim
                  (λ (le : k ≤ j). let one = ap (λ (q : Segment). q.low) (some-one (segment_of t) s (ending k id) found (subst (λ i. ending i id ≡ Some s) (let i : j ≡ k = omega arith in i) f)) in omega arith)
                  (λ (l : j < k). let h = b.each j s pos l f in omega arith) (le_or_lt k j);
            }
        go false e r =
            let same : next ≡ best = r ∙ ap (λ c. if c then segment_of t else best) e in
            let least = ltb-false (segment_of t).low best.low e in
            let low = ap (λ (q : Segment). q.low) same in
            record {
              jump = subst (λ (q : Segment). IsJump (table_graph flats) q.low id q.parents) (sym same) b.jump;
              group = subst (λ (q : Segment). q.low < 2 ^ 56 → id < 2 ^ 56) (sym same) b.group;
              flat = λ s f. let h = b.flat s f in omega arith;
              each = λ j s pos l f. ⊎_elim
                  (λ (le : k ≤ j). let one = ap (λ (q : Segment). q.low) (some-one (segment_of t) s (ending k id) found (subst (λ i. ending i id ≡ Some s) (let i : j ≡ k = omega arith in i) f)) in omega arith)
                  (λ (l : j < k). let h = b.each j s pos l f in omega arith) (le_or_lt k j);
            }

    pub best-lower : (k n : ℕ) → n ≡ k + 1 → (best : Segment) (t : SegmentRef) → IsBest flats ending k id best → ending k id ≡ Some (segment_of t) → (segment_of t).low < best.low
        → ((s : Segment) → ending k id ≡ Some s → IsEnding flats k id s) → IsBest flats ending n id (segment_of t)
    best-lower k n en best t b found lt law =
        best-next k n en best (Some t) (segment_of t) b found law (sym (ap (λ c. if c then segment_of t else best) (lt-ltb (segment_of t).low best.low lt)))

    -- a segment that begins lower than the best and ends where it does has the id before the best's lowest as a parent of one of
    -- the best's ids
    pub best-last : (k n : ℕ) (best : Segment) → IsBest flats ending k id best → ¬ (IsIn (best.low - 1) best.parents) → ((level : ℕ) (s : Segment) → ending level id ≡ Some s → IsEnding flats level id s)
        → IsBest flats ending n id best
    best-last k n best b lacks law = record {
      jump = b.jump;
      group = b.group;
      flat = b.flat;
      each = λ j s pos lt e. ⊎_elim (λ (le : best.low ≤ s.low). le) (λ (out : s.low < best.low). absurd (lower j s pos (law j s e) out)) (le_or_lt best.low s.low);
    }
      where
        lower : (j : ℕ) (s : Segment) → 0 < j → IsEnding flats j id s → s.low < best.low → ⊥
        lower zero s pos end out = omega (arith, pos)
        lower (suc j) s pos end out =
            let high = end.2 in let h = end.3 in let order = b.jump.order in
            let c = h.one_head (best.low - 1) (omega (arith, out), omega (arith, out, high, order)) (omega (arith, out, high, order)) in
            let below = (parent-below flats lawful c.0 (best.low - 1) c.2).0 in
            let up = c.1.1 in
            lacks (b.jump.out c.0 (best.low - 1) (omega (arith, below)) (omega (arith, up, high)) c.2 (omega (arith, out)))

-- a test that says that the parent may be there, and says no
pub lacks-before : (s : Segment) (t : Bool) → (IsTrue t ⊎ ¬ (IsIn (s.low - 1) s.parents)) → t ≡ false → ¬ (IsIn (s.low - 1) s.parents)
lacks-before s true (inl e) n = absurd cc
lacks-before s false (inl e) n = absurd cc
lacks-before s t (inr h) n = h

-- what a jump without parents has in it is all that its id reaches
reached-over : (flats : List Segment) → IsLawful flats → (low id : ℕ) (ps : List ℕ) → IsJump (table_graph flats) low id ps → ps ≡ [] → (u : ℕ) (walk : List ℕ) (z : ℕ) → low ≤ u → u ≤ id → IsWalk (table_graph flats) u walk z → low ≤ z
reached-over flats lawful low id ps jump none u [] z a b e = omega arith
reached-over flats lawful low id ps jump none u (p ∷ walk) z a b w =
    let lt = (parent-below flats lawful u p w.0).0 in
    ⊎_elim (λ (le : low ≤ p). reached-over flats lawful low id ps jump none p walk z le (omega arith) w.1)
    (λ (out : p < low). absurd (subst (IsIn p) none (jump.out u p a b w.0 out))) (le_or_lt low p)

no-member : (ps : List ℕ) → ((p : ℕ) → IsIn p ps → ⊥) → ps ≡ []
no-member [] h = refl
no-member (p ∷ ps) h = absurd (h p (inl refl))

-- a flat segment that ends at the id is the one that has it
ending-flat : (flats : List Segment) → IsLawful flats → (level id : ℕ) (s : Segment) → level ≡ 0 → IsEnding flats level id s → segment_at flats id ≡ Some s
ending-flat flats lawful level id s z end =
    let e : IsEnding flats 0 id s = subst (λ l. IsEnding flats l id s) z end in
    let o = (lawful.each s e.0).segment.ascending in let top = e.1 in
    lawful-at flats lawful id s e.0 (omega arith, omega arith)

pub best-whole : (flats : List Segment) → IsLawful flats → (ending : ℕ → ℕ → Option Segment) → ((level id : ℕ) (s : Segment) → ending level id ≡ Some s → IsEnding flats level id s)
    → (id : ℕ) (best : Segment) → IsBest flats ending 8 id best → EndsWhole ending id → best.parents ≡ []
best-whole flats lawful ending law id best b (level, s, few, found, none) =
    let end = law level id s found in
    let jump = ending-jump flats lawful level id s end in
    let down : best.low ≤ s.low = ⊎_elim (λ (z : level ≤ 0). b.flat s (ending-flat flats lawful level id s (omega arith) end)) (λ (pos : 0 < level). b.each level s pos (omega arith) found) (le_or_lt level 0) in
    let order = b.jump.order in
    let r = b.jump.reaches best.low (omega arith) order in
    let o = jump.order in
    let up : s.low ≤ best.low = reached-over flats lawful s.low id s.parents jump none id r.0 best.low o (omega arith) r.1 in
    no-member best.parents (λ p i.
    let h = b.jump.only p i in let lt = h.0 in let a = h.2 in
    absurd (subst (IsIn p) none (jump.out h.1 p (omega arith) h.3 h.4 (omega arith))))
