-- What holds at each turn of the visits, which end at a lowest id.
use Rattle.std.proofs.Common.{◌≡◌, ℕ, ◌+◌, ◌*◌, ◌<◌, ◌≤◌, ◌^◌, ◌⊎◌, ◌↔◌, inl, inr, max, List, [], ◌∷◌, Option, Some, None, refl, sym, subst, ◌∙◌, arith, ⊎_elim, le_refl}
use Rattle.id_groups.specs.Lists.{IsIn}
use Rattle.id_groups.specs.declared.span.IdSpan.{IdSpan}
use Rattle.commit_graph.specs.Sets as sets
use Rattle.segment_codec.specs.Record.{Segment}
use Rattle.segment_codec.specs.Table.{IsHeld, IsLawful, IsEnding}
use Rattle.segment_codec.proofs.Tables.{le_or_lt, segment-in}
use Rattle.span_set.specs.Members.{IsMember}
use Rattle.ancestor_query.specs.Graph.{table_graph}
use Rattle.ancestor_query.specs.Visits.{ToVisit, Keeps, IsNext, IsFrontier}
use Rattle.ancestor_query.specs.Jumps.{IsBest}
use Rattle.ancestor_query.specs.Counts.{count_segments, count_met, EndsWhole}
use Rattle.ancestor_query.proofs.Down.{anc-reach, anc-visit, anc-inside, anc-bound, anc-top, anc-at_most, none-below, frontier-kept, frontier-jump, frontier-none}
use Rattle.ancestor_query.proofs.Best.{best-whole}
use Rattle.ancestor_query.proofs.Counts.{has_first, one-more, first-met}

-- where a single id is asked for: before the first turn nothing is on the work, after it nothing is left
abbrev pub OneTurn : (ℕ → Type 0) → ℕ → List ℕ → ℕ → ℕ → Type 0
OneTurn S a work start taken =
    ((taken ≡ start) × (work ≡ []) × (a ≡ 2 ^ 57)) ⊎ ((taken ≤ start + 8) × ((w : ℕ) → ToVisit S work w → w < a → ⊥))

module _ (flats : List Segment) (ending : ℕ → ℕ → Option Segment) (S : ℕ → Type 0) (floor start : ℕ) where
  abbrev Anc : ℕ → Type 0
  Anc z = sets.ancestors (table_graph flats) S z

  -- the answer has the ancestors from the frontier a and the floor on, after so many look-ups
  pub record Going (a : ℕ) (work : List ℕ) (answer : List IdSpan) (taken : ℕ) : Type 0 where
    pub exact : (z : ℕ) → IsMember answer z ↔ (Anc z × (a ≤ z) × (floor ≤ z))
    pub pending : IsFrontier flats S a work
    pub few : taken ≤ start + 8 * count_segments (has_first floor answer) flats
    pub one : (y : ℕ) → ((z : ℕ) → S z → z ≡ y) → EndsWhole ending y → OneTurn S a work start taken
    pub bound : a ≤ 2 ^ 57

  module _ (lawful : IsLawful flats) (law : (level id : ℕ) (s : Segment) → ending level id ≡ Some s → IsEnding flats level id s)
      (inside : (x : ℕ) → S x → IsHeld flats x) where
    pub going-none : (work : List ℕ) (answer : List IdSpan) → work ≡ [] → answer ≡ [] → Going (2 ^ 57) work answer start
    going-none work answer e f = record {
      exact = λ z. (λ m. absurd (subst (λ l. IsMember l z) f m), λ h. let lt = anc-bound flats lawful S inside z h.0 in let le = h.1 in absurd (omega arith));
      pending = frontier-none flats lawful S inside work (λ w i. absurd (subst (IsIn w) e i));
      few = omega arith;
      one = λ y h w. inl (refl, e, refl);
      bound = le_refl (2 ^ 57);
    }

    none-in : (xs : List ℕ) → ((w : ℕ) → IsIn w xs → ⊥) → xs ≡ []
    none-in [] h = refl
    none-in (x ∷ xs) h = absurd (h x (inl refl))

    -- what lies at or above the frontier may go from the work
    pub going-kept : (a : ℕ) (before after : List ℕ) (answer : List IdSpan) (taken : ℕ) → Keeps before after a → Going a before answer taken → Going a after answer taken
    going-kept a before after answer taken k h = record {
      exact = h.exact;
      pending = frontier-kept flats lawful S a before after k h.pending;
      few = h.few;
      one = λ y is-y whole. ⊎_elim
          (λ (e : (taken ≡ start) × (before ≡ []) × (a ≡ 2 ^ 57)). inl (e.0, none-in after (λ w i. subst (IsIn w) e.1 (k.kept w i)), e.2))
          (λ (e : (taken ≤ start + 8) × ((w : ℕ) → ToVisit S before w → w < a → ⊥)). inr (e.0, λ w v lt. e.1 w (⊎_elim (λ m. inl m) (λ i. inr (k.kept w i)) v) lt))
          (h.one y is-y whole);
      bound = h.bound;
    }

    module _ (a : ℕ) (before after : List ℕ) (answer : List IdSpan) (taken : ℕ) (h : Going a before answer taken) where
      module _ (x : ℕ) (next : IsNext S before after a (Some x)) where
        pending : IsFrontier flats S a after
        pending = frontier-kept flats lawful S a before after next.keeps h.pending

        at_most : (z : ℕ) → Anc z → z < a → z ≤ x
        at_most = anc-at_most flats lawful S a after pending x next.greatest

        pub going-held : IsHeld flats x
        going-held = anc-inside flats lawful S inside x (anc-visit flats lawful S after pending.sound x next.greatest.is)

        -- nothing is left from the floor on
        pub going-stop : x < floor → (z : ℕ) → IsMember answer z ↔ (Anc z × (floor ≤ z))
        going-stop out z = (
          λ m. let e = (h.exact z).0 m in (e.0, e.2),
          λ k. let low = k.1 in (h.exact z).1 (k.0, ⊎_elim (λ (le : a ≤ z). le) (λ (lt : z < a). let le = at_most z k.0 lt in absurd (omega arith)) (le_or_lt a z), low),
        )

        module _ (best : Segment) (b : IsBest flats ending 1 x best) (full : a ≡ 2 ^ 57 → IsBest flats ending 8 x best) (from : ℕ) (is : from ≡ max best.low floor) (in_floor : floor ≤ x) where
          pub going-down : (f : ℕ) → f ≡ best.low → f < a
          going-down f e = let o = b.jump.order in let u = next.greatest.under in omega arith

          module _ (ps more : List ℕ) (longer : List IdSpan) (ep : ps ≡ best.parents)
              (pushed : (w : ℕ) → IsIn w more ↔ (IsIn w after ⊎ IsIn w ps))
              (added : (z : ℕ) → IsMember longer z ↔ (IsMember answer z ⊎ ((from ≤ z) × (z ≤ x)))) where
            -- the flat segment that has the id is counted now
            few-turn : (now : ℕ) → now ≤ taken + 8 → now ≤ start + 8 * count_segments (has_first floor longer) flats
            few-turn now le =
                let s = going-held.0 in
                let f = segment-in flats x s going-held.1 in
                let low = f.1.0 in let high = f.1.1 in let u = next.greatest.under in
                let down = b.flat s going-held.1 in
                let grows = one-more flats floor answer longer s f.0 (omega arith) (λ m. let over = ((h.exact (max s.low floor)).0 m).1 in absurd (omega arith))
                ((added (max s.low floor)).1 (inr (omega arith, omega arith))) (λ z m. (added z).1 (inl m)) in
                let few = h.few in omega arith

            one-turn : (now : ℕ) → now ≤ taken + 8 → (y : ℕ) → ((z : ℕ) → S z → z ≡ y) → EndsWhole ending y → OneTurn S a before start taken → OneTurn S best.low more start now
            one-turn now le y is-y whole (inl e) =
                let none : (w : ℕ) → IsIn w after → ⊥ = λ w i. subst (IsIn w) e.1 (next.keeps.kept w i) in
                let same : x ≡ y = ⊎_elim (λ m. is-y x m) (λ i. absurd (none x i)) next.greatest.is in
                let empty = ep ∙ best-whole flats lawful ending law x best (full e.2) (subst (EndsWhole ending) (sym same) whole) in
                let o = b.jump.order in let t = e.0 in
                inr (
                  omega arith,
                  λ w v lt. ⊎_elim (λ m. let q = is-y w m in absurd (omega arith))
                      (λ i. ⊎_elim (λ j. none w j) (λ p. subst (IsIn w) empty p) ((pushed w).0 i)) v,
                )
            one-turn now le y is-y whole (inr e) =
                absurd (e.1 x (⊎_elim (λ m. inl m) (λ i. inr (next.keeps.kept x i)) next.greatest.is) next.greatest.under)

            pub going-turn : (f : ℕ) → f ≡ best.low → (now : ℕ) → now ≤ taken + 8 → Going f more longer now
            going-turn f e now le =
                let lt = going-down f e in let top = h.bound in
                let p = subst (λ l. (w : ℕ) → IsIn w more ↔ (IsIn w after ⊎ IsIn w l)) ep pushed in
                record {
                  exact = λ z. (
                    λ m. ⊎_elim (λ o. let k = (h.exact z).0 o in let le = k.1 in (k.0, omega arith, k.2))
                        (λ i. let low = i.0 in (anc-reach flats lawful S x z (anc-top flats lawful S a after pending x next.greatest) (b.jump.reaches z (omega arith) i.1), omega arith, omega arith)) ((added z).0 m),
                    λ k. let low = k.1 in let least = k.2 in (added z).1 (⊎_elim (λ (le : a ≤ z). inl ((h.exact z).1 (k.0, le, least)))
                        (λ (under : z < a). inr (omega arith, at_most z k.0 under)) (le_or_lt a z)),
                  );
                  pending = subst (λ n. IsFrontier flats S n more) (sym e) (frontier-jump flats lawful S a after pending x next.greatest best.low best.parents more b.jump p);
                  few = few-turn now le;
                  one = λ y is-y whole. subst (λ n. OneTurn S n more start now) (sym e) (one-turn now le y is-y whole (h.one y is-y whole));
                  bound = omega arith;
                }

      module _ (next : IsNext S before after a None) where
        pub going-done : (z : ℕ) → IsMember answer z ↔ (Anc z × (floor ≤ z))
        going-done z = (
          λ m. let e = (h.exact z).0 m in (e.0, e.2),
          λ k. (h.exact z).1 (
            k.0,
            ⊎_elim (λ (le : a ≤ z). le)
                (λ (lt : z < a). absurd (none-below flats lawful S a after (frontier-kept flats lawful S a before after next.keeps h.pending) next.greatest z k.0 lt)) (le_or_lt a z),
            k.1,
          ),
        )

      pub going-few : taken ≤ start + 8 * (1 + count_met answer flats)
      going-few = let met = first-met flats floor answer lawful in let few = h.few in omega arith

      pub going-one : (y : ℕ) → ((z : ℕ) → S z → z ≡ y) → EndsWhole ending y → taken ≤ start + 8
      going-one y is-y whole = ⊎_elim (λ e. let same = e.0 in omega arith) (λ r. r.0) (h.one y is-y whole)
