-- Which ids a table holds, by its bounds.
use Rattle.std.proofs.Common.{◌≡◌, ℕ, zero, suc, ◌+◌, ◌<◌, ◌≤◌, ◌^◌, ◌⊎◌, inl, inr, List, [], ◌∷◌, ◌++◌, Some, None, sym, subst, ◌∙◌, arith, ⊎_elim}
use Rattle.std.specs.Prelude.{◌↔◌}
use Rattle.id_groups.specs.Lists.{IsIn}
use Rattle.commit_graph.proofs.Histories.{in-append}
use Rattle.segment_codec.specs.Record.{Segment}
use Rattle.segment_codec.specs.Table.{IsHeld, Cover, IsLawful}
use Rattle.segment_codec.proofs.Tables.{found-head, found-behind, head-or-behind, segment-in, follow-held, follow-within}
use Rattle.ancestor_query.proofs.Graphs.{held-bound}

-- an id that one part of a list of segments has, or another
held-append : (front back : List Segment) (x : ℕ) → IsHeld front x ⊎ IsHeld back x → IsHeld (front ++ back) x
held-append [] back x h = ⊎_elim (λ i. absurd (none i)) (λ i. i) h
  where
    none : IsHeld [] x → ⊥
    none i = let e : None ≡ Some i.0 = i.1 in cc
held-append (t ∷ front) back x h = ⊎_elim
    (λ i. (t, found-head t (front ++ back) x i))
    (λ n. let r = held-append front back x (⊎_elim (λ k. inl (k.0, sym (found-behind t front x n) ∙ k.1)) (λ k. inr k) h) in
    (r.0, found-behind t (front ++ back) x n ∙ r.1))
    (head-or-behind t x)

-- by the bounds of a table: whether it holds an id
pub cover-held : (flats : List Segment) (master others : ℕ) → Cover flats master others → (x : ℕ)
    → IsHeld flats x ↔ (((0 ≤ x) × (x < 0 + master)) ⊎ ((2 ^ 56 ≤ x) × (x < 2 ^ 56 + others)))
cover-held flats master others c x = (there, back)
  where
    there : IsHeld flats x → ((0 ≤ x) × (x < 0 + master)) ⊎ ((2 ^ 56 ≤ x) × (x < 2 ^ 56 + others))
    there h =
        let f = segment-in flats x h.0 h.1 in
        let low = f.1.0 in let high = f.1.1 in
        ⊎_elim
        (λ i. let w = follow-within 0 master c.front c.master_ids h.0 i in let top = w.2 in inl (omega arith, omega arith))
        (λ i. let w = follow-within (2 ^ 56) (2 ^ 56 + others) c.back c.other_ids h.0 i in let under = w.0 in let top = w.2 in inr (omega arith, omega arith))
        (in-append h.0 c.front c.back (subst (IsIn h.0) c.parts f.0))

    back : ((0 ≤ x) × (x < 0 + master)) ⊎ ((2 ^ 56 ≤ x) × (x < 2 ^ 56 + others)) → IsHeld flats x
    back h = subst (λ l. IsHeld l x) (sym c.parts) (held-append c.front c.back x (⊎_elim
        (λ a. let lt = a.1 in inl (follow-held 0 master c.front c.master_ids x (omega arith) (omega arith)))
        (λ a. inr (follow-held (2 ^ 56) (2 ^ 56 + others) c.back c.other_ids x a.0 a.1)) h))

-- ids of the other group end below the end of all ids
pub cover-room : (flats : List Segment) → IsLawful flats → (master others : ℕ) → Cover flats master others → 2 ^ 56 + others ≤ 2 ^ 57
cover-room flats lawful master zero c = omega arith
cover-room flats lawful master (suc n) c =
    let held = (cover-held flats master (suc n) c (2 ^ 56 + n)).1 (inr (omega arith, omega arith)) in
    let lt = held-bound flats lawful (2 ^ 56 + n) held in omega arith
