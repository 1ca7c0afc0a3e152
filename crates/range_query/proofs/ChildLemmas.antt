-- Children, segment by segment.
use Rattle.std.proofs.Common.{◌≡◌, ℕ, ◌-◌, ◌<◌, ◌≤◌, ◌^◌, ◌⊎◌, inl, inr, ◌↔◌, List, [], ◌∷◌, Option, Some, None, refl, sym, subst, ap, ◌∙◌, arith, ⊎_elim}
use Rattle.std.specs.Prelude.{slice_get}
use Rattle.std.proofs.lemmas.Bool.Decides.{nat_tests}
use Rattle.id_groups.specs.Id.{is_master_id}
use Rattle.id_groups.specs.Lists.{IsIn}
use Rattle.id_groups.specs.declared.span.IdSpan.{IdSpan}
use Rattle.commit_graph.specs.Sets as sets
use Rattle.segment_codec.specs.Record.{Segment}
use Rattle.segment_codec.specs.Table.{IsInSegment, segment_at, parents_in, parents_at, IsHeld, IsLawful}
use Rattle.segment_codec.proofs.Tables.{le_or_lt, segment-in, parents-low, parents-over, parent-below}
use Rattle.span_set.specs.Members.{IsMember}
use Rattle.ancestor_query.specs.Graph.{table_graph, IsJump}
use Rattle.ancestor_query.proofs.Best.{same-group}
use Rattle.range_query.specs.Parts.{IsChildIn, IsApart, LackChildren}
use Rattle.range_query.proofs.Rows.{at-in}

in-one : (p q : ℕ) → IsIn p (q ∷ []) → p ≡ q
in-one p q h = ⊎_elim (λ e. e) (λ n. absurd n) h

-- only a held id has parents
pub child-held : (flats : List Segment) (x p : ℕ) → IsIn p (parents_at flats x) → IsHeld flats x
child-held flats x p i = go (segment_at flats x) refl
  where
    go : (o : Option Segment) → segment_at flats x ≡ o → IsHeld flats x
    go None e = absurd (subst (λ o. IsIn p (parents_in o x)) e i)
    go (Some s) e = (s, e)

-- what is added are the children among the ids of a part
pub among-cut : {N O C P : Type 0} {x id : ℕ} (low next : ℕ) → next ≡ low → N ↔ (O ⊎ C) → C ↔ ((low ≤ x) × (x ≤ id) × P) → N ↔ (O ⊎ ((next ≤ x) × (x ≤ id) × P))
among-cut low next e n c = (
  λ m. ⊎_elim (λ o. inl o) (λ k. let h = c.0 k in let a = h.0 in inr (omega arith, h.1, h.2)) (n.0 m),
  λ h. ⊎_elim (λ o. n.1 (inl o)) (λ k. let a = k.0 in n.1 (inr (c.1 (omega arith, k.1, k.2)))) h,
)

-- an id between two of one group is of it
same-between : (a b c : ℕ) → a ≤ b → b ≤ c → is_master_id a ≡ is_master_id c → is_master_id a ≡ is_master_id b
same-between a b c low high e = grind (arith, nat_tests)

module _ (flats : List Segment) (lawful : IsLawful flats) (set : List IdSpan) where
  abbrev Child : ℕ → Type 0
  Child x = sets.children (table_graph flats) (IsMember set) x

  -- which ids of a segment are children
  module _ (s : Segment) (i : IsIn s flats) where
    pub child-part : (x : ℕ) → IsInSegment x s → Child x → IsChildIn set s x
    child-part x h c =
        let low = h.0 in let high = h.1 in
        ⊎_elim
        (λ (le : x ≤ s.low).
        let same : x ≡ s.low = omega arith in
        inl (same, (c.0, subst (IsIn c.0) (ap (λ z. parents_at flats z) same ∙ parents-low flats lawful s i) c.2, c.1)))
        (λ (lt : s.low < x).
        let e = in-one c.0 (x - 1) (subst (IsIn c.0) (parents-over flats lawful s i x lt high) c.2) in
        inr (lt, high, subst (IsMember set) e c.1))
        (le_or_lt x s.low)

    pub part-child : (x : ℕ) → IsChildIn set s x → Child x
    part-child x (inl h) =
        let p = h.1 in
        (p.0, p.2, subst (IsIn p.0) (sym (ap (λ z. parents_at flats z) h.0 ∙ parents-low flats lawful s i)) p.1)
    part-child x (inr m) = (x - 1, m.2, subst (IsIn (x - 1)) (sym (parents-over flats lawful s i x m.0 m.1)) (inl refl))

  pub group-at : (k : ℕ) (s : Segment) → slice_get flats k ≡ Some s → s.low < 2 ^ 56 → s.high < 2 ^ 56
  group-at k s e lt = same-group s.low s.high (lawful.each s (at-in flats k s e)).segment.one_group lt

  -- the children among the ids of a segment up to one of them
  pub cut-child : (s t : Segment) (id x : ℕ) → segment_at flats id ≡ Some s → t ≡ record s { high = id } → IsChildIn set t x ↔ ((s.low ≤ x) × (x ≤ id) × Child x)
  cut-child s t id x found e =
      let f = segment-in flats id s found in let low = f.1.0 in let high = f.1.1 in
      subst (λ (q : Segment). IsChildIn set q x ↔ ((s.low ≤ x) × (x ≤ id) × Child x)) (sym e) (
        λ h. ⊎_elim (λ l. let same = l.0 in (omega arith, omega arith, part-child s f.0 x (inl l)))
            (λ m. let a = m.0 in let b = m.1 in (omega arith, b, part-child s f.0 x (inr (a, omega arith, m.2)))) h,
        λ h. let b = h.1 in ⊎_elim (λ l. inl l) (λ m. inr (m.0, b, m.2)) (child-part s f.0 x (h.0, omega arith) h.2),
      )

  -- an id and the lowest of its segment are of one group
  pub cut-group : (s : Segment) (id : ℕ) → segment_at flats id ≡ Some s → (s.low ≤ id) × (s.low < 2 ^ 56 → id < 2 ^ 56) × (is_master_id s.low ≡ is_master_id id)
  cut-group s id found =
      let f = segment-in flats id s found in let low = f.1.0 in let high = f.1.1 in
      let group = (lawful.each s f.0).segment.one_group in
      (low, λ small. let h = same-group s.low s.high group small in omega arith, same-between s.low id s.high low high group)

  -- a segment that stands apart from the set has no child of it
  pub apart-lacks : (s : Segment) (id : ℕ) → IsJump (table_graph flats) s.low id s.parents → s.high ≡ id → IsApart set s → LackChildren (table_graph flats) set s.low id
  apart-lacks s id jump high apart x a b c =
      let down = (parent-below flats lawful x c.0 c.2).0 in
      ⊎_elim
      (λ (le : s.low ≤ c.0). let top = apart.0 c.0 c.1 le in absurd (omega arith))
      (λ (lt : c.0 < s.low). absurd (apart.1 (c.0, jump.out x c.0 a b c.2 lt, c.1)))
      (le_or_lt s.low c.0)

  -- where none of some ids is a child nothing is to be added
  pub lacks-none : (answer : List IdSpan) (low next id : ℕ) → next ≡ low → LackChildren (table_graph flats) set low id
      → (x : ℕ) → IsMember answer x ↔ (IsMember answer x ⊎ ((next ≤ x) × (x ≤ id) × Child x))
  lacks-none answer low next id e none x = (λ m. inl m, λ h. ⊎_elim (λ m. m) (λ k. let a = k.0 in absurd (none x (omega arith) k.1 k.2)) h)
