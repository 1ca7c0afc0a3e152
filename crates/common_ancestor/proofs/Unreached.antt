-- The members of a set that no other member reaches.
use Rattle.std.proofs.Common.{◌≡◌, ℕ, ◌≤◌, ◌⊎◌, inl, inr, ◌↔◌, List, [], ◌∷◌, arith, ⊎_elim}
use Rattle.id_groups.specs.declared.span.IdSpan.{IdSpan}
use Rattle.commit_graph.specs.Graph.{IsWalk}
use Rattle.commit_graph.specs.Sets as sets
use Rattle.commit_graph.proofs.Walks.{reaches-parent}
use Rattle.segment_codec.specs.Record.{Segment}
use Rattle.segment_codec.specs.Table.{IsHeld, IsLawful}
use Rattle.segment_codec.proofs.Tables.{parent-below}
use Rattle.span_set.specs.Members.{IsMember}
use Rattle.ancestor_query.specs.Graph.{table_graph}
use Rattle.ancestor_query.proofs.Graphs.{reached-below}

module _ (flats : List Segment) (lawful : IsLawful flats) (S : ℕ → Type 0) where
  -- a member that another one reaches is reached from a parent
  first-step : (m : ℕ) (walk : List ℕ) (z : ℕ) → S m → IsWalk (table_graph flats) m walk z → (m ≡ z) ⊎ sets.ancestors (table_graph flats) (sets.parents (table_graph flats) S) z
  first-step m [] z s e = inl e
  first-step m (p ∷ walk) z s w = inr (p, (m, s, w.0), (walk, w.1))

  -- what is reached from a parent is another id
  pub not-itself : (z : ℕ) → sets.ancestors (table_graph flats) (sets.parents (table_graph flats) S) z → sets.tips (table_graph flats) S z → ⊥
  not-itself z h tip =
      let c = h.1.0 in
      let lt = (parent-below flats lawful c h.0 h.1.2).0 in
      let le = reached-below flats lawful h.0 z h.2 in
      let same : c ≡ z = tip.1 c h.1.1 (reaches-parent (table_graph flats) c h.0 z h.1.2 h.2) in omega arith

  pub tips-are : (z : ℕ) → (S z × (sets.ancestors (table_graph flats) (sets.parents (table_graph flats) S) z → ⊥)) ↔ sets.tips (table_graph flats) S z
  tips-are z = (
    λ h. (h.0, λ m s r. ⊎_elim (λ (e : m ≡ z). e) (λ a. absurd (h.1 a)) (first-step m r.0 z s r.1)),
    λ h. (h.0, λ a. not-itself z a h),
  )

-- the same by the sets that hold the parents, and what they reach from a floor up
pub tips-by : (flats : List Segment) → IsLawful flats → (set parents reached : List IdSpan) (floor : ℕ) → ((x : ℕ) → IsMember set x → floor ≤ x)
    → ((x : ℕ) → IsMember parents x ↔ sets.parents (table_graph flats) (IsMember set) x)
    → ((x : ℕ) → IsMember reached x ↔ (sets.ancestors (table_graph flats) (IsMember parents) x × (floor ≤ x)))
    → (x : ℕ) → (IsMember set x × (IsMember reached x → ⊥)) ↔ sets.tips (table_graph flats) (IsMember set) x
tips-by flats lawful set parents reached floor low are goes x =
    let t = tips-are flats lawful (IsMember set) x in (
      λ h. t.0 (h.0, λ a. h.1 ((goes x).1 ((a.0, (are a.0).1 a.1, a.2), low x h.0))),
      λ h. let k = t.1 h in (k.0, λ r. let a = ((goes x).0 r).0 in k.1 (a.0, (are a.0).0 a.1, a.2)),
    )

pub parents-held : (flats : List Segment) → IsLawful flats → (S : ℕ → Type 0) (parents : List IdSpan) → ((x : ℕ) → IsMember parents x ↔ sets.parents (table_graph flats) S x)
    → (x : ℕ) → IsMember parents x → IsHeld flats x
parents-held flats lawful S parents are x m = let h = (are x).0 m in (parent-below flats lawful h.0 x h.2).1
