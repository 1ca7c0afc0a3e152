use Rattle.std.proofs.Common.{◌≡◌, ◌^◌, ◌+◌, ℕ, [], ◌∷◌, refl, inl, inr, subst, arith}
use Rattle.id_groups.specs.Lists.{IsIn}
use Rattle.segment_codec.specs.Table.{parents_at}
use Rattle.segment_codec.specs.Examples.{small_table}
use Rattle.ancestor_query.specs.Graph.{table_graph}
use Rattle.commit_graph.specs.Sets as sets
use Rattle.set_query.proofs.laws.answers_spelled_out.Goals as goal

-- the parents of 5 are 4 and 2
no-parent : (x : ℕ) → (x ≡ 4 → ⊥) → (x ≡ 2 → ⊥) → sets.parents (table_graph small_table) (λ y. y ≡ 5) x → ⊥
no-parent x four two (child, same, i) = go (subst (λ (y : ℕ). IsIn x (parents_at small_table y)) same i)
  where
    go : IsIn {X = ℕ} x (4 ∷ 2 ∷ []) → ⊥
    go (inl e) = four e
    go (inr (inl e)) = two e
    go (inr (inr none)) = none

pub returns : goal.returns
returns c =
    (inr (
      no-parent (2 ^ 56 + 1) (λ e. omega (arith, e)) (λ e. omega (arith, e)),
      (inr (
        no-parent (2 ^ 56) (λ e. omega (arith, e)) (λ e. omega (arith, e)),
        (inr (
          no-parent 5 (λ e. omega (arith, e)) (λ e. omega (arith, e)),
          (inl (
            (5, refl, inl refl),
            2 ∷ [],
            refl,
            (inr (
              no-parent 3 (λ e. omega (arith, e)) (λ e. omega (arith, e)),
              (inl (
                (5, refl, inr (inl refl)),
                [],
                refl,
                (inr (
                  no-parent 1 (λ e. omega (arith, e)) (λ e. omega (arith, e)),
                  (inr (no-parent 0 (λ e. omega (arith, e)) (λ e. omega (arith, e)), refl)),
                )),
              )),
            )),
          )),
        )),
      )),
    ))
