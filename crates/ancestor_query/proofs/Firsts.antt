-- First-parent ancestors, a segment at a time.
use Rattle.std.proofs.Common.{◌≡◌, ℕ, zero, suc, ◌+◌, ◌-◌, ◌<◌, ◌≤◌, List, [], ◌∷◌, Option, Some, None, refl, sym, subst, ap, ◌∙◌, arith, inl}
use Rattle.std.specs.Prelude.{option_and_then}
use Rattle.id_groups.specs.Lists.{IsIn}
use Rattle.commit_graph.specs.Graph.{Graph, first_ancestor, first_of_list}
use Rattle.segment_codec.specs.Record.{Segment}
use Rattle.segment_codec.specs.Table.{segment_at, IsHeld, IsLawful}
use Rattle.segment_codec.proofs.Tables.{segment-in, parents-low, parents-over, parent-below}
use Rattle.ancestor_query.specs.Graph.{table_graph}

module _ (g : Graph ℕ) where
  and-some : (o : Option ℕ) → o ≡ option_and_then (λ y. Some y) o
  and-some None = refl
  and-some (Some x) = refl

  and-further : (m : ℕ) (o : Option ℕ) → option_and_then (λ y. first_of_list (g.parents y)) (option_and_then (first_ancestor g m) o) ≡ option_and_then (first_ancestor g (suc m)) o
  and-further m None = refl
  and-further m (Some x) = refl

  -- k steps and then m
  pub first-add : (m k n x : ℕ) → n ≡ k + m → first_ancestor g n x ≡ option_and_then (first_ancestor g m) (first_ancestor g k x)
  first-add zero k n x e = let same : n ≡ k = omega arith in ap (λ i. first_ancestor g i x) same ∙ and-some (first_ancestor g k x)
  first-add (suc m) k zero x e = absurd (omega arith)
  first-add (suc m) k (suc n) x e =
      ap (λ o. option_and_then (λ y. first_of_list (g.parents y)) o) (first-add m k n x (omega arith)) ∙ and-further m (first_ancestor g k x)

module _ (flats : List Segment) (lawful : IsLawful flats) (x : ℕ) (s : Segment) (found : segment_at flats x ≡ Some s) where
  pub low-at_most : s.low ≤ x
  low-at_most = (segment-in flats x s found).1.0

  -- within the segment
  pub first-within : (k : ℕ) → s.low + k ≤ x → first_ancestor (table_graph flats) k x ≡ Some (x - k)
  first-within zero le = ap (λ n. Some n) (omega arith)
  first-within (suc k) le =
      let f = segment-in flats x s found in let high = f.1.1 in
      ap (λ o. option_and_then (λ y. first_of_list ((table_graph flats).parents y)) o) (first-within k (omega arith))
      ∙ ap first_of_list (parents-over flats lawful s f.0 (x - k) (omega arith) (omega arith))
      ∙ ap (λ n. Some n) (omega arith)

  -- to a parent of the lowest
  pub first-beyond : (left m : ℕ) → left ≡ (x - s.low) + (1 + m) → first_ancestor (table_graph flats) left x ≡ option_and_then (first_ancestor (table_graph flats) m) (first_of_list s.parents)
  first-beyond left m e =
      let f = segment-in flats x s found in let low = f.1.0 in
      first-add (table_graph flats) (1 + m) (x - s.low) left x e
      ∙ ap (λ o. option_and_then (first_ancestor (table_graph flats) (1 + m)) o) (first-within (x - s.low) (omega arith) ∙ ap (λ n. Some n) (omega arith))
      ∙ first-add (table_graph flats) m 1 (1 + m) s.low refl
      ∙ ap (λ o. option_and_then (first_ancestor (table_graph flats) m) (first_of_list o)) (parents-low flats lawful s f.0)

  pub no-first : (left : ℕ) → x - s.low < left → s.parents ≡ [] → first_ancestor (table_graph flats) left x ≡ None
  no-first left lt e =
      first-beyond left (left - (x - s.low) - 1) (omega arith)
      ∙ ap (λ l. option_and_then (first_ancestor (table_graph flats) (left - (x - s.low) - 1)) (first_of_list l)) e

  pub to-first : (left rest p : ℕ) (more : List ℕ) → left ≡ (x - s.low) + (1 + rest) → s.parents ≡ p ∷ more → first_ancestor (table_graph flats) rest p ≡ first_ancestor (table_graph flats) left x
  to-first left rest p more e ps =
      sym (first-beyond left rest e ∙ ap (λ l. option_and_then (first_ancestor (table_graph flats) rest) (first_of_list l)) ps)

  pub first-is : (p : ℕ) (more : List ℕ) → s.parents ≡ p ∷ more → (p < s.low) × IsHeld flats p
  first-is p more ps =
      parent-below flats lawful s.low p (subst (IsIn p) (sym (parents-low flats lawful s (segment-in flats x s found).0 ∙ ps)) (inl refl))
