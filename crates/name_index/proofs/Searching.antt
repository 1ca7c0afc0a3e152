-- A search that may look anywhere among elements whose answers rise.
use Rattle.std.proofs.Common.{◌≡◌, ◌<◌, ◌≤◌, ◌+◌, ◌∙◌, refl, ℕ, List, length, get_or, subst, ap, arith, zero-le, le_refl, Ordering, Less, Equal, Greater}
use Rattle.std.specs.Ordering.{ordering_index}
use Rattle.std.specs.List.{AllWithin, HoldsAt}
use Rattle.std.specs.List.Sorted.{IsNonDecreasingBy, IsPartitionPoint}
use Rattle.std.proofs.lemmas.List.{get_or_default}

bottom : (o : Ordering) → ordering_index o ≤ 0 → o ≡ Less
bottom Less h = refl
bottom Equal h = absurd (omega arith)
bottom Greater h = absurd (omega arith)

top : (o : Ordering) → 2 ≤ ordering_index o → o ≡ Greater
top Less h = absurd (omega arith)
top Equal h = absurd (omega arith)
top Greater h = refl

module _ {X : Type 0} (ord : X → Ordering) (xs : List X) where
  -- where the answers rise, all before `low` are less and all from `high` on are greater
  pub record Between (low high : ℕ) : Type 0 where
    pub order : low ≤ high
    pub within : high ≤ length xs
    pub front : IsNonDecreasingBy (λ y. ordering_index (ord y)) xs → AllWithin (λ y. ord y ≡ Less) xs 0 low
    pub back : IsNonDecreasingBy (λ y. ordering_index (ord y)) xs → AllWithin (λ y. ord y ≡ Greater) xs high (length xs)

  pub between-all : Between 0 (length xs)
  between-all = record { order = zero-le; within = le_refl _; front = λ up k d a b. absurd (omega arith); back = λ up k d a b. absurd (omega arith) }

  pub answer-at : (at : ℕ) (e : X) (o : Ordering) → at < length xs → ord (get_or xs at e) ≡ o → HoldsAt (λ y. ord y ≡ o) xs at
  answer-at at e o l is d = ap ord (get_or_default xs at d e l) ∙ is

  pub between-above : (low high at : ℕ) (e : X) → at < high → ord (get_or xs at e) ≡ Less → Between low high → Between (at + 1) high
  between-above low high at e l is b =
      let within = b.within in
      let read = answer-at at e Less (omega (arith, l, within)) is in
      record {
        order = omega (arith, l);
        within = within;
        front = λ up k d a h. bottom _ (subst (λ (o : Ordering). ordering_index (ord (get_or xs k d)) ≤ ordering_index o) (read d) (up k at d (omega (arith, h)) (omega (arith, l, within))));
        back = b.back;
      }

  pub between-below : (low high at : ℕ) (e : X) → low ≤ at → at < high → ord (get_or xs at e) ≡ Greater → Between low high → Between low at
  between-below low high at e m l is b =
      let within = b.within in
      let read = answer-at at e Greater (omega (arith, l, within)) is in
      record {
        order = m;
        within = omega (arith, l, within);
        front = b.front;
        back = λ up k d a h. top _ (subst (λ (o : Ordering). ordering_index o ≤ ordering_index (ord (get_or xs k d))) (read d) (up at k d a h));
      }

  pub between-none : (low high : ℕ) → high ≤ low → Between low high → IsNonDecreasingBy (λ y. ordering_index (ord y)) xs → IsPartitionPoint (λ y. ord y ≡ Less) (λ y. ord y ≡ Greater) xs low
  between-none low high h b up = (b.front up, λ k d l m. b.back up k d (omega (arith, h, l)) m)
