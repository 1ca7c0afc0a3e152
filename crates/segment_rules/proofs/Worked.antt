-- Worked examples, by computing.
use Rattle.std.proofs.Common.{◌≡◌, ◌+◌, ◌*◌, [], ◌∷◌, ◌++◌, flat_map, replicate, refl}
use Rattle.std.specs.List.{range_with_len}
use Rattle.segment_rules.specs.Levels.{group_size, level_counts_of}

pub rootless : level_counts_of (replicate 19 []) ≡ 19 ∷ 3 ∷ []
unfolding group_size
rootless = refl

pub ladder : level_counts_of ([] ∷ (0 ∷ []) ∷ (flat_map (λ k. ((2 * k) ∷ (2 * k + 1) ∷ []) ∷ ((2 * k + 2) ∷ []) ∷ []) (range_with_len 0 16) ++ ((32 ∷ 33 ∷ []) ∷ [])))
    ≡ 18 ∷ 1 ∷ []
unfolding group_size
ladder = refl
