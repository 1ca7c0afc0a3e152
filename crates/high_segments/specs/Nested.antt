-- Tests of how the levels of a view lie one in another.
use Rattle.std.specs.Prelude.{ℕ, suc, Bool, ◌||◌, not, List, length}
use Rattle.std.specs.List.{list_all, range_with_len}
use Rattle.segment_levels.specs.Kept.{PlainGroups}
use Rattle.segment_levels.specs.Endings.{high_ending}
use Rattle.segment_levels.specs.Tests.{is_found}

-- whether one of level 1 ends where a segment of a level does, below a count of master ids
unfoldable pub are_nested : ℕ → List PlainGroups → Bool
are_nested count levels =
    list_all (λ k. list_all (λ id. not (is_found (high_ending count levels (suc k) id)) || is_found (high_ending count levels 1 id)) (range_with_len 0 count)) (range_with_len 0 (length levels))
