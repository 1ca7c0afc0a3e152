-- Tables that the laws name.
use Rattle.std.specs.Prelude.{◌^◌, ◌+◌, List, [], ◌∷◌}
use Rattle.segment_codec.specs.Record.{Segment}

-- 3 is on 1, 5 merges 4 and 2, and the first other id is on 5; each id that no segment begins with is on the one before
abbrev pub small_table : List Segment
small_table =
    record { low = 0; high = 2; level = 0; parents = [] } ∷ record { low = 3; high = 4; level = 0; parents = 1 ∷ [] }
    ∷ record { low = 5; high = 5; level = 0; parents = 4 ∷ 2 ∷ [] } ∷ record { low = 2 ^ 56; high = 2 ^ 56 + 1; level = 0; parents = 5 ∷ [] } ∷ []

-- no segment has 3
abbrev pub gapped_table : List Segment
gapped_table = record { low = 0; high = 2; level = 0; parents = [] } ∷ record { low = 4; high = 5; level = 0; parents = 2 ∷ [] } ∷ []
