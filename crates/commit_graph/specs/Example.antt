-- A world of six commits, whose names are numbers, for examples of the definitions.
use Rattle.std.specs.Prelude.{◌≡◌, ◌⊎◌, ℕ, [], ◌∷◌}
use Rattle.commit_graph.specs.World.{World}
use Rattle.commit_graph.specs.Sets.{Commits}

-- 2 has the children 3 and 4, 5 stands behind 4, and 6 merges 3 and 5; the last three are no master commits
abbrev pub forked : World ℕ
forked = record {
  master = record { name = 1; parents = [] } ∷ record { name = 2; parents = 1 ∷ [] } ∷ record { name = 3; parents = 2 ∷ [] } ∷ [];
  others = record { name = 4; parents = 2 ∷ [] } ∷ record { name = 5; parents = 4 ∷ [] } ∷ record { name = 6; parents = 3 ∷ 5 ∷ [] } ∷ [];
}

-- the set of the commits 2 and 6
abbrev pub is_2_or_6 : Commits ℕ
is_2_or_6 c = (c ≡ 2) ⊎ (c ≡ 6)
