-- Flat segments: ranges of ids in which each id but the lowest has its predecessor as its only parent.
use Rattle.std.specs.Prelude.{ℕ, ◌+◌, List, [], ◌∷◌, nat_eq, if◌then◌else◌}
use Rattle.std.specs.Cmp.Lexicographic.{pointwise}

pub record Span : Type 0 where
  pub low : ℕ
  pub high : ℕ
  -- the parents of low
  pub parents : List ℕ

abbrev pub single_span : ℕ → List ℕ → Span
single_span id parents = record { low = id; high = id; parents = parents }

-- an id and its parents put before the segments of the ids that follow: where the first of these
-- goes on from the id alone, the id joins it
abbrev pub with_id_span : ℕ → List ℕ → List Span → List Span
with_id_span id parents [] = single_span id parents ∷ []
with_id_span id parents (next ∷ more) =
    if pointwise nat_eq next.parents (id ∷ [])
    then record { low = id; high = next.high; parents = parents } ∷ more
    else single_span id parents ∷ next ∷ more

-- the flat segments of the ids from first on, whose parents these are
abbrev pub flat_segments : ℕ → List (List ℕ) → List Span
flat_segments first [] = []
flat_segments first (parents ∷ more) = with_id_span first parents (flat_segments (first + 1) more)
