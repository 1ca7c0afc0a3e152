-- Places that all ways down from a set go past.
use Rattle.std.specs.Prelude.{ℕ, ◌<◌, ◌≤◌, List}
use Rattle.id_groups.specs.Lists.{IsIn}
use Rattle.id_groups.specs.declared.span.IdSpan.{IdSpan}
use Rattle.commit_graph.specs.Graph.{Graph, Reaches}
use Rattle.range_query.specs.Parts.{StandBelow}
use Rattle.range_query.specs.declared.cut.Cut.{Cut}

-- each id with P at or above the cut reaches one from the least to before the cut; nothing is said where the least is 0
abbrev pub IsCut : Graph ℕ → (ℕ → Type 0) → Cut → Type 0
IsCut g P c = 0 < c.least → (x : ℕ) → P x → c.at ≤ x → (y : ℕ) × Reaches g x y × (c.least ≤ y) × (y < c.at)

-- one of the cuts, no higher than an id, whose least is above all that are missed and no lower than a lowest id
abbrev pub IsSettled : List IdSpan → ℕ → List Cut → ℕ → Type 0
IsSettled missed lowest cuts id = (c : Cut) × IsIn c cuts × (c.at ≤ id) × (0 < c.least) × (lowest ≤ c.least) × StandBelow c.least missed
