-- The parents of numbers, at their places in one list.
use Rattle.std.specs.Prelude.{◌≡◌, ◌≤◌, ◌-◌, ℕ, List, length, map, take, drop}
use Rattle.std.specs.List.{AllByRecursion}
use Rattle.assign_ids.specs.declared.graph.Node.{Node}
use Rattle.flush_plan.specs.declared.graph.Place.{Place}
use Rattle.change_parts.specs.Rows.{AreSmall}

-- what stands at a place of the list
abbrev pub row_at : List ℕ → Place → List ℕ
row_at ids p = take (p.to - p.from) (drop p.from ids)

-- the same of a list of nodes
abbrev pub node_row_at : List Node → Place → List Node
node_row_at nodes p = take (p.to - p.from) (drop p.from nodes)

-- a place in a list of so many
abbrev pub IsPlaceIn : ℕ → Place → Type 0
IsPlaceIn n p = (p.from ≤ p.to) × (p.to ≤ n)

-- these rows stand at the places in the list
pub record AreRows (places : List Place) (ids : List ℕ) (rows : List (List ℕ)) : Type 0 where
  pub rows_are : map (row_at ids) places ≡ rows
  pub places_in : AllByRecursion (IsPlaceIn (length ids)) places
  pub small : AreSmall ids
