-- What two sets both reach, and one turn of a visit of it.
use Rattle.std.specs.Prelude.{◌≡◌, ℕ, ◌<◌, ◌≤◌, ◌⊎◌, ◌↔◌, List, Option, Some, min, max}
use Rattle.id_groups.specs.declared.span.IdSpan.{IdSpan}
use Rattle.commit_graph.specs.Graph.{Graph, Reaches}
use Rattle.commit_graph.specs.Sets as sets
use Rattle.span_set.specs.Members.{IsMember}
use Rattle.common_ancestor.specs.Turns.{greater_with, Puts}

-- no member is a parent of what a member reaches
abbrev pub AreLast : Graph ℕ → (ℕ → Type 0) → Type 0
AreLast g S = (x : ℕ) → S x → sets.parents g (sets.ancestors g S) x → ⊥

-- each member reaches x
abbrev pub AllReach : Graph ℕ → (ℕ → Type 0) → ℕ → Type 0
AllReach g S x = (m : ℕ) → S m → Reaches g m x

-- the greatest of what waits on the left, on the right and for both
abbrev pub greatest_of : ℕ → ℕ → Option ℕ → ℕ
greatest_of left right both = greater_with (max left right) both

-- the greatest of what waits for both, and of what waits on either side below the other's greatest
abbrev pub shared_of : ℕ → ℕ → Option ℕ → ℕ
shared_of left right both = greater_with (min left right) both

-- The ids went to the list of both where the shared one isn't below low, else to the side that has the greater one.
abbrev pub PutsOne : ℕ → ℕ → ℕ → ℕ → List ℕ → (List ℕ × List ℕ × List ℕ) → (List ℕ × List ℕ × List ℕ) → Type 0
PutsOne low shared left right ids before after =
    ((low ≤ shared) × (after.0 ≡ before.0) × (after.1 ≡ before.1) × Puts before.2 ids after.2)
    ⊎ (((shared < low) × (left < right) × (after.0 ≡ before.0) × Puts before.1 ids after.1 × (after.2 ≡ before.2))
    ⊎ ((shared < low) × (right ≤ left) × Puts before.0 ids after.0 × (after.1 ≡ before.1) × (after.2 ≡ before.2)))

-- the shared id came to the set, unless it lies below low or waited for both
abbrev pub AddsShared : ℕ → ℕ → Option ℕ → List IdSpan → List IdSpan → Type 0
AddsShared low shared both before after = (x : ℕ) → IsMember after x ↔ (IsMember before x ⊎ ((x ≡ shared) × (low ≤ x) × (both ≡ Some x → ⊥)))
