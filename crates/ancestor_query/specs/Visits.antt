-- Visits of ids from the greatest down: what waits to be visited, and what is known of the ids gone over.
use Rattle.std.specs.Prelude.{◌≡◌, ℕ, ◌-◌, ◌<◌, ◌≤◌, ◌⊎◌, List, Option, Some, None, max}
use Rattle.id_groups.specs.Lists.{IsIn}
use Rattle.commit_graph.specs.Sets as sets
use Rattle.segment_codec.specs.Record.{Segment}
use Rattle.ancestor_query.specs.Graph.{table_graph}

-- an id of the set from which the visits start, or of the work
abbrev pub ToVisit : (ℕ → Type 0) → List ℕ → ℕ → Type 0
ToVisit S work x = S x ⊎ IsIn x work

-- what is dropped from the work is at or above the bound
pub record Keeps (before after : List ℕ) (below : ℕ) : Type 0 where
  pub kept : (x : ℕ) → IsIn x after → IsIn x before
  pub lost : (x : ℕ) → IsIn x before → x < below → IsIn x after

-- the greatest with P below the bound
pub record IsGreatest (P : ℕ → Type 0) (below x : ℕ) : Type 0 where
  pub is : P x
  pub under : x < below
  pub greatest : (w : ℕ) → P w → w < below → w ≤ x

-- the greatest with P below the bound, if there is one
abbrev pub Greatest : (ℕ → Type 0) → ℕ → Option ℕ → Type 0
Greatest P below None = (w : ℕ) → P w → w < below → ⊥
Greatest P below (Some x) = IsGreatest P below x

-- one above the greatest with P below the bound; 0 where there is none
abbrev pub IsEnd : (ℕ → Type 0) → ℕ → ℕ → Type 0
IsEnd P below end = (end ≤ below) × (0 < end → P (end - 1)) × ((w : ℕ) → P w → w < below → w < end)

-- the greatest of the work below the bound
pub record Peeks (before after : List ℕ) (below : ℕ) (result : Option ℕ) : Type 0 where
  pub keeps : Keeps before after below
  pub greatest : Greatest (λ x. IsIn x after) below result

-- the greatest to visit below the bound
pub record IsNext (S : ℕ → Type 0) (before after : List ℕ) (below : ℕ) (result : Option ℕ) : Type 0 where
  pub keeps : Keeps before after below
  pub greatest : Greatest (ToVisit S after) below result

-- the greater of two, where there are two
abbrev pub greater_of : Option ℕ → Option ℕ → Option ℕ
greater_of None b = b
greater_of (Some x) None = Some x
greater_of (Some x) (Some y) = Some (max x y)

-- The work has ancestors of the set, among them each that lies below the frontier and is a parent of one at or above it.
pub record IsFrontier (flats : List Segment) (S : ℕ → Type 0) (frontier : ℕ) (work : List ℕ) : Type 0 where
  pub sound : (w : ℕ) → IsIn w work → sets.ancestors (table_graph flats) S w
  pub whole : (y p : ℕ) → sets.ancestors (table_graph flats) S y → frontier ≤ y → IsIn p ((table_graph flats).parents y) → p < frontier → IsIn p work

-- The same where the visits start from one id, which stands on the work too.
pub record Pending (flats : List Segment) (y frontier : ℕ) (work : List ℕ) : Type 0 where
  pub pending : IsFrontier flats (λ z. z ≡ y) frontier work
  pub own : y < frontier → IsIn y work
