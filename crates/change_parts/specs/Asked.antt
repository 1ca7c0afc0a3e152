-- What a plan asks for, by payloads alone: no world is named.
use Rattle.std.specs.Prelude.{◌≡◌, ◌<◌, ◌≤◌, ◌^◌, ◌⊎◌, ℕ, List, Option, Some, None, length, map}
use Rattle.std.specs.List.{AllByRecursion}
use Rattle.id_groups.specs.Lists.{IsIn, AreDistinct}
use Rattle.id_groups.specs.Name.{Name}
use Rattle.id_groups.specs.Id.{other_id}
use Rattle.batch_codec.specs.Grammar.{count_after}
use Rattle.name_map.specs.Added.{Placed, payloads_of}
use Rattle.change_rules.specs.Tables.{newest, other_names_in}
use Rattle.payload_tables.specs.Pending.{HeldRow, PlainPending, HoldsRows, row_names}
use Rattle.payload_tables.specs.Bases.{stored_in}

-- how many other ids the base of these payloads has
abbrev pub others_count : List Placed → ℕ
others_count added = length (other_names_in (newest (payloads_of added)))

-- an id of the base
abbrev pub IsBaseId : List Placed → ℕ → Type 0
IsBaseId added id = (id < count_after 0 (payloads_of added)) ⊎ ((2 ^ 56 ≤ id) × (id < other_id (others_count added)))

-- the base stores the name
abbrev pub IsStored : List Placed → Name → Type 0
IsStored added name = IsIn name (map (λ k. k.name) (stored_in added))

-- what was found of a name: an id of the base, or none where the base stores no such name
abbrev pub IsFoundIn : List Placed → Name → Option ℕ → Type 0
IsFoundIn added name None = IsStored added name → ⊥
IsFoundIn added name (Some id) = IsBaseId added id

-- parents that are among so many master ids, or other ids
abbrev pub HaveParents : ℕ → List HeldRow → Type 0
HaveParents masters rows = AllByRecursion (λ row. AllByRecursion (λ p. (p < masters) ⊎ (2 ^ 56 ≤ p)) row.parents) rows

-- Pending rows that a payload behind these may store: they begin where the other ids end, their master parents are in the
-- base, and their names are new there.
pub record MayStore (pending : PlainPending) (added : List Placed) : Type 0 where
  pub rows : List HeldRow
  pub held : HoldsRows pending rows
  pub first : pending.first ≡ others_count added
  pub parents : HaveParents (count_after 0 (payloads_of added)) rows
  pub distinct : AreDistinct (row_names rows)
  pub fresh : (name : Name) → IsIn name (row_names rows) → IsStored added name → ⊥
