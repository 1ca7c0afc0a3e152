-- Names that stand one behind another in bytes, with an index of their places.
use Rattle.std.specs.Prelude.{◌≡◌, ◌≤◌, ◌+◌, ◌*◌, ℕ, List, length}
use Rattle.id_groups.specs.Name.{Name}
use Rattle.name_index.specs.Index.{IsIndexOf}
use Rattle.name_index.specs.Named.{NamesStand}
use Rattle.name_index.specs.declared.entry.Entry.{Entry}
use Rattle.bundle_codec.specs.Bundle.{most_rows}
use Rattle.bundle_codec.specs.Places.{named_from}

pub record PlainNames : Type 0 where
  pub bytes : List ℕ
  -- where the first name stands
  pub start : ℕ
  pub index : List (List Entry)

-- these names stand from the start up to the end of the bytes, and the index is that of their places
pub record ArePlaced (n : PlainNames) (names : List Name) : Type 0 where
  pub stand : NamesStand n.bytes (named_from n.start names)
  pub index : IsIndexOf n.index (named_from n.start names)
  pub size : n.start + 20 * length names ≡ length n.bytes
  pub few : length names ≤ most_rows
