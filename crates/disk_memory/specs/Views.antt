-- A scene as the code keeps it.
use Rattle.std.specs.Prelude.{◌≡◌, ◌&&◌, ◌+◌, ℕ, Bool, not, nat_lt, nat_le, if◌then◌else◌, length, map, slice_index}
use Rattle.std.specs.List.{list_any}
use Rattle.disk_trait.specs.Images.{Range, longest}
use Rattle.disk_memory.specs.Scenes.{Scene}
use Rattle.disk_memory.specs.declared.crash.Fill.{Fill}
use Rattle.disk_memory.specs.declared.crash.Fill.TheVariants.{Old, New, Byte}
use Rattle.disk_memory.specs.declared.view.Span.{Span}
use Rattle.disk_memory.specs.declared.view.View.{View}

abbrev pub range_of : Span → Range
range_of span = record { from = span.from; size = span.size }

pub record Shows (scene : Scene) (view : View) : Type 0 where
  pub stable_are : view.stable.items ≡ scene.unsynced.stable
  pub bytes_are : view.bytes.items ≡ scene.bytes
  pub written_are : map range_of view.written.items ≡ scene.unsynced.written
  pub size : length view.bytes.items ≡ longest (length view.stable.items) scene.unsynced.written

abbrev pub covers : ℕ → Span → Bool
covers place span = nat_le span.from place && nat_lt place (span.from + span.size)

abbrev pub is_sure : View → ℕ → Bool
is_sure view place = nat_lt place (length view.stable.items) && not (list_any (covers place) view.written.items)

abbrev pub fill_byte : Fill → View → ℕ → ℕ
fill_byte Old view place = slice_index view.stable.items place
fill_byte New view place = slice_index view.bytes.items place
fill_byte (Byte byte) view place = byte

abbrev pub view_byte : Fill → View → ℕ → ℕ
view_byte fill view place = if is_sure view place then slice_index view.stable.items place else fill_byte fill view place
