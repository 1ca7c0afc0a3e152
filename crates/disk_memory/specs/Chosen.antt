-- One of the lists of bytes that a crash may leave.
use Rattle.std.specs.Prelude.{◌≡◌, ◌<◌, ◌≤◌, ◌⊎◌, ℕ, List, length, max, min, slice_index}
use Rattle.disk_trait.specs.Images.{Unsynced, IsWritten, longest}
use Rattle.disk_memory.specs.Scenes.{Scene}
use Rattle.disk_memory.specs.declared.crash.Fill.{Fill}
use Rattle.disk_memory.specs.declared.crash.Fill.TheVariants.{Old, New, Byte}

-- what stands where a byte isn't sure: the stable one, the one that a read gives, or that byte. Where there is none, 0.
abbrev pub filled : Fill → Scene → ℕ → ℕ
filled Old scene place = slice_index scene.unsynced.stable place
filled New scene place = slice_index scene.bytes place
filled (Byte byte) scene place = byte

-- a byte that a crash may lose
abbrev pub IsLoose : Unsynced → ℕ → Type 0
IsLoose u place = IsWritten place u.written ⊎ (length u.stable ≤ place)

-- the length that is nearest to the size among those from the least to the greatest
abbrev pub nearest : ℕ → ℕ → ℕ → ℕ
nearest least greatest size = max least (min size greatest)

-- the image that is filled so and has the length nearest to that size
pub record IsChosen (scene : Scene) (fill : Fill) (size : ℕ) (image : List ℕ) : Type 0 where
  pub long : length image ≡ nearest (length scene.unsynced.stable) (longest (length scene.unsynced.stable) scene.unsynced.written) size
  pub sure : (place : ℕ) → place < length scene.unsynced.stable → ¬ (IsWritten place scene.unsynced.written) → slice_index image place ≡ slice_index scene.unsynced.stable place
  pub loose : (place : ℕ) → place < length image → IsLoose scene.unsynced place → slice_index image place ≡ filled fill scene place
