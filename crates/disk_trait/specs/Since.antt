-- What is sure at each moment since some call began.
use Rattle.std.specs.Prelude.{◌≡◌, ℕ, ◌≤◌, List}
use Rattle.disk_trait.specs.Images.{Told, moment_of, IsImage, LeftAt}

-- each list of bytes that a crash at that moment may leave has P
abbrev pub SureAt : Told → ℕ → (List ℕ → Type 0) → Type 0
SureAt t moment P = (image : List ℕ) → LeftAt t moment image → P image

-- each list that a crash now may leave has P
abbrev pub SureNow : Told → (List ℕ → Type 0) → Type 0
SureNow t P = SureAt t (moment_of t) P

-- The disk went on from old to new, and what was before is as it was. Each list that a crash at a moment since
-- old may leave, old and new included, has P of that moment.
pub record SureSince (P : ℕ → List ℕ → Type 0) (old new : Told) : Type 0 where
  pub later : moment_of old ≤ moment_of new
  pub past : (moment : ℕ) (image : List ℕ) → moment ≤ moment_of old → LeftAt new moment image → LeftAt old moment image
  pub since : (moment : ℕ) (image : List ℕ) → moment_of old ≤ moment → moment ≤ moment_of new → LeftAt new moment image → P moment image

-- Nothing was written: a read gives what it gave before, and a crash at each moment since leaves what it might have left before.
abbrev pub IsUntouched : Told → Told → Type 0
IsUntouched old new = (new.bytes ≡ old.bytes) × SureSince (λ moment. IsImage old.now) old new
