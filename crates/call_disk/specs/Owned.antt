-- What a disk tells that is only read.
use Rattle.std.specs.Prelude.{◌≡◌, refl, ℕ, zero, suc, List, [], ◌∷◌, ◌++◌, Bool, true, false, Option, Some, None, IfSome}
use Rattle.disk_trait.specs.Images.{Unsynced, Told, IsSound, surely}

-- the moments of so many calls, at each of which this may be lost
abbrev pub moments : Unsynced → ℕ → List Unsynced
moments u zero = []
moments u (suc calls) = moments u calls ++ u ∷ u ∷ []

-- these bytes are sure, and so many calls were made
abbrev pub told_behind : List ℕ → ℕ → Told
told_behind bytes calls = record { bytes = bytes; past = moments (surely bytes) calls; now = surely bytes }

-- what is told of bytes that are there, and of none
abbrev pub told_where : Bool → List ℕ → ℕ → Option Told
told_where true bytes calls = Some (told_behind bytes calls)
told_where false bytes calls = None

abbrev pub bytes_where : Bool → List ℕ → Option (List ℕ)
bytes_where true bytes = Some bytes
bytes_where false bytes = None

-- the bytes are those that it tells
pub tells_bytes : (is_there : Bool) (bytes : List ℕ) (calls : ℕ) → IfSome (told_where is_there bytes calls) (λ t. bytes_where is_there bytes ≡ Some t.bytes)
tells_bytes true bytes calls = refl
tells_bytes false bytes calls = tt

-- it is sound where it tells something
pub sound_where : (is_there : Bool) (bytes : List ℕ) (calls : ℕ) → IsSound (told_behind bytes calls) → IfSome (told_where is_there bytes calls) IsSound
sound_where true bytes calls sound = sound
sound_where false bytes calls sound = tt
