-- What a disk tells whose bytes are lent, of the one that has them.
use Rattle.std.specs.Prelude.{◌≡◌, ◌||◌, ⊤, refl, true, false, Bool, ℕ, List, [], ◌∷◌, Option, Some, None, IfSome}
use Rattle.std.specs.Coded.{Coded-set, Unit-prop, coded_list, coded_ℕ}
use Rattle.call_disk.specs.Noted.{Call, Write, Sync, Step}
use Rattle.call_disk.specs.Tape.{Tape}
use Rattle.call_disk.specs.Performed.{HonestDisk, begun, replayed}
use Rattle.call_disk.specs.Telling.{told_over}

-- the bytes are those of the disk
abbrev pub HasBytes : Option HonestDisk → List ℕ → Type 0
HasBytes None bytes = ⊤
HasBytes (Some disk) bytes = disk.told.bytes ≡ bytes

-- some write was noted
abbrev pub is_write : Call → Bool
is_write (Write at piece) = true
is_write Sync = false

abbrev pub has_write : List Step → Bool
has_write [] = false
has_write (step ∷ steps) = is_write step.call || has_write steps

-- those that were lent, where there is no disk that has them
abbrev pub lent_over : Option HonestDisk → List ℕ → Tape → List ℕ
lent_over None bytes tape = bytes
lent_over (Some disk) bytes tape = (replayed tape.steps tape.idle (begun disk.told)).bytes

pub tells_lent : (disk : Option HonestDisk) (bytes : List ℕ) (tape : Tape) → IfSome (told_over disk tape) (λ t. Some (lent_over disk bytes tape) ≡ Some t.bytes)
tells_lent None bytes tape = tt
tells_lent (Some disk) bytes tape = refl

pub has_prop : (disk : Option HonestDisk) (bytes : List ℕ) → IsProp (HasBytes disk bytes)
has_prop None bytes = Unit-prop
has_prop (Some disk) bytes = Coded-set (coded_list coded_ℕ) disk.told.bytes bytes
