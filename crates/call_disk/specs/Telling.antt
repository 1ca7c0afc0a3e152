-- What a disk tells whose calls are noted, of the one over which they are to be performed.
use Rattle.std.specs.Prelude.{◌≡◌, ⊤, refl, List, Option, Some, None, IfSome, ℕ, [], ◌∷◌}
use Rattle.std.specs.Coded.{×_prop, Unit-prop, le_prop}
use Rattle.disk_trait.specs.Images.{Told}
use Rattle.call_disk.specs.Noted.{Call, Write, Sync, Step}
use Rattle.call_disk.specs.Tape.{Tape}
use Rattle.call_disk.specs.Performed.{HonestDisk, Fits, AllFit, begun, done, passed, replayed}

-- what all calls make of it, each of which was noted or changed nothing
abbrev pub told_over : Option HonestDisk → Tape → Option Told
told_over None tape = None
told_over (Some disk) tape = Some (replayed tape.steps tape.idle (begun disk.told))

abbrev pub bytes_over : Option HonestDisk → Tape → Option (List ℕ)
bytes_over None tape = None
bytes_over (Some disk) tape = Some (replayed tape.steps tape.idle (begun disk.told)).bytes

-- each write that was noted begins within the bytes
abbrev pub FitOver : Option HonestDisk → List Step → Type 0
FitOver None steps = ⊤
FitOver (Some disk) steps = AllFit steps (begun disk.told)

-- the bytes are those that it tells
pub tells_over : (disk : Option HonestDisk) (tape : Tape) → IfSome (told_over disk tape) (λ t. bytes_over disk tape ≡ Some t.bytes)
tells_over None tape = tt
tells_over (Some disk) tape = refl

fits_prop : (call : Call) (t : Told) → IsProp (Fits call t)
fits_prop (Write at piece) t = le_prop
fits_prop Sync t = Unit-prop

all_prop : (steps : List Step) (t : Told) → IsProp (AllFit steps t)
all_prop [] t = Unit-prop
all_prop (step ∷ steps) t = ×_prop (fits_prop step.call (passed step.idle t)) (all_prop steps (done step.call (passed step.idle t)))

pub fit_prop : (disk : Option HonestDisk) (steps : List Step) → IsProp (FitOver disk steps)
fit_prop None steps = Unit-prop
fit_prop (Some disk) steps = all_prop steps (begun disk.told)
