-- The status of a log that another process has is no other's.
use Rattle.std.proofs.Common.{◌≡◌, ℕ, Bool, true, false, subst, true≢false}
use Rattle.std.specs.Prelude.{IsTrue, ◌==◌, ◌&&◌, not, if◌then◌else◌}
use Rattle.program_words.specs.declared.usage.Mode.{Mode}
use Rattle.program_words.specs.declared.usage.Mode.TheVariants.{Run, Demo, Serve, Bundle, Compact}
use Rattle.dag_run.specs.Modes.{IsModeStatus}
use Rattle.dag_run.specs.Stops.{IsRunStatus, IsDemoStatus}
use Rattle.dag_run.specs.Serving.{IsServeStatus}
use Rattle.dag_run.specs.Bundling.{IsBundleStatus}
use Rattle.dag_run.specs.Compacting.{IsCompactStatus}
use Rattle.segdag.specs.Files.{IsNotSixteen, own_status_of}

-- none of a mode
pub mode-not-sixteen : (mode : Mode) (status : ℕ) → IsModeStatus mode status → IsNotSixteen status
mode-not-sixteen Run status known is = let same = subst IsRunStatus is known in cc same
mode-not-sixteen Demo status known is = let same = subst IsDemoStatus is known in cc same
mode-not-sixteen Serve status known is = let same = subst IsServeStatus is known in cc same
mode-not-sixteen Bundle status known is = let same = subst IsBundleStatus is known in cc same
mode-not-sixteen Compact status known is = let same = subst IsCompactStatus is known in cc same

-- nor the program's own
pub own-not-sixteen : (status : ℕ) (is_opened : Bool) → IsNotSixteen status → IsNotSixteen (own_status_of status is_opened)
own-not-sixteen status is_opened other = by_case (status == 3 && not is_opened)
  where
    by_case : (b : Bool) → IsNotSixteen (if b then 9 else status)
    by_case true same = let nine : 9 ≡ 16 = same in cc nine
    by_case false same = other same
