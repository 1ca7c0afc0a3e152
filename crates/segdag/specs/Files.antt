-- How the program uses its log, and which status it gives of its own.
use Rattle.std.specs.Prelude.{ℕ, ◌≡◌, ◌==◌, ◌&&◌, Bool, true, false, not, if◌then◌else◌}
use Rattle.program_words.specs.declared.usage.Mode.{Mode}
use Rattle.program_words.specs.declared.usage.Mode.TheVariants.{Run, Demo, Serve, Bundle, Compact}
use Rattle.file_disk.specs.declared.access.Access.{Access}
use Rattle.file_disk.specs.declared.access.Access.TheVariants.{Read, Fill, Own, Await}
use Rattle.segdag.specs.declared.files.LogFiles.{LogFiles}

-- A run and a log that is written anew keep the log for themselves, and may wait for it; a bundle needs it, and others may have it unless
-- nothing is stored in it yet; a demonstration and a served mirror leave it alone.
abbrev pub access_by : Mode → Bool → Access
access_by Run wait = if wait then Await else Own
access_by Compact wait = if wait then Await else Own
access_by Bundle wait = Fill
access_by Demo wait = Read
access_by Serve wait = Read

-- where the disk failed and the log was never opened the status is 9, and any other stays
abbrev pub own_status_of : ℕ → Bool → ℕ
own_status_of status is_opened = if status == 3 && not is_opened then 9 else status

-- ---- a log that another process has

-- it was asked whether another one has the lock, for which the log may have been opened, and nothing else was done with its files
pub record IsAsked (old new : LogFiles) : Type 0 where
  pub spare : new.spare ≡ old.spare
  pub calls : new.log.calls ≡ old.log.calls
  pub faults : new.log.faults ≡ old.log.faults

-- a status that says something else
abbrev pub IsNotSixteen : ℕ → Type 0
IsNotSixteen status = status ≡ 16 → ⊥

-- The status is 16 exactly where another one has the lock, and then the files stay as they were when that was asked, and the mirrors too.
abbrev pub EndsLocked : {M : Type 0} → Bool → LogFiles → LogFiles → M → M → ℕ → Type 0
EndsLocked true asked files mirrors left status = (status ≡ 16) × (files ≡ asked) × (left ≡ mirrors)
EndsLocked false asked files mirrors left status = IsNotSixteen status
