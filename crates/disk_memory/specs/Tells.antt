-- What contracts see of a disk in memory.
use Rattle.std.specs.Prelude.{ℕ, ◌≤◌, ◌+◌, ◌/◌, ◌⊎◌, List}
use Rattle.disk_trait.specs.Images.{Told, moment_of, last_moment}
use Rattle.disk_trait.specs.Calls.{Passes, Writes}
use Rattle.disk_memory.specs.Scenes.{History, history_of, told_of}
use Rattle.disk_memory.specs.Named.{IsNamed}
use Rattle.disk_memory.specs.declared.disk.MemoryDisk.{MemoryDisk}

abbrev pub history : MemoryDisk → History
history disk = history_of disk.start.items disk.calls.items disk.idle

abbrev pub tells : MemoryDisk → Told
tells disk = told_of (history disk)

-- the next call has this number, counted from 1
abbrev pub next_number : MemoryDisk → ℕ
next_number disk = moment_of (tells disk) / 2 + 1

-- the next call is to fail: by the lists, or at the last moment
abbrev pub MustFail : MemoryDisk → Type 0
MustFail disk = (last_moment ≤ moment_of (tells disk)) ⊎ IsNamed disk.failing (next_number disk)

-- a write that fails counts as one of its whole range, or as none
abbrev pub WritesAllOrNone : ℕ → List ℕ → Told → Told → Type 0
WritesAllOrNone at piece old new = Writes at piece old new ⊎ Passes old new
