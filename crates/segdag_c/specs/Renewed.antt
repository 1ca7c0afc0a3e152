-- Mirrors that are given other bytes.
use Rattle.std.specs.Prelude.{◌≡◌, ◌≤◌, ◌^◌, ◌++◌, ◌⊎◌, ℕ, List, [], ◌∷◌, length, Bool, Some, None, Result, Ok, Err, slice_get, slice_set, false, if◌then◌else◌}
use Rattle.disk_trait.specs.Images.{fresh_disk}
use Rattle.change_rules.specs.Standard.{standard}
use Rattle.remote_store.specs.Remote.{PlainRemote}
use Rattle.remote_bundle.specs.Remote.{PlainRemote as PlainBundle}
use Rattle.call_disk.specs.Owned.{bytes_where}
use Rattle.call_disk.specs.Tells.{tells}
use Rattle.call_disk.specs.declared.owned.OwnedDisk.{OwnedDisk}
use Rattle.segdag_c.specs.declared.codes.Failure.{Failure}
use Rattle.segdag_c.specs.declared.codes.Failure.TheVariants.{Argument, Memory}
use Rattle.segdag_c.specs.declared.held.Held.{Held}
use Rattle.segdag_c.specs.declared.mirror.Mirror.{Mirror}
use Rattle.segdag_c.specs.declared.mirror.Mirror.TheVariants.{Log, Bundle}
use Rattle.segdag_c.specs.Handles.{IsSame}

-- by which C speaks of it
abbrev pub number_of : Mirror → ℕ
number_of (Log number r) = number
number_of (Bundle number r) = number

-- a log and a bundle on this disk, of which nothing was read
abbrev pub log_over : OwnedDisk → PlainRemote OwnedDisk
log_over disk = record { log = record { limit = standard.log; told = tells disk; disk_faults = disk.faults; faults = 0; asked = 0; kept = None }; disk = disk }

abbrev pub bundle_over : OwnedDisk → PlainBundle
bundle_over disk = record { limit = 2 ^ 30; bytes = bytes_where disk.is_there disk.bytes.items; disk_faults = disk.faults; faults = 0; asked = 0; is_kept = false }

-- the same mirror over this disk
abbrev pub renewed : OwnedDisk → Mirror → Mirror
renewed disk (Log number r) = Log number (log_over disk)
renewed disk (Bundle number r) = Bundle number (bundle_over disk)

-- the mirror at that place has this number
abbrev pub HasNumber : List Mirror → ℕ → ℕ → Type 0
HasNumber mirrors number k = (m : Mirror) × (slice_get mirrors k ≡ Some m) × (number_of m ≡ number)

-- that one is over this disk, and the others are as they were
abbrev pub IsOverAt : List Mirror → List Mirror → ℕ → OwnedDisk → Type 0
IsOverAt old new k disk = (m : Mirror) × (slice_get old k ≡ Some m) × (new ≡ slice_set old k (renewed disk m))

-- one with this number is
abbrev pub AreOver : List Mirror → List Mirror → ℕ → OwnedDisk → Type 0
AreOver old new number disk = (k : ℕ) × HasNumber old number k × IsOverAt old new k disk

-- one with this number is over a disk with these bytes, or over one that isn't there, and the others are as they were
pub record AreRenewed (old new : List Mirror) (number : ℕ) (is_there : Bool) (bytes : List ℕ) : Type 0 where
  pub disk : OwnedDisk
  pub told : tells disk ≡ (if is_there then Some (fresh_disk bytes) else None)
  pub over : AreOver old new number disk

-- ---- what comes of calls that give mirrors

-- beside the mirrors all is as it was
abbrev pub KeepsOthers : Held → Held → Type 0
KeepsOthers before after = (after.store ≡ before.store) × (after.log ≡ before.log) × (after.reply ≡ before.reply) × (after.names ≡ before.names)

-- a log is of kind 0, a bundle of kind 1
abbrev pub IsMade : ℕ → ℕ → OwnedDisk → Mirror → Type 0
IsMade number kind disk m = ((kind ≡ 0) × (m ≡ Log number (log_over disk))) ⊎ ((kind ≡ 1) × (m ≡ Bundle number (bundle_over disk)))

abbrev pub IsNoKind : ℕ → Type 0
IsNoKind kind = (kind ≡ 0 → ⊥) × (kind ≡ 1 → ⊥)

-- a mirror of this kind that isn't there, by which C speaks of it with this number
abbrev pub IsMissing : ℕ → ℕ → Mirror → Type 0
IsMissing number kind m = (disk : OwnedDisk) × (tells disk ≡ None) × IsMade number kind disk m

-- such a mirror stands behind the others
abbrev pub IsBehind : ℕ → ℕ → List Mirror → List Mirror → Type 0
IsBehind number kind old new = (m : Mirror) × IsMissing number kind m × (new ≡ old ++ m ∷ [])

-- Such a mirror stands behind the others; or there are as many as may be, or none of that kind.
abbrev pub AddMirrorCame : ℕ → ℕ → Held → Held → Result (Unit {0}) Failure → Type 0
AddMirrorCame number kind before after (Ok done) = IsBehind number kind before.mirrors.list.items after.mirrors.list.items × KeepsOthers before after
AddMirrorCame number kind before after (Err Argument) = ((65536 ≤ length before.mirrors.list.items) ⊎ IsNoKind kind) × IsSame before after
AddMirrorCame number kind before after (Err Memory) = (after.mirrors.list.items ≡ before.mirrors.list.items) × KeepsOthers before after
AddMirrorCame number kind before after (Err failure) = ⊥

-- One with the number has these bytes, or isn't there; or none has the number.
abbrev pub RenewCame : ℕ → Bool → List ℕ → Held → Held → Result (Unit {0}) Failure → Type 0
RenewCame number is_there bytes before after (Ok done) = AreRenewed before.mirrors.list.items after.mirrors.list.items number is_there bytes × KeepsOthers before after
RenewCame number is_there bytes before after (Err Argument) = ((k : ℕ) → HasNumber before.mirrors.list.items number k → ⊥) × IsSame before after
RenewCame number is_there bytes before after (Err Memory) = IsSame before after
RenewCame number is_there bytes before after (Err failure) = ⊥
