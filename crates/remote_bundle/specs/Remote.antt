-- What contracts see of a bundle as a remote.
use Rattle.std.specs.Prelude.{Bool, true, false, ◌≡◌, ◌<◌, ◌≤◌, ◌⊎◌, ℕ, List, Option, None, Result, Ok, Err, IfSome, option_and_then, length}
use Rattle.std.specs.Option.{option_map}
use Rattle.commit_graph.specs.World.{Row}
use Rattle.id_groups.specs.Name.{Name}
use Rattle.outside.specs.Counts.{Rose}
use Rattle.remote_rules.specs.Mirror.{Mirror}
use Rattle.remote_rules.specs.Known.{master_world}
use Rattle.remote_rules.specs.Honest.{clone_data_of}
use Rattle.remote_trait.specs.declared.fault.RemoteFault.{RemoteFault}
use Rattle.remote_trait.specs.declared.fault.RemoteFault.TheVariants.{Failed, Memory}
use Rattle.bundle_codec.specs.Reading.{rows_within}
use Rattle.remote_bundle.specs.Held.{IsUnfit}

pub record PlainRemote : Type 0 where
  -- how many bytes the file may have
  pub limit : ℕ
  -- the bytes that the disk tells, and how often its calls failed
  pub bytes : Option (List ℕ)
  pub disk_faults : ℕ
  -- how often the remote failed, and for how many names and paths it was asked
  pub faults : ℕ
  pub asked : ℕ
  -- whether something is kept of the file
  pub is_kept : Bool

-- the rows of the bundle that the disk's bytes are, where it tells them
abbrev pub rows_told : PlainRemote → Option (List (Row Name))
rows_told r = option_and_then (rows_within r.limit) r.bytes

-- What it means as a remote. Its master is the rows of the bundle, and its clone data are that master's. No call changes the bytes, so that
-- it is settled. Which faults are to come isn't told.
abbrev pub mirror_of : PlainRemote → Mirror
mirror_of r = record {
  master = rows_told r;
  cloned = option_map (λ rows. clone_data_of (master_world rows)) (rows_told r);
  settled = true;
  to_come = None;
  faults = r.faults;
  asked = r.asked;
}

-- what is kept are the bytes that the disk tells, and these are fit
abbrev pub IsKeptOf : ℕ → Option (List ℕ) → Option (List ℕ) → Type 0
IsKeptOf limit told kept = IfSome told (λ bytes. IfSome kept (λ held. (held ≡ bytes) × (IsUnfit limit bytes → ⊥)))

-- what reading the file leaves: the bytes as they were
pub record Reads (before now : PlainRemote) : Type 0 where
  pub limit : now.limit ≡ before.limit
  pub bytes : now.bytes ≡ before.bytes
  pub disk_faults : before.disk_faults ≤ now.disk_faults
  pub asked : now.asked ≡ before.asked

-- Once the file was read, it is kept, and the count of the disk's faults stays.
abbrev pub ReadsOnce : PlainRemote → PlainRemote → Type 0
ReadsOnce before now = before.is_kept ≡ true → (now.is_kept ≡ true) × (now.disk_faults ≡ before.disk_faults)

-- An answer comes of a file that is kept. A call fails only where none was, and none is then, so that the next one reads it anew.
abbrev pub KeepsFile : {T : Type 0} → PlainRemote → PlainRemote → Result T RemoteFault → Type 0
KeepsFile before now (Ok answer) = ReadsOnce before now × (now.is_kept ≡ true)
KeepsFile before now (Err Failed) = (before.is_kept ≡ false) × (now.is_kept ≡ false)
KeepsFile before now (Err Memory) = ReadsOnce before now

-- the count of the disk's faults rose, or the bytes that it tells are unfit
abbrev pub IsCause : PlainRemote → PlainRemote → Type 0
IsCause before now = IfSome before.bytes (λ bytes. Rose before.disk_faults now.disk_faults ⊎ IsUnfit before.limit bytes)

-- the file has no more bytes than the limit, where the disk tells them
abbrev pub IsNotTooLarge : PlainRemote → Type 0
IsNotTooLarge r = IfSome r.bytes (λ bytes. r.limit < length bytes → ⊥)

-- The file's bytes are fit; or the count of failures rose, since one of the disk's calls failed or the bytes
-- are unfit.
abbrev pub KeepsBundle : {T : Type 0} → PlainRemote → PlainRemote → Result T RemoteFault → Type 0
KeepsBundle before now (Ok done) =
    Reads before now × (now.faults ≡ before.faults) × IfSome before.bytes (λ bytes. IsUnfit before.limit bytes → ⊥)
KeepsBundle before now (Err Failed) = Reads before now × Rose before.faults now.faults × (before.faults ≤ now.faults) × IsCause before now
KeepsBundle before now (Err Memory) = Reads before now × (now.faults ≡ before.faults) × IsNotTooLarge before

-- Why a call failed, and that none answers of a file that is unfit. A file that is too large takes no memory: each call fails of it.
abbrev pub HasBundleCause : {T : Type 0} → PlainRemote → PlainRemote → Result T RemoteFault → Type 0
HasBundleCause before now (Ok answer) = IfSome before.bytes (λ bytes. IsUnfit before.limit bytes → ⊥)
HasBundleCause before now (Err Failed) = IsCause before now
HasBundleCause before now (Err Memory) = IsNotTooLarge before
