-- What contracts see of a log as a remote.
use Rattle.std.specs.Prelude.{◌≡◌, ◌≤◌, ◌⊎◌, ℕ, List, Option, Some, None, Result, Ok, Err, IfSome, MatchOption, length, option_and_then, is_some}
use Rattle.std.specs.Option.{option_map}
use Rattle.commit_graph.specs.World.{Row}
use Rattle.id_groups.specs.Name.{Name}
use Rattle.outside.specs.Counts.{Rose}
use Rattle.outside.specs.Told.{WhereTold}
use Rattle.disk_trait.specs.Images.{Told}
use Rattle.disk_trait.specs.Calls.{Goes}
use Rattle.disk_trait.specs.Meanwhile.{Meanwhile, Lasts}
use Rattle.gated_log.specs.Load.{OnlyReads, after_reads}
use Rattle.gated_log.specs.Growing.{IsGrowing, AreOfMoment}
use Rattle.remote_rules.specs.Mirror.{Mirror}
use Rattle.remote_rules.specs.Known.{master_world}
use Rattle.remote_rules.specs.Honest.{clone_data_of}
use Rattle.remote_trait.specs.declared.fault.RemoteFault.{RemoteFault}
use Rattle.remote_trait.specs.declared.fault.RemoteFault.TheVariants.{Failed, Memory}
use Rattle.remote_store.specs.Told.{master_told, told_in}
use Rattle.remote_store.specs.Fit.{IsUnfit, IsUnfitMeanwhile}

pub record PlainStore : Type 0 where
  -- how many bytes the log may have
  pub limit : ℕ
  -- what the disk tells, where it is honest, and how often its calls failed
  pub told : Option Told
  pub disk_faults : ℕ
  -- how often the remote failed, and for how many names and paths it was asked
  pub faults : ℕ
  pub asked : ℕ
  -- the texts of the log that is kept, where one is
  pub kept : Option (List (List ℕ))

-- a log as a remote, and the disk that it is on
pub record PlainRemote (S : Type 0) : Type 0 where
  pub log : PlainStore
  pub disk : S

-- the bytes of an honest disk
abbrev pub bytes_in : Option Told → Option (List ℕ)
bytes_in told = option_map (λ (t : Told). t.bytes) told

-- the rows of the master that it tells: of a log on an honest disk in which each commit has a known name, those of the log's world
abbrev pub rows_told : PlainStore → Option (List (Row Name))
rows_told r = option_and_then (master_told r.limit) (bytes_in r.told)

-- the rows of the master that the kept log tells, whatever the disk tells
abbrev pub rows_kept : PlainStore → Option (List (Row Name))
rows_kept r = option_and_then told_in r.kept

-- What it means as a remote. Its master is that of the log, and its clone data are that master's. Nobody else writes an honest disk, so
-- that a refresh finds there what was there before. Which faults are to come isn't told.
abbrev pub mirror_of : PlainStore → Mirror
mirror_of r = record {
  master = rows_told r;
  cloned = option_map (λ rows. clone_data_of (master_world rows)) (rows_told r);
  settled = is_some r.told;
  to_come = None;
  faults = r.faults;
  asked = r.asked;
}

-- what reading the log leaves: its bytes as they were, and a failure is counted
pub record Reads (before now : PlainStore) : Type 0 where
  pub limit : now.limit ≡ before.limit
  pub told : Goes (OnlyReads 3) before.told now.told
  pub disk_faults : before.disk_faults ≤ now.disk_faults
  pub asked : now.asked ≡ before.asked

-- the count of the disk's faults rose, or no remote can be made of an honest disk's bytes
abbrev pub IsCause : PlainStore → PlainStore → Type 0
IsCause before now = IfSome (bytes_in before.told) (λ bytes. Rose before.disk_faults now.disk_faults ⊎ IsUnfit before.limit bytes)

-- an honest disk has no more bytes than the limit
abbrev pub IsNotTooLong : PlainStore → Type 0
IsNotTooLong r = IfSome (bytes_in r.told) (λ bytes. length bytes ≤ r.limit)

-- The log was read, or was kept, its bytes being as they were, and they are a remote's; or the count of failures rose, since one of the
-- disk's calls failed or no remote can be made of the bytes.
abbrev pub KeepsStore : {T : Type 0} → PlainStore → PlainStore → Result T RemoteFault → Type 0
KeepsStore before now (Ok done) =
    Reads before now × (now.faults ≡ before.faults) × IfSome (bytes_in before.told) (λ bytes. IsUnfit before.limit bytes → ⊥)
KeepsStore before now (Err Failed) = Reads before now × Rose before.faults now.faults × (before.faults ≤ now.faults) × IsCause before now
KeepsStore before now (Err Memory) = Reads before now × (now.faults ≡ before.faults) × IsNotTooLong before

-- why a call failed, and that none answers of bytes of which no remote can be made
abbrev pub HasStoreCause : {T : Type 0} → PlainStore → PlainStore → Result T RemoteFault → Type 0
HasStoreCause before now (Ok answer) = IfSome (bytes_in before.told) (λ bytes. IsUnfit before.limit bytes → ⊥)
HasStoreCause before now (Err Failed) = IsCause before now
HasStoreCause before now (Err Memory) = IsNotTooLong before

-- The log was read once, by two calls where nobody else writes the disk. Where another process adds payloads meanwhile, these texts are the
-- log's at some moment of that reading. What a disk has at each moment is told of it so.
pub record HasRead {S : Type 0} (meanwhile : S → Option Meanwhile) (before now : PlainRemote S) (texts : List (List ℕ)) : Type 0 where
  pub calls : Goes (λ old new. new ≡ after_reads 2 old) before.log.told now.log.told
  pub moment : (payloads : ℕ → List (List ℕ))
      → WhereTold (meanwhile before.disk) (meanwhile now.disk) (λ old new. IsGrowing old.film payloads old.now → AreOfMoment payloads old.now new.now texts)

-- why a log to which another process adds payloads can't be read meanwhile
abbrev pub IsCauseMeanwhile : {S : Type 0} → (S → Option Meanwhile) → PlainRemote S → PlainRemote S → Type 0
IsCauseMeanwhile meanwhile before now = (payloads : ℕ → List (List ℕ)) → WhereTold (meanwhile before.disk) (meanwhile now.disk) (λ old new. IsGrowing old.film payloads old.now
    → Rose before.log.disk_faults now.log.disk_faults ⊎ IsUnfitMeanwhile before.log.limit old.film payloads old.now new.now)

-- What a call leaves that reads the log anew: an answer leaves it kept as it was read. A fault leaves nothing kept, so that the next call
-- reads it.
abbrev pub KeepsRead : {S T : Type 0} → (S → Option Meanwhile) → PlainRemote S → PlainRemote S → Result T RemoteFault → Type 0
KeepsRead meanwhile before now (Ok answer) = (texts : List (List ℕ)) × (now.log.kept ≡ Some texts) × HasRead meanwhile before now texts
KeepsRead meanwhile before now (Err Failed) = (now.log.kept ≡ None) × IsCauseMeanwhile meanwhile before now
KeepsRead meanwhile before now (Err Memory) = now.log.kept ≡ None

-- and time goes on
abbrev pub ReadsAnew : {S T : Type 0} → (S → Option Meanwhile) → PlainRemote S → PlainRemote S → Result T RemoteFault → Type 0
ReadsAnew meanwhile before now result =
    WhereTold (meanwhile before.disk) (meanwhile now.disk) Lasts × KeepsRead meanwhile before now result

-- what a call leaves over a log that is kept: it isn't read, and stays kept, unless memory was wanting
abbrev pub GoesOn : {S T : Type 0} → PlainRemote S → PlainRemote S → List (List ℕ) → Result T RemoteFault → Type 0
GoesOn before now texts (Ok answer) = (now.disk ≡ before.disk) × (now.log.kept ≡ Some texts)
GoesOn before now texts (Err Failed) = ⊥
GoesOn before now texts (Err Memory) = (now.disk ≡ before.disk) × (now.log.kept ≡ None)

-- The log is read by a call that finds nothing kept, and by no other.
abbrev pub ReadsWhereLacking : {S T : Type 0} → (S → Option Meanwhile) → PlainRemote S → PlainRemote S → Result T RemoteFault → Type 0
ReadsWhereLacking meanwhile before now result =
    MatchOption before.log.kept (ReadsAnew meanwhile before now result) (λ texts. GoesOn before now texts result)
