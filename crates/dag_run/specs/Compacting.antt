-- What writing a log anew means, by its status.
use Rattle.std.specs.Prelude.{ℕ, ◌≡◌, ◌⊎◌, ◌==◌, IsTrue, List, [], ◌∷◌, ◌++◌, Option, IfSome}
use Rattle.std.specs.List.{list_any}
use Rattle.disk_trait.specs.Since.{IsUntouched}
use Rattle.outside.specs.Told.{WhereTold, TookFront}
use Rattle.id_groups.specs.Name.{Name}
use Rattle.commit_graph.specs.World.{World}
use Rattle.disk_trait.specs.Images.{Told}
use Rattle.disk_trait.specs.Calls.{Goes}
use Rattle.gated_log.specs.Load.{LeavesOldOrFresh}
use Rattle.batch_codec.specs.Payload.{Payload}
use Rattle.change_rules.specs.Holding.{HoldAs}
use Rattle.command_lines.specs.Sending.{shrunk_text}
use Rattle.log_compact.specs.Compacts.{IsReadAs, IsWrittenAs, Shrinks, KeepsNoneOrWhole, HasWhole, IsUnstored}
use Rattle.log_compact.specs.declared.answer.Shrunk.{Shrunk}
use Rattle.log_compact.specs.declared.answer.Compacted.{Compacted}
use Rattle.log_compact.specs.declared.answer.Compacted.TheVariants.{Done, FromDisk, FromBad, ToDisk, NotFresh, Full, Memory}

-- the status of each answer; where it is written, that of a line that was put whole
abbrev pub compact_status : Compacted → ℕ
compact_status (Done shrunk) = 0
compact_status (FromDisk fault) = 3
compact_status FromBad = 4
compact_status Memory = 7
compact_status (ToDisk fault) = 13
compact_status NotFresh = 14
compact_status (Full most) = 15

-- the status is the answer's; where it is written it is 6, too, if the sink failed
abbrev pub HasStatus : Compacted → ℕ → Type 0
HasStatus (Done shrunk) status = (status ≡ 0) ⊎ (status ≡ 6)
HasStatus (FromDisk fault) status = status ≡ compact_status (FromDisk fault)
HasStatus FromBad status = status ≡ compact_status FromBad
HasStatus (ToDisk fault) status = status ≡ compact_status (ToDisk fault)
HasStatus NotFresh status = status ≡ compact_status NotFresh
HasStatus (Full most) status = status ≡ compact_status (Full most)
HasStatus Memory status = status ≡ compact_status Memory

-- the line that tells of it
abbrev pub shrunk_line : Shrunk → List ℕ
shrunk_line shrunk = shrunk_text shrunk.master shrunk.others shrunk.length_from shrunk.length_to

-- what the sink took: where it is written the line, whole with 0 and a front of it with 6; else nothing
abbrev pub PutsAnswer : Compacted → ℕ → List ℕ → List ℕ → Type 0
PutsAnswer (Done shrunk) status before now =
    (status ≡ 0 → now ≡ before ++ shrunk_line shrunk) × (status ≡ 6 → TookFront (shrunk_line shrunk) before now)
PutsAnswer (FromDisk fault) status before now = now ≡ before
PutsAnswer FromBad status before now = now ≡ before
PutsAnswer (ToDisk fault) status before now = now ≡ before
PutsAnswer NotFresh status before now = now ≡ before
PutsAnswer (Full most) status before now = now ≡ before
PutsAnswer Memory status before now = now ≡ before

-- The status is that of an answer which says all this of the bytes that the log and the new one had, of what a crash leaves of the new
-- one, and of what the sink took, where they tell.
pub record CompactMeans (limit : ℕ) (log_bytes spare_bytes : Option (List ℕ)) (spare_old spare_new : Option Told) (before now : Option (List ℕ)) (status : ℕ) : Type 0 where
  pub answer : Compacted
  pub has : HasStatus answer status
  pub puts : WhereTold before now (PutsAnswer answer status)
  -- of the bytes of both: 4 exactly where the log's are no log, 14 exactly where the other's are none or have a batch
  pub reads : IfSome log_bytes (λ bytes. IsReadAs limit bytes answer)
  pub writes : IfSome spare_bytes (λ bytes. IsWrittenAs limit bytes answer)
  -- of what the log holds: the numbers of the line, and 15 exactly where its one payload is too long
  pub shrinks : (payloads : List Payload) (w : World Name) → IfSome log_bytes (λ bytes. HoldAs limit bytes payloads w → Shrinks limit payloads w answer)
  -- at each moment since, and in the end where it is written
  pub moments : (payloads : List Payload) (w : World Name) → IfSome log_bytes (λ bytes. HoldAs limit bytes payloads w → Goes (KeepsNoneOrWhole limit payloads w) spare_old spare_new)
  pub done : (payloads : List Payload) (w : World Name) (shrunk : Shrunk) → answer ≡ Done shrunk
      → IfSome log_bytes (λ bytes. HoldAs limit bytes payloads w → Goes (HasWhole limit payloads w) spare_old spare_new)
  -- where it isn't written
  pub loaded : IsUnstored answer → Goes LeavesOldOrFresh spare_old spare_new
  pub unwritten : answer ≡ NotFresh → Goes IsUntouched spare_old spare_new

-- the statuses of writing a log anew
abbrev pub IsCompactStatus : ℕ → Type 0
IsCompactStatus status = IsTrue (list_any (λ known. known == status) (0 ∷ 3 ∷ 4 ∷ 6 ∷ 7 ∷ 13 ∷ 14 ∷ 15 ∷ []))
