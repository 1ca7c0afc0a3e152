-- The calls that a load notes, over a disk that has the bytes that were lent.
use Rattle.std.proofs.Common.{◌≡◌, ◌⊎◌, inl, inr, ◌≤◌, ℕ, List, Option, Some, None, Ok, Err, IfOk, IfSome, length, refl, sym, ◌∙◌, ap, subst, arith}
use Rattle.std.specs.declared.result.Result.{Result}
use Rattle.disk_trait.specs.Images.{Unsynced, IsImage}
use Rattle.disk_trait.specs.Calls.{Goes}
use Rattle.disk_trait.proofs.Moments.{left-now, weakened}
use Rattle.gated_log.specs.Load.{LeavesOldOrFresh}
use Rattle.call_disk.specs.Awaited.{awaited}
use Rattle.call_disk.specs.Lent.{HasBytes, lent_over}
use Rattle.call_disk.specs.Noted.{Call, Step, calls_in}
use Rattle.call_disk.specs.declared.noted.NotedCalls.{NotedCalls}
use Rattle.call_disk.specs.Tape.{Tape}
use Rattle.call_disk.specs.Performed.{HonestDisk, WasLeft, begun, replayed}
use Rattle.call_disk.specs.Telling.{FitOver, told_over}
use Rattle.call_disk.proofs.Stopping.{may-perform, performs-alike, stops-told}
use Rattle.dag_store.specs.Kept.{PlainStore}
use Rattle.dag_store.specs.Loading.{IsLoadedStore}
use Rattle.segdag_c.specs.declared.codes.Failure.{Failure}
use Rattle.segdag_c.specs.Loads.{LoadNotes, Settles}
use Rattle.segdag_c.proofs.Deciding.{are-same}
use Rattle.segdag_c.proofs.Storing.{empty_tape, left-here, picked, picked-if}

-- ---- the disk, where it has the bytes

abbrev pub lender : List ℕ → HonestDisk → Option HonestDisk
lender bytes disk = picked disk (are-same disk.told.bytes bytes)

pub lender-has : (bytes : List ℕ) (disk : HonestDisk) → HasBytes (lender bytes disk) bytes
lender-has bytes disk = of (are-same disk.told.bytes bytes)
  where
    of : (has : (disk.told.bytes ≡ bytes) ⊎ (disk.told.bytes ≡ bytes → ⊥)) → HasBytes (picked disk has) bytes
    of (inl has) = has
    of (inr has_not) = tt

-- what is read of it at first
pub lent-first : (disk : Option HonestDisk) (lent bytes : List ℕ) (tape : Tape) → HasBytes disk lent → tape ≡ empty_tape → lent ≡ bytes → lent_over disk lent tape ≡ bytes
lent-first None lent bytes tape has is are = are
lent-first (Some d) lent bytes tape has is are = ap (λ (t : Tape). lent_over (Some d) lent t) is ∙ has ∙ are

-- ---- what was noted

settles : (d : HonestDisk) (store : PlainStore) (steps : List Step) (idle : ℕ) → FitOver (Some d) steps → LeavesOldOrFresh (begun d.told) (replayed steps idle (begun d.told))
    → IsLoadedStore store (begun d.told) (replayed steps idle (begun d.told)) → Settles store (calls_in steps) d.told
settles d store steps idle fit left done =
    let last = replayed steps idle (begun d.told) in
    record {
      may = may-perform steps (begun d.told) d.told (refl, refl) fit;
      stopped = λ new stops. weakened (λ moment. WasLeft last) (λ moment image. IsImage d.told.now image ⊎ ((length d.told.bytes ≤ 1) × (length image ≤ 1))) d.told new
          (λ moment image was. left.since was.0 image (omega arith) was.1 was.2) (stops-told steps idle (begun d.told) d.told new (refl, refl) stops);
      whole = λ new performs. (let same = performs-alike steps idle (begun d.told) d.told new (refl, refl) performs in (
        λ image now. done.payloads image (left-here last image (subst (λ (u : Unsynced). IsImage u image) (sym same.0) (left-now new image now))),
        λ image now. done.on_disk image (left-here last image (subst (λ (u : Unsynced). IsImage u image) (sym same.0) (left-now new image now))),
      ));
    }

pub settles-on : (disk : Option HonestDisk) (store : PlainStore) (start last : Tape) (calls : List Call) → start ≡ empty_tape → FitOver disk last.steps
    → Goes LeavesOldOrFresh (told_over disk start) (told_over disk last) → Goes (IsLoadedStore store) (told_over disk start) (told_over disk last) → calls_in last.steps ≡ calls
    → IfSome disk (λ (d : HonestDisk). Settles store calls d.told)
settles-on None store start last calls is fit left done are = tt
settles-on (Some d) store start last calls is fit left done are =
    subst (λ cs. Settles store cs d.told) are
    (settles d store last.steps last.idle fit
    (subst (λ (t : Tape). Goes LeavesOldOrFresh (told_over (Some d) t) (told_over (Some d) last)) is left)
    (subst (λ (t : Tape). Goes (IsLoadedStore store) (told_over (Some d) t) (told_over (Some d) last)) is done))

-- over any disk
pub load-notes : (bytes : List ℕ) (r : Result (PlainStore × NotedCalls) Failure) (disk : HonestDisk)
    → IfOk r (λ loaded. IfSome (lender bytes disk) (λ (d : HonestDisk). Settles loaded.0 (awaited loaded.1) d.told)) → IfOk r (λ loaded. LoadNotes bytes loaded.0 (awaited loaded.1) disk.told)
load-notes bytes (Ok loaded) disk notes = λ has. picked-if disk (are-same disk.told.bytes bytes) (λ t. Settles loaded.0 (awaited loaded.1) t) notes has
load-notes bytes (Err failure) disk notes = tt
