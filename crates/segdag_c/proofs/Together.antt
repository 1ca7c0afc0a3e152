-- What the library says of a disk that stops anywhere, of one that performs the calls together.
use Rattle.std.proofs.Common.{◌≡◌, ◌⊎◌, inl, inr, List, [], ◌∷◌, ◌++◌, ⊎_elim, ℕ}
use Rattle.disk_trait.specs.Images.{Told, IsImage}
use Rattle.disk_trait.specs.Since.{SureSince}
use Rattle.gated_log.specs.Held.{Held}
use Rattle.gated_log.specs.Holding.{Begins, HasPayloads, IsLogWithin, IsOnDisk}
use Rattle.gated_log.specs.Load.{LeavesOldOrFresh}
use Rattle.call_disk.specs.Noted.{Call}
use Rattle.call_disk.specs.Performed.{AllOrNone, IsAs}
use Rattle.call_disk.proofs.Atomic.{as-sure, kept-atomic}
use Rattle.dag_store.specs.Kept.{PlainStore}
use Rattle.segdag_c.specs.Stores.{IsOldOrNew, Stores}
use Rattle.segdag_c.specs.Loads.{Settles}
use Rattle.std.specs.Prelude.{◌≤◌, length}

pub stored-together : (kept next : PlainStore) (payload : List ℕ) (calls : List Call) (old whole new : Told) → Stores kept payload next calls old → AllOrNone calls old whole new
    → SureSince (λ moment. IsOldOrNew kept payload) old new
    × (IsAs new old ⊎ (HasPayloads kept.limits.log new (kept.log.payloads ++ payload ∷ []) × IsOnDisk next.log new))
stored-together kept next payload calls old whole new stores h = (
  kept-atomic (IsOldOrNew kept payload) calls old whole new stores.stopped h,
  ⊎_elim (λ same. inl same)
      (λ same. inr (let all = stores.whole whole h.performs in (
        as-sure (IsLogWithin kept.limits.log (kept.log.payloads ++ payload ∷ [])) new whole same all.0,
        as-sure (Begins next.log) new whole same all.1,
      )))
      h.ends,
)

pub settled-together : (store : PlainStore) (calls : List Call) (old whole new : Told) → Settles store calls old → AllOrNone calls old whole new
    → LeavesOldOrFresh old new × (IsAs new old ⊎ (HasPayloads store.limits.log new store.log.payloads × IsOnDisk store.log new))
settled-together store calls old whole new settles h = (
  kept-atomic (λ image. IsImage old.now image ⊎ ((length old.bytes ≤ 1) × (length image ≤ 1))) calls old whole new settles.stopped h,
  ⊎_elim (λ same. inl same)
      (λ same. inr (let all = settles.whole whole h.performs in (
        as-sure (IsLogWithin store.limits.log store.log.payloads) new whole same all.0,
        as-sure (Begins store.log) new whole same all.1,
      )))
      h.ends,
)

pub same-together : (log : Held) (old new : Told) → IsAs new old → IsOnDisk log old → IsOnDisk log new
same-together log old new same on = as-sure (Begins log) new old same on
