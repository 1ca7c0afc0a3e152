-- What a crash leaves of a fresh file while it gets its closed gate.
use Rattle.std.proofs.Common.{◌≡◌, ◌⊎◌, inl, inr, ℕ, suc, ◌≤◌, List, [], ◌∷◌, length, Option, Some, None, IfSome, sym, ap, subst, arith}
use Rattle.disk_trait.specs.Images.{IsImage, Told, moment_of}
use Rattle.disk_trait.specs.Calls.{Writes, FailsToWrite, Succeeds, OrRefuses, Goes, with_range, overwritten}
use Rattle.disk_trait.specs.Since.{SureSince}
use Rattle.disk_trait.proofs.Loss.{image-stable, last-append}
use Rattle.disk_trait.proofs.Moments.{SureFrom, left-now, started, fails_to_write, goes_on, joined, weakened}
use Rattle.disk_trait.proofs.Telling.{goes-then, goes-map, goes-from}
use Rattle.gated_log.specs.Load.{IsFresh, LeavesFresh, LeavesOldOrFresh}
use Rattle.gated_log.proofs.LoadCalls.{Kept, IsSized}

abbrev S : ℕ → List ℕ → Type 0
S moment image = length image ≤ 1

fresh-image : (a : Told) → IsFresh a → (image : List ℕ) → IsImage a.now image → length image ≤ 1
fresh-image a f image is = let e = image-stable a.bytes image (subst (λ u. IsImage u image) f.1 is) in let n = f.0 in omega (arith, ap length e, n)

fresh-torn : (a : Told) → IsFresh a → (image : List ℕ) → IsImage (with_range a.now 0 1) image → length image ≤ 1
fresh-torn a f image is =
    let here = subst (λ u. IsImage (with_range u 0 1) image) f.1 is in
    let n = here.no_longer in let m = f.0 in omega (arith, n, m)

fresh-same : (a : Told) → IsFresh a → LeavesFresh a a
fresh-same a f = started S a (λ image left. fresh-image a f image (left-now a image left))

fresh-writes : (a b : Told) → IsFresh a → Succeeds (Writes 0 (0 ∷ [])) a b → LeavesFresh a b
fresh-writes a b f w =
    let lost = with_range a.now 0 1 in
    let torn : SureFrom S (suc (moment_of a)) lost = λ moment image le is. fresh-torn a f image is in
    subst (SureSince S a) (sym w.1) (goes_on S a a lost lost (overwritten a.bytes 0 (0 ∷ [])) (fresh-same a f) torn torn)

fresh-fails : (a b : Told) → IsFresh a → OrRefuses (FailsToWrite 0 (0 ∷ [])) a b → LeavesFresh a b
fresh-fails a b f w = fails_to_write S a a b 0 (0 ∷ []) (fresh-same a f) (λ moment image le is. fresh-image a f image is) (λ moment image le is. fresh-torn a f image is) w

-- a step that leaves nothing new
kept-fresh : (a b c : Told) → LeavesFresh a b → Kept b c → LeavesFresh a c
kept-fresh a b c f k = joined S a b c f (weakened (λ moment. IsImage b.now) S b c (λ moment image is. f.since (moment_of b) image f.later (omega arith) (subst (λ u. IsImage u image) (sym (last-append b.past b.now b.now)) is)) k)

pub fresh_write_fails : (a b : Option Told) → IfSome a IsFresh → Goes (OrRefuses (FailsToWrite 0 (0 ∷ []))) a b → Goes LeavesFresh a b
fresh_write_fails a b f w = goes-from (OrRefuses (FailsToWrite 0 (0 ∷ []))) LeavesFresh IsFresh a b (λ x y h r. fresh-fails x y h r) f w

pub fresh_sync : (a b c : Option Told) → IfSome a IsFresh → Goes (Succeeds (Writes 0 (0 ∷ []))) a b → Goes Kept b c → Goes LeavesFresh a c
fresh_sync a b c f w k = goes-then LeavesFresh Kept LeavesFresh a b c kept-fresh (goes-from (Succeeds (Writes 0 (0 ∷ []))) LeavesFresh IsFresh a b (λ x y h r. fresh-writes x y h r) f w) k

-- ---- and of loading as a whole
pub old_kept : (a b : Option Told) → Goes Kept a b → Goes LeavesOldOrFresh a b
old_kept a b k = goes-map Kept LeavesOldOrFresh a b (λ x y h. weakened (λ moment. IsImage x.now) (λ moment image. IsImage x.now image ⊎ ((length x.bytes ≤ 1) × (length image ≤ 1))) x y (λ moment image is. inl is) h) k

then-fresh : (a c d : Told) → IsSized a c → length c.bytes ≤ 1 → LeavesFresh c d → LeavesOldOrFresh a d
then-fresh a c d s short f =
    let P : ℕ → List ℕ → Type 0 = λ moment image. IsImage a.now image ⊎ ((length a.bytes ≤ 1) × (length image ≤ 1)) in
    joined P a c d (weakened (λ moment. IsImage a.now) P a c (λ moment image is. inl is) s.kept) (weakened S P c d (λ moment image le. inr (let e = ap length s.bytes in omega (arith, e, short), le)) f)

pub fresh_started : (size : ℕ) (a c d : Option Told) → Goes IsSized a c → IfSome c (λ t. size ≡ length t.bytes) → size ≤ 1 → Goes LeavesFresh c d → Goes LeavesOldOrFresh a d
fresh_started size None None None s h le f = tt
fresh_started size None None (Some z) s h le f = f
fresh_started size None (Some y) d s h le f = absurd s
fresh_started size (Some x) None d s h le f = absurd s
fresh_started size (Some x) (Some y) None s h le f = f
fresh_started size (Some x) (Some y) (Some z) s h le f = then-fresh x y z s (omega (arith, h, le)) f
