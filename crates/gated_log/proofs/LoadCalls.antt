-- The calls of loading, and what a crash leaves at each moment of them.
use Rattle.std.proofs.Common.{◌≡◌, inl, ℕ, suc, ◌≤◌, ◌+◌, ◌*◌, zero, List, [], ◌∷◌, ◌++◌, length, Option, Some, None, IfSome, IfOk, OnOk, Result, Ok, Err, refl, sym, ◌∙◌, ap, subst, arith, append_assoc, replicate}
use Rattle.std.proofs.lemmas.List.{append-nil, drop_all, replicate-append-replicate}
use Rattle.disk_trait.specs.Images.{Unsynced, IsImage, IsSound, Told, moment_of, LeftAt, surely}
use Rattle.disk_trait.specs.Calls.{Passes, Writes, FailsToWrite, Syncs, Succeeds, OrRefuses, Goes, with_range, overwritten}
use Rattle.disk_trait.specs.Since.{SureSince}
use Rattle.disk_trait.proofs.Loss.{image-stable, last-append}
use Rattle.disk_trait.proofs.Moments.{SureFrom, left-now, moment-call, started, goes_on, fails_past, fails_to_write, joined, weakened}
use Rattle.disk_trait.proofs.Telling.{goes-then, goes-map, goes-from, goes-same, if_forth, if_back}
use Rattle.gated_log.specs.Log.{IsLog, batches}
use Rattle.gated_log.specs.Held.{Held, log_bytes}
use Rattle.gated_log.specs.Holding.{IsLogWithin, HasPayloads, Begins}
use Rattle.gated_log.specs.Load.{Loads, IsLogOf, KeepsImages, KeepsPayloads, IsLoaded, IsFresh, IsStarted, OnlyReads, after_reads}
use Rattle.gated_log.specs.declared.LoadLog.{LoadLog}
use Rattle.gated_log.proofs.Reading.{one-log}

now-left : (t : Told) (image : List ℕ) → IsImage t.now image → LeftAt t (moment_of t) image
now-left t image h = subst (λ u. IsImage u image) (sym (last-append t.past t.now t.now)) h

-- ---- calls that leave nothing new
abbrev pub Kept : Told → Told → Type 0
Kept old new = SureSince (λ moment. IsImage old.now) old new

pub kept-same : (t : Told) → Kept t t
kept-same t = started (λ moment. IsImage t.now) t (λ image left. left-now t image left)

pub kept-pass : (a b : Told) → OrRefuses Passes a b → Kept a b
kept-pass a b w = fails_past (λ moment. IsImage a.now) a a b (kept-same a) (λ moment image le is. is) w

kept-sync : (a b : Told) → IsSound a → Syncs a b → Kept a b
kept-sync a b s w =
    subst (SureSince (λ moment. IsImage a.now) a) (sym w) (goes_on (λ moment. IsImage a.now) a a a.now (surely a.bytes) a.bytes (kept-same a) (λ moment image le is. is)
    (λ moment image le is. subst (IsImage a.now) (sym (image-stable a.bytes image is)) s.image))

kept-join : (a b c : Told) → Kept a b → Kept b c → Kept a c
kept-join a b c f g =
    joined (λ moment. IsImage a.now) a b c f
    (weakened (λ moment. IsImage b.now) (λ moment. IsImage a.now) b c (λ moment image is. f.since (moment_of b) image f.later (omega arith) (now-left b image is)) g)

-- ... keep the payloads
pub kept-payloads : (limit : ℕ) (ps : List (List ℕ)) (a b : Told) → Kept a b → KeepsPayloads limit ps a b
kept-payloads limit ps a b k has = weakened (λ moment. IsImage a.now) (λ moment. IsLogWithin limit ps) a b (λ moment image is. has image (now-left a image is)) k

pub images_kept : (a b : Option Told) → Goes Kept a b → Goes KeepsImages a b
images_kept a b k = goes-map Kept KeepsImages a b (λ x y h long. h) k

pub payloads_kept : (limit : ℕ) (ps : List (List ℕ)) (a b : Option Told) → Goes Kept a b → Goes (KeepsPayloads limit ps) a b
payloads_kept limit ps a b k = goes-map Kept (KeepsPayloads limit ps) a b (λ x y h. kept-payloads limit ps x y h) k

pub keeps-join : (limit : ℕ) (ps : List (List ℕ)) (a b c : Told) → KeepsPayloads limit ps a b → KeepsPayloads limit ps b c → KeepsPayloads limit ps a c
keeps-join limit ps a b c f g has = (let s = f has in joined (λ moment. IsLogWithin limit ps) a b c s (g (λ image left. s.since (moment_of b) image s.later (omega arith) left)))

-- ---- what both calls before the read do
pub record IsSynced (old new : Told) : Type 0 where
  pub bytes : new.bytes ≡ old.bytes
  pub sure : new.now ≡ surely old.bytes
  pub clock : moment_of new ≡ moment_of old + 2
  pub kept : Kept old new

pub record IsSized (old new : Told) : Type 0 where
  pub bytes : new.bytes ≡ old.bytes
  pub sure : new.now ≡ surely old.bytes
  pub clock : moment_of new ≡ moment_of old + 4
  pub kept : Kept old new

is_synced : (a b : Told) → IsSound a → Succeeds Syncs a b → IsSynced a b
is_synced a b s w = record {
  bytes = ap (λ (t : Told). t.bytes) w.1;
  sure = ap (λ (t : Told). t.now) w.1;
  clock = (let m = ap moment_of w.1 ∙ moment-call a a.now (surely a.bytes) a.bytes in omega (arith, m));
  kept = kept-sync a b s w.1;
}

is_sized : (a b c : Told) → IsSynced a b → Succeeds Passes b c → IsSized a c
is_sized a b c s w = record {
  bytes = ap (λ (t : Told). t.bytes) w.1 ∙ s.bytes;
  sure = ap (λ (t : Told). t.now) w.1 ∙ s.sure;
  clock = (let m = ap moment_of w.1 ∙ moment-call b b.now b.now b.bytes in let k = s.clock in omega (arith, m, k));
  kept = kept-join a b c s.kept (kept-pass b c (inl w));
}

pub synced : (a b : Option Told) → IfSome a IsSound → Goes (Succeeds Syncs) a b → Goes IsSynced a b
synced a b i w = goes-from (Succeeds Syncs) IsSynced IsSound a b (λ x y h r. is_synced x y h r) i w

pub sized : (a b c : Option Told) → IfSome a IsSound → Goes (Succeeds Syncs) a b → Goes (Succeeds Passes) b c → Goes IsSized a c
sized a b c i w x = goes-then IsSynced (Succeeds Passes) IsSized a b c is_sized (synced a b i w) x

-- ---- the exits, where the disk tells
pub sync_fails : (a b : Option Told) → Goes (OrRefuses Passes) a b → Goes Kept a b
sync_fails a b w = goes-map (OrRefuses Passes) Kept a b kept-pass w

pub size_fails : (a b c : Option Told) → IfSome a IsSound → Goes (Succeeds Syncs) a b → Goes (OrRefuses Passes) b c → Goes Kept a c
size_fails a b c i w x = goes-then IsSynced (OrRefuses Passes) Kept a b c (λ x y z s r. kept-join x y z s.kept (kept-pass y z r)) (synced a b i w) x

pub sized_keeps : (a c : Option Told) → Goes IsSized a c → Goes Kept a c
sized_keeps a c s = goes-map IsSized Kept a c (λ x y r. r.kept) s

-- reads behind other reads
pub reads-join : (k m : ℕ) (a b c : Told) → b ≡ after_reads k a → c ≡ after_reads m b → c ≡ after_reads (k + m) a
reads-join k m a b c e f =
    let make : List Unsynced → Told = λ past. record { bytes = a.bytes; past = past; now = a.now } in
    f ∙ ap (after_reads m) e
    ∙ ap make (append_assoc a.past (replicate (2 * k) a.now) (replicate (2 * m) a.now)
    ∙ ap (λ l. a.past ++ l) (replicate-append-replicate (2 * k) (2 * m) a.now ∙ ap (λ n. replicate n a.now) (let n : 2 * k + 2 * m ≡ 2 * (k + m) = omega arith in n)))

passes-kept : (a : Told) → Kept a (after_reads 1 a)
passes-kept a = goes_on (λ moment. IsImage a.now) a a a.now a.now a.bytes (kept-same a) (λ moment image le is. is) (λ moment image le is. is)

kept-reads : (n : ℕ) (a : Told) → Kept a (after_reads n a)
kept-reads zero a = subst (Kept a) (let make : List Unsynced → Told = λ past. record { bytes = a.bytes; past = past; now = a.now } in ap make (sym (append-nil a.past))) (kept-same a)
kept-reads (suc n) a = subst (Kept a) (reads-join n 1 a (after_reads n a) (after_reads 1 (after_reads n a)) refl refl ∙ ap (λ k. after_reads k a) (let e : n + 1 ≡ suc n = omega arith in e)) (kept-join a (after_reads n a) (after_reads 1 (after_reads n a)) (kept-reads n a) (passes-kept (after_reads n a)))

pub only-kept : (most : ℕ) (a b : Told) → OnlyReads most a b → Kept a b
only-kept most a b r = subst (Kept a) (sym r.2) (kept-reads r.0 a)

pub read_keeps : (a c d : Option Told) → Goes IsSized a c → Goes (OnlyReads 2) c d → Goes Kept a d
read_keeps a c d s r = goes-then IsSized (OnlyReads 2) Kept a c d (λ x y z h w. kept-join x y z h.kept (only-kept 2 y z w)) s r

pub start_keeps : (limit : ℕ) (ps : List (List ℕ)) (a c d : Option Told) → Goes IsSized a c → Goes (KeepsPayloads limit ps) c d → Goes (KeepsPayloads limit ps) a d
start_keeps limit ps a c d s k = goes-then IsSized (KeepsPayloads limit ps) (KeepsPayloads limit ps) a c d (λ x y z r f. keeps-join limit ps x y z (kept-payloads limit ps x y r.kept) f) s k

-- the size that was answered
pub size_is : (size : ℕ) (b c : Option Told) → Goes (Succeeds Passes) b c → IfSome b (λ t. size ≡ length t.bytes) → IfSome c (λ t. size ≡ length t.bytes)
size_is size b c w h = if_forth (Succeeds Passes) (λ t. size ≡ length t.bytes) (λ t. size ≡ length t.bytes) b c (λ x y r e. e ∙ sym (ap (λ (t : Told). length t.bytes) r.1)) w h

pub size_was : (size : ℕ) (a c : Option Told) → Goes IsSized a c → IfSome c (λ t. size ≡ length t.bytes) → IfSome a (λ t. size ≡ length t.bytes)
size_was size a c s h = if_back IsSized (λ t. size ≡ length t.bytes) (λ t. size ≡ length t.bytes) a c (λ x y r e. e ∙ ap length r.bytes) s h

pub is_fresh : (size : ℕ) (a c : Option Told) → Goes IsSized a c → IfSome c (λ t. size ≡ length t.bytes) → size ≤ 1 → IfSome c IsFresh
is_fresh size None None s h le = tt
is_fresh size None (Some y) s h le = absurd s
is_fresh size (Some x) None s h le = tt
is_fresh size (Some x) (Some y) s h le = (omega (arith, h, le), s.sure ∙ ap surely (sym s.bytes))

-- a fresh file has no images to keep
pub start_images : (limit size : ℕ) (a c d : Option Told) → Goes IsSized a c → Goes (KeepsPayloads limit []) c d → IfSome c (λ t. size ≡ length t.bytes) → size ≤ 1 → Goes KeepsImages a d
start_images limit size None None None s k h le = tt
start_images limit size None None (Some z) s k h le = k
start_images limit size None (Some y) d s k h le = absurd s
start_images limit size (Some x) None d s k h le = absurd s
start_images limit size (Some x) (Some y) None s k h le = k
start_images limit size (Some x) (Some y) (Some z) s k h le = λ long. absurd (omega (arith, h, le, long, ap length s.bytes))

-- ---- the log that was read is on the disk
loaded_at : (limit : ℕ) (log : Held) (a c d : Told) → IsSized a c → Passes c d → 2 ≤ length c.bytes → length c.bytes ≤ limit → IsLogOf limit c.bytes log → IsLoaded log a d
loaded_at limit log a c d s w long within l =
    let now : d.now ≡ surely c.bytes = ap (λ (t : Told). t.now) w ∙ s.sure ∙ ap surely (sym s.bytes) in
    let same : (image : List ℕ) → LeftAt d (moment_of d) image → image ≡ c.bytes = λ image left. image-stable c.bytes image (subst (λ u. IsImage u image) now (left-now d image left)) in
    let clock : moment_of d ≡ suc (suc (moment_of c)) = ap moment_of w ∙ moment-call c c.now c.now c.bytes in
    record {
      fresh = λ short. absurd (omega (arith, short, ap length s.bytes, long));
      other = λ lo. (let k = s.clock in omega (arith, clock, k));
      payloads = λ image left. (let e = same image left in (omega (arith, ap length e, within, l.most), subst (λ b. IsLog b log.payloads) (sym e) l.is_log));
      on_disk = λ image left. subst (Begins log) (sym (same image left)) (l.begins long);
    }

pub read_done : (limit size : ℕ) (a c d : Option Told) (r : Result Held LoadLog) → Goes IsSized a c → OnOk r (Goes Passes c d) → IfSome c (λ t. size ≡ length t.bytes) → 2 ≤ size → size ≤ limit → IfSome c (λ t. Loads limit t.bytes r)
    → IfOk r (λ log. Goes (IsLoaded log) a d)
read_done limit size a c d (Err e) s w h lo hi l = tt
read_done limit size None None None (Ok log) s w h lo hi l = tt
read_done limit size None None (Some z) (Ok log) s w h lo hi l = w
read_done limit size None (Some y) d (Ok log) s w h lo hi l = absurd s
read_done limit size (Some x) None d (Ok log) s w h lo hi l = absurd s
read_done limit size (Some x) (Some y) None (Ok log) s w h lo hi l = absurd w
read_done limit size (Some x) (Some y) (Some z) (Ok log) s w h lo hi l = loaded_at limit log x y z s w (omega (arith, h, lo)) (omega (arith, h, hi)) l

-- ---- a fresh file
module _ (limit : ℕ) (ps : List (List ℕ)) where
  abbrev P : ℕ → List ℕ → Type 0
  P moment image = IsLogWithin limit ps image

  from-has : (t : Told) (start : ℕ) → HasPayloads limit t ps → SureFrom P start t.now
  from-has t start has = λ moment image le is. has image (now-left t image is)

  short-log : (image : List ℕ) → length image ≤ 1 → 1 ≤ limit → IsLogWithin limit [] image
  short-log image short least = (omega (arith, short, least), inl (short, refl))

  fresh-none : (a : Told) → IsSound a → IsFresh a → HasPayloads limit a ps → ps ≡ []
  fresh-none a s f has = (let here = from-has a 0 has 0 a.bytes (omega arith) s.image in one-log a.bytes ps [] here.1 (inl (f.0, refl)))

  short-torn : (a : Told) → IsFresh a → 1 ≤ limit → (image : List ℕ) → IsImage (with_range a.now 0 1) image → IsLogWithin limit [] image
  short-torn a f least image is =
      let here = subst (λ u. IsImage (with_range u 0 1) image) f.1 is in
      short-log image (let n = here.no_longer in omega (arith, n, f.0)) least

  keeps-start : (a b : Told) → IsSound a → IsFresh a → 1 ≤ limit → Writes 0 (0 ∷ []) a b → KeepsPayloads limit ps a b
  keeps-start a b s f least w has =
      let none = fresh-none a s f has in
      let lost = with_range a.now 0 1 in
      let torn : SureFrom P (suc (moment_of a)) lost = λ moment image le is. subst (λ l. IsLogWithin limit l image) (sym none) (short-torn a f least image is) in
      subst (SureSince P a) (sym w) (goes_on P a a lost lost (overwritten a.bytes 0 (0 ∷ [])) (started P a has) torn torn)

  keeps-start-fails : (a b : Told) → IsSound a → IsFresh a → 1 ≤ limit → OrRefuses (FailsToWrite 0 (0 ∷ [])) a b → KeepsPayloads limit ps a b
  keeps-start-fails a b s f least w has =
      let none = fresh-none a s f has in
      fails_to_write P a a b 0 (0 ∷ []) (started P a has) (from-has a _ has) (λ moment image le is. subst (λ l. IsLogWithin limit l image) (sym none) (short-torn a f least image is)) w

  pub start_write_fails : (a b : Option Told) → IfSome a IsSound → IfSome a IsFresh → 1 ≤ limit → Goes (OrRefuses (FailsToWrite 0 (0 ∷ []))) a b → Goes (KeepsPayloads limit ps) a b
  start_write_fails None None i f least w = tt
  start_write_fails None (Some y) i f least w = w
  start_write_fails (Some x) None i f least w = w
  start_write_fails (Some x) (Some y) i f least w = keeps-start-fails x y i f least w

  pub start_writes : (a b : Option Told) → IfSome a IsSound → IfSome a IsFresh → 1 ≤ limit → Goes (Succeeds (Writes 0 (0 ∷ []))) a b → Goes (KeepsPayloads limit ps) a b
  start_writes None None i f least w = tt
  start_writes None (Some y) i f least w = w
  start_writes (Some x) None i f least w = w
  start_writes (Some x) (Some y) i f least w = keeps-start x y i f least w.1

  pub start_sync_fails : (a b c : Option Told) → IfSome a IsSound → IfSome a IsFresh → 1 ≤ limit → Goes (Succeeds (Writes 0 (0 ∷ []))) a b → Goes (OrRefuses Passes) b c → Goes (KeepsPayloads limit ps) a c
  start_sync_fails a b c i f least w x = goes-then (KeepsPayloads limit ps) (OrRefuses Passes) (KeepsPayloads limit ps) a b c (λ x y z k r. keeps-join limit ps x y z k (kept-payloads limit ps y z (kept-pass y z r))) (start_writes a b i f least w) x

  pub start_syncs : (a b c : Option Told) → IfSome a IsSound → IfSome b IsSound → IfSome a IsFresh → 1 ≤ limit → Goes (Succeeds (Writes 0 (0 ∷ []))) a b → Goes (Succeeds Syncs) b c → Goes (KeepsPayloads limit ps) a c
  start_syncs a b c i j f least w x = goes-then (KeepsPayloads limit ps) IsSynced (KeepsPayloads limit ps) a b c (λ x y z k r. keeps-join limit ps x y z k (kept-payloads limit ps y z r.kept)) (start_writes a b i f least w) (synced b c j x)

  pub start_same : (a : Option Told) → Goes (KeepsPayloads limit ps) a a
  start_same a = goes-same (KeepsPayloads limit ps) a (λ x. kept-payloads limit ps x x (kept-same x))

-- the disk of one closed gate
is_started : (limit : ℕ) (log : Held) (a b c : Told) → IsFresh a → 1 ≤ limit → log.payloads ≡ [] → log.gate ≡ 0 → log.limit ≡ limit → Writes 0 (0 ∷ []) a b → Syncs b c → IsStarted log a c
is_started limit log a b c f least none gate most w x =
    let lost = with_range a.now 0 1 in
    let one : b.bytes ≡ 0 ∷ [] = ap (λ (t : Told). t.bytes) w ∙ ap (λ l. 0 ∷ l) (drop_all 1 a.bytes f.0) in
    let now : c.now ≡ surely (0 ∷ []) = ap (λ (t : Told). t.now) x ∙ ap surely one in
    let clock_b : moment_of b ≡ suc (suc (moment_of a)) = ap moment_of w ∙ moment-call a lost lost (overwritten a.bytes 0 (0 ∷ [])) in
    let clock_c : moment_of c ≡ suc (suc (moment_of b)) = ap moment_of x ∙ moment-call b b.now (surely b.bytes) b.bytes in
    let same : (image : List ℕ) → LeftAt c (moment_of c) image → image ≡ 0 ∷ [] = λ image left. image-stable (0 ∷ []) image (subst (λ u. IsImage u image) now (left-now c image left)) in
    record {
      clock = omega (arith, clock_b, clock_c);
      closed = now;
      payloads = λ image left. (let e = same image left in (omega (arith, ap length e, least, most), subst (λ l. IsLog image l) (sym none) (inl (omega (arith, ap length e), refl))));
      on_disk = λ image left. (let e = same image left in (omega (arith, ap length e, least, most), [], e ∙ sym (append-nil (log_bytes log) ∙ ap (λ l. batches l ++ log.gate ∷ []) none ∙ ap (λ g. g ∷ []) gate)));
    }

pub start_ends : (limit : ℕ) (log : Held) (a b c : Option Told) → IfSome a IsFresh → 1 ≤ limit → log.payloads ≡ [] → log.gate ≡ 0 → log.limit ≡ limit → Goes (Succeeds (Writes 0 (0 ∷ []))) a b → Goes (Succeeds Syncs) b c → Goes (IsStarted log) a c
start_ends limit log None None None f least none gate most w x = tt
start_ends limit log None None (Some z) f least none gate most w x = x
start_ends limit log None (Some y) c f least none gate most w x = absurd w
start_ends limit log (Some x) None c f least none gate most w y = absurd w
start_ends limit log (Some x) (Some y) None f least none gate most w z = absurd z
start_ends limit log (Some x) (Some y) (Some z) f least none gate most w v = is_started limit log x y z f least none gate most w.1 v.1

-- the log of a fresh file is on the disk
started_at : (log : Held) (a c d : Told) → IsSized a c → length c.bytes ≤ 1 → IsStarted log c d → IsLoaded log a d
started_at log a c d s short t = record {
  fresh = λ lo. (let p = s.clock in let q = t.clock in omega (arith, p, q), t.closed);
  other = λ long. absurd (omega (arith, long, ap length s.bytes, short));
  payloads = t.payloads;
  on_disk = t.on_disk;
}

pub start_done : (size : ℕ) (a c d : Option Told) (r : Result Held LoadLog) → Goes IsSized a c → IfOk r (λ log. Goes (IsStarted log) c d) → IfSome c (λ t. size ≡ length t.bytes) → size ≤ 1
    → IfOk r (λ log. Goes (IsLoaded log) a d)
start_done size a c d (Err e) s w h le = tt
start_done size None None None (Ok log) s w h le = tt
start_done size None None (Some z) (Ok log) s w h le = w
start_done size None (Some y) d (Ok log) s w h le = absurd s
start_done size (Some x) None d (Ok log) s w h le = absurd s
start_done size (Some x) (Some y) None (Ok log) s w h le = absurd w
start_done size (Some x) (Some y) (Some z) (Ok log) s w h le = started_at log x y z s (omega (arith, h, le)) w

-- ---- reading
pub passed : (a b : Option Told) → Goes (Succeeds Passes) a b → Goes Passes a b
passed a b w = goes-map (Succeeds Passes) Passes a b (λ x y r. r.1) w

pub only_three : (a b c : Option Told) → Goes (Succeeds Passes) a b → Goes (OnlyReads 2) b c → Goes (OnlyReads 3) a c
only_three a b c w x = goes-then (Succeeds Passes) (OnlyReads 2) (OnlyReads 3) a b c (λ x y z r s. (1 + s.0, (let n = s.1 in omega (arith, n)), reads-join 1 s.0 x y z r.1 s.2)) w x

pub two_reads : (a b c : Option Told) → Goes (Succeeds Passes) a b → Goes Passes b c → Goes (λ old new. new ≡ after_reads 2 old) a c
two_reads a b c w x = goes-then (Succeeds Passes) Passes (λ old new. new ≡ after_reads 2 old) a b c (λ x y z r p. reads-join 1 1 x y z r.1 p) w x
