-- The four calls of a commit, and what a crash leaves at each moment of them.
use Rattle.std.proofs.Common.{◌≡◌, ◌≢◌, ◌⊎◌, inl, inr, ℕ, suc, ◌≤◌, ◌+◌, List, [], ◌∷◌, ◌++◌, length, take, drop, Option, Some, None, IfSome, refl, sym, ◌∙◌, ap, subst, arith, length-append, append_assoc, take_at, drop_at, take-append-drop, ⊎_elim}
use Rattle.std.proofs.lemmas.List.{length-drop}
use Rattle.std.proofs.lemmas.Bool.{cases_eq}
use Rattle.std.specs.List.{AllByRecursion}
use Rattle.disk_trait.specs.Images.{Unsynced, IsImage, IsSound, Told, moment_of, LeftAt, surely}
use Rattle.disk_trait.specs.Calls.{Passes, Writes, FailsToWrite, Syncs, Succeeds, OrRefuses, Goes, with_range, overwritten}
use Rattle.disk_trait.specs.Since.{SureSince}
use Rattle.disk_trait.proofs.Loss.{image-stable, last-append}
use Rattle.disk_trait.proofs.Moments.{SureFrom, left-now, moment-call, started, goes_on, fails_past, fails_to_write}
use Rattle.disk_trait.proofs.Telling.{goes-then, goes-map}
use Rattle.disk_trait.proofs.Writes.{shortest, furthest, before_write, one_byte}
use Rattle.gated_log.specs.Log.{batches, HasLength}
use Rattle.gated_log.specs.Held.{Held, log_bytes, staged, longer}
use Rattle.gated_log.specs.Commit.{WritesSurely, WritesInPart}
use Rattle.gated_log.specs.Holding.{IsLogWithin, Begins, IsOnDisk, IsOldOrNew, KeepsOldOrNew, HasNew}
use Rattle.gated_log.proofs.Shapes.{length-staged, opened, lengths-push, is_log}

-- the old disk, and the one now, so many moments later, which has S
pub record Stage (Q : ℕ → ℕ → List ℕ → Type 0) (ticks : ℕ) (S : Told → Type 0) (old now : Told) : Type 0 where
  pub clock : moment_of now ≡ moment_of old + ticks
  pub sure : SureSince (Q (moment_of old)) old now
  pub is : S now

-- what of a log and a payload makes a commit go on
pub record Fits (log : Held) (payload : List ℕ) : Type 0 where
  pub closed : log.gate ≢ 1
  pub lengths : AllByRecursion HasLength log.payloads
  pub size : HasLength payload
  pub room : longer log payload ≤ log.limit

module _ (log : Held) (payload : List ℕ) (fits : Fits log payload) where
  abbrev front : List ℕ
  front = batches log.payloads

  -- before the first call
  abbrev pub Began : Told → Type 0
  Began t = IsImage t.now t.bytes × ((image : List ℕ) → IsImage t.now image → Begins log image)

  -- the batch stands behind the closed gate
  pub record Staged (t : Told) : Type 0 where
    pub rest : List ℕ
    pub bytes : t.bytes ≡ front ++ log.gate ∷ (staged payload ++ rest)
    pub within : length t.bytes ≤ log.limit
    pub sure : (image : List ℕ) → IsImage t.now image → Begins log image

  -- and is synced
  pub record Guarded (t : Told) : Type 0 where
    pub rest : List ℕ
    pub bytes : t.bytes ≡ front ++ log.gate ∷ (staged payload ++ rest)
    pub within : length t.bytes ≤ log.limit
    pub now : t.now ≡ surely t.bytes

  abbrev EitherLog : List ℕ → Type 0
  EitherLog image = IsLogWithin log.limit log.payloads image ⊎ IsLogWithin log.limit (log.payloads ++ payload ∷ []) image

  -- the gate is opened
  pub record Opened (t : Told) : Type 0 where
    pub rest : List ℕ
    pub bytes : t.bytes ≡ front ++ 1 ∷ (staged payload ++ rest)
    pub within : length t.bytes ≤ log.limit
    pub sure : (image : List ℕ) → IsImage t.now image → EitherLog image

  -- and that is synced
  pub record Closed (t : Told) : Type 0 where
    pub rest : List ℕ
    pub bytes : t.bytes ≡ front ++ 1 ∷ (staged payload ++ rest)
    pub within : length t.bytes ≤ log.limit
    pub now : t.now ≡ surely t.bytes

  abbrev Q : ℕ → ℕ → List ℕ → Type 0
  Q = IsOldOrNew log payload

  -- ---- what images hold
  begins-old : (image : List ℕ) → Begins log image → IsLogWithin log.limit log.payloads image
  begins-old image b = (b.0, is_log image log.payloads log.gate b.1 fits.lengths fits.closed (b.2 ∙ append_assoc front (log.gate ∷ []) b.1))

  old-any : (start : ℕ) (from : ℕ) (u : Unsynced) → ((image : List ℕ) → IsImage u image → IsLogWithin log.limit log.payloads image) → SureFrom (Q start) from u
  old-any start from u h = λ m image le is. ((λ lt. h image is), inl (h image is))

  begins-any : (start : ℕ) (from : ℕ) (u : Unsynced) → ((image : List ℕ) → IsImage u image → Begins log image) → SureFrom (Q start) from u
  begins-any start from u h = old-any start from u (λ image is. begins-old image (h image is))

  either-late : (start : ℕ) (from : ℕ) (u : Unsynced) → start + 5 ≤ from → ((image : List ℕ) → IsImage u image → EitherLog image) → SureFrom (Q start) from u
  either-late start from u late h = λ m image le is. ((λ lt. absurd (omega (arith, lt, late, le))), h image is)

  -- ---- the first write
  front-long : (t : Told) → Began t → length (log_bytes log) ≤ length t.now.stable
  front-long t b = let s = shortest t.now t.bytes b.0 in let f = b.1 s.0 s.1 in
      omega (arith, ap length f.2, length-append (log_bytes log) f.1, s.2)

  torn : (t : Told) → Began t → (image : List ℕ) → IsImage (with_range t.now (length (log_bytes log)) (length (staged payload))) image → Begins log image
  torn t b image is =
      let n = length (log_bytes log) in
      let earlier = before_write t.now t.bytes image n (length (staged payload)) (front-long t b) b.0 is in
      let f = b.1 earlier.0 earlier.1 in
      let far = furthest t.now t.bytes b.0 in
      let g = b.1 far.0 far.1 in
      let head : take n image ≡ log_bytes log = earlier.2 ∙ ap (take n) f.2 ∙ take_at (log_bytes log) f.1 n refl in (
        omega (arith, is.no_longer, g.0, far.2, length-staged payload, fits.room),
        drop n image,
        sym (take-append-drop n image) ∙ ap (λ l. l ++ drop n image) head,
      )

  pub end-within : (t : Told) → Began t → length (log_bytes log) ≤ length t.bytes
  end-within t b = let f = b.1 t.bytes b.0 in omega (arith, ap length f.2, length-append (log_bytes log) f.1)

  first_write : (old mid new : Told) → Stage Q 0 Began old mid → Succeeds (Writes (length (log_bytes log)) (staged payload)) mid new → Stage Q 2 Staged old new
  first_write old mid new s w =
      let n = length (log_bytes log) in
      let lost = with_range mid.now n (length (staged payload)) in
      let bytes = overwritten mid.bytes n (staged payload) in
      let rest = drop (n + length (staged payload)) mid.bytes in
      let f = s.is.1 mid.bytes s.is.0 in
      let head : take n mid.bytes ≡ log_bytes log = ap (take n) f.2 ∙ take_at (log_bytes log) f.1 n refl in
      let shape : bytes ≡ front ++ log.gate ∷ (staged payload ++ rest) =
      ap (λ l. (l ++ staged payload) ++ rest) head ∙ append_assoc (log_bytes log) (staged payload) rest ∙ append_assoc front (log.gate ∷ []) (staged payload ++ rest) in
      let size : length bytes ≤ log.limit =
      omega (arith, length-append (take n mid.bytes ++ staged payload) rest, length-append (take n mid.bytes) (staged payload), ap length head, length-drop (n + length (staged payload)) mid.bytes, length-staged payload, fits.room, f.0) in
      let torn_now = torn mid s.is in
      subst (λ x. Stage Q 2 Staged old x) (sym w.1) (record {
        clock = moment-call mid lost lost bytes ∙ ap (λ k. suc (suc k)) s.clock ∙ (let e : suc (suc (moment_of old + 0)) ≡ moment_of old + 2 = omega arith in e);
        sure = goes_on (Q (moment_of old)) old mid lost lost bytes s.sure (begins-any _ _ lost torn_now) (begins-any _ _ lost torn_now);
        is = record { rest = rest; bytes = shape; within = size; sure = torn_now };
      })

  first_write_fails : (old mid new : Told) → Stage Q 0 Began old mid → OrRefuses (FailsToWrite (length (log_bytes log)) (staged payload)) mid new → KeepsOldOrNew log payload old new
  first_write_fails old mid new s w =
      fails_to_write (Q (moment_of old)) old mid new (length (log_bytes log)) (staged payload) s.sure (begins-any _ _ mid.now s.is.1)
      (begins-any _ _ (with_range mid.now (length (log_bytes log)) (length (staged payload))) (torn mid s.is)) w

  -- ---- the first sync
  guarded-old : (t : Told) (rest : List ℕ) → t.bytes ≡ front ++ log.gate ∷ (staged payload ++ rest) → length t.bytes ≤ log.limit → (image : List ℕ) → IsImage (surely t.bytes) image → IsLogWithin log.limit log.payloads image
  guarded-old t rest is within image left =
      let same = image-stable t.bytes image left in
      (omega (arith, ap length same, within), is_log image log.payloads log.gate (staged payload ++ rest) fits.lengths fits.closed (same ∙ is))

  first_sync : (old mid new : Told) → Stage Q 2 Staged old mid → Succeeds Syncs mid new → Stage Q 4 Guarded old new
  first_sync old mid new s w =
      subst (λ x. Stage Q 4 Guarded old x) (sym w.1) (record {
        clock = moment-call mid mid.now (surely mid.bytes) mid.bytes ∙ ap (λ k. suc (suc k)) s.clock ∙ (let e : suc (suc (moment_of old + 2)) ≡ moment_of old + 4 = omega arith in e);
        sure = goes_on (Q (moment_of old)) old mid mid.now (surely mid.bytes) mid.bytes s.sure (begins-any _ _ mid.now s.is.sure)
            (old-any _ _ (surely mid.bytes) (guarded-old mid s.is.rest s.is.bytes s.is.within));
        is = record { rest = s.is.rest; bytes = s.is.bytes; within = s.is.within; now = refl };
      })

  first_sync_fails : (old mid new : Told) → Stage Q 2 Staged old mid → OrRefuses Passes mid new → KeepsOldOrNew log payload old new
  first_sync_fails old mid new s w = fails_past (Q (moment_of old)) old mid new s.sure (begins-any _ _ mid.now s.is.sure) w

  -- ---- the gate
  gate-either : (t : Told) (rest : List ℕ) → t.bytes ≡ front ++ log.gate ∷ (staged payload ++ rest) → length t.bytes ≤ log.limit
      → (image : List ℕ) → IsImage (with_range (surely t.bytes) (length front) 1) image → EitherLog image
  gate-either t rest is within image left =
      let one = one_byte front log.gate (staged payload ++ rest) image (subst (λ b. IsImage (with_range (surely b) (length front) 1) image) is left) in
      let size : length image ≤ log.limit =
      omega (arith, ap length one.1, length-append front (one.0 ∷ (staged payload ++ rest)), ap length is, length-append front (log.gate ∷ (staged payload ++ rest)), within) in
      by_gate one.0 one.1 size (cases_eq one.0 1)
    where
      by_gate : (byte : ℕ) → image ≡ front ++ byte ∷ (staged payload ++ rest) → length image ≤ log.limit → (byte ≡ 1) ⊎ (byte ≡ 1 → ⊥) → EitherLog image
      by_gate byte so size (inl open_gate) = inr (
        size,
        is_log image (log.payloads ++ payload ∷ []) 0 rest (lengths-push log.payloads payload fits.lengths fits.size) (omega arith)
            (so ∙ ap (λ b. front ++ b ∷ (staged payload ++ rest)) open_gate ∙ opened log.payloads payload rest),
      )
      by_gate byte so size (inr shut) = inl (size, is_log image log.payloads byte (staged payload ++ rest) fits.lengths shut so)

  pub gate-inside : (t : Told) → Guarded t → length front ≤ length t.bytes
  gate-inside t g = omega (arith, ap length g.bytes, length-append front (log.gate ∷ (staged payload ++ g.rest)))

  gate_write : (old mid new : Told) → Stage Q 4 Guarded old mid → Succeeds (Writes (length front) (1 ∷ [])) mid new → Stage Q 6 Opened old new
  gate_write old mid new s w =
      let lost = with_range mid.now (length front) 1 in
      let rest = staged payload ++ s.is.rest in
      let bytes = overwritten mid.bytes (length front) (1 ∷ []) in
      let here : (image : List ℕ) → IsImage lost image → EitherLog image =
      λ image is. gate-either mid s.is.rest s.is.bytes s.is.within image (subst (λ u. IsImage (with_range u (length front) 1) image) s.is.now is) in
      let head : take (length front) mid.bytes ≡ front = ap (take (length front)) s.is.bytes ∙ take_at front (log.gate ∷ rest) (length front) refl in
      let tail : drop (length front + 1) mid.bytes ≡ rest = ap (drop (length front + 1)) (s.is.bytes ∙ sym (append_assoc front (log.gate ∷ []) rest))
      ∙ drop_at (front ++ log.gate ∷ []) rest (length front + 1) (length-append front (log.gate ∷ [])) in
      let shape : bytes ≡ front ++ 1 ∷ rest = ap (λ l. (l ++ 1 ∷ []) ++ drop (length front + 1) mid.bytes) head ∙ ap (λ l. (front ++ 1 ∷ []) ++ l) tail ∙ append_assoc front (1 ∷ []) rest in
      let size : length bytes ≤ log.limit = omega (arith, ap length shape, length-append front (1 ∷ rest), ap length s.is.bytes, length-append front (log.gate ∷ rest), s.is.within) in
      subst (λ x. Stage Q 6 Opened old x) (sym w.1) (record {
        clock = moment-call mid lost lost bytes ∙ ap (λ k. suc (suc k)) s.clock ∙ (let e : suc (suc (moment_of old + 4)) ≡ moment_of old + 6 = omega arith in e);
        sure = goes_on (Q (moment_of old)) old mid lost lost bytes s.sure (either-late (moment_of old) _ lost (omega (arith, s.clock)) here) (either-late (moment_of old) _ lost (omega (arith, s.clock)) here);
        is = record { rest = s.is.rest; bytes = shape; within = size; sure = here };
      })

  gate_write_fails : (old mid new : Told) → Stage Q 4 Guarded old mid → OrRefuses (FailsToWrite (length front) (1 ∷ [])) mid new → KeepsOldOrNew log payload old new
  gate_write_fails old mid new s w =
      let here : (image : List ℕ) → IsImage (with_range mid.now (length front) 1) image → EitherLog image =
      λ image is. gate-either mid s.is.rest s.is.bytes s.is.within image (subst (λ u. IsImage (with_range u (length front) 1) image) s.is.now is) in
      fails_to_write (Q (moment_of old)) old mid new (length front) (1 ∷ []) s.sure
      (old-any _ _ mid.now (λ image is. guarded-old mid s.is.rest s.is.bytes s.is.within image (subst (λ u. IsImage u image) s.is.now is)))
      (either-late (moment_of old) _ (with_range mid.now (length front) 1) (omega (arith, s.clock)) here) w

  -- ---- the last sync
  new-only : (t : Told) (rest : List ℕ) → t.bytes ≡ front ++ 1 ∷ (staged payload ++ rest) → length t.bytes ≤ log.limit → (image : List ℕ) → IsImage (surely t.bytes) image → IsLogWithin log.limit (log.payloads ++ payload ∷ []) image
  new-only t rest is within image left =
      let same = image-stable t.bytes image left in
      (omega (arith, ap length same, within), is_log image (log.payloads ++ payload ∷ []) 0 rest (lengths-push log.payloads payload fits.lengths fits.size) (omega arith) (same ∙ is ∙ opened log.payloads payload rest))

  last_sync : (old mid new : Told) → Stage Q 6 Opened old mid → Succeeds Syncs mid new → Stage Q 8 Closed old new
  last_sync old mid new s w =
      subst (λ x. Stage Q 8 Closed old x) (sym w.1) (record {
        clock = moment-call mid mid.now (surely mid.bytes) mid.bytes ∙ ap (λ k. suc (suc k)) s.clock ∙ (let e : suc (suc (moment_of old + 6)) ≡ moment_of old + 8 = omega arith in e);
        sure = goes_on (Q (moment_of old)) old mid mid.now (surely mid.bytes) mid.bytes s.sure (either-late (moment_of old) _ mid.now (omega (arith, s.clock)) s.is.sure)
            (either-late (moment_of old) _ (surely mid.bytes) (omega (arith, s.clock)) (λ image left. inr (new-only mid s.is.rest s.is.bytes s.is.within image left)));
        is = record { rest = s.is.rest; bytes = s.is.bytes; within = s.is.within; now = refl };
      })

  last_sync_fails : (old mid new : Told) → Stage Q 6 Opened old mid → OrRefuses Passes mid new → KeepsOldOrNew log payload old new
  last_sync_fails old mid new s w = fails_past (Q (moment_of old)) old mid new s.sure (either-late (moment_of old) _ mid.now (omega (arith, s.clock)) s.is.sure) w

  -- ---- where the disk tells
  pub at_start : (a : Option Told) → IfSome a IsSound → IfSome a (IsOnDisk log) → Goes (Stage Q 0 Began) a a
  at_start None i h = tt
  at_start (Some t) i h =
      let here : (image : List ℕ) → IsImage t.now image → Begins log image = λ image is. h image (subst (λ u. IsImage u image) (sym (last-append t.past t.now t.now)) is) in
      record {
        clock = omega arith;
        sure = started (Q (moment_of t)) t (λ image left. begins-any (moment_of t) 0 t.now here (moment_of t) image (omega arith) (left-now t image left));
        is = (i.image, here);
      }

  pub to_guarded : (a b : Option Told) → Goes (Stage Q 0 Began) a a → Goes (WritesSurely (length (log_bytes log)) (staged payload)) a b → Goes (Stage Q 4 Guarded) a b
  to_guarded a b s w = goes-then (Stage Q 0 Began) (WritesSurely (length (log_bytes log)) (staged payload)) (Stage Q 4 Guarded) a a b
      (λ x y z s w. first_sync x w.0 z (first_write x y w.0 s w.1) w.2) s w

  pub to_closed : (a b c : Option Told) → Goes (Stage Q 4 Guarded) a b → Goes (WritesSurely (length front) (1 ∷ [])) b c → Goes (Stage Q 8 Closed) a c
  to_closed a b c s w = goes-then (Stage Q 4 Guarded) (WritesSurely (length front) (1 ∷ [])) (Stage Q 8 Closed) a b c
      (λ x y z s w. last_sync x w.0 z (gate_write x y w.0 s w.1) w.2) s w

  pub guarded_fails : (a b : Option Told) → Goes (Stage Q 0 Began) a a → Goes (WritesInPart (length (log_bytes log)) (staged payload)) a b → Goes (KeepsOldOrNew log payload) a b
  guarded_fails a b s w = goes-then (Stage Q 0 Began) (WritesInPart (length (log_bytes log)) (staged payload)) (KeepsOldOrNew log payload) a a b
      (λ x y z s w. ⊎_elim (λ f. first_write_fails x y z s f) (λ f. first_sync_fails x f.0 z (first_write x y f.0 s f.1) f.2) w) s w

  pub closed_fails : (a b c : Option Told) → Goes (Stage Q 4 Guarded) a b → Goes (WritesInPart (length front) (1 ∷ [])) b c → Goes (KeepsOldOrNew log payload) a c
  closed_fails a b c s w = goes-then (Stage Q 4 Guarded) (WritesInPart (length front) (1 ∷ [])) (KeepsOldOrNew log payload) a b c
      (λ x y z s w. ⊎_elim (λ f. gate_write_fails x y z s f) (λ f. last_sync_fails x f.0 z (gate_write x y f.0 s f.1) f.2) w) s w

  -- ---- the end
  pub kept_at_end : (a b : Option Told) → Goes (Stage Q 8 Closed) a b → Goes (KeepsOldOrNew log payload) a b
  kept_at_end a b s = goes-map (Stage Q 8 Closed) (KeepsOldOrNew log payload) a b (λ x y t. t.sure) s

  has_new : (new : Held) (clock : ℕ) (old now : Told) → Stage Q 8 Closed old now → new.payloads ≡ log.payloads ++ payload ∷ [] → new.gate ≡ 0 → new.limit ≡ log.limit → clock ≡ moment_of now → HasNew new clock old now
  has_new new clock old now s ps gate limit ticks =
      let stable : (image : List ℕ) → LeftAt now (moment_of now) image → IsImage (surely now.bytes) image = λ image left. subst (λ u. IsImage u image) s.is.now (left-now now image left) in
      let shape : now.bytes ≡ log_bytes new ++ s.is.rest = s.is.bytes ∙ opened log.payloads payload s.is.rest ∙ sym (append_assoc (batches (log.payloads ++ payload ∷ [])) (0 ∷ []) s.is.rest)
      ∙ ap (λ l. (batches l ++ 0 ∷ []) ++ s.is.rest) (sym ps) ∙ ap (λ g. (batches new.payloads ++ g ∷ []) ++ s.is.rest) (sym gate) in
      record {
        now = ticks;
        calls = ticks ∙ s.clock;
        payloads = λ image left. subst (λ l. IsLogWithin new.limit l image) (sym ps) (subst (λ n. IsLogWithin n (log.payloads ++ payload ∷ []) image) (sym limit) (new-only now s.is.rest s.is.bytes s.is.within image (stable image left)));
        on_disk = λ image left. (let same = image-stable now.bytes image (stable image left) in (omega (arith, ap length same, s.is.within, limit), s.is.rest, same ∙ shape));
      }

  pub at_end : (new : Held) (clock : ℕ) (a b : Option Told) → Goes (Stage Q 8 Closed) a b → new.payloads ≡ log.payloads ++ payload ∷ [] → new.gate ≡ 0 → new.limit ≡ log.limit → IfSome b (λ t. clock ≡ moment_of t) → Goes (HasNew new clock) a b
  at_end new clock None None s ps gate limit ticks = tt
  at_end new clock None (Some y) s ps gate limit ticks = s
  at_end new clock (Some x) None s ps gate limit ticks = s
  at_end new clock (Some x) (Some y) s ps gate limit ticks = has_new new clock x y s ps gate limit ticks

  -- ---- where the writes go
  pub write_allowed : (a : Option Told) → Goes (Stage Q 0 Began) a a → IfSome a (λ t. length (log_bytes log) ≤ length t.bytes)
  write_allowed None s = tt
  write_allowed (Some t) s = end-within t s.is

  pub gate_allowed : (a b : Option Told) → Goes (Stage Q 4 Guarded) a b → IfSome b (λ t. length front ≤ length t.bytes)
  gate_allowed None None s = tt
  gate_allowed None (Some y) s = absurd s
  gate_allowed (Some x) None s = tt
  gate_allowed (Some x) (Some y) s = gate-inside y s.is

-- a commit that makes no call
pub kept_at_start : (log : Held) (payload : List ℕ) → log.gate ≢ 1 → AllByRecursion HasLength log.payloads → (a : Option Told) → IfSome a (IsOnDisk log) → Goes (KeepsOldOrNew log payload) a a
kept_at_start log payload shut ok None h = tt
kept_at_start log payload shut ok (Some t) h = started (IsOldOrNew log payload (moment_of t)) t (λ image left. ((λ lt. old image left), inl (old image left)))
  where
    old : (image : List ℕ) → LeftAt t (moment_of t) image → IsLogWithin log.limit log.payloads image
    old image left = let b = h image left in (b.0, is_log image log.payloads log.gate b.1 ok shut (b.2 ∙ append_assoc (batches log.payloads) (log.gate ∷ []) b.1))
